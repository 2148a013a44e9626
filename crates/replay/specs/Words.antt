-- The words of the command line: JOURNAL, then one that says what is asked, and then the symbols, or the name of a new file.
use Rattle.std.specs.Prelude.{◌≡◌, ℕ, ◌+◌, ◌≤◌, List, [], ◌∷◌, ◌++◌, length, codes, string_bytes}
use Rattle.venue_model.specs.Spelling.{AreSymbols}
use Rattle.replay.specs.declared.job.Subject.{Subject}
use Rattle.replay.specs.declared.job.Subject.TheVariants.{Book, Client}
use Rattle.replay.specs.declared.job.Word.{Word}
use Rattle.replay.specs.declared.job.Word.TheVariants as words
use Rattle.replay.specs.declared.job.Task.{Task}
use Rattle.replay.specs.declared.job.Task.TheVariants.{Report, Snapshot, Check, Carry}

-- the word for a subject: `book`, or C and the digit of a gateway from 1 to 8
abbrev pub IsNamed : List ℕ → Subject → Type 0
IsNamed word Book = word ≡ codes "book"
IsNamed word (Client n) = (1 ≤ n) × (n ≤ 8) × (word ≡ codes "C" ++ (48 + n) ∷ [])

-- the word that says what is asked
abbrev pub IsSaid : List ℕ → Word → Type 0
IsSaid word (words.Of subject) = IsNamed word subject
IsSaid word words.Snapshot = word ≡ codes "snapshot"
IsSaid word words.Check = word ≡ codes "check"
IsSaid word words.Carry = word ≡ codes "carry"

-- what a task is asked by
abbrev pub asked_by : Task → Word
asked_by (Report subject limits) = words.Of subject
asked_by (Snapshot limits) = words.Snapshot
asked_by (Check limits) = words.Check
asked_by (Carry new) = words.Carry

-- the words behind that: the venue's symbols, or a name of one byte or more
abbrev pub IsWithWords : List (List ℕ) → Task → Type 0
IsWithWords words (Report subject limits) = (words ≡ limits.symbols) × AreSymbols words
IsWithWords words (Snapshot limits) = (words ≡ limits.symbols) × AreSymbols words
IsWithWords words (Check limits) = (words ≡ limits.symbols) × AreSymbols words
IsWithWords words (Carry new) = (words ≡ string_bytes new ∷ []) × (1 ≤ length (string_bytes new))

-- these are the words behind this one, and ask for this task
abbrev pub AreWordsBehind : List (List ℕ) → Word → Task → Type 0
AreWordsBehind words said task = (asked_by task ≡ said) × IsWithWords words task

-- the words that ask for this task, behind the journal's name
pub record AreTaskWords (words : List (List ℕ)) (task : Task) : Type 0 where
  pub word : List ℕ
  pub behind : List (List ℕ)
  pub spelled : words ≡ word ∷ behind
  pub said : IsSaid word (asked_by task)
  pub with_words : IsWithWords behind task

-- the words that ask for this task of this journal
pub record AreWords (words : List (List ℕ)) (journal : List ℕ) (task : Task) : Type 0 where
  pub behind : List (List ℕ)
  pub spelled : words ≡ journal ∷ behind
  pub named : 1 ≤ length journal
  pub asked : AreTaskWords behind task
