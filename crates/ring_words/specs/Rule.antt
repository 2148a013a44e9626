-- The rule of the table, which holds between any two steps: the order of the control words, the log with what each
-- person knows of it, and what stands in the rows. The words are read as a function from places.
use Rattle.std.specs.Prelude.{None, ◌≡◌, ◌≢◌, ℕ, zero, suc, ◌+◌, ◌%◌, ◌^◌, ◌<◌, ◌≤◌, List, [], ◌∷◌, ◌==◌, cond, length, take, slice_index, if◌then◌else◌, nat_lt, Some}
use mathlib.Core.Option.{some}
use lib.ListN.{get_elem?}
use Rattle.atomic_table.specs.Table.{State}
use Rattle.venue_model.specs.History.{Message}
use Rattle.venue_model.specs.declared.outputs.Output.{Output}
use Rattle.ring_words.specs.declared.view.Role.{Role}
use Rattle.ring_words.specs.declared.view.Role.TheVariants.{Process, Unmarshal, Journal, Marshal, Gateway}
use Rattle.ring_words.specs.declared.view.Load.{Load}
use Rattle.ring_words.specs.declared.view.Part.{Part}
use Rattle.ring_words.specs.declared.view.Person.{Person}
use Rattle.ring_words.specs.declared.view.View.{View}
use Rattle.ring_words.specs.Places.{processed, claim, unmarshalled, journalled, marshalled, taken, published, first_row, in_row, out_row, table_words, word_of_role, number_of}
use Rattle.ring_words.specs.declared.report.PlacedOutput.{PlacedOutput}
use Rattle.ring_words.specs.Slots.{Boxed, report_of, OutOf, Filled}
use Rattle.ring_words.specs.Log.{IsEntry, unclaimed, old, claimed, sent, Log, entry_of, sends_of, claims_of, sent_at, times_in, IsFront}
use Rattle.ring_words.specs.Raw.{raw_word, raw_count}
use Rattle.command_words.specs.Packing.{IsPackable}
use Rattle.ring_words.specs.Texts.{text_words, IsPackableText}
use Rattle.ring_words.specs.Terms.{Terms, commands_of, command_by, outputs_by, text_of}

-- the number of one of g gateways
abbrev pub IsGateway : ℕ → ℕ → Type 0
IsGateway g k = (1 ≤ k) × (k ≤ g)

-- the role is one that there is among g gateways
abbrev pub IsRole : ℕ → Role → Type 0
IsRole g Process = Unit {0}
IsRole g Unmarshal = Unit {0}
IsRole g Journal = Unit {0}
IsRole g Marshal = Unit {0}
IsRole g (Gateway k) = IsGateway g k

-- how long the history is at most that the role may know, besides that it is the log's beginning
abbrev pub Depth : (ℕ → ℕ) → Role → ℕ → Type 0
Depth w Process k = (k ≤ w unmarshalled) × (k ≤ w journalled)
Depth w Unmarshal k = Unit {0}
Depth w Journal k = Unit {0}
Depth w Marshal k = k ≤ w journalled
Depth w (Gateway j) k = k ≤ w journalled

-- the words that a gateway has stored stand in the row that it claimed, in a ring of n rows
abbrev pub Stands : ℕ → (ℕ → ℕ) → Log → ℕ → Part → Type 0
Stands n w log k t = (i x : ℕ) → get_elem? t.words i ≡ some x → (i < 41) × (log.status t.sequence ≡ claimed k) × (w (in_row n t.sequence (i + 1)) ≡ x)

-- the words of a command that were stored stand in their row
abbrev pub CommandStands : ℕ → (ℕ → ℕ) → Part → Type 0
CommandStands n w t = (i x : ℕ) → get_elem? t.words i ≡ some x → (i < 16) × (w (in_row n t.sequence (i + 48)) ≡ x)

-- the word of an output that was stored stands in the row of its place, in a ring of m rows behind n input rows
abbrev pub StandsOut : ℕ → ℕ → (ℕ → ℕ) → Part → Type 0
StandsOut n m w t = (i x : ℕ) → get_elem? t.words i ≡ some x → (i < 1) × (w (out_row n m t.sequence i) ≡ x)

-- the words of a text that were stored stand in the row of its output's place
abbrev pub StandsText : ℕ → ℕ → (ℕ → ℕ) → Part → Type 0
StandsText n m w t = (i x : ℕ) → get_elem? t.words i ≡ some x → (i < 64) × (w (out_row n m t.sequence (i + 64)) ≡ x)

-- the row under way, by role; the processor's is that of the next output
abbrev pub PartOf : ℕ → ℕ → (ℕ → ℕ) → Log → Role → Part → Type 0
PartOf n m w log Process t = (t.sequence ≡ w published) × StandsOut n m w t
PartOf n m w log Unmarshal t = CommandStands n w t
PartOf n m w log Journal t = Unit {0}
PartOf n m w log Marshal t = StandsText n m w t
PartOf n m w log (Gateway k) t = Stands n w log k t

-- how many of these persons store the word at k
abbrev pub owners : ℕ → List Person → ℕ
owners k [] = 0
owners k (p ∷ ps) = cond (word_of_role p.role == k) (suc (owners k ps)) (owners k ps)

-- a person at the start: it knows this history and its own word
abbrev pub newcomer : Role → List Message → ℕ → Person
newcomer r base sequence = record { role = r; seen = base; sequence = sequence; mine = []; claims = []; loads = []; row = record { sequence = 0; words = [] }; out = None }

-- g gateways from number k on, whose counts of outputs are those given
abbrev pub gateways : ℕ → ℕ → List Message → ℕ → List Person
gateways k zero base base_outputs = []
gateways k (suc g) base base_outputs = newcomer (Gateway k) base base_outputs ∷ gateways (suc k) g base base_outputs

-- no word is stored so far in the row of q
abbrev pub at_place : Person → ℕ → Person
at_place p q = record p { row = record { sequence = q; words = [] } }

-- the processor at the start: the next output's place is the number of outputs given
abbrev pub processor : List Message → ℕ → Person
processor base base_outputs = at_place (newcomer Process base (length base)) base_outputs

-- all persons at the start: four stages and g gateways
abbrev pub crew : ℕ → List Message → ℕ → List Person
crew g base base_outputs =
    processor base base_outputs ∷ newcomer Unmarshal base (length base) ∷ newcomer Journal base (length base)
    ∷ newcomer Marshal base base_outputs ∷ gateways 1 g base base_outputs

-- the words at the start: what sequences count begins at the length of the history, what outputs count at those given, and all rows are empty
abbrev pub opening_word : ℕ → ℕ → ℕ → ℕ
opening_word start base_outputs i = if nat_lt i 32 then start else (if nat_lt i 112 then base_outputs else 0)

module _ {L : Type 0} where
  -- the order of the control words of the input ring
  pub record Ordered (terms : Terms L) (w : ℕ → ℕ) : Type 0 where
    pub processed_unmarshalled : w processed ≤ w unmarshalled
    pub processed_journalled : w processed ≤ w journalled
    pub unmarshalled_claimed : w unmarshalled ≤ w claim
    pub journalled_claimed : w journalled ≤ w claim
    pub room : w claim ≤ w processed + terms.rows
    pub most : w claim ≤ 2 ^ 48

  -- the log: what was there at the start, what is claimed and published, each by a gateway that there is, and that all below
  -- unmarshalled and all below journalled stands
  pub record Logged (terms : Terms L) (w : ℕ → ℕ) (log : Log) : Type 0 where
    pub start : length terms.base ≤ w processed
    pub based : (s : ℕ) (e : Message) → get_elem? terms.base s ≡ some e → log.status s ≡ old e
    pub older : (s : ℕ) (e : Message) → log.status s ≡ old e → s < length terms.base
    pub ahead : (s : ℕ) → w claim ≤ s → log.status s ≡ unclaimed
    pub somebodys : (s : ℕ) → s < w claim → log.status s ≢ unclaimed
    pub holder : (s k : ℕ) → log.status s ≡ claimed k → IsGateway terms.gateways k
    pub sender : (s : ℕ) (e : Message) → log.status s ≡ sent e → IsEntry e × IsGateway terms.gateways e.gateway
    pub done : (s : ℕ) → s < w unmarshalled → (e : Message) × (entry_of (log.status s) ≡ some e)
    pub kept : (s : ℕ) → s < w journalled → (e : Message) × (entry_of (log.status s) ≡ some e)

  -- the commands of the entries seen from one sequence up to another stand whole in their rows, and their words keep them
  pub record Written (terms : Terms L) (w : ℕ → ℕ) (seen : List Message) (from to : ℕ) : Type 0 where
    pub short : to ≤ length seen
    pub commands : (s : ℕ) (e : Message) → get_elem? seen s ≡ some e → from ≤ s → s < to
        → (i x : ℕ) → get_elem? (commands_of terms s e) i ≡ some x → w (in_row terms.rows s (i + 48)) ≡ x
    pub packable : (s : ℕ) (e : Message) → get_elem? seen s ≡ some e → from ≤ s → s < to → IsPackable e.gateway (command_by terms s e)

  -- the texts of the outputs of a history from one place up to another stand whole in their rows, and their words keep them
  pub record WrittenTexts (terms : Terms L) (w : ℕ → ℕ) (seen : List Message) (from to : ℕ) : Type 0 where
    pub short : from < to → to ≤ length (outputs_by terms seen)
    pub texts : (q : ℕ) (o : Output) → get_elem? (outputs_by terms seen) q ≡ some o → from ≤ q → q < to
        → (i x : ℕ) → get_elem? (text_words (text_of terms o q)) i ≡ some x → w (out_row terms.rows terms.output_rows q (i + 64)) ≡ x
    pub readable : (q : ℕ) (o : Output) → get_elem? (outputs_by terms seen) q ≡ some o → from ≤ q → q < to → IsPackableText (text_of terms o q)

  -- what a person knows: a beginning of the log, no longer than its role may know, its own word, exactly its publications and claims,
  -- what it loaded, its row under way, of unmarshaller and marshaller the commands or texts that they wrote before that row, and whose slot it has out
  pub record Knows (terms : Terms L) (w : ℕ → ℕ) (log : Log) (p : Person) : Type 0 where
    pub role : IsRole terms.gateways p.role
    pub front : IsFront log.status p.seen
    pub depth : Depth w p.role (length p.seen)
    -- how far it is done: what its own word says
    pub sequence : w (word_of_role p.role) ≡ p.sequence
    pub mine : (s : ℕ) → sent_at s p.mine ≡ sends_of (number_of p.role) (log.status s)
    pub claims : (s : ℕ) → times_in s p.claims ≡ claims_of (number_of p.role) (log.status s)
    pub loads : (i : ℕ) (l : Load) → get_elem? p.loads i ≡ some l → l.place < first_row → l.value ≤ w l.place
    -- the row that it has under its hands, whose sequence or place is p.row.sequence: what it stored of it stands there
    pub row : PartOf terms.rows terms.output_rows w log p.role p.row
    pub written : p.role ≡ Unmarshal → Written terms w p.seen p.sequence p.row.sequence
    pub written_texts : p.role ≡ Marshal → WrittenTexts terms w p.seen p.sequence p.row.sequence
    pub out : OutOf log.slots p.role p.out

  -- the rows: an availability word names a published sequence of its row, and a row that may still be read has its own, its message, and below
  -- unmarshalled its command
  pub record Rows (terms : Terms L) (w : ℕ → ℕ) (log : Log) : Type 0 where
    pub marks : (s x : ℕ) → w (in_row terms.rows s 0) ≡ suc x → (x % terms.rows ≡ s % terms.rows) × ((e : Message) × (log.status x ≡ sent e))
    pub shown : (s : ℕ) (e : Message) → log.status s ≡ sent e → w claim ≤ s + terms.rows → w (in_row terms.rows s 0) ≡ suc s
    pub raw : (s : ℕ) (e : Message) → log.status s ≡ sent e → w claim ≤ s + terms.rows
        → (i : ℕ) → i < raw_count e → w (in_row terms.rows s (i + 1)) ≡ raw_word e i
    pub commands : (s : ℕ) (e : Message) → log.status s ≡ sent e → s < w unmarshalled → w claim ≤ s + terms.rows
        → (i x : ℕ) → get_elem? (commands_of terms s e) i ≡ some x → w (in_row terms.rows s (i + 48)) ≡ x
    pub packable : (s : ℕ) (e : Message) → log.status s ≡ sent e → s < w unmarshalled → IsPackable e.gateway (command_by terms s e)

  -- The output ring. The outputs that go through it are those of the history that is kept, which is the log's beginning: all of the
  -- entries processed are published, and maybe some of the next entry's. No row is used again before each gateway has taken its output: until
  -- then its address stands in the row's word, its report stands for the row, and below marshalled its text stands there. The processor has no
  -- slot out but that of the next place, which the marshaller has passed; and the marshaller none but that of an output between marshalled and published,
  -- whose report still stands for its row.
  pub record Outgoing (terms : Terms L) (w : ℕ → ℕ) (log : Log) : Type 0 where
    pub kept : length log.history ≡ w journalled
    pub front : IsFront log.status log.history
    pub marshalled_published : w marshalled ≤ w published
    pub taken_marshalled : (k : ℕ) → IsGateway terms.gateways k → w (taken k) ≤ w marshalled
    pub free : (k : ℕ) → IsGateway terms.gateways k → w published ≤ w (taken k) + terms.output_rows
    pub least : length (outputs_by terms (take (w processed) log.history)) ≤ w published
    pub most : w published ≤ length (outputs_by terms (take (suc (w processed)) log.history))
    pub addresses : (k q : ℕ) (o : Output) → IsGateway terms.gateways k → w (taken k) ≤ q → q < w published
        → get_elem? (outputs_by terms log.history) q ≡ some o
        → w (out_row terms.rows terms.output_rows q 0) ≡ o.to
    pub reports : (k q : ℕ) (o : Output) → IsGateway terms.gateways k → w (taken k) ≤ q → q < w published
        → get_elem? (outputs_by terms log.history) q ≡ some o
        → log.slots.reports (q % terms.output_rows) ≡ some (report_of o q)
    pub filling : (f : PlacedOutput) → log.slots.filling ≡ Some f → (f.place ≡ w published) × (w published < w marshalled + terms.output_rows)
    pub reading : (f : PlacedOutput) → log.slots.reading ≡ Some f
        → (log.slots.reports (f.place % terms.output_rows) ≡ some f) × (w marshalled ≤ f.place) × (f.place < w published)
    pub texts : (k q : ℕ) (o : Output) → IsGateway terms.gateways k → w (taken k) ≤ q → q < w marshalled
        → get_elem? (outputs_by terms log.history) q ≡ some o
        → (i x : ℕ) → get_elem? (text_words (text_of terms o q)) i ≡ some x → w (out_row terms.rows terms.output_rows q (i + 64)) ≡ x
    pub readable : (k q : ℕ) (o : Output) → IsGateway terms.gateways k → w (taken k) ≤ q → q < w marshalled
        → get_elem? (outputs_by terms log.history) q ≡ some o
        → IsPackableText (text_of terms o q)

  -- how many persons of all views store the word at k
  abbrev pub all_owners : ℕ → List (View L) → ℕ
  all_owners k [] = 0
  all_owners k (v ∷ vs) = owners k v.people + all_owners k vs

  -- the words as a function
  abbrev pub words_of : {S : Type 0} → State S (View L) → ℕ → ℕ
  words_of s i = slice_index s.words i

  -- the rule. Each person of the crew is in one view, once: no word has two owners, and nobody is lost
  pub record Lawful (terms : Terms L) (s : State Boxed (View L)) : Type 0 where
    pub log : Log
    pub some_row : 0 < terms.rows
    pub some_output_row : 0 < terms.output_rows
    pub some_gateway : 1 ≤ terms.gateways
    pub few : terms.gateways ≤ 8
    pub wide : length s.words ≡ table_words terms.rows terms.output_rows
    pub order : Ordered terms (words_of s)
    pub logged : Logged terms (words_of s) log
    pub rows : Rows terms (words_of s) log
    pub outgoing : Outgoing terms (words_of s) log
    pub filled : Filled terms.output_rows log.slots s.homes
    pub people : (id j : ℕ) (v : View L) (p : Person) → get_elem? s.views id ≡ some v → get_elem? v.people j ≡ some p
        → (v.logic ≡ Some terms.logic) × (v.base ≡ terms.base) × Knows terms (words_of s) log p
    pub once : (k : ℕ) → all_owners k s.views ≡ owners k (crew terms.gateways terms.base terms.base_outputs)

  -- a view of these persons
  abbrev pub view_of : L → List Message → List Person → View L
  view_of logic base people = record { logic = Some logic; base = base; people = people }

  -- the first seat's view
  abbrev pub first_view : Terms L → View L
  first_view terms = view_of terms.logic terms.base (crew terms.gateways terms.base terms.base_outputs)
