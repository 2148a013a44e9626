-- What one poll of a stage does, by what it answers: of the stage's person before and after it.
use Rattle.std.specs.Prelude.{◌≡◌, ◌≢◌, ◌⊎◌, ℕ, zero, suc, ◌+◌, ◌≤◌, List, [], ◌∷◌, ◌++◌, length, take, drop}
use mathlib.Core.Option.{some}
use lib.ListN.{get_elem?}
use Rattle.venue_model.specs.History.{History, Message}
use Rattle.venue_model.specs.Requests.{Limits}
use Rattle.ring_words.specs.declared.view.Load.{Load}
use Rattle.ring_words.specs.declared.view.Person.{Person}
use Rattle.ring_words.specs.Places.{in_row}
use Rattle.ring_words.specs.Raw.{raw_count}
use Rattle.command_words.specs.Packing.{command_words}
use Rattle.ring_words.specs.Seats.{looked, wrote, moved}
use Rattle.barrier.specs.Availability.{Shown}
use Rattle.barrier.specs.Commands.{after_command}
use Rattle.barrier.specs.Reading.{word_loads, after_loads}
use Rattle.book.specs.Histories.{reads_at}
use Rattle.stages.specs.declared.turn.Turn.{Turn}
use Rattle.stages.specs.declared.turn.Turn.TheVariants.{Did, Idle, OutFull, JournalFailed}

-- the stage knows nothing beyond its own word, and the one word that it loaded, the availability of its next sequence, doesn't show
-- that sequence
abbrev pub NothingShown : ℕ → Person → Person → Type 0
NothingShown n v w = (length v.seen ≡ v.sequence) × ((x : ℕ) × (x ≢ suc v.sequence) × (w ≡ looked v (in_row n v.sequence 0) x))

-- the next sequence is done
abbrev pub one_done : Person → Person
one_done v = moved v (suc v.sequence)

-- the message of sequence s was read, and the command that it is read as was stored in its row
abbrev pub after_writing : ℕ → Limits → Person → ℕ → Message → Person
after_writing n limits v s e = wrote (after_loads n v s e (raw_count e)) s (command_words e.gateway (reads_at limits s e))

-- so it was with k sequences, one after another, the first of them the next one
abbrev pub Wrote : ℕ → Limits → Person → ℕ → Person → Type 0
Wrote n limits v zero w = w ≡ v
Wrote n limits v (suc k) w = (u : Person) × Wrote n limits v k u
    × ((e : Message) × (get_elem? v.seen (v.sequence + k) ≡ some e) × (w ≡ after_writing n limits u (v.sequence + k) e))

-- the command of the next sequence was read
abbrev pub after_reading : ℕ → Limits → Person → Message → Person
after_reading n limits v e = after_command n v v.sequence (command_words e.gateway (reads_at limits v.sequence e))

-- the unmarshaller did all sequences that the look for new ones left known, so many, and handed them on at once; or that showed nothing new
abbrev pub Unmarshals : ℕ → Limits → Turn → Person → Person → Type 0
Unmarshals n limits (Did k) v w = (1 ≤ k) × ((u : Person) × Shown n v u × (length u.seen ≡ u.sequence + k)
    × ((q : Person) × Wrote n limits u k q × (w ≡ moved q (u.sequence + k))))
Unmarshals n limits Idle v w = NothingShown n v w
Unmarshals n limits OutFull v w = ⊥
Unmarshals n limits JournalFailed v w = ⊥

-- one load for each word of these messages, which stand in the rows of s, s + 1, .. of a ring of n rows
abbrev pub message_loads : ℕ → ℕ → List Message → List Load
message_loads n s [] = []
message_loads n s (e ∷ rest) = word_loads n s e (raw_count e) ++ message_loads n (suc s) rest

-- these messages, the next ones, were read, one behind the other
abbrev pub after_messages : ℕ → Person → List Message → Person
after_messages n v block = record v { loads = v.loads ++ message_loads n v.sequence block }

-- the entries that a poll of the journaller takes up together: all that are known beyond those handed on, at most a ring of n rows
abbrev pub next_block : ℕ → ℕ → History → History
next_block n sequence seen = take n (drop sequence seen)

-- the messages of the next block were read
abbrev pub after_block : ℕ → Person → Person
after_block n v = after_messages n v (next_block n v.sequence v.seen)

-- there is a next block, of so many entries
abbrev pub HasBlock : ℕ → ℕ → Person → Type 0
HasBlock n k v = (k ≡ length (next_block n v.sequence v.seen)) × (1 ≤ k) × (k ≤ 4096)

-- the messages of the next block, which the look for new ones left known, were read, and that was all
abbrev pub OnlyReadBlock : ℕ → Person → Person → Type 0
OnlyReadBlock n v w = (u : Person) × Shown n v u × ((k : ℕ) × HasBlock n k u × (w ≡ after_block n u))

-- the next block was read and handed on; or it couldn't be kept, and was only read
abbrev pub KeepsBlock : ℕ → Turn → Person → Person → Type 0
KeepsBlock n (Did k) v w = HasBlock n k v × (w ≡ moved (after_block n v) (v.sequence + k))
KeepsBlock n Idle v w = ⊥
KeepsBlock n OutFull v w = ⊥
KeepsBlock n JournalFailed v w = (k : ℕ) × HasBlock n k v × (w ≡ after_block n v)

-- The journaller did the next block, which the look for new ones left known; or that showed nothing new; or the journal had failed before,
-- or failed now.
abbrev pub Journals : ℕ → Turn → Person → Person → Type 0
Journals n (Did k) v w = (u : Person) × Shown n v u × (HasBlock n k u × (w ≡ moved (after_block n u) (u.sequence + k)))
Journals n Idle v w = NothingShown n v w
Journals n OutFull v w = ⊥
Journals n JournalFailed v w = (w ≡ v) ⊎ OnlyReadBlock n v w
