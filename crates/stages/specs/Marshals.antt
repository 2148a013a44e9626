-- What one poll of the marshaller does, by what it answers: of its person before and after it.
use Rattle.std.specs.Prelude.{◌≡◌, ℕ, zero, suc, ◌+◌, ◌≤◌, List, ◌++◌, length}
use mathlib.Core.Option.{some}
use lib.ListN.{get_elem?}
use Rattle.venue_model.specs.History.{Message}
use Rattle.venue_model.specs.Requests.{Limits}
use Rattle.venue_model.specs.declared.outputs.Output.{Output}
use Rattle.fix_orders.specs.Text.{text_bytes}
use Rattle.ring_words.specs.declared.view.Person.{Person}
use Rattle.ring_words.specs.Places.{published, out_row}
use Rattle.ring_words.specs.Texts.{text_words}
use Rattle.ring_words.specs.Seats.{looked, looked_twice, knowing, wrote, moved}
use Rattle.book.specs.Histories.{outputs_of}
use Rattle.stages.specs.declared.turn.Turn.{Turn}
use Rattle.stages.specs.declared.turn.Turn.TheVariants.{Did, Idle, OutFull, JournalFailed}

-- the output at place q was read, between two loads of its address, and its text stored in its row
abbrev pub after_text : ℕ → ℕ → Person → ℕ → Output → Person
after_text n m p q o = wrote (looked_twice p (out_row n m q 0) o.to) q (text_words (text_bytes o q))

-- so it was with k of these outputs, one after another, the first of them the next one
abbrev pub WroteTexts : ℕ → ℕ → List Output → Person → ℕ → Person → Type 0
WroteTexts n m outputs v zero w = w ≡ v
WroteTexts n m outputs v (suc k) w = (u : Person) × WroteTexts n m outputs v k u
    × ((o : Output) × (get_elem? outputs (v.sequence + k) ≡ some o) × (w ≡ after_text n m u (v.sequence + k) o))

-- published was loaded and showed so many outputs more, which are those of a history that goes on from what was known; the texts of all of
-- them are written, and all are handed on at once
pub record MarshalsAll (n m : ℕ) (limits : Limits) (k : ℕ) (v w : Person) : Type 0 where
  pub rest : List Message
  pub known : v.sequence + k ≤ length (outputs_of limits (v.seen ++ rest))
  pub last : Person
  pub written : WroteTexts n m (outputs_of limits (v.seen ++ rest)) (knowing (looked v published (v.sequence + k)) rest) k last
  pub released : w ≡ moved last (v.sequence + k)

-- published was loaded, and was the stage's own word
pub record NothingPublished (limits : Limits) (v w : Person) : Type 0 where
  pub rest : List Message
  pub known : v.sequence ≤ length (outputs_of limits (v.seen ++ rest))
  pub only : w ≡ knowing (looked v published v.sequence) rest

-- so many outputs were marshalled, which are all that the look showed; or there was none
abbrev pub Marshals : ℕ → ℕ → Limits → Turn → Person → Person → Type 0
Marshals n m limits (Did k) v w = (1 ≤ k) × MarshalsAll n m limits k v w
Marshals n m limits Idle v w = NothingPublished limits v w
Marshals n m limits OutFull v w = ⊥
Marshals n m limits JournalFailed v w = ⊥
