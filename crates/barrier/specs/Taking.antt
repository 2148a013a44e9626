-- What the taking of an output says.
use Rattle.std.specs.Prelude.{◌≡◌, ◌≢◌, ℕ, suc, ◌^◌, ◌<◌, ◌≤◌, List, ◌∷◌, ◌++◌, length, take}
use mathlib.Core.Option.{some}
use lib.ListN.{get_elem?}
use Rattle.venue_model.specs.History.{Message}
use Rattle.venue_model.specs.Texts.{Text}
use Rattle.venue_model.specs.declared.outputs.Output.{Output}
use Rattle.ring_words.specs.declared.view.Load.{Load}
use Rattle.ring_words.specs.declared.view.Person.{Person}
use Rattle.ring_words.specs.Places.{marshalled}
use Rattle.ring_words.specs.Seats.{load_of, loading}
use Rattle.ring_words.specs.At.{At, Steps, number}
use Rattle.ring_words.specs.Steps.{IsLegal}
use Rattle.barrier.specs.declared.taken.Head.{Head}
use Rattle.barrier.specs.declared.taken.Take.{Take}
use Rattle.barrier.specs.declared.taken.Take.TheVariants.{Mine, Passed, Nothing}

-- the gateway knows this history, made these loads, and took one output more or passed it over
abbrev pub after_taking : Person → List Message → List Load → Person
after_taking p h ls = record p { seen = h; sequence = suc p.sequence; loads = p.loads ++ ls }

-- The word loaded first was marshalled, and showed an output at the gateway's count. The history begins with what the gateway had seen, has the
-- gateway's own messages just where it published them, behind so many entries of the history at the start, and is what it has seen now; and it
-- took one output more or passed it over.
pub record TakesNext (start : ℕ) (p : Person) (history : List Message) (q : Person) : Type 0 where
  pub value : ℕ
  pub loads : List Load
  pub shown : p.sequence < value
  pub begins : p.seen ≡ take (length p.seen) history
  pub legal : IsLegal start p history
  pub few : length history ≤ 2 ^ 48
  pub taken : q ≡ after_taking p history (load_of marshalled value ∷ loads)

-- the head is the text's
pub record IsTextHead (head : Head) (t : Text) : Type 0 where
  pub kind : head.kind ≡ t.msg_type
  pub time : head.time ≡ t.sending_time
  pub len : head.len ≡ length t.body

-- head and body are the text
pub record Carries (head : Head) (buf : List ℕ) (t : Text) : Type 0 where
  pub head_is : IsTextHead head t
  pub most : head.len ≤ 320
  pub body : take head.len buf ≡ t.body

-- what the answer says of an output that says this text: it goes to gateway k, and its head and body were read, or to another
abbrev pub Says : ℕ → Output → Text → Take → List ℕ → Type 0
Says k o t (Mine head) buf = (o.to ≡ k) × Carries head buf t
Says k o t Passed buf = o.to ≢ k
Says k o t Nothing buf = ⊥

module _ {L : Type 0} where
  -- the seat only made loads
  abbrev pub OnlyLoads : At L → At L → Type 0
  OnlyLoads old new = (loads : List Load) × Steps old (loading old.who loads) new

  -- the answer says the output that these have at the gateway's count, by its text
  abbrev pub SaysOutput : List Output → (Output → ℕ → Text) → At L → Take → List ℕ → Type 0
  SaysOutput outputs text seat answer buf = (o : Output) × (get_elem? outputs seat.who.sequence ≡ some o)
      × Says (number seat) o (text o seat.who.sequence) answer buf
