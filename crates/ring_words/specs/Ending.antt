-- What the rings leave when all seats have come back.
use Rattle.std.specs.Prelude.{◌≡◌, ℕ, suc, ◌≤◌, List, [], ◌∷◌, length, take}
use mathlib.Core.Option.{some}
use lib.ListN.{get_elem?}
use Rattle.venue_model.specs.History.{Message}
use Rattle.venue_model.specs.declared.outputs.Output.{Output}
use Rattle.ring_words.specs.declared.close.Summary.{Summary}
use Rattle.ring_words.specs.declared.seats.Seats.{Seats}
use Rattle.ring_words.specs.declared.view.Person.{Person}
use Rattle.ring_words.specs.Log.{IsEntry, sent_at, published_at}
use Rattle.ring_words.specs.Rule.{IsGateway}
use Rattle.ring_words.specs.At.{At, number}

-- each entry of the history stands in the log at its place
abbrev pub IsBeginning : List Message → List Message → Type 0
IsBeginning h log = (s : ℕ) (e : Message) → get_elem? h s ≡ some e → get_elem? log s ≡ some e

module _ {L : Type 0} where
  -- no gateway has a claim left
  abbrev pub AreSpent : List (At L) → Type 0
  AreSpent seats = (i : ℕ) (s : At L) → get_elem? seats i ≡ some s → s.who.claims ≡ []

  -- the stages' persons
  abbrev pub stages_of : Seats L → List Person
  stages_of seats = seats.process.who ∷ seats.unmarshal.who ∷ seats.journal.who ∷ seats.marshal.who ∷ []

  -- One log tells of all: it begins with the history at the start; each later entry is a message and was published there by one gateway, and all that
  -- a gateway published stands there; what anyone knew is a beginning of it, and what a gateway has seen is no longer than what the journaller
  -- released, which it knows; all outputs of the entries processed were published, and maybe some of the next entry's, where that was journalled
  pub record Ended (outputs_of : List Message → List Output) (base : List Message) (seats : Seats L) (summary : Summary) : Type 0 where
    pub log : List Message
    pub begins : IsBeginning base log
    pub later : (s : ℕ) (e : Message) → length base ≤ s → get_elem? log s ≡ some e → IsEntry e × IsGateway (length seats.gateways.items) e.gateway
    pub mine : (i : ℕ) (g : At L) → get_elem? seats.gateways.items i ≡ some g
        → (s : ℕ) → sent_at s g.who.mine ≡ published_at (length base) (number g) log s
    pub seen : (i : ℕ) (g : At L) → get_elem? seats.gateways.items i ≡ some g
        → IsBeginning g.who.seen log × (length g.who.seen ≤ seats.journal.who.sequence)
    pub known : (j : ℕ) (p : Person) → get_elem? (stages_of seats) j ≡ some p → IsBeginning p.seen log
    pub done : summary.commands ≤ seats.journal.who.sequence
    pub journalled : seats.journal.who.sequence ≤ length log
    pub released : seats.journal.who.sequence ≤ length seats.journal.who.seen
    pub least : length (outputs_of (take summary.commands log)) ≤ summary.outputs
    pub most : summary.outputs ≤ length (outputs_of (take (suc summary.commands) (take seats.journal.who.sequence log)))
