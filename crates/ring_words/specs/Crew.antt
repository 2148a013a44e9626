-- All seats of one opening of rings.
use Rattle.std.specs.Prelude.{◌≡◌, ℕ, ◌+◌, List, length, vec_len}
use mathlib.Core.Option.{some}
use lib.ListN.{get_elem?}
use Rattle.ring_words.specs.declared.view.Role.TheVariants.{Gateway, Unmarshal, Journal, Marshal}
use Rattle.ring_words.specs.declared.seats.Seats.{Seats}
use Rattle.ring_words.specs.Rule.{newcomer, processor}
use Rattle.ring_words.specs.At.{Opened, At, at, IsAt}

module _ {L : Type 0} where
  -- the gateways' seats of these rings, in the order of their numbers
  abbrev pub AreGateways : Opened L → List (At L) → Type 0
  AreGateways rings seats = (i : ℕ) (s : At L) → get_elem? seats i ≡ some s → IsAt rings s × (s.who.role ≡ Gateway (i + 1))

  -- all seats of these rings, of g gateways
  pub record AreSeatsOf (g : ℕ) (rings : Opened L) (seats : Seats L) : Type 0 where
    pub count : vec_len seats.gateways ≡ g
    pub gateways : AreGateways rings seats.gateways.items
    pub unmarshal : IsAt rings seats.unmarshal
    pub journal : IsAt rings seats.journal
    pub process : IsAt rings seats.process
    pub marshal : IsAt rings seats.marshal

  -- gateways' seats at the start, in the order of their numbers: each knows the history at the start, has published and claimed nothing, and has
  -- taken the outputs given
  abbrev pub AreNewGateways : Opened L → List (At L) → Type 0
  AreNewGateways rings seats = (i : ℕ) (s : At L) → get_elem? seats i ≡ some s → s ≡ at rings (newcomer (Gateway (i + 1)) rings.base rings.base_outputs)

  -- all seats at the start: each stage knows the history at the start and has done it, whose outputs are published and their texts written
  pub record AreNew (g : ℕ) (rings : Opened L) (seats : Seats L) : Type 0 where
    pub count : vec_len seats.gateways ≡ g
    pub gateways : AreNewGateways rings seats.gateways.items
    pub unmarshal : seats.unmarshal ≡ at rings (newcomer Unmarshal rings.base (length rings.base))
    pub journal : seats.journal ≡ at rings (newcomer Journal rings.base (length rings.base))
    pub process : seats.process ≡ at rings (processor rings.base rings.base_outputs)
    pub marshal : seats.marshal ≡ at rings (newcomer Marshal rings.base rings.base_outputs)
