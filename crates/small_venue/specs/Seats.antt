-- What the tests over rings say of a gateway's seat.
use Rattle.std.specs.Prelude.{◌≡◌, ℕ, ◌+◌, List, []}
use mathlib.Core.Option.{some}
use lib.ListN.{get_elem?}
use Rattle.ring_words.specs.declared.view.Role.TheVariants.{Gateway}
use Rattle.ring_words.specs.At.{Opened, At, IsAt}

module _ {L : Type 0} where
  -- the seat of gateway k of these rings, which has no claim left
  pub record IsSpent (rings : Opened L) (k : ℕ) (s : At L) : Type 0 where
    pub at : IsAt rings s
    pub role : s.who.role ≡ Gateway k
    pub claims : s.who.claims ≡ []

  -- such seats, in the order of the numbers
  abbrev pub ComeBackSpent : Opened L → List (At L) → Type 0
  ComeBackSpent rings seats = (i : ℕ) (s : At L) → get_elem? seats i ≡ some s → IsSpent rings (i + 1) s

  -- a seat that had no claim left still has none, at the same rings
  abbrev pub StaysSpent : At L → At L → Type 0
  StaysSpent s t = (rings : Opened L) (k : ℕ) → IsSpent rings k s → IsSpent rings k t
