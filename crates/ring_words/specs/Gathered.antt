-- The seat that took in all others.
use Rattle.std.specs.Prelude.{◌≡◌, ℕ, List}
use mathlib.Core.Option.{some}
use lib.ListN.{get_elem?}
use Rattle.ring_words.specs.declared.view.View.{View}
use Rattle.ring_words.specs.declared.view.Person.{Person}
use Rattle.ring_words.specs.At.{At}

module _ {L : Type 0} where
  -- the view has these stages first, and the persons of all these gateways
  pub record GathersPersons (gateways : List (At L)) (stages : List Person) (v : View L) : Type 0 where
    pub stage : (j : ℕ) (p : Person) → get_elem? stages j ≡ some p → get_elem? v.people j ≡ some p
    pub all : (i : ℕ) (g : At L) → get_elem? gateways i ≡ some g → (j : ℕ) × (get_elem? v.people j ≡ some g.who)
