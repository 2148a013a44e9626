-- What the processor's look for room says.
use Rattle.std.specs.Prelude.{⊤, Option, None, Some, ◌≡◌, ◌⊎◌, ℕ, suc, ◌+◌, ◌<◌, ◌≤◌, List, [], ◌∷◌, ◌++◌, length, min}
use mathlib.Core.Option.{some}
use lib.ListN.{get_elem?}
use Rattle.ring_words.specs.declared.view.Load.{Load}
use Rattle.ring_words.specs.declared.view.Person.{Person}
use Rattle.ring_words.specs.Places.{taken}
use Rattle.ring_words.specs.Rule.{IsGateway}
use Rattle.ring_words.specs.Seats.{load_of, last_load}

-- one load of the taken word of each gateway from number k on, with these values
abbrev pub taken_loads : ℕ → List ℕ → List Load
taken_loads k [] = []
taken_loads k (x ∷ xs) = load_of (taken k) x ∷ taken_loads (suc k) xs

-- the least of x and these
abbrev pub least_from : ℕ → List ℕ → ℕ
least_from x [] = x
least_from x (y ∷ ys) = least_from (min x y) ys

-- the least of these; of none 0
abbrev pub least : List ℕ → ℕ
least [] = 0
least (x ∷ xs) = least_from x xs

-- how many outputs more a ring of m rows has room for behind these taken values: m less the amount by which published is above the least of them
pub record IsRoom (m : ℕ) (p : Person) (values : List ℕ) (room : ℕ) : Type 0 where
  pub below : least values ≤ p.row.sequence
  pub is : room + p.row.sequence ≡ least values + m

-- the taken word of each of g gateways was loaded once, and the answer is the room behind these values
pub record HasLooked (g m : ℕ) (p : Person) (answer : ℕ) (q : Person) : Type 0 where
  pub values : List ℕ
  pub count : length values ≡ g
  pub loads : q ≡ record p { loads = p.loads ++ taken_loads 1 values }
  pub room : IsRoom m p values answer

-- the value of gateway k's taken word that these loads found last, if any did
abbrev pub last_taken : ℕ → List Load → Option ℕ
last_taken k ls = last_load (taken k) None ls

-- the taken word of each of g gateways was loaded before, and the answer is the room behind the values loaded last, which leave some
pub record KeepsRoom (g m : ℕ) (p : Person) (answer : ℕ) : Type 0 where
  pub values : List ℕ
  pub count : length values ≡ g
  pub last : (i x : ℕ) → get_elem? values i ≡ some x → last_taken (suc i) p.loads ≡ Some x
  pub room : IsRoom m p values answer
  pub some_left : 0 < answer

-- behind this taken value a ring of m rows has no room for the output at the place q, or there is no value
abbrev pub LeavesNoRoom : ℕ → ℕ → Option ℕ → Type 0
LeavesNoRoom m q None = ⊤
LeavesNoRoom m q (Some x) = x + m ≤ q

-- behind one of g gateways the value loaded last leaves no room for the next output, or none was loaded
abbrev pub KeepsNoRoom : ℕ → ℕ → Person → Type 0
KeepsNoRoom g m p = (k : ℕ) × (IsGateway g k × LeavesNoRoom m p.row.sequence (last_taken k p.loads))

-- The answer says how many outputs more there is room for. The taken values that were loaded last leave that, which is above 0, and no word is loaded; or
-- they leave nothing, or one is missing, and each word was loaded once
abbrev pub SaysRoom : ℕ → ℕ → Person → ℕ → Person → Type 0
SaysRoom g m p answer q = (KeepsRoom g m p answer × (q ≡ p)) ⊎ (KeepsNoRoom g m p × HasLooked g m p answer q)
