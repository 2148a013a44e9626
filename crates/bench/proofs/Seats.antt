-- The last of some seats, and those before it.
use Rattle.std.proofs.Common.{◌≡◌, ℕ, zero, suc, List, [], ◌∷◌, ◌++◌, length, refl, sym}
use mathlib.Core.Option.{some, some-ne-none}
use lib.ListN.{get_elem?}

pub stays : {A : Type 0} (l m : List A) (i : ℕ) (a : A) → get_elem? l i ≡ some a → get_elem? (l ++ m) i ≡ some a
stays [] m i a at = absurd (some-ne-none a (sym at))
stays (x ∷ l) m zero a at = at
stays (x ∷ l) m (suc i) a at = stays l m i a at

pub last_one : {A : Type 0} (l : List A) (a : A) → get_elem? (l ++ a ∷ []) (length l) ≡ some a
last_one [] a = refl
last_one (x ∷ l) a = last_one l a
