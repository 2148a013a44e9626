-- Values by tag: one more.
use Rattle.std.proofs.Common.{◌≡◌, ℕ, ◌<◌, Bool, true, false, cond, not, ◌==◌, List, [], length, map, set, get_or, ap}
use Rattle.std.proofs.Common.{◌∙◌, refl, arith}
use Rattle.std.proofs.lemmas.Bool.Decides.{nat_tests}
use Rattle.std.proofs.lemmas.List.{map-set, get_or-set_other, length-map}
use Rattle.std.proofs.lemmas.Grind.{get_or-set_at}

set_by : {X : Type 0} (f : X → List ℕ) (xs : List X) (i j : ℕ) (v : X) (same : Bool) → i < length xs → (j == i) ≡ same
    → get_or (set (map f xs) i (f v)) j [] ≡ cond same (f v) (get_or (map f xs) j [])
set_by f xs i j v true within is =
    let e : j ≡ i = grind (arith, nat_tests) in
    get_or-set_at (map f xs) i j (f v) [] e (simp length-map within)
set_by f xs i j v false within is = get_or-set_other (map f xs) i j (f v) [] (λ e. grind (arith, nat_tests))

pub set_value : {X : Type 0} (f : X → List ℕ) (xs : List X) (i j : ℕ) (v : X) → i < length xs
    → get_or (map f (set xs i v)) j [] ≡ cond (j == i) (f v) (get_or (map f xs) j [])
set_value f xs i j v within =
    ap (λ ys. get_or ys j []) (map-set f xs i v) ∙ set_by f xs i j v (j == i) within refl

-- a tag that has no value
pub not_not : (b : Bool) → false ≡ not b → b ≡ true
not_not true e = refl
not_not false e = cc
