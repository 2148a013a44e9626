-- A port that tells what it told, or is opened, in a list of ports; and what such a list is behind a loop over it.
use Rattle.std.proofs.Common.{◌≡◌, ℕ, zero, suc, ◌+◌, ◌<◌, List, [], ◌∷◌, ◌++◌, length, map, take, drop, refl, ap}
use Rattle.std.proofs.Common.{sym, subst, ◌∙◌, arith, append-nil}
use Rattle.std.proofs.lemmas.List.{drop_all}
use Rattle.std.proofs.Math.Seq.{take-length}
use mathlib.Core.Option.{some, some-injective, some-ne-none}
use lib.ListN.{set, get_or, get_elem?}

pub map-set : {A B : Type 0} (f : A → B) (xs : List A) (i : ℕ) (v d : A) → f v ≡ f (get_or xs i d)
    → map f (set xs i v) ≡ map f xs
map-set f [] i v d same = refl
map-set f (x ∷ xs) zero v d same = ap (λ y. y ∷ map f xs) same
map-set f (x ∷ xs) (suc i) v d same = ap (λ ys. f x ∷ ys) (map-set f xs i v d same)

pub same_length : {A : Type 0} (xs : List A) (i : ℕ) (v : A) → length (set xs i v) ≡ length xs
same_length [] i v = refl
same_length (x ∷ xs) zero v = refl
same_length (x ∷ xs) (suc i) v = ap suc (same_length xs i v)

-- a list of the same length is written back whole
pub written : {A : Type 0} (xs all : List A) (n : ℕ) → n ≡ length all → length xs ≡ length all
    → take n (xs ++ drop (length xs) all) ≡ xs
written xs all n count long =
    ap (λ ys. take n (xs ++ ys)) (drop_all (length xs) all (omega (arith, long)))
    ∙ ap (take n) (append-nil xs) ∙ ap (λ (k : ℕ). take k xs) (omega (arith, count, long)) ∙ take-length xs

-- and tells what it told
pub told_back : {A B : Type 0} (f : A → B) (xs first all : List A) (n : ℕ) → n ≡ length all → first ≡ all
    → length xs ≡ length first → map f xs ≡ map f first → map f (take n (xs ++ drop (length xs) all)) ≡ map f all
told_back f xs first all n count is long same =
    ap (map f) (written xs all n count (rw (← is) long)) ∙ same ∙ ap (map f) is

-- what holds of the first ones, and of the next one that is set, holds of one more
pub one_more_set : {A : Type 0} (P : A → Type 0) (xs : List A) (n : ℕ) (v : A) → P v
    → ((i : ℕ) (x : A) → i < n → get_elem? xs i ≡ some x → P x)
    → (i : ℕ) (x : A) → i < n + 1 → get_elem? (set xs n v) i ≡ some x → P x
one_more_set P [] n v holds all i x less there = absurd (some-ne-none x (sym there))
one_more_set P (y ∷ ys) zero v holds all zero x less there = subst P (some-injective v x there) holds
one_more_set P (y ∷ ys) zero v holds all (suc i) x less there = absurd (omega (arith, less))
one_more_set P (y ∷ ys) (suc n) v holds all zero x less there = all zero x (omega arith) there
one_more_set P (y ∷ ys) (suc n) v holds all (suc i) x less there =
    one_more_set P ys n v holds (λ j z before. all (suc j) z (omega (arith, before))) i x (omega (arith, less)) there
