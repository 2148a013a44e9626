-- The tags that stand more than once, counted as they come and counted over the whole message.
use Rattle.std.proofs.Common.{◌≡◌, ℕ, ◌+◌, ◌<◌, ◌≤◌, ◌⊎◌, inl, inr, Bool, true, false, cond, ◌&&◌, ◌||◌, nat_lt, ◌==◌}
use Rattle.std.proofs.Common.{List, [], ◌∷◌, ◌++◌, length, min, Option, Some, None, sym, ap, subst, ◌∙◌, refl, arith}
use Rattle.std.proofs.Common.{append_assoc, length-append}
use Rattle.std.specs.List.{filter}
use Rattle.std.proofs.lemmas.Bool.Decides.{nat_tests}
use Rattle.std.proofs.lemmas.List.Elements.{filter-append}
use Rattle.fix_orders.specs.Findings.{again}
use Rattle.fix_orders.specs.Reading.{is_among, lesser, least}

-- one of some numbers is the first, or one of the rest
first_or : (n x : ℕ) (same rest : Bool) → (n == x) ≡ same → (same || rest) ≡ true → (n ≡ x) ⊎ (rest ≡ true)
first_or n x true rest is there = inl (grind (arith, nat_tests))
first_or n x false rest is there = inr there

-- the least of numbers is one of them, and no other is less
pub record IsLeast (ns : List ℕ) (m : ℕ) : Type 0 where
  pub among : is_among ns m ≡ true
  pub most : (x : ℕ) → is_among ns x ≡ true → m ≤ x

itself : (n : ℕ) → (n == n) ≡ true
itself n = grind (arith, nat_tests)

or_right : (a b : Bool) → b ≡ true → (a || b) ≡ true
or_right true b is = refl
or_right false b is = is

among_first : (n : ℕ) (ns : List ℕ) → is_among (n ∷ ns) n ≡ true
among_first n ns = ap (λ b. b || is_among ns n) (itself n)

least_alone : (n : ℕ) (ns : List ℕ) → ns ≡ [] → IsLeast (n ∷ ns) n
least_alone n ns none = record {
  among = among_first n ns;
  most = λ x there. elim (first_or n x (n == x) (is_among ns x) refl there) [
    | inl same ↦ omega (arith, same)
    | inr rest ↦ let no_more = ap (λ all. is_among all x) none in cc
  ];
}

least_first : (n k : ℕ) (ns : List ℕ) → IsLeast ns k → n ≤ k → IsLeast (n ∷ ns) n
least_first n k ns rest less = record {
  among = among_first n ns;
  most = λ x there. elim (first_or n x (n == x) (is_among ns x) refl there) [
    | inl same ↦ omega (arith, same)
    | inr further ↦ omega (arith, less, rest.most x further)
  ];
}

least_later : (n k : ℕ) (ns : List ℕ) → IsLeast ns k → k ≤ n → IsLeast (n ∷ ns) k
least_later n k ns rest less = record {
  among = or_right (n == k) (is_among ns k) rest.among;
  most = λ x there. elim (first_or n x (n == x) (is_among ns x) refl there) [
    | inl same ↦ omega (arith, less, same)
    | inr further ↦ rest.most x further
  ];
}

least_of_two : (n k : ℕ) (ns : List ℕ) (less : Bool) → nat_lt n k ≡ less → IsLeast ns k → IsLeast (n ∷ ns) (min n k)
least_of_two n k ns true less rest =
    let below : n < k = grind (arith, nat_tests) in
    let e : n ≡ min n k = omega (arith, below) in
    subst (IsLeast (n ∷ ns)) e (least_first n k ns rest (omega (arith, below)))
least_of_two n k ns false less rest =
    let above : k ≤ n = grind (arith, nat_tests) in
    let e : k ≡ min n k = omega (arith, above) in subst (IsLeast (n ∷ ns)) e (least_later n k ns rest above)

no_least : (ns : List ℕ) → least ns ≡ None → ns ≡ []
no_least [] e = refl
no_least (n ∷ ns) e = cc

least_step : (n : ℕ) (ns : List ℕ) (found : Option ℕ) → least ns ≡ found → ((k : ℕ) → least ns ≡ Some k → IsLeast ns k)
    → IsLeast (n ∷ ns) (lesser n found)
least_step n ns None none rest = least_alone n ns (no_least ns none)
least_step n ns (Some k) some rest = least_of_two n k ns (nat_lt n k) refl (rest k some)

some_is : (a b : ℕ) → Some a ≡ Some b → a ≡ b
some_is a b e = cc

least_is : (ns : List ℕ) (m : ℕ) → least ns ≡ Some m → IsLeast ns m
least_is [] m e = cc
least_is (n ∷ ns) m e =
    subst (IsLeast (n ∷ ns)) (some_is (lesser n (least ns)) m e)
    (least_step n ns (least ns) refl (λ k some. least_is ns k some))

-- so it depends only on which they are
nothing_less : (xs ys : List ℕ) (m : ℕ) → ((x : ℕ) → is_among xs x ≡ is_among ys x) → least xs ≡ None → IsLeast ys m → ⊥
nothing_less xs ys m same none is =
    let empty : is_among xs m ≡ false = ap (λ all. is_among all m) (no_least xs none) in
    let there = is.among in let equal = same m in cc

same_by : (xs ys : List ℕ) (a b : Option ℕ) → ((x : ℕ) → is_among xs x ≡ is_among ys x) → least xs ≡ a → least ys ≡ b
    → a ≡ b
same_by xs ys None None same a b = refl
same_by xs ys None (Some n) same a b = absurd (nothing_less xs ys n same a (least_is ys n b))
same_by xs ys (Some m) None same a b = absurd (nothing_less ys xs m (λ x. sym (same x)) b (least_is xs m a))
same_by xs ys (Some m) (Some n) same a b =
    let left = least_is xs m a in
    let right = least_is ys n b in
    let low : m ≤ n = left.most n (same n ∙ right.among) in
    let high : n ≤ m = right.most m (sym (same m) ∙ left.among) in
    ap Some (omega (arith, low, high))

pub same_least : (xs ys : List ℕ) → ((x : ℕ) → is_among xs x ≡ is_among ys x) → least xs ≡ least ys
same_least xs ys same = same_by xs ys (least xs) (least ys) same refl refl

-- how often a number stands among others
abbrev pub count : ℕ → List ℕ → ℕ
count n ns = length (filter (λ k. k == n) ns)

pub count-append : (n : ℕ) (xs ys : List ℕ) → count n (xs ++ ys) ≡ count n xs + count n ys
count-append n xs ys = ap length (filter-append (λ k. k == n) xs ys)
    ∙ length-append (filter (λ k. k == n) xs) (filter (λ k. k == n) ys)

count_by : (n k : ℕ) (ns : List ℕ) (b : Bool) → is_among ns n ≡ nat_lt 0 (count n ns)
    → (b || is_among ns n) ≡ nat_lt 0 (length (cond b (k ∷ filter (λ k. k == n) ns) (filter (λ k. k == n) ns)))
count_by n k ns true rest = grind (arith, nat_tests)
count_by n k ns false rest = rest

pub among_counted : (n : ℕ) (ns : List ℕ) → is_among ns n ≡ nat_lt 0 (count n ns)
among_counted n [] = refl
among_counted n (k ∷ ns) = count_by n k ns (k == n) (among_counted n ns)

-- a number stands again exactly where it stands and is counted twice
again_cond : (n x : ℕ) (b : Bool) (more : List ℕ)
    → is_among (cond b (n ∷ more) more) x ≡ (b && (n == x) || is_among more x)
again_cond n x true more = refl
again_cond n x false more = refl

other_again : (seen among twice : Bool) → ((seen && false) || (among && twice)) ≡ ((false || among) && twice)
other_again true among twice = refl
other_again false among twice = refl

this_by : (before behind all : ℕ) (some_before some_behind twice : Bool) → nat_lt 0 before ≡ some_before
    → nat_lt 0 behind ≡ some_behind
    → nat_lt 1 all ≡ twice → all ≡ before + (1 + behind) → ((some_before && true) || (some_behind && twice)) ≡ twice
this_by before behind all true some_behind true b k t e = refl
this_by before behind all true some_behind false b k t e = absurd (grind (arith, nat_tests))
this_by before behind all false true true b k t e = refl
this_by before behind all false true false b k t e = refl
this_by before behind all false false true b k t e = absurd (grind (arith, nat_tests))
this_by before behind all false false false b k t e = refl

this_again : (before behind all : ℕ) → all ≡ before + (1 + behind)
    → ((nat_lt 0 before && true) || (nat_lt 0 behind && nat_lt 1 all)) ≡ nat_lt 1 all
this_again before behind all e = this_by before behind all (nat_lt 0 before) (nat_lt 0 behind) (nat_lt 1 all)
    refl refl refl e

again_step : (seen us : List ℕ) (u x : ℕ) (same : Bool) → (u == x) ≡ same
    → ((is_among seen u && same) || (is_among us x && nat_lt 1 (count x (seen ++ u ∷ us)))) ≡
    ((same || is_among us x) && nat_lt 1 (count x (seen ++ u ∷ us)))
again_step seen us u x true is =
    let e : u ≡ x = grind (arith, nat_tests) in
    let counted : count x (seen ++ u ∷ us) ≡ count x seen + (1 + count x us) =
    count-append x seen (u ∷ us) ∙ ap (λ b. count x seen + length
    (cond b (u ∷ filter (λ k. k == x) us) (filter (λ k. k == x) us))) is ∙ omega arith in
    ap (λ n. (is_among seen n && true) || (is_among us x && nat_lt 1 (count x (seen ++ u ∷ us)))) e
    ∙ ap (λ b. (b && true) || (is_among us x && nat_lt 1 (count x (seen ++ u ∷ us)))) (among_counted x seen)
    ∙ ap (λ b. (nat_lt 0 (count x seen) && true) || (b && nat_lt 1 (count x (seen ++ u ∷ us)))) (among_counted x us)
    ∙ this_again (count x seen) (count x us) (count x (seen ++ u ∷ us)) counted
again_step seen us u x false is = other_again (is_among seen u) (is_among us x) (nat_lt 1 (count x (seen ++ u ∷ us)))

pub again_among : (seen us : List ℕ) (x : ℕ) → is_among (again seen us) x ≡
    (is_among us x && nat_lt 1 (count x (seen ++ us)))
again_among seen [] x = refl
again_among seen (u ∷ us) x =
    again_cond u x (is_among seen u) (again (seen ++ u ∷ []) us)
    ∙ ap (λ b. (is_among seen u && (u == x)) || b) (again_among (seen ++ u ∷ []) us x
    ∙ ap (λ all. is_among us x && nat_lt 1 (count x all)) (append_assoc seen (u ∷ []) us))
    ∙ again_step seen us u x (u == x) refl
