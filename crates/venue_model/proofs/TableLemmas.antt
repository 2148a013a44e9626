-- What the symbol table's comparison of symbols says of their names, and which names a table takes.
use Rattle.std.proofs.Common.{◌≡◌, ℕ, Bool, true, false, ◌&&◌, ◌||◌, not, nat_eq, List, [], ◌∷◌, ◌++◌, length, refl, ap}
use Rattle.std.proofs.Common.{sym, ◌∙◌, take, drop, get_or, map, suc, ◌+◌, ◌<◌, subst, add-one, take-append-drop}
use Rattle.std.proofs.Common.{drop-cons, eq-eqb}
use Rattle.std.proofs.Math.Seq.{take-append_seam, take-suc}
use Rattle.std.specs.Bool.{Decides}
use Rattle.std.specs.Cmp.Derive.{both_true}
use Rattle.std.specs.List.{list_any, AllByRecursion}
use Rattle.std.specs.Str.{bytes_eq}
use Rattle.std.proofs.lemmas.Bool.{eqb-true}
use Rattle.std.proofs.lemmas.List.{map-append}
use Rattle.std.proofs.lemmas.Bool.Decides.{same_from_decides}
use Rattle.std.proofs.lemmas.Slice.Eq.{bytes_eq-Decides}
use Rattle.venue_model.specs.Spelling.{IsSpelling, AreSymbols, CanJoin, padded, all_differ}

and_left : (a b : Bool) → (a && b) ≡ true → a ≡ true
and_left true b h = refl
and_left false b h = h

and_right : (a b : Bool) → (a && b) ≡ true → b ≡ true
and_right true b h = h
and_right false b h = cc

or_left : (a b : Bool) → (a || b) ≡ false → a ≡ false
or_left true b h = h
or_left false b h = refl

or_right : (a b : Bool) → (a || b) ≡ false → b ≡ false
or_right true b h = cc
or_right false b h = h

not_true : (a : Bool) → not a ≡ true → a ≡ false
not_true true h = cc
not_true false h = refl

-- what the derived `==` of symbols compares
abbrev pub symbol_eq : List ℕ → List ℕ → Bool
symbol_eq x y = bytes_eq (padded x) (padded y) && nat_eq (length x) (length y)

-- names of one length that are padded alike are one
one_name : (x y : List ℕ) → padded x ≡ padded y → length x ≡ length y → x ≡ y
one_name x y padding long =
    sym (take-append_seam x _) ∙ ap (take (length x)) padding ∙ ap (λ n. take n (padded y)) long ∙ take-append_seam y _

symbol_eq-Decides : (x y : List ℕ) → Decides (symbol_eq x y) (x ≡ y)
symbol_eq-Decides x y = (
  (λ h. one_name x y
      ((bytes_eq-Decides (padded x) (padded y)).0 (and_left _ _ h))
      (eqb-true (length x) (length y) (and_right _ _ h))),
  (λ e. both_true ((bytes_eq-Decides (padded x) (padded y)).1 (ap padded e))
      (eq-eqb (length x) (length y) (ap length e))),
)

pub symbol_eq-bytes_eq : (x y : List ℕ) → symbol_eq x y ≡ bytes_eq x y
symbol_eq-bytes_eq x y = same_from_decides _ _ (symbol_eq-Decides x y) (bytes_eq-Decides x y)

-- the table's look-up looks for the name
pub any_symbol_eq : (x : List ℕ) (names : List (List ℕ)) → list_any (symbol_eq x) names ≡ list_any (bytes_eq x) names
any_symbol_eq x [] = refl
any_symbol_eq x (y ∷ names) = ap (λ b. b || list_any (symbol_eq x) names) (symbol_eq-bytes_eq x y)
    ∙ ap (λ b. bytes_eq x y || b) (any_symbol_eq x names)

not_false : (a : Bool) → not a ≡ false → a ≡ true
not_false true h = refl
not_false false h = cc

-- what an insert tells: the name is new, or it isn't
pub new_name : (x name : List ℕ) (names : List (List ℕ)) → x ≡ name → true ≡ not (list_any (symbol_eq x) names)
    → list_any (bytes_eq name) names ≡ false
new_name x name names e h =
    ap (λ n. list_any (bytes_eq n) names) (sym e) ∙ sym (any_symbol_eq x names) ∙ not_true _ (sym h)

pub old_name : (x name : List ℕ) (names : List (List ℕ)) → x ≡ name → false ≡ not (list_any (symbol_eq x) names)
    → list_any (bytes_eq name) names ≡ true
old_name x name names e h =
    ap (λ n. list_any (bytes_eq n) names) (sym e) ∙ sym (any_symbol_eq x names) ∙ not_false _ (sym h)

-- with one more name that is new, each is still spelled right
pub spellings-push : (names : List (List ℕ)) (name : List ℕ) → AllByRecursion IsSpelling names → IsSpelling name
    → AllByRecursion IsSpelling (names ++ name ∷ [])
spellings-push [] name each spelling = (spelling, tt)
spellings-push (x ∷ xs) name each spelling = (each.0, spellings-push xs name each.1 spelling)

-- a name that is no other's is no front's
absent : (names : List (List ℕ)) (x name : List ℕ) → list_any (λ o. bytes_eq o x) names ≡ false
    → bytes_eq name x ≡ false → list_any (λ o. bytes_eq o x) (names ++ name ∷ []) ≡ false
absent [] x name none other = ap (λ b. b || false) other
absent (y ∷ names) x name none other =
    ap (λ b. b || list_any (λ o. bytes_eq o x) (names ++ name ∷ [])) (or_left _ _ none)
    ∙ absent names x name (or_right _ _ none) other

-- and none stands twice
pub differ-push : (names : List (List ℕ)) (name : List ℕ) → all_differ names ≡ true
    → list_any (bytes_eq name) names ≡ false → all_differ (names ++ name ∷ []) ≡ true
differ-push [] name differ new = refl
differ-push (x ∷ xs) name differ new =
    both_true (ap not (absent xs x name (not_true _ (and_left _ _ differ)) (or_left _ _ new)))
    (differ-push xs name (and_right _ _ differ) (or_right _ _ new))

-- a list without x has none behind its front
absent_behind : (names : List (List ℕ)) (x name : List ℕ) (more : List (List ℕ))
    → list_any (λ o. bytes_eq o x) (names ++ name ∷ more) ≡ false → bytes_eq name x ≡ false
absent_behind [] x name more none = or_left _ _ none
absent_behind (y ∷ names) x name more none = absent_behind names x name more (or_right _ _ none)

-- in names that differ each is new to those in front of it
new_behind : (names : List (List ℕ)) (name : List ℕ) (more : List (List ℕ)) → all_differ (names ++ name ∷ more) ≡ true
    → list_any (bytes_eq name) names ≡ false
new_behind [] name more differ = refl
new_behind (x ∷ xs) name more differ =
    ap (λ b. b || list_any (bytes_eq name) xs) (absent_behind xs x name more (not_true _ (and_left _ _ differ)))
    ∙ new_behind xs name more (and_right _ _ differ)

spelled_behind : (names : List (List ℕ)) (name : List ℕ) (more : List (List ℕ))
    → AllByRecursion IsSpelling (names ++ name ∷ more) → IsSpelling name
spelled_behind [] name more each = each.0
spelled_behind (x ∷ xs) name more each = spelled_behind xs name more each.1

-- each name of a venue's symbols could join those in front of it
pub could_join : (names : List (List ℕ)) (name : List ℕ) (more : List (List ℕ)) → AreSymbols (names ++ name ∷ more)
    → CanJoin names name
could_join names name more all = record {
  spelling = spelled_behind names name more all.each;
  new = new_behind names name more all.differ;
}

module _ {X : Type 0} (f : X → List ℕ) (xs : List X) (i : ℕ) (x : X) (at : x ≡ get_or xs i x) (within : i < length xs)
  where
    -- the names so far, with one more
    pub names-push : map f (take (i + 1) xs) ≡ map f (take i xs) ++ f x ∷ []
    names-push =
        ap (λ n. map f (take n xs)) (add-one i) ∙ ap (map f) (take-suc xs i x within)
        ∙ map-append f (take i xs) (get_or xs i x ∷ []) ∙ ap (λ y. map f (take i xs) ++ f y ∷ []) (sym at)

    -- the names so far, one more, and the rest
    names_are : map f xs ≡ map f (take i xs) ++ f x ∷ map f (drop (suc i) xs)
    names_are =
        ap (map f) (sym (take-append-drop i xs)) ∙ map-append f (take i xs) (drop i xs)
        ∙ ap (λ r. map f (take i xs) ++ map f r) (drop-cons xs i x within)
        ∙ ap (λ y. map f (take i xs) ++ f y ∷ map f (drop (suc i) xs)) (sym at)

    -- in a venue's symbols each name could join those in front of it
    pub each_joins : AreSymbols (map f xs) → (names : List (List ℕ)) (name : List ℕ) → names ≡ map f (take i xs)
        → name ≡ f x → CanJoin names name
    each_joins all names name names_so_far name_is =
        rw (names_so_far, name_is) (could_join (map f (take i xs)) (f x) (map f (drop (suc i) xs))
        (subst AreSymbols names_are all))
