-- The groups in which orders are listed: one for each symbol and side, in the order of the table.
use Rattle.std.proofs.Common.{◌≡◌, ℕ, zero, suc, ◌+◌, ◌*◌, ◌/◌, ◌%◌, ◌<◌, ◌≤◌, Bool, true, false, not, cond, ◌&&◌, ◌||◌}
use Rattle.std.proofs.Common.{nat_lt, List, [], ◌∷◌, length, get_or, refl, ap, sym, subst, ◌∙◌, arith, Some, None}
use Rattle.std.specs.Prelude.{position}
use Rattle.std.specs.Option.{unwrap_or}
use Rattle.std.specs.List.{list_any, position_or_len}
use Rattle.std.specs.Str.{bytes_eq}
use Rattle.std.proofs.lemmas.List.Folds.{list_any_at}
use Rattle.std.proofs.lemmas.List.Sums.{prefix_len-le-length, passes_at_first}
use Rattle.std.proofs.lemmas.Bool.{and_parts}
use Rattle.std.proofs.lemmas.Bool.Decides.{nat_tests}
use Rattle.std.proofs.lemmas.Slice.Eq.{bytes_eq-Decides}
use Rattle.venue_model.specs.declared.orders.Side.{Side}
use Rattle.venue_model.specs.declared.orders.Side.TheVariants.{Buy, Sell}
use Rattle.venue_model.specs.declared.orders.Order.{Order}
use Rattle.venue_model.specs.Orders.{same_side}
use Rattle.venue_model.specs.SideLaws.{one_side, side_itself}
use Rattle.venue_model.specs.Requests.{Symbols}
use Rattle.venue_model.specs.Spelling.{all_differ}
use Rattle.book.specs.Listing.{is_of}
use Rattle.book.specs.Next.{symbol_number, side_order, group_of}

-- NUMBERS OF SYMBOLS

place-cases : {X : Type 0} (xs : List X) (n : ℕ) → n ≤ length xs → (b : Bool) → nat_lt n (length xs) ≡ b →
    unwrap_or (cond b (Some n) None) (length xs) ≡ n
place-cases xs n within true h = refl
place-cases xs n within false h = grind (arith, nat_tests)

pub place-or-length : {X : Type 0} (xs : List X) (p : X → Bool) →
    unwrap_or (position p xs) (length xs) ≡ position_or_len p xs
place-or-length xs p =
    place-cases xs (position_or_len p xs) (prefix_len-le-length (λ x. not (p x)) xs)
    (nat_lt (position_or_len p xs) (length xs)) refl

pub number-within : (ss : Symbols) (symbol : List ℕ) → symbol_number ss symbol ≤ length ss
number-within ss symbol = prefix_len-le-length (λ s. not (bytes_eq symbol s)) ss

module _ (s : List ℕ) (ss : Symbols) (symbol : List ℕ) where
  number-first : bytes_eq symbol s ≡ true → symbol_number (s ∷ ss) symbol ≡ 0
  number-first h = ap (λ b. cond (not b) (1 + symbol_number ss symbol) 0) h

  number-later : bytes_eq symbol s ≡ false → symbol_number (s ∷ ss) symbol ≡ 1 + symbol_number ss symbol
  number-later h = ap (λ b. cond (not b) (1 + symbol_number ss symbol) 0) h

-- a symbol of the table has a number within it
pub number-below : (ss : Symbols) (symbol : List ℕ) → list_any (bytes_eq symbol) ss ≡ true
    → symbol_number ss symbol < length ss
number-below [] symbol among = cc
number-below (s ∷ ss) symbol among = elim (bytes_eq symbol s)
    as (λ b. (b || list_any (bytes_eq symbol) ss) ≡ true → cond (not b) (1 + symbol_number ss symbol) 0
    < suc (length ss)) [
      | true ↦ λ h. omega arith
      | false ↦ λ h. let below = number-below ss symbol h in omega (arith, below)
    ] among

pub differ-parts : (s : List ℕ) (ss : Symbols) → all_differ (s ∷ ss) ≡ true →
    (list_any (λ other. bytes_eq other s) ss ≡ false) × (all_differ ss ≡ true)
differ-parts s ss differ =
    let both = and_parts (not (list_any (λ other. bytes_eq other s) ss)) (all_differ ss) differ in
    (no (list_any (λ other. bytes_eq other s) ss) both.0, both.1)
  where
    no : (b : Bool) → not b ≡ true → b ≡ false
    no true h = cc
    no false h = refl

none-at : (p : List ℕ → Bool) (ss : Symbols) (k : ℕ) (s : List ℕ) → list_any p ss ≡ false → k < length ss →
    s ≡ get_or ss k s → p s ≡ false
none-at p ss k s none within at = elim (p s) as (λ b. p s ≡ b → b ≡ false) [
  | true ↦ λ h. sym (list_any_at p ss k s within (ap p (sym at) ∙ h)) ∙ none
  | false ↦ λ h. refl
] refl

-- the symbol at a place of the table has this number
pub number-is : (ss : Symbols) → all_differ ss ≡ true → (k : ℕ) (s : List ℕ) → k < length ss → s ≡ get_or ss k s →
    symbol_number ss s ≡ k
number-is [] differ k s within at = absurd (omega (arith, within))
number-is (other ∷ ss) differ zero s within at = number-first other ss s ((bytes_eq-Decides s other).1 at)
number-is (other ∷ ss) differ (suc k) s within at =
    let apart = differ-parts other ss differ in
    let inside : k < length ss = omega (arith, within) in
    let later = number-later other ss s (none-at (λ x. bytes_eq x other) ss k s apart.0 inside at) in
    let number = number-is ss apart.1 k s inside at in
    omega (arith, later, number)

-- a number within the table is that of the symbol at its place
at-number : (ss : Symbols) (symbol : List ℕ) → symbol_number ss symbol < length ss →
    symbol ≡ get_or ss (symbol_number ss symbol) symbol
at-number ss symbol within =
    (bytes_eq-Decides symbol (get_or ss (symbol_number ss symbol) symbol)).0
    (passes_at_first (bytes_eq symbol) ss symbol within)

-- ORDERS OF A SYMBOL AND SIDE

pub record Of (s : List ℕ) (t : Side) (o : Order) : Type 0 where
  pub symbol : bytes_eq o.symbol s ≡ true
  pub side : o.side ≡ t

pub of-test : (symbol : List ℕ) (side : Side) (o : Order) → is_of symbol side o ≡ true → Of symbol side o
of-test symbol side o h =
    let both = and_parts (bytes_eq o.symbol symbol) (same_side o.side side) h in
    record { symbol = both.0; side = one_side o.side side both.1 }

-- GROUPS

-- a group's number tells its symbol and its side
pub group-parts : (n m : ℕ) (a b : Side) → 2 * n + side_order a ≡ 2 * m + side_order b → (n ≡ m) × (a ≡ b)
group-parts n m Buy Buy same = (omega (arith, same), refl)
group-parts n m Sell Sell same = (omega (arith, same), refl)
group-parts n m Buy Sell same = absurd (omega (arith, same))
group-parts n m Sell Buy same = absurd (omega (arith, same))

pub side-below : (side : Side) → side_order side < 2
side-below Buy = omega arith
side-below Sell = omega arith

pub group-below : (ss : Symbols) (o : Order) → list_any (bytes_eq o.symbol) ss ≡ true → group_of ss o < 2 * length ss
group-below ss o known =
    let number = number-below ss o.symbol known in
    let side = side-below o.side in
    omega (arith, number, side)

-- in a table of one symbol more
module _ (s : List ℕ) (ss : Symbols) (o : Order) where
  pub group-first : bytes_eq o.symbol s ≡ true → group_of (s ∷ ss) o ≡ side_order o.side
  group-first h = let first = number-first s ss o.symbol h in omega (arith, first)

  pub group-later : bytes_eq o.symbol s ≡ false → group_of (s ∷ ss) o ≡ 2 + group_of ss o
  group-later h = let later = number-later s ss o.symbol h in omega (arith, later)

-- the orders of this symbol and side are the group of this number
pub record IsGroup (ss : Symbols) (symbol : List ℕ) (side : Side) (group : ℕ) : Type 0 where
  pub has : (x : Order) → is_of symbol side x ≡ true → group_of ss x ≡ group
  pub only : (x : Order) → group_of ss x ≡ group → is_of symbol side x ≡ true

module _ (ss : Symbols) (differ : all_differ ss ≡ true) where
  numbered : (k : ℕ) (symbol : List ℕ) (side : Side) → k < length ss → symbol ≡ get_or ss k symbol →
      IsGroup ss symbol side (2 * k + side_order side)
  numbered k symbol side within at = record {
    has = λ x of.
        let its = of-test symbol side x of in
        let number : symbol_number ss x.symbol ≡ k =
        ap (symbol_number ss) ((bytes_eq-Decides x.symbol symbol).0 its.symbol)
        ∙ number-is ss differ k symbol within at in
        ap (λ n. 2 * n + side_order x.side) number ∙ ap (λ t. 2 * k + side_order t) its.side;
    only = λ x same.
        let parts = group-parts (symbol_number ss x.symbol) k x.side side same in
        let inside : symbol_number ss x.symbol < length ss = subst (λ n. n < length ss) (sym parts.0) within in
        let there : bytes_eq x.symbol (get_or ss k symbol) ≡ true =
        subst (λ n. bytes_eq x.symbol (get_or ss n symbol) ≡ true) parts.0
        (passes_at_first (bytes_eq x.symbol) ss symbol inside) in
        ap (λ s. bytes_eq x.symbol s && same_side x.side side) at
        ∙ ap (λ b. b && same_side x.side side) there ∙ side_itself x.side side parts.1;
  }

  -- the group that has a symbol at half its number
  pub group-at : (group : ℕ) (symbol : List ℕ) (side : Side) → group < 2 * length ss →
      symbol ≡ get_or ss (group / 2) symbol → side_order side ≡ group % 2 → IsGroup ss symbol side group
  group-at group symbol side within at its_side =
      subst (IsGroup ss symbol side) (omega (arith, its_side))
      (numbered (group / 2) symbol side (omega (arith, within)) at)

  -- an order's own
  pub group-own : (o : Order) → list_any (bytes_eq o.symbol) ss ≡ true → IsGroup ss o.symbol o.side (group_of ss o)
  group-own o known =
      let within = number-below ss o.symbol known in
      numbered (symbol_number ss o.symbol) o.symbol o.side within (at-number ss o.symbol within)
