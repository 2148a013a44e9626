-- Tags that no order tag is: those that a message has outside of its order fields, and those that no message has.
use Rattle.std.proofs.Common.{◌≡◌, ℕ, Bool, true, false, not, ◌||◌, ◌==◌, List, [], ◌∷◌, ◌++◌, sym, ap, subst, ◌∙◌}
use Rattle.std.proofs.Common.{refl, arith}
use Rattle.std.specs.List.{filter, list_all, AllByRecursion}
use Rattle.std.proofs.lemmas.Bool.{and_parts}
use Rattle.std.proofs.lemmas.Bool.Decides.{nat_tests}
use Rattle.std.proofs.lemmas.List.Folds.{list_any-append}
use Rattle.std.proofs.lemmas.Map.Views.{any-filter_same}
use Rattle.fix_orders.specs.declared.tables.Table.{Table}
use Rattle.fix_orders.specs.declared.tables.Table.TheVariants.{LimitOrder, MarketOrder, CancelRequest, ReplaceRequest}
use Rattle.fix_orders.specs.declared.tables.OrderTag.{OrderTag}
use Rattle.fix_orders.specs.declared.tables.OrderTag.TheVariants.{ClOrdId, OrderQty, OrdType, OrigClOrdId, Price, Side}
use Rattle.fix_orders.specs.declared.tables.OrderTag.TheVariants.{Symbol, TimeInForce, TransactTime}
use Rattle.fix_orders.specs.Findings.{is_other, outside}
use Rattle.fix_orders.specs.Formats.{format_of}
use Rattle.fix_orders.specs.Formats.Format.{any}
use Rattle.fix_orders.specs.OrderTags.{tag_number, order_numbers}
use Rattle.fix_orders.specs.Reading.{is_among, is_defined, frame_tags, header_tags, required, optional}

order_among : (t : OrderTag) → is_among order_numbers (tag_number t) ≡ true
order_among ClOrdId = refl
order_among OrderQty = refl
order_among OrdType = refl
order_among OrigClOrdId = refl
order_among Price = refl
order_among Side = refl
order_among Symbol = refl
order_among TimeInForce = refl
order_among TransactTime = refl

apart_by : (tag : ℕ) (t : OrderTag) (same : Bool) → (tag == tag_number t) ≡ same → is_among order_numbers tag ≡ false
    → same ≡ false
apart_by tag t true same none =
    let e : tag ≡ tag_number t = grind (arith, nat_tests) in
    let there = ap (is_among order_numbers) e ∙ order_among t in cc
apart_by tag t false same none = refl

-- what holds of a tag that no order tag is
pub record IsApart (tag : ℕ) : Type 0 where
  pub unequal : (t : OrderTag) → (tag == tag_number t) ≡ false
  pub free : (table : Table) → format_of table tag ≡ any

pub unequal_of : (tag : ℕ) → is_among order_numbers tag ≡ false → (t : OrderTag) → (tag == tag_number t) ≡ false
unequal_of tag none t = apart_by tag t (tag == tag_number t) refl none

free_of : (tag : ℕ) → ((t : OrderTag) → (tag == tag_number t) ≡ false) → (table : Table) → format_of table tag ≡ any
free_of tag unequal table =
    rw (
      unequal ClOrdId,
      unequal OrigClOrdId,
      unequal OrderQty,
      unequal Price,
      unequal OrdType,
      unequal Side,
      unequal
          Symbol,
      unequal TimeInForce,
      unequal TransactTime,
    ) refl

pub apart : (tag : ℕ) → is_among order_numbers tag ≡ false → IsApart tag
apart tag none = let unequal = unequal_of tag none in record { unequal = unequal; free = free_of tag unequal }

-- what holds of each of some tags holds of one of them
among_by : (P : ℕ → Type 0) (n tag : ℕ) (rest : List ℕ) (same : Bool) → (n == tag) ≡ same → P n
    → (is_among rest tag ≡ true → P tag)
    → (same || is_among rest tag) ≡ true → P tag
among_by P n tag rest true same here there is = let e : n ≡ tag = grind (arith, nat_tests) in subst P e here
among_by P n tag rest false same here there is = there is

pub among_all : (P : ℕ → Type 0) (ns : List ℕ) (tag : ℕ) → AllByRecursion P ns → is_among ns tag ≡ true → P tag
among_all P [] tag all is = cc
among_all P (n ∷ ns) tag all is = among_by P n tag ns (n == tag) refl all.0 (among_all P ns tag all.1) is

-- what holds of a tag outside
pub record IsOutside (tag : ℕ) : Type 0 where
  pub order : is_among order_numbers tag ≡ false
  pub other : is_other tag ≡ false
  pub defined : (table : Table) → is_defined table tag ≡ true

pub outside_is : (tag : ℕ) → is_among outside tag ≡ true → IsOutside tag
outside_is tag is =
    among_all IsOutside outside tag (
      record { order = refl; other = refl; defined = λ table. refl },
      (
        record { order = refl; other = refl; defined = λ table. refl },
        (
          record { order = refl; other = refl; defined = λ table. refl },
          (
            record { order = refl; other = refl; defined = λ table. refl },
            (
              record { order = refl; other = refl; defined = λ table. refl },
              (
                record { order = refl; other = refl; defined = λ table. refl },
                (
                  record { order = refl; other = refl; defined = λ table. refl },
                  (record { order = refl; other = refl; defined = λ table. refl }, tt),
                ),
              ),
            ),
          ),
        ),
      ),
    ) is

-- a tag that is none of some is none of a part of them
differs_by : (all : List ℕ) (m tag : ℕ) (same : Bool) → (m == tag) ≡ same → is_among all m ≡ true
    → is_among all tag ≡ false → same ≡ false
differs_by all m tag true same there none = let e : m ≡ tag = grind (arith, nat_tests) in let here =
    ap (is_among all) e in cc
differs_by all m tag false same there none = refl

none_of_part : (ms all : List ℕ) (tag : ℕ) → list_all (is_among all) ms ≡ true → is_among all tag ≡ false
    → is_among ms tag ≡ false
none_of_part [] all tag part none = refl
none_of_part (m ∷ ms) all tag part none =
    let parts = and_parts (is_among all m) (list_all (is_among all) ms) part in
    ap (λ b. b || is_among ms tag) (differs_by all m tag (m == tag) refl parts.0 none)
    ∙ none_of_part ms all tag parts.1 none

-- what holds of a tag that no message has
pub record IsOther (tag : ℕ) : Type 0 where
  pub outer : is_among outside tag ≡ false
  pub order : is_among order_numbers tag ≡ false
  pub undefined : (table : Table) → is_defined table tag ≡ false

not_true : (b : Bool) → not b ≡ true → b ≡ false
not_true true is = cc
not_true false is = refl

undefined_other : (table : Table) (tag : ℕ) → is_among (outside ++ order_numbers) tag ≡ false
    → is_defined table tag ≡ false
undefined_other LimitOrder tag none =
    none_of_part (frame_tags ++ header_tags ++ required LimitOrder ++ optional LimitOrder)
    (outside ++ order_numbers) tag refl none
undefined_other MarketOrder tag none =
    none_of_part (frame_tags ++ header_tags ++ required MarketOrder ++ optional MarketOrder)
    (outside ++ order_numbers) tag refl none
undefined_other CancelRequest tag none =
    none_of_part (frame_tags ++ header_tags ++ required CancelRequest ++ optional CancelRequest)
    (outside ++ order_numbers) tag refl none
undefined_other ReplaceRequest tag none =
    none_of_part (frame_tags ++ header_tags ++ required ReplaceRequest ++ optional ReplaceRequest)
    (outside ++ order_numbers) tag refl none

pub other_is : (tag : ℕ) → is_other tag ≡ true → IsOther tag
other_is tag is =
    let none = not_true (is_among (outside ++ order_numbers) tag) is in record {
      outer = none_of_part outside (outside ++ order_numbers) tag refl none;
      order = none_of_part order_numbers (outside ++ order_numbers) tag refl none;
      undefined = λ table. undefined_other table tag none;
    }

same_other : (k tag : ℕ) → (k == tag) ≡ true → is_other tag ≡ true → is_other k ≡ true
same_other k tag same is = let e : k ≡ tag = grind (arith, nat_tests) in ap is_other e ∙ is

-- it was seen where it is among the others
pub seen_other : (tag : ℕ) (ts : List ℕ) → is_other tag ≡ true
    → is_among (filter is_other ts) tag ≡ is_among (outside ++ ts) tag
seen_other tag ts is =
    any-filter_same (λ t. t == tag) is_other true (λ k same. same_other k tag same is) ts
    ∙ sym (list_any-append (λ t. t == tag) outside ts ∙ ap (λ b. b || is_among ts tag) (other_is tag is).outer)

-- and one outside was
pub seen_outside : (tag : ℕ) (ts : List ℕ) → is_among outside tag ≡ true → is_among (outside ++ ts) tag ≡ true
seen_outside tag ts is = list_any-append (λ t. t == tag) outside ts ∙ ap (λ b. b || is_among ts tag) is
