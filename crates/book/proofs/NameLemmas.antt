-- Orders under the names that their clients gave them.
use Rattle.std.proofs.Common.{◌≡◌, ℕ, Bool, true, false, not, List, [], ◌∷◌, ◌++◌, map, refl, ap, sym, ◌∙◌, arith, Some}
use Rattle.std.proofs.Common.{None}
use Rattle.std.specs.Prelude.{filter, find, if◌then◌else◌}
use Rattle.std.specs.List.{AllByRecursion}
use Rattle.std.proofs.lemmas.Bool.Decides.{nat_tests}
use Rattle.std.proofs.lemmas.List.{map-append}
use Rattle.std.proofs.lemmas.List.Elements.{filter-append}
use Rattle.venue_model.specs.declared.orders.Order.{Order}
use Rattle.venue_model.specs.declared.commands.OrderCancelReplaceRequest.{OrderCancelReplaceRequest}
use Rattle.venue_model.specs.Requests.{is_named, amended}
use Rattle.book.specs.Books.{NamedApart}
use Rattle.book.proofs.Lists.{each-map, filter-all, filter-out, same_map, same-self}

-- the client's order of this name, between those before it and those behind it, none of which has the name
pub record IsAmong (client name : ℕ) (orders : List Order) (o : Order) : Type 0 where
  pub before : List Order
  pub behind : List Order
  pub split : orders ≡ before ++ o ∷ behind
  pub is_it : is_named client name o ≡ true
  pub not_before : AllByRecursion (λ x. is_named client name x ≡ false) before
  pub not_behind : AllByRecursion (λ x. is_named client name x ≡ false) behind

-- one name is one order's
same-name : (client name : ℕ) (o x : Order) → is_named client name o ≡ true → is_named o.client o.cl_ord_id x ≡ false
    → is_named client name x ≡ false
same-name client name o x is_it apart = grind (arith, nat_tests)

-- an order that is found by its name is the only one that has it
pub found : (client name : ℕ) (orders : List Order) (o : Order) → NamedApart orders
    → find (is_named client name) orders ≡ Some o
    → IsAmong client name orders o
found client name [] o apart is = absurd (let e : None ≡ Some o = is in cc)
found client name (x ∷ orders) o apart is = here (is_named client name x) refl is
    (λ later. found client name orders o apart.1 later)
  where
    here : (b : Bool) → is_named client name x ≡ b → (if b then Some x else find (is_named client name) orders) ≡ Some o
        → (find (is_named client name) orders ≡ Some o → IsAmong client name orders o)
        → IsAmong client name (x ∷ orders) o
    here true is_it first behind =
        let same : x ≡ o = cc in
        record {
          before = [];
          behind = orders;
          split = ap (λ y. y ∷ orders) same;
          is_it = ap (is_named client name) (sym same) ∙ is_it;
          not_before = tt;
          not_behind = each-map (λ y. is_named x.client x.cl_ord_id y ≡ false) (λ y. is_named client name y ≡ false)
              (λ y h. same-name client name x y is_it h) orders apart.0;
        }
    here false isnt later behind =
        let rest = behind later in
        record {
          before = x ∷ rest.before;
          behind = rest.behind;
          split = ap (λ zs. x ∷ zs) rest.split;
          is_it = rest.is_it;
          not_before = (isnt, rest.not_before);
          not_behind = rest.not_behind;
        }

-- what the definitions say of a name that an order has
module _ (client name : ℕ) (orders : List Order) (o : Order) (its : IsAmong client name orders o) where
  abbrev p : Order → Bool
  p x = is_named client name x

  not-named : (xs : List Order) → AllByRecursion (λ x. p x ≡ false) xs → filter (λ x. not (p x)) xs ≡ xs
  not-named xs none = filter-all (λ x. not (p x)) xs
      (each-map (λ x. p x ≡ false) (λ x. not (p x) ≡ true) (λ x h. ap not h) xs none)

  pub others-are : filter (λ x. not (is_named client name x)) orders ≡ its.before ++ its.behind
  others-are =
      ap (filter (λ x. not (p x))) its.split
      ∙ filter-out (λ x. not (p x)) its.before its.behind o (ap not its.is_it)
      ∙ filter-append (λ x. not (p x)) its.before its.behind
      ∙ ap (λ zs. zs ++ filter (λ x. not (p x)) its.behind) (not-named its.before its.not_before)
      ∙ ap (λ zs. its.before ++ zs) (not-named its.behind its.not_behind)

  module _ (f : Order → Order) where
    abbrev g : Order → Order
    g x = if p x then f x else x

    same : (xs : List Order) → AllByRecursion (λ x. p x ≡ false) xs → map g xs ≡ xs
    same xs none = same_map g (λ x. x) xs
        (each-map (λ x. p x ≡ false) (λ x. g x ≡ x) (λ x h. ap (λ b. if b then f x else x) h) xs none) ∙ same-self xs

    pub amended-are : map (λ x. if is_named client name x then f x else x) orders ≡ its.before ++ f o ∷ its.behind
    amended-are =
        ap (map g) its.split
        ∙ map-append g its.before (o ∷ its.behind)
        ∙ ap (λ zs. zs ++ g o ∷ map g its.behind) (same its.before its.not_before)
        ∙ ap (λ b. its.before ++ (if b then f o else o) ∷ map g its.behind) its.is_it
        ∙ ap (λ zs. its.before ++ f o ∷ zs) (same its.behind its.not_behind)

  -- where its price stays, name and total alone are amended
  pub amended-kept : (r : OrderCancelReplaceRequest) → r.price ≡ o.price →
      map (λ x. if is_named client name x then record x { cl_ord_id = r.cl_ord_id; total = r.quantity } else x) orders
      ≡ map (λ x. if is_named client name x then amended r x else x) orders
  amended-kept r price =
      amended-are (λ x. record x { cl_ord_id = r.cl_ord_id; total = r.quantity })
      ∙ ap (λ p. its.before ++ (record o { cl_ord_id = r.cl_ord_id; price = p; total = r.quantity }) ∷ its.behind)
      (sym price)
      ∙ sym (amended-are (amended r))
