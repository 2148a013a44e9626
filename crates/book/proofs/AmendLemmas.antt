-- An order that a request amends: it stays an order of the book under its new name.
use Rattle.std.proofs.Common.{◌≡◌, ℕ, ◌-◌, ◌<◌, ◌≤◌, Bool, true, false, ◌&&◌, not, nat_eq, nat_le, List, [], ◌∷◌, ◌++◌}
use Rattle.std.proofs.Common.{length, map, refl, ap, sym, subst, ◌∙◌, arith, Option, Some, None}
use Rattle.std.specs.Prelude.{⊤, find, slice_index, if◌then◌else◌, MatchOption}
use Rattle.std.specs.Str.{bytes_eq}
use Rattle.std.proofs.lemmas.Bool.{eqb-true}
use Rattle.std.proofs.lemmas.Bool.Decides.{nat_tests}
use Rattle.venue_model.specs.declared.orders.Order.{Order}
use Rattle.venue_model.specs.declared.outputs.Cause.{Cause}
use Rattle.venue_model.specs.declared.commands.OrderCancelReplaceRequest.{OrderCancelReplaceRequest}
use Rattle.venue_model.specs.declared.commands.TimeInForce.TheVariants.{Day}
use Rattle.venue_model.specs.Orders.{leaves, is_live, same_side}
use Rattle.venue_model.specs.Match.{live_alone}
use Rattle.venue_model.specs.Requests.{Symbols, is_named, is_day, replace_fits, amended, restamped, keeps_place}
use Rattle.venue_model.specs.Requests.{most_resting}
use Rattle.price_levels.specs.Places.{CanAmend}
use Rattle.book.specs.Standing.{InRange, Rests, Below}
use Rattle.book.specs.Books.{Book, NamedApart, Belongs, IsBook, NoneNamed, StandsInBook, StaysInPlace}
use Rattle.book.specs.Commands.{MayComeIn, CanReplace, IsNewName}
use Rattle.book.proofs.Lists.{each-back}
use Rattle.book.proofs.Fills.{live-true}
use Rattle.book.proofs.NameLemmas.{IsAmong, found, amended-are, amended-kept}
use Rattle.book.proofs.BookLemmas.{not-mutual}
use Rattle.book.proofs.StandingLemmas.{SamePlace, each-instead, standing-instead}

pub and_first : (a b : Bool) → (a && b) ≡ true → a ≡ true
and_first true b h = refl
and_first false b h = h

and_last : (a b : Bool) → (a && b) ≡ true → b ≡ true
and_last true b h = h
and_last false b h = cc

more : (quantity cum : ℕ) → not (nat_le quantity cum) ≡ true → cum < quantity
more quantity cum h = grind (arith, nat_tests)

-- a request that fits asks for more than was filled
fits-more : (r : OrderCancelReplaceRequest) (o : Order) → replace_fits r o ≡ true → o.cum < r.quantity
fits-more r o fit = more r.quantity o.cum
    (and_last (bytes_eq r.symbol o.symbol && same_side r.side o.side && is_day r.time_in_force)
    (not (nat_le r.quantity o.cum)) fit)

-- the amended order is in range, wherever it stands in time
amended-range : (r : OrderCancelReplaceRequest) (o : Order) → InRange o → o.cum < r.quantity → r.quantity ≤ 1000000
    → r.price ≤ 1000000 → InRange (amended r o)
amended-range r o range asks quantity price = record {
  cum = omega (arith, asks);
  total = quantity;
  price = price;
  notional = range.notional;
}

restamped-range : (c : Cause) (o : Order) → InRange o → InRange (restamped c o)
restamped-range c o range = record {
  cum = range.cum;
  total = range.total;
  price = range.price;
  notional = range.notional;
}

-- it may come in again, where the others came before it and leave it a place
pub comes-again : {client : ℕ} {book : Book} {r : OrderCancelReplaceRequest} {o : Order} {orders : List Order}
    (c : Cause) → CanReplace book client r o → Below c.sequence orders → length orders < most_resting
    → MayComeIn Day (restamped c (amended r o)) orders
comes-again {r = r} {o} c its behind few =
    let more = fits-more r o its.fits in
    record {
      in_range = restamped-range c (amended r o)
          (amended-range r o its.stands.rests.in_range more its.quantity its.price);
      some = omega (arith, more);
      behind = behind;
      place = λ day. few;
      limit = λ day. its.stands.rests.limit;
    }

-- and its client may take the new name, whatever orders are left
pub named-again : {client : ℕ} {book : Book} {r : OrderCancelReplaceRequest} {o : Order} → CanReplace book client r o
    → (orders : List Order) → IsNewName (record book.state { orders = orders }) o.client r.cl_ord_id
named-again its orders = record {
  from = its.stands.belongs.from;
  to = its.stands.belongs.to;
  later = rw its.stands.its_client its.name.later;
}

apart-instead : (o o' : Order) (xs ys : List Order) → NoneNamed o'.client o'.cl_ord_id (xs ++ o ∷ ys)
    → NamedApart (xs ++ o ∷ ys) →
    NamedApart (xs ++ (live_alone o' ++ ys))
apart-instead o o' [] ys fresh apart = elim (is_live o') as (λ b. NamedApart ((if b then o' ∷ [] else []) ++ ys))
    [ true ↦ (fresh.1, apart.1) | false ↦ apart.1 ]
apart-instead o o' (x ∷ xs) ys fresh apart = (
  each-instead o o' (λ y. is_named x.client x.cl_ord_id y ≡ false) xs ys (λ live h. not-mutual o' x fresh.0) apart.0,
  apart-instead o o' xs ys fresh.1 apart.1,
)

-- the order of a name, in the book
module _ (symbols : Symbols) (greatest : List ℕ) (client name : ℕ) (os : List Order) (old : Order)
    (its : IsAmong client name os old)
    (book : IsBook symbols os greatest) where
  whole : IsBook symbols (its.before ++ old ∷ its.behind) greatest
  whole = subst (λ zs. IsBook symbols zs greatest) its.split book

  pub its-rests : Rests old
  its-rests = (each-back Rests its.before (old ∷ its.behind) whole.standing.each).0

  pub its-belongs : Belongs symbols greatest old
  its-belongs = (each-back (Belongs symbols greatest) its.before (old ∷ its.behind) whole.each).0

  pub its-client : old.client ≡ client
  its-client = eqb-true old.client client (and_first (nat_eq old.client client) (nat_eq old.cl_ord_id name) its.is_it)

  -- another one of its client stands in its place
  pub book-instead : (o : Order) → o.client ≡ old.client → SamePlace old o → InRange o → 0 < leaves o
      → o.cl_ord_id ≤ slice_index greatest (client - 1) → NoneNamed client o.cl_ord_id os
      → IsBook symbols (its.before ++ o ∷ its.behind) greatest
  book-instead o client_is same range some named fresh =
      let mine : o.client ≡ client = client_is ∙ its-client in
      let belongs : Belongs symbols greatest o = record {
        from = let from = its-belongs.from in omega (arith, from, client_is);
        to = let to = its-belongs.to in omega (arith, to, client_is);
        name = rw mine named;
        symbol = rw same.level.symbol its-belongs.symbol;
      } in
      let its_fresh : NoneNamed o.client o.cl_ord_id (its.before ++ old ∷ its.behind) =
      rw mine (subst (NoneNamed client o.cl_ord_id) its.split fresh) in
      let alone : live_alone o ≡ o ∷ [] = ap (λ b. if b then o ∷ [] else []) (live-true o some) in
      subst (λ zs. IsBook symbols (its.before ++ (zs ++ its.behind)) greatest) alone (record {
        standing = standing-instead old o its.before its.behind same range whole.standing;
        apart = apart-instead old o its.before its.behind its_fresh whole.apart;
        each = each-instead old o (Belongs symbols greatest) its.before its.behind (λ live b. belongs) whole.each;
        clients = whole.clients;
      })

-- an order that is found by its name stands in the book
pub stands : (book : Book) (client name : ℕ) (o : Order)
    → IsBook book.limits.symbols book.state.orders book.state.greatest →
    find (is_named client name) book.state.orders ≡ Some o → StandsInBook book client o
stands book client name o is_book is =
    let its = found client name book.state.orders o is_book.apart is in
    record {
      rests = its-rests book.limits.symbols book.state.greatest client name book.state.orders o its is_book;
      belongs = its-belongs book.limits.symbols book.state.greatest client name book.state.orders o its is_book;
      its_client = its-client book.limits.symbols book.state.greatest client name book.state.orders o its is_book;
    }

pub named-stands : (book : Book) (client name : ℕ) (named : Option Order)
    → IsBook book.limits.symbols book.state.orders book.state.greatest →
    named ≡ find (is_named client name) book.state.orders → MatchOption named ⊤ (StandsInBook book client)
named-stands book client name None is_book is = tt
named-stands book client name (Some o) is_book is = stands book client name o is_book (sym is)

-- WHERE IT STANDS

keeps-price : (r : OrderCancelReplaceRequest) (o : Order) → keeps_place r o ≡ true → r.price ≡ o.price
keeps-price r o keeps = eqb-true r.price o.price (and_first (nat_eq r.price o.price) (nat_le r.quantity o.total) keeps)

no-more : (n m : ℕ) → nat_le n m ≡ true → n ≤ m
no-more n m h = grind (arith, nat_tests)

-- its total doesn't grow, and leaves something
pub can-amend : (r : OrderCancelReplaceRequest) (o : Order) → StaysInPlace r o → CanAmend r.quantity o
can-amend r o stays = record {
  no_more = no-more r.quantity o.total (and_last (nat_eq r.price o.price) (nat_le r.quantity o.total) stays.keeps);
  some = fits-more r o stays.fits;
}

module _ (symbols : Symbols) (greatest : List ℕ) (client : ℕ) (r : OrderCancelReplaceRequest) (os new : List Order)
    (book : IsBook symbols os greatest)
    (new_is : new ≡ map (λ o. if is_named client r.orig_cl_ord_id o then record o
    { cl_ord_id = r.cl_ord_id; total = r.quantity } else o) os) where
  module _ (o : Order) (is : find (is_named client r.orig_cl_ord_id) os ≡ Some o) (stays : StaysInPlace r o) where
    its : IsAmong client r.orig_cl_ord_id os o
    its = found client r.orig_cl_ord_id os o book.apart is

    price : r.price ≡ o.price
    price = keeps-price r o stays.keeps

    one-amended : new ≡ map (λ x. if is_named client r.orig_cl_ord_id x then amended r x else x) os
    one-amended = new_is ∙ amended-kept client r.orig_cl_ord_id os o its r price

    one-book : r.cl_ord_id ≤ slice_index greatest (client - 1) → NoneNamed client r.cl_ord_id os
        → IsBook symbols new greatest
    one-book named fresh =
        let can = can-amend r o stays in
        let rests = its-rests symbols greatest client r.orig_cl_ord_id os o its book in
        let range = rests.in_range in
        let total = range.total in
        let no_more = can.no_more in
        let asks = can.some in
        subst (λ zs. IsBook symbols zs greatest)
        (sym (one-amended ∙ amended-are client r.orig_cl_ord_id os o its (amended r)))
        (book-instead symbols greatest client r.orig_cl_ord_id os o its book (amended r o) refl
        (record { level = record { symbol = refl; side = refl; price = price }; stamp = refl; market = refl })
        (amended-range r o range asks (omega (arith, total, no_more)) (rw price range.price)) (omega (arith, asks))
        named fresh)

  -- whichever it is
  its-one : (named : Option Order) → find (is_named client r.orig_cl_ord_id) os ≡ named
      → MatchOption named ⊥ (StaysInPlace r) →
      (o : Order) × (find (is_named client r.orig_cl_ord_id) os ≡ Some o) × StaysInPlace r o
  its-one None is never = absurd never
  its-one (Some o) is stays = (o, is, stays)

  pub list-amended : MatchOption (find (is_named client r.orig_cl_ord_id) os) ⊥ (StaysInPlace r) →
      new ≡ map (λ x. if is_named client r.orig_cl_ord_id x then amended r x else x) os
  list-amended stays =
      let one = its-one (find (is_named client r.orig_cl_ord_id) os) refl stays in
      one-amended one.0 one.1 one.2

  pub book-amended : MatchOption (find (is_named client r.orig_cl_ord_id) os) ⊥ (StaysInPlace r) →
      r.cl_ord_id ≤ slice_index greatest (client - 1) → NoneNamed client r.cl_ord_id os → IsBook symbols new greatest
  book-amended stays =
      let one = its-one (find (is_named client r.orig_cl_ord_id) os) refl stays in
      one-book one.0 one.1 one.2

-- an order keeps its stamp where it is amended, so all stay below a sequence
pub below-amended : (client name new_name total sequence : ℕ) (os : List Order) → Below sequence os →
    Below sequence (map (λ o. if is_named client name o then record o { cl_ord_id = new_name; total = total } else o)
    os)
below-amended client name new_name total sequence [] below = tt
below-amended client name new_name total sequence (o ∷ os) below = (
  elim (is_named client name o) as (λ b. (if b then record o { cl_ord_id = new_name; total = total } else o).stamp
      < sequence)
      [ true ↦ below.0 | false ↦ below.0 ],
  below-amended client name new_name total sequence os below.1,
)
