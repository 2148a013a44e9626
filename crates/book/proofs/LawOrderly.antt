-- Commands lead from states in which no orders cross to such states.
use Rattle.std.proofs.Common.{◌≡◌, ℕ, ◌+◌, ◌-◌, ◌<◌, ◌≤◌, Bool, true, false, not, ◌&&◌, nat_eq, nat_le, List, [], ◌∷◌}
use Rattle.std.proofs.Common.{length, refl, ap, sym, subst, ◌∙◌, arith, Option, Some, None}
use Rattle.std.specs.Prelude.{filter, find, slice_index, slice_set, if◌then◌else◌}
use Rattle.std.specs.List.{AllByRecursion}
use Rattle.std.specs.Str.{bytes_eq}
use Rattle.std.proofs.lemmas.List.{get_or-set_same, get_or-set_other, length-set}
use Rattle.std.proofs.lemmas.Bool.{eqb-true}
use Rattle.std.proofs.lemmas.Bool.Decides.{nat_tests}
use Rattle.venue_model.specs.declared.orders.Order.{Order}
use Rattle.venue_model.specs.declared.commands.TimeInForce.{TimeInForce}
use Rattle.venue_model.specs.declared.commands.TimeInForce.TheVariants.{Day}
use Rattle.venue_model.specs.declared.commands.NewOrderSingle.{NewOrderSingle}
use Rattle.venue_model.specs.declared.commands.OrderCancelRequest.{OrderCancelRequest}
use Rattle.venue_model.specs.declared.commands.OrderCancelReplaceRequest.{OrderCancelReplaceRequest}
use Rattle.venue_model.specs.declared.commands.Command.{Command}
use Rattle.venue_model.specs.declared.commands.Command.TheVariants.{New, Cancel, Replace, Malformed, Void}
use Rattle.venue_model.specs.declared.outputs.Cause.{Cause}
use Rattle.venue_model.specs.declared.outputs.OrdRejReason.{OrdRejReason}
use Rattle.venue_model.specs.declared.outputs.OrdRejReason.TheVariants.{DuplicateOrder}
use Rattle.venue_model.specs.declared.outputs.CxlRejReason.{CxlRejReason}
use Rattle.venue_model.specs.declared.outputs.CxlRejReason.TheVariants.{BrokerOption, DuplicateClOrdId}
use Rattle.venue_model.specs.Orders.{meets, same_side}
use Rattle.venue_model.specs.Match.{matched}
use Rattle.venue_model.specs.Requests.{Limits, Symbols, State, is_day, greatest_of, accepted, new_refusal, new_answered}
use Rattle.venue_model.specs.Requests.{terms_of}
use Rattle.venue_model.specs.Requests.{entering, is_named, named, others, unfit, cancel_refusal, cancel_answered}
use Rattle.venue_model.specs.Requests.{order_canceled, replace_fits, replace_refusal, replace_answered, keeps_place}
use Rattle.venue_model.specs.Requests.{amended_in_place, restamped, amended, order_replaced}
use Rattle.venue_model.specs.Step.{Request, cause, obey, step, empty, state_from, state, requests_from}
use Rattle.book.specs.Histories.{reads_at, requests_of, state_of}
use Rattle.venue_model.specs.History.{Message, IsMessage}
use Rattle.book.specs.Standing.{Rising}
use Rattle.book.specs.Laws.{IsFromGateway, Pairwise, RestBeside, CanRest, IsOrderly, IsUncrossed}
use Rattle.book.proofs.Lists.{each-map, each-filter}
use Rattle.venue_model.specs.ReplacedLaws.{either_way}
use Rattle.book.proofs.LawPairs.{each-both, each-mapped, pairs-filter, pairs-map}
use Rattle.book.proofs.LawCrossed.{ComesBehind, CanCome, matched-pairs, matched-each, uncrossed, rising-pairs}

-- NAMES

different : (a b : ℕ) → a < b → nat_eq a b ≡ false
different a b h = grind (arith, nat_tests)

-- a name not above the client's greatest isn't one above it
apart-name : (greatest : List ℕ) (client name c m : ℕ) → slice_index greatest (client - 1) < name
    → m ≤ slice_index greatest (c - 1) →
    (nat_eq c client && nat_eq m name) ≡ false
apart-name greatest client name c m above within = elim (nat_eq c client) as (λ t. nat_eq c client ≡ t
    → (t && nat_eq m name) ≡ false) [
      | true ↦ λ h. let known = subst (λ k. m ≤ slice_index greatest (k - 1)) (eqb-true c client h) within in
          different m name (omega (arith, known, above))
      | false ↦ λ h. refl
    ] refl

mirrored : (a b c d : ℕ) → (nat_eq a b && nat_eq c d) ≡ false → (nat_eq b a && nat_eq d c) ≡ false
mirrored a b c d h = grind (arith, nat_tests)

one-name : (a b c d client name : ℕ) → (nat_eq a client && nat_eq b name) ≡ true
    → (nat_eq c client && nat_eq d name) ≡ true → (nat_eq c a && nat_eq d b) ≡ true
one-name a b c d client name h k = grind (arith, nat_tests)

its-client : (client name : ℕ) (o : Order) → is_named client name o ≡ true → o.client ≡ client
its-client client name o h = grind (arith, nat_tests)

unequal : (a b : ℕ) → nat_eq a b ≡ false → a ≡ b → ⊥
unequal a b h e = grind (arith, nat_tests)

-- a client's greatest name, when it has grown
module _ (sequence : ℕ) (greatest : List ℕ) (client name : ℕ) (from : 1 ≤ client) (to : client ≤ 8)
    (clients : length greatest ≡ 8)
    (above : slice_index greatest (client - 1) < name) where
  abbrev grown : List ℕ
  grown = slice_set greatest (client - 1) name

  its-greatest : slice_index grown (client - 1) ≡ name
  its-greatest = get_or-set_same greatest (client - 1) name 0 (omega (arith, from, to, clients))

  no-less : (c : ℕ) → 1 ≤ c → slice_index greatest (c - 1) ≤ slice_index grown (c - 1)
  no-less c one = elim (nat_eq c client) as (λ t. nat_eq c client ≡ t
      → slice_index greatest (c - 1) ≤ slice_index grown (c - 1)) [
        | true ↦ λ h. subst (λ k. slice_index greatest (k - 1) ≤ slice_index grown (k - 1)) (sym (eqb-true c client h))
            (omega (arith, its-greatest, above))
        | false ↦ λ h. let same = get_or-set_other greatest (client - 1) (c - 1) name 0 (another c one h) in
            omega (arith, same)
      ] refl
    where
      another : (k : ℕ) → 1 ≤ k → nat_eq k client ≡ false → (k - 1 ≡ client - 1 → ⊥)
      another k one h same = unequal k client h (omega (arith, same, one, from))

  -- what could rest still can, after the command
  still-rests : (x : Order) → CanRest sequence greatest x → CanRest (sequence + 1) grown x
  still-rests x can = record {
    before = let h = can.before in omega (arith, h);
    from = can.from;
    to = can.to;
    name = let h = can.name in let more = no-less x.client can.from in omega (arith, h, more);
    live = can.live;
  }

  -- an order of the new name comes in behind those that rest
  comes-behind : (i x : Order) → i.stamp ≡ sequence → i.client ≡ client → i.cl_ord_id ≡ name
      → CanRest sequence greatest x → ComesBehind i x
  comes-behind i x stamp its_client its_name can = record {
    earlier = let h = can.before in omega (arith, h, stamp);
    apart = rw (its_client, its_name)
        (mirrored x.client client x.cl_ord_id name
        (apart-name greatest client name x.client x.cl_ord_id above can.name));
  }

  can-come : (i : Order) → i.stamp ≡ sequence → i.client ≡ client → i.cl_ord_id ≡ name → CanCome (sequence + 1) grown i
  can-come i stamp its_client its_name = record {
    before = omega (arith, stamp);
    from = omega (arith, its_client, from);
    to = omega (arith, its_client, to);
    name = rw (its_client, its_name) (omega (arith, its-greatest));
  }

  -- an order of that name came in
  matched-orderly : (t : TimeInForce) (i : Order) (orders : List Order) → i.stamp ≡ sequence → i.client ≡ client
      → i.cl_ord_id ≡ name →
      Pairwise RestBeside orders → AllByRecursion (CanRest sequence greatest) orders →
      IsOrderly (sequence + 1) (record { orders = matched t i orders; greatest = grown })
  matched-orderly t i orders stamp its_client its_name pairs each = record {
    pairs = matched-pairs i orders pairs t
        (each-map (CanRest sequence greatest) (ComesBehind i) (λ x can. comes-behind i x stamp its_client its_name can)
        orders each);
    each = matched-each (sequence + 1) grown i orders
        (each-map (CanRest sequence greatest) (CanRest (sequence + 1) grown) still-rests orders each) t
        (can-come i stamp its_client its_name);
    clients = length-set greatest (client - 1) name ∙ clients;
  }

-- REFUSALS

more-than : (n most : ℕ) → nat_le n most ≡ false → most < n
more-than n most h = grind (arith, nat_tests)

-- where nothing refuses, the first test didn't
pub not-first : {X : Type 0} (test : Bool) (reason : X) (more : Option X) → (if test then Some reason else more) ≡ None
    → test ≡ false
not-first true reason more none = cc
not-first false reason more none = refl

pub not-second : {X : Type 0} (test : Bool) (reason : X) (more : Option X) → (if test then Some reason else more) ≡ None
    → more ≡ None
not-second true reason more none = cc
not-second false reason more none = none

pub fit-one : (fits : Bool) → (if fits then None else Some BrokerOption) ≡ None → fits ≡ true
fit-one true none = refl
fit-one false none = cc

same-price : (r : OrderCancelReplaceRequest) (o : Order) → keeps_place r o ≡ true → r.price ≡ o.price
same-price r o h = grind (arith, nat_tests)

last : (a b c d : Bool) → (a && b && c && d) ≡ true → d ≡ true
last true true true d h = h
last false b c d h = cc
last true false c d h = cc
last true true false d h = cc

more-left : (n m : ℕ) → not (nat_le n m) ≡ true → m < n
more-left n m h = grind (arith, nat_tests)

pub something-left : (r : OrderCancelReplaceRequest) (o : Order) → replace_fits r o ≡ true → o.cum < r.quantity
something-left r o h = more-left r.quantity o.cum
    (last (bytes_eq r.symbol o.symbol) (same_side r.side o.side) (is_day r.time_in_force)
    (not (nat_le r.quantity o.cum)) h)

-- nothing changed
module _ (sequence : ℕ) (s : State) (orderly : IsOrderly sequence s) where
  unchanged : IsOrderly (sequence + 1) s
  unchanged = record {
    pairs = orderly.pairs;
    each = each-map (CanRest sequence s.greatest) (CanRest (sequence + 1) s.greatest)
        (λ x can. record {
          before = (let h = can.before in omega (arith, h));
          from = can.from;
          to = can.to;
          name = can.name;
          live = can.live;
        }) s.orders orderly.each;
    clients = orderly.clients;
  }

  module _ (c : Cause) (stamp : c.sequence ≡ sequence) (from : 1 ≤ c.gateway) (to : c.gateway ≤ 8) where
    new-orderly : (n : NewOrderSingle) (refusal : Option OrdRejReason)
        → (refusal ≡ None → greatest_of s c.gateway < n.cl_ord_id) →
        IsOrderly (sequence + 1) (new_answered s c n refusal).state
    new-orderly n (Some reason) above = unchanged
    new-orderly n None above = matched-orderly sequence s.greatest c.gateway n.cl_ord_id from to orderly.clients
        (above refl)
        (terms_of n) (entering c n) s.orders stamp refl refl orderly.pairs orderly.each

    -- some orders leave
    fewer-orderly : (p : Order → Bool) (name : ℕ) → greatest_of s c.gateway < name
        → IsOrderly (sequence + 1) (accepted s c.gateway name (filter p s.orders))
    fewer-orderly p name above = record {
      pairs = pairs-filter RestBeside p s.orders orderly.pairs;
      each = each-filter (CanRest (sequence + 1) (slice_set s.greatest (c.gateway - 1) name)) p s.orders
          (each-map (CanRest sequence s.greatest) (CanRest (sequence + 1) (slice_set s.greatest (c.gateway - 1) name))
          (still-rests sequence s.greatest c.gateway name from to orderly.clients above) s.orders orderly.each);
      clients = length-set s.greatest (c.gateway - 1) name ∙ orderly.clients;
    }

    cancel-orderly : (r : OrderCancelRequest) (refusal : Option CxlRejReason)
        → (refusal ≡ None → greatest_of s c.gateway < r.cl_ord_id) →
        IsOrderly (sequence + 1) (cancel_answered s c r refusal).state
    cancel-orderly r (Some reason) above = unchanged
    cancel-orderly r None above = taken (named s c.gateway r.orig_cl_ord_id)
      where
        taken : (o : Option Order) → IsOrderly (sequence + 1) (order_canceled s c r o).state
        taken None = unchanged
        taken (Some o) = fewer-orderly (λ x. not (is_named c.gateway r.orig_cl_ord_id x)) r.cl_ord_id (above refl)

    -- A REPLACE

    module _ (r : OrderCancelReplaceRequest) (above : greatest_of s c.gateway < r.cl_ord_id) where
      abbrev named_so : Order → Bool
      named_so x = is_named c.gateway r.orig_cl_ord_id x

      abbrev after : List ℕ
      after = slice_set s.greatest (c.gateway - 1) r.cl_ord_id

      -- the order leaves the book and comes in again
      again-orderly : (o : Order) → o.client ≡ c.gateway →
          IsOrderly (sequence + 1) (accepted s c.gateway r.cl_ord_id
          (matched Day (restamped c (amended r o)) (others s c.gateway r.orig_cl_ord_id)))
      again-orderly o its = matched-orderly sequence s.greatest c.gateway r.cl_ord_id from to orderly.clients above Day
          (restamped c (amended r o)) (others s c.gateway r.orig_cl_ord_id) stamp its refl
          (pairs-filter RestBeside (λ x. not (named_so x)) s.orders orderly.pairs)
          (each-filter (CanRest sequence s.greatest) (λ x. not (named_so x)) s.orders orderly.each)

      -- the named order keeps its price and has something left
      record Stays (x : Order) : Type 0 where
        can : CanRest sequence s.greatest x
        price : named_so x ≡ true → r.price ≡ x.price
        live : named_so x ≡ true → x.cum < r.quantity

      abbrev changed : Order → Order
      changed x = if named_so x then amended r x else x

      changed-rests : (x : Order) → Stays x → CanRest (sequence + 1) after (changed x)
      changed-rests x stays = elim (named_so x) as (λ b. named_so x ≡ b
          → CanRest (sequence + 1) after (if b then amended r x else x)) [
            | true ↦ λ h. record {
              before = let k = stays.can.before in omega (arith, k);
              from = stays.can.from;
              to = stays.can.to;
              name = rw (its-client c.gateway r.orig_cl_ord_id x h)
                  (omega (arith, its-greatest sequence s.greatest c.gateway r.cl_ord_id from to orderly.clients above));
              live = stays.live h;
            }
            | false ↦ λ h. still-rests sequence s.greatest c.gateway r.cl_ord_id from to orderly.clients above x
                stays.can
          ] refl

      -- the new name is no other order's
      new-name : (a b : Order) → named_so a ≡ true → CanRest sequence s.greatest b
          → (nat_eq b.client a.client && nat_eq b.cl_ord_id r.cl_ord_id) ≡ false
      new-name a b h can = apart-name s.greatest a.client r.cl_ord_id b.client b.cl_ord_id
          (subst (λ k. slice_index s.greatest (k - 1) < r.cl_ord_id) (sym (its-client c.gateway r.orig_cl_ord_id a h))
          above) can.name

      changed-beside : (a b : Order) → Stays a → Stays b → RestBeside a b → RestBeside (changed a) (changed b)
      changed-beside a b stays_a stays_b beside = elim (named_so a) as
          (λ t. named_so a ≡ t → RestBeside (if t then amended r a else a) (changed b)) [
            | true ↦ λ h. elim (named_so b) as (λ t. named_so b ≡ t
                → RestBeside (amended r a) (if t then amended r b else b)) [
                  | true ↦ λ k.
                      let same = one-name a.client a.cl_ord_id b.client b.cl_ord_id c.gateway r.orig_cl_ord_id h k in
                      let never : true ≡ false = sym same ∙ beside.apart in cc
                  | false ↦ λ k. record {
                    earlier = beside.earlier;
                    apart = new-name a b h stays_b.can;
                    uncrossed = ap (λ p. bytes_eq a.symbol b.symbol && meets a.side p b.side b.price) (stays_a.price h)
                        ∙ beside.uncrossed;
                  }
                ] refl
            | false ↦ λ h. elim (named_so b) as (λ t. named_so b ≡ t → RestBeside a (if t then amended r b else b)) [
              | true ↦ λ k. record {
                earlier = beside.earlier;
                apart = mirrored a.client b.client a.cl_ord_id r.cl_ord_id (new-name b a k stays_a.can);
                uncrossed = ap (λ p. bytes_eq a.symbol b.symbol && meets a.side a.price b.side p) (stays_b.price k)
                    ∙ beside.uncrossed;
              }
              | false ↦ λ k. beside
            ] refl
          ] refl

      -- the order stays where it is
      in_place-orderly : AllByRecursion Stays s.orders → IsOrderly (sequence + 1)
          (accepted s c.gateway r.cl_ord_id (amended_in_place s c.gateway r))
      in_place-orderly stays = record {
        pairs = pairs-map RestBeside Stays changed changed-beside s.orders stays orderly.pairs;
        each = each-mapped Stays (CanRest (sequence + 1) after) changed changed-rests s.orders stays;
        clients = length-set s.greatest (c.gateway - 1) r.cl_ord_id ∙ orderly.clients;
      }

      -- what a search has found is the only order of that name
      only-one : (xs : List Order) (o : Order) → find named_so xs ≡ Some o → Pairwise RestBeside xs
          → AllByRecursion (λ x. named_so x ≡ true → x ≡ o) xs
      only-one [] o found pairs = tt
      only-one (x ∷ xs) o found pairs = elim (named_so x) as
          (λ t. named_so x ≡ t → (if t then Some x else find named_so xs) ≡ Some o
          → (t ≡ true → x ≡ o) × AllByRecursion (λ y. named_so y ≡ true → y ≡ o) xs) [
            | true ↦ λ h is. (
              (λ k. cc),
              each-map (RestBeside x) (λ y. named_so y ≡ true → y ≡ o)
                  (λ y beside k.
                  let never : true ≡ false =
                  sym (one-name x.client x.cl_ord_id y.client y.cl_ord_id c.gateway r.orig_cl_ord_id h k)
                  ∙ beside.apart in
                  cc) xs pairs.0,
            )
            | false ↦ λ h is. ((λ k. cc), only-one xs o is pairs.1)
          ] refl found

      -- the one that was found is named so
      found-named : (xs : List Order) (o : Order) → find named_so xs ≡ Some o → named_so o ≡ true
      found-named [] o found = cc
      found-named (x ∷ xs) o found = elim (named_so x) as (λ t. named_so x ≡ t
          → (if t then Some x else find named_so xs) ≡ Some o → named_so o ≡ true) [
            | true ↦ λ h is. let same : x ≡ o = cc in ap named_so (sym same) ∙ h
            | false ↦ λ h is. found-named xs o is
          ] refl found

      module _ (o : Order) (found : named s c.gateway r.orig_cl_ord_id ≡ Some o) (fits : replace_fits r o ≡ true) where
        stays : keeps_place r o ≡ true → AllByRecursion Stays s.orders
        stays keeps = each-map (λ x. CanRest sequence s.greatest x × (named_so x ≡ true → x ≡ o)) Stays
            (λ x h. record {
              can = h.0;
              price = λ k. same-price r o keeps ∙ ap (λ (y : Order). y.price) (sym (h.1 k));
              live = λ k. subst (λ (y : Order). y.cum < r.quantity) (sym (h.1 k)) (something-left r o fits);
            }) s.orders (each-both (CanRest sequence s.greatest) (λ x. named_so x ≡ true → x ≡ o) s.orders orderly.each
            (only-one s.orders o found orderly.pairs))

        replaced : IsOrderly (sequence + 1) (order_replaced s c r (Some o)).state
        replaced = either_way s c r o (λ next. IsOrderly (sequence + 1) next.state)
            (λ keeps. in_place-orderly (stays keeps))
            (again-orderly o (its-client c.gateway r.orig_cl_ord_id o (found-named s.orders o found)))

    replace-orderly : (r : OrderCancelReplaceRequest) (refusal : Option CxlRejReason)
        → (refusal ≡ None → greatest_of s c.gateway < r.cl_ord_id) →
        (refusal ≡ None → unfit (replace_fits r) (named s c.gateway r.orig_cl_ord_id) ≡ None)
        → IsOrderly (sequence + 1) (replace_answered s c r refusal).state
    replace-orderly r (Some reason) above fits = unchanged
    replace-orderly r None above fits = by (named s c.gateway r.orig_cl_ord_id) refl (fits refl)
      where
        by : (o : Option Order) → named s c.gateway r.orig_cl_ord_id ≡ o → unfit (replace_fits r) o ≡ None
            → IsOrderly (sequence + 1) (order_replaced s c r o).state
        by None found fit = unchanged
        by (Some o) found fit = replaced r (above refl) o found (fit-one (replace_fits r o) fit)

-- ANY HISTORY

pub step-orderly : (symbols : Symbols) (sequence : ℕ) (s : State) (r : Request) → IsFromGateway r
    → IsOrderly sequence s →
    IsOrderly (sequence + 1) (step symbols s sequence r).state
step-orderly symbols sequence s r gateway orderly = obeyed r.command
  where
    obeyed : (command : Command) → IsOrderly (sequence + 1) (obey symbols s sequence r.gateway command).state
    obeyed (New time n) = new-orderly sequence s orderly (cause r.gateway sequence time) refl gateway.from gateway.to n
        (new_refusal symbols s r.gateway n)
        (λ none. more-than n.cl_ord_id (greatest_of s r.gateway)
        (not-first (nat_le n.cl_ord_id (greatest_of s r.gateway)) DuplicateOrder _ none))
    obeyed (Cancel time q) = cancel-orderly sequence s orderly (cause r.gateway sequence time) refl gateway.from
        gateway.to q (cancel_refusal s r.gateway q)
        (λ none. more-than q.cl_ord_id (greatest_of s r.gateway)
        (not-first (nat_le q.cl_ord_id (greatest_of s r.gateway)) DuplicateClOrdId _ none))
    obeyed (Replace time q) = replace-orderly sequence s orderly (cause r.gateway sequence time) refl gateway.from
        gateway.to q (replace_refusal s r.gateway q)
        (λ none. more-than q.cl_ord_id (greatest_of s r.gateway)
        (not-first (nat_le q.cl_ord_id (greatest_of s r.gateway)) DuplicateClOrdId _ none))
        (λ none. not-second (nat_le q.cl_ord_id (greatest_of s r.gateway)) DuplicateClOrdId _ none)
    obeyed (Malformed time fault) = unchanged sequence s orderly
    obeyed Void = unchanged sequence s orderly

from-orderly : (symbols : Symbols) (sequence : ℕ) (s : State) (rs : List Request) → AllByRecursion IsFromGateway rs
    → IsOrderly sequence s →
    IsOrderly (sequence + length rs) (state_from symbols sequence s rs)
from-orderly symbols sequence s [] all orderly = subst (λ n. IsOrderly n s) (omega arith) orderly
from-orderly symbols sequence s (r ∷ rs) all orderly =
    subst (λ n. IsOrderly n (state_from symbols (sequence + 1) (step symbols s sequence r).state rs)) (omega arith)
    (from-orderly symbols (sequence + 1) (step symbols s sequence r).state rs all.1
    (step-orderly symbols sequence s r all.0 orderly))

-- every state that commands of the eight gateways lead to is orderly
pub state-orderly : (symbols : Symbols) (rs : List Request) → AllByRecursion IsFromGateway rs
    → IsOrderly (length rs) (state symbols rs)
state-orderly symbols rs all = subst (λ n. IsOrderly n (state symbols rs)) (omega arith)
    (from-orderly symbols 0 empty rs all (record { pairs = tt; each = tt; clients = refl }))

-- and no resting order crosses another
pub state-uncrossed : (symbols : Symbols) (rs : List Request) → AllByRecursion IsFromGateway rs
    → IsUncrossed (state symbols rs).orders
state-uncrossed symbols rs all = let orderly = state-orderly symbols rs all in
    uncrossed (state symbols rs).orders orderly.pairs

pub state-rising : (symbols : Symbols) (rs : List Request) → AllByRecursion IsFromGateway rs
    → Rising (state symbols rs).orders
state-rising symbols rs all = let orderly = state-orderly symbols rs all in
    rising-pairs (state symbols rs).orders orderly.pairs

-- messages come through the eight gateways
pub from-gateways : (read : ℕ → Message → Command) (sequence : ℕ) (h : List Message) → AllByRecursion IsMessage h
    → AllByRecursion IsFromGateway (requests_from read sequence h)
from-gateways read sequence [] all = tt
from-gateways read sequence (m ∷ ms) all = (
  record { from = all.0.from; to = all.0.to },
  from-gateways read (sequence + 1) ms all.1,
)

pub history-uncrossed : (limits : Limits) (h : List Message) → AllByRecursion IsMessage h →
    IsUncrossed (state_of limits h).orders
history-uncrossed limits h all = state-uncrossed limits.symbols (requests_of limits h)
    (from-gateways (reads_at limits) 0 h all)
