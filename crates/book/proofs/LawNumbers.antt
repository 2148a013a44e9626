-- What rests after any history has numbers that are in range: those of messages are, a sequence gives an id, and a fill
-- costs no more than the greatest price for each piece.
use Rattle.std.proofs.Common.{◌≡◌, ℕ, zero, suc, ◌+◌, ◌*◌, ◌≤◌, true, false, not, nat_le, List, [], ◌∷◌, length, refl}
use Rattle.std.proofs.Common.{subst, arith, Option, Some, None}
use Rattle.std.proofs.Math.Nat.{mul-le-mul_left}
use Rattle.std.specs.Prelude.{if◌then◌else◌, slice_set, sum_by}
use Rattle.std.specs.List.{AllByRecursion, list_any}
use Rattle.std.specs.Str.{bytes_eq}
use Rattle.std.proofs.lemmas.List.Sums.{sum_by-cons}
use Rattle.venue_model.specs.declared.orders.Order.{Order}
use Rattle.venue_model.specs.declared.orders.Side.{Side}
use Rattle.venue_model.specs.declared.commands.OrdType.{OrdType}
use Rattle.venue_model.specs.declared.commands.OrdType.TheVariants.{Market, Limit}
use Rattle.venue_model.specs.declared.commands.TimeInForce.{TimeInForce}
use Rattle.venue_model.specs.declared.commands.TimeInForce.TheVariants.{Day, ImmediateOrCancel, FillOrKill}
use Rattle.venue_model.specs.declared.commands.NewOrderSingle.{NewOrderSingle}
use Rattle.venue_model.specs.declared.commands.OrderCancelRequest.{OrderCancelRequest}
use Rattle.venue_model.specs.declared.commands.OrderCancelReplaceRequest.{OrderCancelReplaceRequest}
use Rattle.venue_model.specs.declared.commands.Command.{Command}
use Rattle.venue_model.specs.declared.commands.Command.TheVariants.{New, Cancel, Replace, Malformed, Void}
use Rattle.venue_model.specs.declared.outputs.Cause.{Cause}
use Rattle.venue_model.specs.declared.outputs.OrdRejReason.{OrdRejReason}
use Rattle.venue_model.specs.declared.outputs.CxlRejReason.{CxlRejReason}
use Rattle.venue_model.specs.History.{History, Message}
use Rattle.venue_model.specs.Orders.{leaves, is_live, is_market, price_of, crosses}
use Rattle.venue_model.specs.Match.{crossing, fill, done, rest, live_alone, can_fill, matched}
use Rattle.venue_model.specs.ReplacedLaws.{either_way}
use Rattle.venue_model.specs.Requests.{Symbols, State, Limits, is_day, terms_of, accepted, new_refusal, new_answered}
use Rattle.venue_model.specs.Requests.{entering, is_named, named, others, cancel_refusal, cancel_answered}
use Rattle.venue_model.specs.Requests.{order_canceled, replace_refusal, replace_answered, restamped, amended}
use Rattle.venue_model.specs.Requests.{order_replaced}
use Rattle.venue_model.specs.Step.{Request, IsName, IsAmount, IsPriced, IsCommand, cause, obey, step, empty, state_from}
use Rattle.venue_model.specs.Step.{requests_from}
use Rattle.fix_orders.specs.RangeLaws.{reads_within}
use Rattle.book.specs.Histories.{reads_at, state_of}
use Rattle.book.proofs.Lists.{each-append, each-map, each-filter}
use Rattle.book.proofs.LawPairs.{each-mapped}
use Rattle.book.proofs.LawCrossed.{rest-keeps}
use Rattle.book.proofs.LawMarket.{found-each}
use Rattle.book.proofs.RequestLemmas.{known-new, limit-rests}

-- what messages say of an order, and the id that a command before this sequence has given it
pub record HasNumbers (symbols : Symbols) (sequence : ℕ) (o : Order) : Type 0 where
  pub id_from : 1 ≤ o.id
  pub id_to : o.id ≤ sequence
  pub name : IsName o.cl_ord_id
  pub symbol : list_any (bytes_eq o.symbol) symbols ≡ true
  pub limit : o.is_market ≡ false
  pub price : IsAmount o.price
  pub total : IsAmount o.total
  pub notional : o.notional ≤ o.cum * 1000000

-- a client's greatest ClOrdID, 0 before the first
abbrev pub IsGreatest : ℕ → Type 0
IsGreatest name = name ≤ 999999999999999

pub record AreNumbered (symbols : Symbols) (sequence : ℕ) (s : State) : Type 0 where
  pub each : AllByRecursion (HasNumbers symbols sequence) s.orders
  pub names : AllByRecursion IsGreatest s.greatest

-- A MATCH

-- fills at prices in range
money-most : (f : Order → ℕ) (xs : List Order) → AllByRecursion (λ o. o.price ≤ 1000000) xs →
    sum_by (λ o. f o * o.price) xs ≤ sum_by f xs * 1000000
money-most f [] all = omega arith
money-most f (x ∷ xs) all =
    let money = sum_by-cons (λ o. f o * o.price) x xs in
    let pieces = sum_by-cons f x xs in
    let one = mul-le-mul_left (f x) all.0 in
    let more = money-most f xs all.1 in
    omega (arith, money, pieces, one, more)

module _ (symbols : Symbols) (sequence : ℕ) where
  abbrev Each : List Order → Type 0
  Each orders = AllByRecursion (HasNumbers symbols sequence) orders

  -- the order at other sums of its fills
  counted-numbers : (o : Order) (cum notional : ℕ) → HasNumbers symbols sequence o → notional ≤ cum * 1000000 →
      HasNumbers symbols sequence (record o { cum = cum; notional = notional })
  counted-numbers o cum notional has most = record {
    id_from = has.id_from;
    id_to = has.id_to;
    name = has.name;
    symbol = has.symbol;
    limit = has.limit;
    price = has.price;
    total = has.total;
    notional = most;
  }

  module _ (i : Order) (orders : List Order) (all : Each orders) where
    rest-numbers : Each (rest i orders)
    rest-numbers = rest-keeps i orders (HasNumbers symbols sequence) (HasNumbers symbols sequence)
        (λ x n has live. counted-numbers x (x.cum + n) (x.notional + n * x.price) has
        (let before = has.notional in
        let one = mul-le-mul_left n has.price.1 in
        omega (arith, before, one))) all

    done-numbers : HasNumbers symbols sequence i → HasNumbers symbols sequence (done i orders)
    done-numbers has =
        let queue = crossing i orders in
        let f : Order → ℕ = fill (leaves i) queue in
        counted-numbers i (i.cum + sum_by f queue) (i.notional + sum_by (λ o. f o * o.price) queue) has
        (let before = has.notional in
        let more = money-most f queue (each-filter (λ o. o.price ≤ 1000000) (crosses i) orders
        (each-map (HasNumbers symbols sequence) (λ o. o.price ≤ 1000000) (λ o h. h.price.1) orders all)) in
        omega (arith, before, more))

    alone-numbers : (o : Order) → HasNumbers symbols sequence o → Each (live_alone o)
    alone-numbers o has = elim (is_live o) as (λ b. Each (if b then o ∷ [] else [])) [ true ↦ (has, tt) | false ↦ tt ]

    matched-numbers : (t : TimeInForce) → (is_day t ≡ true → HasNumbers symbols sequence i) → Each (matched t i orders)
    matched-numbers Day has = each-append (HasNumbers symbols sequence) (rest i orders) (live_alone (done i orders))
        rest-numbers (alone-numbers (done i orders) (done-numbers (has refl)))
    matched-numbers ImmediateOrCancel has = rest-numbers
    matched-numbers FillOrKill has = elim (can_fill i orders) as (λ b. Each (if b then rest i orders else orders))
        [ true ↦ rest-numbers | false ↦ all ]

-- ONE COMMAND

-- one more was accepted
set-names : (names : List ℕ) (k name : ℕ) → IsGreatest name → AllByRecursion IsGreatest names →
    AllByRecursion IsGreatest (slice_set names k name)
set-names [] k name most all = tt
set-names (n ∷ names) zero name most all = (most, all.1)
set-names (n ∷ names) (suc k) name most all = (all.0, set-names names k name most all.1)

-- a limit order's price is its own
limit-price : (side : Side) (ord_type : OrdType) → is_market ord_type ≡ false → IsPriced ord_type →
    IsAmount (price_of side ord_type)
limit-price side (Limit price) limit priced = priced
limit-price side Market limit priced = cc

module _ (symbols : Symbols) (s : State) (c : Cause) (before : AreNumbered symbols c.sequence s) where
  abbrev Numbered : Order → Type 0
  Numbered o = HasNumbers symbols (c.sequence + 1) o

  -- ids stay, and there is one sequence more
  all : AllByRecursion Numbered s.orders
  all = each-map (HasNumbers symbols c.sequence) Numbered (λ o has. record {
    id_from = has.id_from;
    id_to = let to = has.id_to in omega (arith, to);
    name = has.name;
    symbol = has.symbol;
    limit = has.limit;
    price = has.price;
    total = has.total;
    notional = has.notional;
  }) s.orders before.each

  unchanged : AreNumbered symbols (c.sequence + 1) s
  unchanged = record { each = all; names = before.names }

  accepted-numbers : (client name : ℕ) (orders : List Order) → IsName name → AllByRecursion Numbered orders →
      AreNumbered symbols (c.sequence + 1) (accepted s client name orders)
  accepted-numbers client name orders named each = record {
    each = each;
    names = set-names s.greatest _ name named.1 before.names;
  }

  new-numbers : (n : NewOrderSingle) (refusal : Option OrdRejReason) → IsCommand (New c.sending_time n) →
      (refusal ≡ None → list_any (bytes_eq n.symbol) symbols ≡ true) →
      AreNumbered symbols (c.sequence + 1) (new_answered s c n refusal).state
  new-numbers n (Some reason) is known = unchanged
  new-numbers n None is known = accepted-numbers c.gateway n.cl_ord_id _ is.0
      (matched-numbers symbols (c.sequence + 1) (entering c n) s.orders all (terms_of n) (λ day.
      let limit = limit-rests n day in
      record {
        id_from = omega arith;
        id_to = omega arith;
        name = is.0;
        symbol = known refl;
        limit = limit;
        price = limit-price n.side n.ord_type limit is.1;
        total = is.2;
        notional = omega arith;
      }))

  others-numbers : (client name : ℕ) → AllByRecursion Numbered (others s client name)
  others-numbers client name = each-filter Numbered (λ o. not (is_named client name o)) s.orders all

  cancel-numbers : (r : OrderCancelRequest) (refusal : Option CxlRejReason) → IsCommand (Cancel c.sending_time r) →
      AreNumbered symbols (c.sequence + 1) (cancel_answered s c r refusal).state
  cancel-numbers r (Some reason) is = unchanged
  cancel-numbers r None is = taken (named s c.gateway r.orig_cl_ord_id)
    where
      taken : (o : Option Order) → AreNumbered symbols (c.sequence + 1) (order_canceled s c r o).state
      taken None = unchanged
      taken (Some o) = accepted-numbers c.gateway r.cl_ord_id _ is.0 (others-numbers c.gateway r.orig_cl_ord_id)

  module _ (r : OrderCancelReplaceRequest) (is : IsCommand (Replace c.sending_time r)) where
    -- the request's name, price and total
    amended-numbers : (o : Order) (stamp : ℕ) → Numbered o → Numbered (record (amended r o) { stamp = stamp })
    amended-numbers o stamp has = record {
      id_from = has.id_from;
      id_to = has.id_to;
      name = is.0;
      symbol = has.symbol;
      limit = has.limit;
      price = is.2;
      total = is.3;
      notional = has.notional;
    }

    maybe-amended : (o : Order) → Numbered o →
        Numbered (if is_named c.gateway r.orig_cl_ord_id o then amended r o else o)
    maybe-amended o has = elim (is_named c.gateway r.orig_cl_ord_id o) as (λ b. Numbered (if b then amended r o else o))
        [ true ↦ amended-numbers o o.stamp has | false ↦ has ]

    replace-numbers : (refusal : Option CxlRejReason) →
        AreNumbered symbols (c.sequence + 1) (replace_answered s c r refusal).state
    replace-numbers (Some reason) = unchanged
    replace-numbers None = by (named s c.gateway r.orig_cl_ord_id) refl
      where
        by : (o : Option Order) → named s c.gateway r.orig_cl_ord_id ≡ o →
            AreNumbered symbols (c.sequence + 1) (order_replaced s c r o).state
        by None found = unchanged
        by (Some o) found = either_way s c r o (λ after. AreNumbered symbols (c.sequence + 1) after.state)
            (λ keeps. accepted-numbers c.gateway r.cl_ord_id _ is.0
            (each-mapped Numbered Numbered (λ x. if is_named c.gateway r.orig_cl_ord_id x then amended r x else x)
            maybe-amended s.orders all))
            (accepted-numbers c.gateway r.cl_ord_id _ is.0
            (matched-numbers symbols (c.sequence + 1) (restamped c (amended r o)) (others s c.gateway r.orig_cl_ord_id)
            (others-numbers c.gateway r.orig_cl_ord_id) Day
            (λ day. amended-numbers o c.sequence
            (found-each Numbered (is_named c.gateway r.orig_cl_ord_id) s.orders o all found))))

step-numbers : (symbols : Symbols) (sequence : ℕ) (s : State) (r : Request) → IsCommand r.command →
    AreNumbered symbols sequence s → AreNumbered symbols (sequence + 1) (step symbols s sequence r).state
step-numbers symbols sequence s r is before = obeyed r.command is
  where
    obeyed : (command : Command) → IsCommand command →
        AreNumbered symbols (sequence + 1) (obey symbols s sequence r.gateway command).state
    obeyed (New time n) is = new-numbers symbols s (cause r.gateway sequence time) before n
        (new_refusal symbols s r.gateway n) is (known-new symbols s r.gateway n)
    obeyed (Cancel time q) is = cancel-numbers symbols s (cause r.gateway sequence time) before q
        (cancel_refusal s r.gateway q) is
    obeyed (Replace time q) is = replace-numbers symbols s (cause r.gateway sequence time) before q is
        (replace_refusal s r.gateway q)
    obeyed (Malformed time fault) is = unchanged symbols s (cause r.gateway sequence time) before
    obeyed Void is = unchanged symbols s (cause r.gateway sequence 0) before

-- ANY HISTORY

from-numbers : (symbols : Symbols) (reads : ℕ → Message → Command) → ((n : ℕ) (m : Message) → IsCommand (reads n m)) →
    (sequence : ℕ) (s : State) (h : List Message) → AreNumbered symbols sequence s →
    AreNumbered symbols (sequence + length h) (state_from symbols sequence s (requests_from reads sequence h))
from-numbers symbols reads are sequence s [] before = subst (λ n. AreNumbered symbols n s) (omega arith) before
from-numbers symbols reads are sequence s (m ∷ h) before =
    let r : Request = record { gateway = m.gateway; command = reads sequence m } in
    let next : State = (step symbols s sequence r).state in
    subst (λ n. AreNumbered symbols n (state_from symbols (sequence + 1) next (requests_from reads (sequence + 1) h)))
    (omega arith)
    (from-numbers symbols reads are (sequence + 1) next h (step-numbers symbols sequence s r (are sequence m) before))

-- what rests after any history
pub history-numbers : (limits : Limits) (h : History) → AreNumbered limits.symbols (length h) (state_of limits h)
history-numbers limits h = subst (λ n. AreNumbered limits.symbols n (state_of limits h)) (omega arith)
    (from-numbers limits.symbols (reads_at limits) (λ n m. reads_within (nat_le limits.cut n) m.bytes) 0 empty h
    (record { each = tt; names = zeros }))
  where
    zeros : AllByRecursion IsGreatest empty.greatest
    zeros = let no : IsGreatest 0 = omega arith in (no, (no, (no, (no, (no, (no, (no, (no, tt))))))))
