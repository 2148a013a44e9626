-- A longer history only adds outputs, and how many it adds at most.
use Rattle.std.proofs.Common.{◌≡◌, ℕ, suc, ◌+◌, ◌*◌, ◌<◌, ◌≤◌, Bool, true, false, not, ◌&&◌, nat_lt, nat_le, List, [], ◌∷◌, ◌++◌, length, map, refl, ap, sym, ◌∙◌, arith, append_assoc, append-nil, length-append, Option, Some, None}
use Rattle.std.specs.Prelude.{filter, find, if◌then◌else◌}
use Rattle.std.specs.List.{flat_map, list_any}
use Rattle.std.specs.Str.{bytes_eq}
use Rattle.std.proofs.lemmas.List.{length-map}
use Rattle.std.proofs.lemmas.Bool.Decides.{nat_tests}
use Rattle.venue_model.specs.declared.orders.Order.{Order}
use Rattle.venue_model.specs.declared.commands.TimeInForce.{TimeInForce}
use Rattle.venue_model.specs.declared.commands.TimeInForce.TheVariants.{Day, ImmediateOrCancel, FillOrKill}
use Rattle.venue_model.specs.declared.commands.NewOrderSingle.{NewOrderSingle}
use Rattle.venue_model.specs.declared.commands.OrderCancelRequest.{OrderCancelRequest}
use Rattle.venue_model.specs.declared.commands.OrderCancelReplaceRequest.{OrderCancelReplaceRequest}
use Rattle.venue_model.specs.declared.commands.Command.{Command}
use Rattle.venue_model.specs.declared.commands.Command.TheVariants.{New, Cancel, Replace, Malformed, Void}
use Rattle.venue_model.specs.declared.outputs.Cause.{Cause}
use Rattle.venue_model.specs.declared.outputs.OrdRejReason.{OrdRejReason}
use Rattle.venue_model.specs.declared.outputs.OrdRejReason.TheVariants.{BookFull, UnknownSymbol, DuplicateOrder}
use Rattle.venue_model.specs.declared.outputs.CxlRejReason.{CxlRejReason}
use Rattle.venue_model.specs.declared.outputs.ExecType.TheVariants as exec_type
use Rattle.venue_model.specs.declared.outputs.Report.TheVariants.{SessionReject}
use Rattle.venue_model.specs.declared.outputs.Output.{Output}
use Rattle.venue_model.specs.History.{Message}
use Rattle.venue_model.specs.Orders.{leaves, is_live, crosses, ahead}
use Rattle.venue_model.specs.Match.{crossing, fill, done, rest, settled, output, exec, insert_by_priority, by_priority, filled_orders, trade, trades, can_fill, live_alone, matched, canceled_rest, match_outputs}
use Rattle.venue_model.specs.Requests.{Symbols, State, Stepped, most_resting, is_day, new_refusal, new_answered, entering, greatest_of, accepted, is_named, named, others, cancel_refusal, cancel_reject, cancel_answered, order_canceled, replace_refusal, replace_reject, replace_answered, restamped, amended, order_replaced, terms_of}
use Rattle.venue_model.specs.Step.{Request, cause, obey, step, empty, state_from, outputs_from, state, outputs, requests_from, requests}
use Rattle.venue_model.specs.ReplacedLaws.{either_way}

-- HISTORIES

-- a command's sequence is the number of those before it
pub state_from-more : (symbols : Symbols) (sequence : ℕ) (s : State) (rs more : List Request) →
    state_from symbols sequence s (rs ++ more) ≡ state_from symbols (sequence + length rs) (state_from symbols sequence s rs) more
state_from-more symbols sequence s [] more = ap (λ n. state_from symbols n s more) (omega arith)
state_from-more symbols sequence s (r ∷ rs) more =
    let next : State = (step symbols s sequence r).state in
    state_from-more symbols (sequence + 1) next rs more
    ∙ ap (λ n. state_from symbols n (state_from symbols (sequence + 1) next rs) more) (omega arith)

pub outputs_from-more : (symbols : Symbols) (sequence : ℕ) (s : State) (rs more : List Request) →
    outputs_from symbols sequence s (rs ++ more)
    ≡ outputs_from symbols sequence s rs ++ outputs_from symbols (sequence + length rs) (state_from symbols sequence s rs) more
outputs_from-more symbols sequence s [] more = ap (λ n. outputs_from symbols n s more) (omega arith)
outputs_from-more symbols sequence s (r ∷ rs) more =
    let next : State = (step symbols s sequence r).state in
    let told : List Output = (step symbols s sequence r).outputs in
    ap (λ os. told ++ os) (outputs_from-more symbols (sequence + 1) next rs more)
    ∙ sym (append_assoc told (outputs_from symbols (sequence + 1) next rs) (outputs_from symbols (sequence + 1 + length rs) (state_from symbols (sequence + 1) next rs) more))
    ∙ ap (λ n. (told ++ outputs_from symbols (sequence + 1) next rs) ++ outputs_from symbols n (state_from symbols (sequence + 1) next rs) more) (omega arith)

pub state-more : (symbols : Symbols) (rs : List Request) (r : Request) →
    state symbols (rs ++ r ∷ []) ≡ (step symbols (state symbols rs) (length rs) r).state
state-more symbols rs r = state_from-more symbols 0 empty rs (r ∷ [])
    ∙ ap (λ n. (step symbols (state symbols rs) n r).state) (omega arith)

pub outputs-more : (symbols : Symbols) (rs more : List Request) →
    outputs symbols (rs ++ more) ≡ outputs symbols rs ++ outputs_from symbols (length rs) (state symbols rs) more
outputs-more symbols rs more = outputs_from-more symbols 0 empty rs more
    ∙ ap (λ n. outputs symbols rs ++ outputs_from symbols n (state symbols rs) more) (omega arith)

pub outputs-one : (symbols : Symbols) (rs : List Request) (r : Request) →
    outputs symbols (rs ++ r ∷ []) ≡ outputs symbols rs ++ (step symbols (state symbols rs) (length rs) r).outputs
outputs-one symbols rs r = outputs-more symbols rs (r ∷ [])
    ∙ ap (λ os. outputs symbols rs ++ os) (append-nil (step symbols (state symbols rs) (length rs) r).outputs)

pub requests_from-more : (read : ℕ → Message → Command) (sequence : ℕ) (h : List Message) (e : Message) →
    requests_from read sequence (h ++ e ∷ [])
    ≡ requests_from read sequence h ++ (record { gateway = e.gateway; command = read (sequence + length h) e }) ∷ []
requests_from-more read sequence [] e =
    ap (λ n. (let r : Request = record { gateway = e.gateway; command = read n e } in r) ∷ []) (omega arith)
requests_from-more read sequence (m ∷ ms) e =
    let one : ℕ → List Request = λ n. (record { gateway = e.gateway; command = read n e }) ∷ [] in
    ap (λ rs. (let r : Request = record { gateway = m.gateway; command = read sequence m } in r) ∷ rs)
    (requests_from-more read (sequence + 1) ms e ∙ ap (λ n. requests_from read (sequence + 1) ms ++ one n) (omega arith))

-- LENGTHS

module _ {X : Type 0} where
  pub shorter-filter : (p : X → Bool) (xs : List X) → length (filter p xs) ≤ length xs
  shorter-filter p [] = omega arith
  shorter-filter p (x ∷ xs) = elim (p x) as (λ b. length (if b then x ∷ filter p xs else filter p xs) ≤ suc (length xs))
      [ true ↦ omega (arith, shorter-filter p xs) | false ↦ omega (arith, shorter-filter p xs) ]

  -- where one is found, the others are fewer
  pub fewer-others : (p : X → Bool) (xs : List X) (x : X) → find p xs ≡ Some x → length (filter (λ y. not (p y)) xs) < length xs
  fewer-others p [] x found = cc
  fewer-others p (y ∷ ys) x found = elim (p y) as
      (λ b. (if b then Some y else find p ys) ≡ Some x → length (if not b then y ∷ filter (λ y. not (p y)) ys else filter (λ y. not (p y)) ys) < suc (length ys)) [
        | true ↦ λ h. omega (arith, shorter-filter (λ y. not (p y)) ys)
        | false ↦ λ h. omega (arith, fewer-others p ys x h)
      ] found

length-insert : (o : Order) (xs : List Order) → length (insert_by_priority o xs) ≡ suc (length xs)
length-insert o [] = refl
length-insert o (x ∷ xs) = elim (ahead o x) as (λ b. length (if b then o ∷ x ∷ xs else x ∷ insert_by_priority o xs) ≡ suc (suc (length xs)))
    [ true ↦ refl | false ↦ ap suc (length-insert o xs) ]

pub length-by_priority : (xs : List Order) → length (by_priority xs) ≡ length xs
length-by_priority [] = refl
length-by_priority (x ∷ xs) = length-insert x (by_priority xs) ∙ ap suc (length-by_priority xs)

-- two reports a fill
length-trades : (c : Cause) (i : Order) (queue : List Order) (xs : List Order) → length (flat_map (trade c i queue) xs) ≡ 2 * length xs
length-trades c i queue [] = refl
length-trades c i queue (x ∷ xs) = let more = length-trades c i queue xs in omega (arith, more)

pub few-trades : (c : Cause) (i : Order) (orders : List Order) → length (trades c i orders) ≤ 2 * length orders
few-trades c i orders =
    let queue : List Order = crossing i orders in
    let gets : Order → Bool = λ o. nat_lt 0 (fill (leaves i) queue o) in
    let told = length-trades c i queue (filled_orders (leaves i) queue) in
    let ranked = length-by_priority (filter gets queue) in
    let some = shorter-filter gets queue in
    let crossed = shorter-filter (crosses i) orders in
    omega (arith, told, ranked, some, crossed)

few-alone : (o : Order) → length (live_alone o) ≤ 1
few-alone o = elim (is_live o) as (λ b. length (if b then o ∷ [] else []) ≤ 1) [ true ↦ omega arith | false ↦ omega arith ]

few-canceled : (c : Cause) (o : Order) → length (canceled_rest c o) ≤ 1
few-canceled c o =
    let same = length-map (live_alone o) (exec c (exec_type.Canceled None)) in
    let few = few-alone o in
    omega (arith, same, few)

few-rest : (i : Order) (orders : List Order) → length (rest i orders) ≤ length orders
few-rest i orders =
    let live = shorter-filter is_live (map (settled i (crossing i orders)) orders) in
    let same = length-map orders (settled i (crossing i orders)) in
    omega (arith, live, same)

-- at most one report more than two for each order
pub few-told : (c : Cause) (terms : TimeInForce) (i : Order) (orders : List Order) →
    length (match_outputs c terms i orders) ≤ suc (2 * length orders)
few-told c Day i orders = let told = few-trades c i orders in omega (arith, told)
few-told c ImmediateOrCancel i orders =
    let told = few-trades c i orders in
    let canceled = few-canceled c (done i orders) in
    let both = length-append (trades c i orders) (canceled_rest c (done i orders)) in
    omega (arith, told, canceled, both)
few-told c FillOrKill i orders =
    let told = few-trades c i orders in
    let canceled = few-canceled c i in
    elim (can_fill i orders) as (λ b. length (if b then trades c i orders else canceled_rest c i) ≤ suc (2 * length orders))
    [ true ↦ omega (arith, told) | false ↦ omega (arith, canceled) ]

-- none rests that didn't, but what is left of a day order
pub few-matched : (terms : TimeInForce) (i : Order) (orders : List Order) (most : ℕ) → length orders ≤ most →
    (is_day terms ≡ true → length orders < most) → length (matched terms i orders) ≤ most
few-matched Day i orders most few room =
    let left = few-rest i orders in
    let one = few-alone (done i orders) in
    let both = length-append (rest i orders) (live_alone (done i orders)) in
    let less : length orders < most = room refl in
    omega (arith, left, one, both, less)
few-matched ImmediateOrCancel i orders most few room = let left = few-rest i orders in omega (arith, left, few)
few-matched FillOrKill i orders most few room =
    let left = few-rest i orders in
    elim (can_fill i orders) as (λ b. length (if b then rest i orders else orders) ≤ most)
    [ true ↦ omega (arith, left, few) | false ↦ few ]

-- ONE COMMAND

-- at most this many orders rest behind a command, and it has at most this many outputs
pub record Few (most many : ℕ) (stepped : Stepped) : Type 0 where
  pub resting : length stepped.state.orders ≤ most
  pub told : length stepped.outputs ≤ many

few-answered : (most many : ℕ) (s : State) (o : Output) → length s.orders ≤ most → 1 ≤ many → Few most many (record { state = s; outputs = o ∷ [] })
few-answered most many s o few one = record { resting = few; told = omega (arith, one) }

-- a day order that isn't refused has a place
not-full : (duplicate unknown day full : Bool) →
    (if duplicate then Some DuplicateOrder else (if unknown then Some UnknownSymbol else (if day && full then Some BookFull else None))) ≡ None →
    day ≡ true → full ≡ false
not-full true unknown day full accepted is_day = cc
not-full false true day full accepted is_day = cc
not-full false false true true accepted is_day = cc
not-full false false true false accepted is_day = refl
not-full false false false full accepted is_day = cc

below : (n most : ℕ) → nat_le most n ≡ false → n < most
below n most h = grind (arith, nat_tests)

has-place : (symbols : Symbols) (s : State) (client : ℕ) (n : NewOrderSingle) → new_refusal symbols s client n ≡ None →
    is_day (terms_of n) ≡ true → length s.orders < most_resting
has-place symbols s client n accepted day = below (length s.orders) most_resting
    (not-full (nat_le n.cl_ord_id (greatest_of s client)) (not (list_any (bytes_eq n.symbol) symbols)) (is_day (terms_of n))
    (nat_le most_resting (length s.orders)) accepted day)

module _ (s : State) (c : Cause) (few : length s.orders ≤ most_resting) where
  few-new : (n : NewOrderSingle) (refusal : Option OrdRejReason) → (refusal ≡ None → is_day (terms_of n) ≡ true → length s.orders < most_resting) →
      Few most_resting 8194 (new_answered s c n refusal)
  few-new n (Some reason) room = few-answered most_resting 8194 s (exec c (exec_type.Rejected reason) (entering c n)) few (omega arith)
  few-new n None room = record {
    resting = few-matched (terms_of n) (entering c n) s.orders most_resting few (room refl);
    told = let told = few-told c (terms_of n) (entering c n) s.orders in omega (arith, told, few);
  }

  few-cancel : (r : OrderCancelRequest) (refusal : Option CxlRejReason) → Few most_resting 8194 (cancel_answered s c r refusal)
  few-cancel r (Some reason) = few-answered most_resting 8194 s (cancel_reject s c r reason) few (omega arith)
  few-cancel r None = few-taken (named s c.gateway r.orig_cl_ord_id)
    where
      few-taken : (o : Option Order) → Few most_resting 8194 (order_canceled s c r o)
      few-taken None = record { resting = few; told = omega arith }
      few-taken (Some o) = record {
        resting = let fewer = shorter-filter (λ x. not (is_named c.gateway r.orig_cl_ord_id x)) s.orders in omega (arith, fewer, few);
        told = omega arith;
      }

  few-replace : (r : OrderCancelReplaceRequest) (refusal : Option CxlRejReason) → Few most_resting 8194 (replace_answered s c r refusal)
  few-replace r (Some reason) = few-answered most_resting 8194 s (replace_reject s c r reason) few (omega arith)
  few-replace r None = few-amended (named s c.gateway r.orig_cl_ord_id) refl
    where
      few-amended : (o : Option Order) → named s c.gateway r.orig_cl_ord_id ≡ o → Few most_resting 8194 (order_replaced s c r o)
      few-amended None found = record { resting = few; told = omega arith }
      few-amended (Some o) found =
          let fewer = fewer-others (is_named c.gateway r.orig_cl_ord_id) s.orders o found in
          let next : Order = restamped c (amended r o) in
          let rest_of : List Order = others s c.gateway r.orig_cl_ord_id in
          either_way s c r o (Few most_resting 8194) (λ keeps. record {
            resting = let same = length-map s.orders (λ x. if is_named c.gateway r.orig_cl_ord_id x then amended r x else x) in omega (arith, same, few);
            told = omega arith;
          }) (record {
            resting = few-matched Day next rest_of most_resting (omega (arith, fewer, few)) (λ day. omega (arith, fewer, few));
            told = let told = few-told c Day next rest_of in omega (arith, told, fewer, few);
          })

pub few-step : (symbols : Symbols) (s : State) (sequence : ℕ) (r : Request) → length s.orders ≤ most_resting → Few most_resting 8194 (step symbols s sequence r)
few-step symbols s sequence r few = obeyed r.command
  where
    obeyed : (command : Command) → Few most_resting 8194 (obey symbols s sequence r.gateway command)
    obeyed (New time order) = few-new s (cause r.gateway sequence time) few order (new_refusal symbols s r.gateway order) (has-place symbols s r.gateway order)
    obeyed (Cancel time request) = few-cancel s (cause r.gateway sequence time) few request (cancel_refusal s r.gateway request)
    obeyed (Replace time request) = few-replace s (cause r.gateway sequence time) few request (replace_refusal s r.gateway request)
    obeyed (Malformed time fault) = few-answered most_resting 8194 s (output (cause r.gateway sequence time) r.gateway (SessionReject fault)) few (omega arith)
    obeyed Void = record { resting = few; told = omega arith }

-- ANY HISTORY

few-from : (symbols : Symbols) (sequence : ℕ) (s : State) (rs : List Request) → length s.orders ≤ most_resting →
    length (state_from symbols sequence s rs).orders ≤ most_resting
few-from symbols sequence s [] few = few
few-from symbols sequence s (r ∷ rs) few =
    few-from symbols (sequence + 1) (step symbols s sequence r).state rs (few-step symbols s sequence r few).resting

-- at most 4,096 orders rest
pub few-resting : (symbols : Symbols) (rs : List Request) → length (state symbols rs).orders ≤ most_resting
few-resting symbols rs = few-from symbols 0 empty rs (omega arith)

-- a command has at most 8,194 outputs
pub few-outputs : (symbols : Symbols) (rs : List Request) (r : Request) → length (step symbols (state symbols rs) (length rs) r).outputs ≤ 8194
few-outputs symbols rs r = (few-step symbols (state symbols rs) (length rs) r (few-resting symbols rs)).told

-- However messages are read, a longer history's outputs begin with the shorter's, and one more entry adds at most 8,194.
pub grows : (reads : ℕ → Message → Command) (symbols : Symbols) (h : List Message) (e : Message) →
    (more : List Output) × (outputs symbols (requests reads (h ++ e ∷ [])) ≡ outputs symbols (requests reads h) ++ more) × (length more ≤ 8194)
grows reads symbols h e =
    let rs : List Request = requests reads h in
    let r : Request = record { gateway = e.gateway; command = reads (0 + length h) e } in (
      (step symbols (state symbols rs) (length rs) r).outputs,
      ap (outputs symbols) (requests_from-more reads 0 h e) ∙ outputs-one symbols rs r,
      few-outputs symbols rs r,
    )
