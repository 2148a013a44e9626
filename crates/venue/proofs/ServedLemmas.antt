-- Each member whose seat came back was served by the log that all seats end with, by the clients that came in at its
-- port.
use Rattle.std.proofs.Common.{◌≡◌, ℕ, ◌+◌, ◌<◌, List, length, ap, sym, subst, ◌∙◌, arith}
use Rattle.std.specs.List.{flat_map}
use mathlib.Core.Option.{some, some-injective}
use lib.ListN.{get_elem?}
use Rattle.venue_model.specs.History.{History}
use Rattle.venue_model.specs.ListLaws.{stands}
use Rattle.venue_model.specs.Requests.{Limits}
use Rattle.book.specs.Histories.{outputs_of}
use Rattle.venue.proofs.VisitLaws.{serves}
use Rattle.gateway.specs.Visits.{DayPart, WasServed, IsFirstOf, acts_in, reports_by, reports_for}
use Rattle.ring_words.specs.At.{Opened, At}
use Rattle.ring_words.specs.Ending.{Ended, IsBeginning}
use Rattle.ring_words.specs.Log.{sent_at, published_at}
use Rattle.ring_words.specs.Places.{number_of}
use Rattle.ring_words.specs.declared.close.Summary.{Summary}
use Rattle.ring_words.specs.declared.seats.Seats.{Seats}
use Rattle.venue.specs.Headline.{CameIn}
use Rattle.venue.specs.Leaving.{LeaveOn}
use Rattle.venue.specs.Members.{AreBack}
use Rattle.venue.specs.Opened.{AreBehind}
use Rattle.venue.specs.Trading.{IsBack}
use Rattle.venue.proofs.HeadlineLemmas.{choose}
use Rattle.wires.specs.Ports.{Register, with_more}
use Rattle.wires.specs.Wires.{Told}

-- the rings count the outputs of the history at the start
pub counts_outputs : (limits : Limits) (base : History) (rings : Opened Limits) → AreBehind limits base rings
    → rings.base_outputs ≡ length (outputs_of rings.logic base)
counts_outputs limits base rings behind =
    behind.base_outputs ∙ ap (λ (l : Limits). length (outputs_of l base)) (sym behind.logic)

-- A day of the member of this seat and port; and what it was told is the first of the reports for it by each history
-- that begins with what its gateway has seen.
pub record IsDay (rings : Opened Limits) (log : History) (k : ℕ) (seat : At Limits) (ports : Register
    × Register) (day : List DayPart) : Type 0 where
  pub served : WasServed k rings.logic rings.base log day
  pub came : CameIn ports.0 ports.1 day
  pub kept : (h : History) → IsBeginning seat.who.seen h
      → IsFirstOf (flat_map reports_by (flat_map acts_in day)) (reports_for k rings.logic rings.base h)

module _ (rings : Opened Limits) (seats : Seats Limits) (back : List (At Limits)) (summary : Summary)
    (counted : rings.base_outputs ≡ length (outputs_of rings.logic rings.base)) (are : seats.gateways.items ≡ back)
    (ended : Ended (outputs_of rings.logic) rings.base seats summary) where
  day_of : (i : ℕ) (s : At Limits) → get_elem? back i ≡ some s → (old new : Register) → IsBack rings (i + 1) s old new
      → (day : List DayPart) × IsDay rings ended.log (i + 1) s (old, new) day
  day_of i s there old new it =
      let at : get_elem? seats.gateways.items i ≡ some s = ap (λ (l : List (At Limits)). get_elem? l i) are ∙ there in
      let k = ap number_of it.role in
      let served = serves 1024 rings (i + 1) it.end it.came it.ended counted it.attends ended.log
      (λ p. subst (λ (e : At Limits). sent_at p e.who.mine ≡ published_at (length rings.base) (i + 1) ended.log p)
      it.seat_is
      (subst (λ (n : ℕ). sent_at p s.who.mine ≡ published_at (length rings.base) n ended.log p) k
      (ended.mine i s at p)))
      (subst (λ (e : At Limits). IsBeginning e.who.seen ended.log) it.seat_is (ended.seen i s at).0) in (
        served.0,
        record {
          served = served.1;
          came = record {
            number = it.number;
            is_open = it.is_open;
            came = it.handed_out ∙ ap (with_more old.came) (sym served.2);
            back = it.gone;
            gone = it.given_back;
            leave = subst (λ (wires : List Told). LeaveOn wires it.gone) (sym served.3) it.leave;
            free = it.free;
          };
          kept = λ h begins. served.5 h (subst (λ (e : At Limits). IsBeginning e.who.seen h) it.seat_is begins);
        },
      )

  -- the same at a place of these ports
  module _ {X : Type 0} (tells : X
      → Register) (old new : List X) (all : length back ≡ length old) (same : length new ≡ length old)
      (each : AreBack rings tells old back new) where
    pub record DayAt (i : ℕ) (day : List DayPart) : Type 0 where
      pub seat : At Limits
      pub port : X
      pub port_after : X
      pub seat_at : get_elem? back i ≡ some seat
      pub port_at : get_elem? old i ≡ some port
      pub after_at : get_elem? new i ≡ some port_after
      pub is : IsDay rings ended.log (i + 1) seat (tells port, tells port_after) day

    day_at : (i : ℕ) → i < length old → (day : List DayPart) × DayAt i day
    day_at i less =
        let s = stands back i (omega (arith, less, all)) in let x = stands old i less in
        let y = stands new i (omega (arith, less, same)) in
        let day = day_of i s.0 s.1 (tells x.0) (tells y.0) (each i s.0 x.0 y.0 s.1 x.1 y.1) in (
          day.0,
          record {
            seat = s.0;
            port = x.0;
            port_after = y.0;
            seat_at = s.1;
            port_at = x.1;
            after_at = y.1;
            is = day.1;
          },
        )

    -- there is one for each member
    pub days : (days : List (List DayPart)) × (length days ≡ length old) × ((i : ℕ) (day : List DayPart)
        → get_elem? days i ≡ some day → DayAt i day)
    days = choose DayAt (length old) day_at

    -- the clients of a day came in at its port
    pub came_at : (i : ℕ) (day : List DayPart) → DayAt i day → (x y : X) → get_elem? old i ≡ some x
        → get_elem? new i ≡ some y
        → CameIn (tells x) (tells y) day
    came_at i day at x y in_old in_new =
        subst (λ (z : X). CameIn (tells z) (tells y) day) (some-injective at.port x (sym at.port_at ∙ in_old))
        (subst (λ (z : X). CameIn (tells at.port) (tells z) day) (some-injective at.port_after y (sym at.after_at
        ∙ in_new)) at.is.came)
