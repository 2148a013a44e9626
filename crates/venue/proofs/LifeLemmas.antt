-- What a gateway's turns and its clients come to: its life so far, part by part.
use Rattle.std.proofs.Common.{◌≡◌, ℕ, false, List, [], ◌∷◌, ◌++◌}
use Rattle.std.proofs.Common.{length, take, drop, refl, ap, sym, arith, append-nil}
use Rattle.std.proofs.Common.{Option, Some, None}
use Rattle.std.specs.List.{flat_map, AllByRecursion}
use Rattle.std.proofs.lemmas.List.{map-append, drop_all, length-take-le}
use Rattle.venue_model.specs.Requests.{Limits}
use Rattle.venue_model.specs.declared.outputs.Output.{Output}
use Rattle.book.specs.Histories.{outputs_of}
use Rattle.ring_words.specs.At.{Opened, number}
use Rattle.wires.specs.Wires.{Told}
use Rattle.gateway.specs.declared.ending.Turned.{Turned}
use Rattle.venue.specs.Accepting.{Accepting, without_client, WithoutClient, Admits}
use Rattle.gateway.specs.Gateways.{begun}
use Rattle.gateway.specs.Seats.{texts_to}
use Rattle.gateway.specs.Turns.{Front}
use Rattle.gateway.specs.Visits.{Visit, IsVisit, DayPart, Away, There}
use Rattle.gateway.specs.Visits.{acts_in, visits_in, came_in, gone_in}
use Rattle.gateway.proofs.Lists.{flat_map-push}
use Rattle.gateway.proofs.Opening.{at_beginning}
use Rattle.gateway.proofs.RecordLemmas.{Recorded}
use Rattle.gateway.proofs.SittingLemmas.{Sits, sits_still, looked_at}
use Rattle.gateway.proofs.VisitLemmas.{Fits}
use Rattle.wires.specs.WireLaws.{grown-nil}

-- a visit goes on just where there is a wire
abbrev pub Running : ℕ → Front → Option Told → List DayPart → Type 0
Running k front None running = running ≡ []
Running k front (Some wire) running = (v : Visit) × Fits k front wire v × (running ≡ There v ∷ [])

-- The parts that are done, and the one that goes on, tell of all clients that came and are gone, and of all that the
-- seat published and took.
pub record Life (rings : Opened Limits) (k : ℕ) (a : Accepting) (came gone : List Told) : Type 0 where
  pub done : List DayPart
  pub running : List DayPart
  pub now : Running k a.gateway.front a.wire running
  pub visits : AllByRecursion (IsVisit k) (flat_map visits_in done)
  pub came_are : came_in (done ++ running) ≡ came
  pub gone_are : gone_in done ≡ gone
  pub sits : Sits rings k a.gateway.seat
  pub recorded : Recorded k rings.logic rings.base a.gateway.seat.who (flat_map acts_in (done ++ running))

-- one visit more
pub came-push : (done : List DayPart) (v : Visit) → came_in (done ++ There v ∷ []) ≡ came_in done ++ v.came ∷ []
came-push done v = rw (flat_map-push, map-append)

pub gone-push : (done : List DayPart) (v : Visit) → gone_in (done ++ There v ∷ []) ≡ gone_in done ++ v.gone ∷ []
gone-push done v = rw (flat_map-push, map-append)

-- no visit more
visits-away : (done : List DayPart) (missed : _) → flat_map visits_in (done ++ Away missed ∷ [])
    ≡ flat_map visits_in done
visits-away done missed = rw (flat_map-push, append-nil)

module _ (rings : Opened Limits) (k : ℕ) where
  -- at the start nothing has happened
  pub life-begins : rings.base_outputs ≡ length (outputs_of rings.logic rings.base)
      → Life rings k (without_client rings k) [] []
  life-begins counted =
      let all : List Output = outputs_of rings.logic rings.base in
      let front = length-take-le rings.base_outputs all (omega (arith, counted)) in
      let none_behind : drop (length all) (take rings.base_outputs all) ≡ [] =
      drop_all (length all) (take rings.base_outputs all) (omega (arith, front, counted)) in record {
        done = [];
        running = [];
        now = refl;
        visits = tt;
        came_are = refl;
        gone_are = refl;
        sits = record { at = refl; number_is = refl };
        recorded = record {
          from = omega (arith, counted);
          to = omega (arith, counted);
          rises = tt;
          claimed = λ s most. tt;
          entered = refl;
          reports = sym (ap (texts_to k (length all)) none_behind);
          behind = λ log begins. tt;
        };
      }

  module _ (old new : Accepting) (came gone : List Told) (life : Life rings k old came gone) where
    -- without a wire no visit goes on
    module _ (free : old.wire ≡ None) where
      none_runs : life.running ≡ []
      none_runs = rw free at life.now

      all_done : life.done ++ life.running ≡ life.done
      all_done = rw (none_runs, append-nil)

    -- a look without a client
    pub life-idles : (n : ℕ) (turned : Turned) (left : Option Told) → WithoutClient n old new turned left
        → Life rings k new came gone
    life-idles n turned left without =
        let looked = looked_at rings k n old.gateway.seat new.gateway.seat
        (flat_map acts_in (life.done ++ life.running)) life.sits life.recorded
        false without.looks.looks in
        let missed = looked.these in
        let before = all_done without.free in
        let after : (life.done ++ Away missed ∷ []) ++ [] ≡ life.done ++ Away missed ∷ [] =
        append-nil (life.done ++ Away missed ∷ []) in record {
          done = life.done ++ Away missed ∷ [];
          running = [];
          now = rw without.still refl;
          visits = rw visits-away life.visits;
          came_are = rw (after, visits-away) (rw before at life.came_are);
          gone_are = rw visits-away life.gone_are;
          sits = sits_still rings k old.gateway.seat new.gateway.seat life.sits without.looks.stays;
          recorded = rw (after, flat_map-push) (simp before at looked.recorded);
        }

    -- a client is let in
    pub life-admits : (wire : Told) → Admits old wire new → Life rings k new (came ++ wire ∷ []) gone
    life-admits wire (free, is) =
        let visit : Visit = record {
          came = wire;
          gone = wire;
          heard = [];
          unheard = [];
          missed = [];
          acts = [];
          written = [];
        } in
        let fits : Fits k (begun (number old.gateway.seat) old.gateway.front.passed) wire visit = record {
          visit = record {
            gave = sym (grown-nil wire.gave);
            took = sym (grown-nil wire.took);
            session = (begun (number old.gateway.seat) old.gateway.front.passed).session;
            member = life.sits.number_is;
            stands = at_beginning (number old.gateway.seat);
            none_missed = refl;
          };
          session = refl;
          unheard = refl;
          gone = refl;
        } in
        let before = all_done free in
        rw is (record {
          done = life.done;
          running = There visit ∷ [];
          now = (visit, fits, refl);
          visits = life.visits;
          came_are = rw (came-push, rw before at life.came_are);
          gone_are = life.gone_are;
          sits = life.sits;
          recorded = rw (flat_map-push, append-nil) (rw before at life.recorded);
        })
