-- The whole life of a gateway, and what it comes to where its publications are those of the one history.
use Rattle.std.proofs.Common.{◌≡◌, inl, inr, ℕ, zero, suc, List, [], ◌++◌, length}
use Rattle.std.proofs.Common.{◌∙◌, append-nil, Option, Some, None}
use Rattle.std.specs.Prelude.{option_to_list}
use Rattle.std.specs.List.{flat_map, AllByRecursion}
use Rattle.venue_model.specs.History.{History}
use Rattle.venue_model.specs.Requests.{Limits}
use Rattle.ring_words.specs.At.{Opened}
use Rattle.ring_words.specs.Ending.{IsBeginning}
use Rattle.ring_words.specs.Log.{sent_at, published_at}
use Rattle.wires.specs.Wires.{Told}
use Rattle.venue.specs.Accepting.{Accepting, TakesTurn, Goes, AttendsFor}
use Rattle.gateway.specs.declared.ending.Turned.{Turned}
use Rattle.gateway.specs.Visits.{IsVisit, DayPart, acts_in, visits_in, gone_in, reports_by, reports_for}
use Rattle.gateway.specs.Visits.{IsFirstOf, StillThere, WasServed}
use Rattle.gateway.proofs.Lists.{flat_map-push, AllByRecursion-push}
use Rattle.venue.proofs.LifeLemmas.{Running, Life, gone-push, life-idles, life-admits}
use Rattle.gateway.proofs.ReportLemmas.{taken_first}
use Rattle.gateway.proofs.SendLemmas.{sends_are}
use Rattle.venue.proofs.TurnLives.{life-turns}

module _ (rings : Opened Limits) (k n : ℕ) where
  by_turn : (old new : Accepting) (came gone : List Told) (turned : Turned) (left : Option Told)
      → Life rings k old came gone
      → TakesTurn n old new turned left → Life rings k new came (gone ++ option_to_list left)
  by_turn old new came gone turned left life (inl without) =
      rw (without.no_wire, append-nil) (life-idles rings k old new came gone life n turned left without)
  by_turn old new came gone turned left life (inr with_client) =
      life-turns rings k n old new came gone life turned left with_client

  by_step : (old new : Accepting) (came gone came_now gone_now : List Told) → Life rings k old came gone
      → Goes n old new came_now gone_now
      → Life rings k new (came ++ came_now) (gone ++ gone_now)
  by_step old new came gone came_now gone_now life (inl (turned, left, takes, none, is)) =
      rw (none, append-nil, is) (by_turn old new came gone turned left life takes)
  by_step old new came gone came_now gone_now life (inr (wire, admits, is, none)) =
      rw (is, none, append-nil) (life-admits rings k old new came gone life wire admits)

  -- however often it went on
  pub lives : (steps : ℕ) (old new : Accepting) (came gone : List Told) → Life rings k old [] []
      → AttendsFor n steps old new came gone
      → Life rings k new came gone
  lives zero old new came gone life (is, none_came, none_gone) =
      rw (none_gone, none_came, is) life
  lives (suc steps) old new came gone life (
    mid,
    came_before,
    came_now,
    gone_before,
    gone_now,
    before,
    step,
    came_is,
    gone_is,
  ) =
      rw (gone_is, came_is) (by_step mid new came_before gone_before came_now gone_now
      (lives steps old mid came_before gone_before life before) step)

  -- the visit that goes on is the last one
  module _ (done : List DayPart) (all : AllByRecursion (IsVisit k) (flat_map visits_in done)) where
    all_visits : (end : Accepting) (wire : Option Told) (running : List DayPart)
        → Running k end.gateway.front wire running
        → AllByRecursion (IsVisit k) (flat_map visits_in (done ++ running))
    all_visits end None running none = rw (none, append-nil) all
    all_visits end (Some wire) running (v, fits, is) =
        rw (is, flat_map-push) (AllByRecursion-push (IsVisit k) (flat_map visits_in done) v all fits.visit)

  all_gone : (done : List DayPart) (end : Accepting) (wire : Option Told) (running : List DayPart)
      → Running k end.gateway.front wire running → gone_in (done ++ running) ≡ gone_in done ++ option_to_list wire
  all_gone done end None running none = rw (none, append-nil, append-nil)
  all_gone done end (Some wire) running (v, fits, is) = rw (is, gone-push, fits.gone)

  still_there : (done : List DayPart) (end : Accepting) (wire : Option Told) (running : List DayPart)
      → Running k end.gateway.front wire running
      → StillThere wire (done ++ running)
  still_there done end None running none = tt
  still_there done end (Some wire) running (v, fits, is) = (done, v, rw is)

  -- what was taken of the reports is the first of those for the member, by each history that begins with what the
  -- gateway has seen
  pub life-kept : (end : Accepting) (came gone : List Told) (life : Life rings k end came gone) (h : History)
      → IsBeginning end.gateway.seat.who.seen h
      → IsFirstOf (flat_map reports_by (flat_map acts_in (life.done ++ life.running)))
      (reports_for k rings.logic rings.base h)
  life-kept end came gone life h begins =
      let known = life.recorded in
      let first = taken_first k rings.logic rings.base end.gateway.seat.who known.from known.to h begins in
      (first.0, rw known.reports first.1)

  module _ (end : Accepting) (came gone : List Told) (life : Life rings k end came gone) (log : History)
      (mine : (s : ℕ) → sent_at s end.gateway.seat.who.mine ≡ published_at (length rings.base) k log s)
      (seen : IsBeginning end.gateway.seat.who.seen log) where
    abbrev parts : List DayPart
    parts = life.done ++ life.running

    pub life-serves : WasServed k rings.logic rings.base log parts
    life-serves =
        let known = life.recorded in record {
          visits = all_visits life.done life.visits end end.wire life.running life.now;
          entered = known.entered ∙ sends_are k (length rings.base) log end.gateway.seat.who.mine known.rises mine;
          reports = life-kept end came gone life log seen;
          behind = known.behind log seen;
        }

    pub life-gone : gone_in parts ≡ gone ++ option_to_list end.wire
    life-gone = rw life.gone_are at (all_gone life.done end end.wire life.running life.now)

    pub life-stays : StillThere end.wire parts
    life-stays = still_there life.done end end.wire life.running life.now
