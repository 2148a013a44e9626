-- A turn of a client's session carries the gateway's life on.
use Rattle.std.proofs.Common.{◌≡◌, ℕ, Bool, true, false, List, [], ◌∷◌, ◌++◌, map, refl, ap, sym}
use Rattle.std.proofs.Common.{◌∙◌, append_assoc, append-nil, Option, Some, None}
use Rattle.std.specs.Prelude.{if◌then◌else◌, option_to_list}
use Rattle.std.specs.List.{flat_map}
use Rattle.std.proofs.lemmas.List.{map-append, append_cancel_left}
use Rattle.std.proofs.lemmas.Grind.{flat_map-append}
use Rattle.ring_words.specs.At.{Opened, At}
use Rattle.venue_model.specs.Requests.{Limits}
use Rattle.wires.specs.Wires.{Told}
use Rattle.gateway.specs.declared.ending.Turned.{Turned}
use Rattle.gateway.specs.declared.ending.Turned.TheVariants.{Worked, Quiet, Ended}
use Rattle.venue.specs.Accepting.{Accepting, WithClient, Leaves}
use Rattle.gateway.specs.Delivers.{Proceeds}
use Rattle.gateway.specs.Gateways.{around}
use Rattle.gateway.specs.Seats.{Uses, messages_of, taken_by}
use Rattle.gateway.specs.Turns.{World, Turn}
use Rattle.gateway.specs.Visits.{Act, Misses, given_by, missed_by, Visit, IsVisit, DayPart, There, acts_in}
use Rattle.gateway.specs.Visits.{visits_in, came_in}
use Rattle.gateway.proofs.ActLemmas.{reporting, reporting-enters, giving-gives, giving-misses}
use Rattle.gateway.proofs.Lists.{flat_map-push, AllByRecursion-push}
use Rattle.gateway.proofs.RecordLemmas.{Recorded}
use Rattle.gateway.proofs.SittingLemmas.{Sits, Entered, Looked, told, sits_still, entered, sits-entered, looked_at}
use Rattle.gateway.proofs.VisitLemmas.{Fits, bytes_of, bytes-append, next_visit, next_fits, none_yet}
use Rattle.venue.proofs.LifeLemmas.{Running, Life, came-push, gone-push}

-- what happened before, in a visit so far, in it now, and the reports that came now
regrouped : (done missed acts more reports : List Act) → ((done ++ (missed ++ acts)) ++ more) ++ reports
    ≡ done ++ (missed ++ (acts ++ (more ++ reports)))
regrouped done missed acts more reports = simp append_assoc

-- where nothing happened in it but that reports were passed over
regrouped-missed : (done missed acts more reports : List Act) → acts ++ more ≡ []
    → ((done ++ (missed ++ acts)) ++ more) ++ reports ≡ done ++ ((missed ++ reports) ++ (acts ++ more))
regrouped-missed done missed acts more reports none =
    rw (regrouped done missed acts more reports, ← append_assoc acts more reports, none, append-nil)

module _ (rings : Opened Limits) (k n : ℕ) (old new : Accepting) (came gone : List Told)
    (life : Life rings k old came gone) (turned : Turned) (now later : Told) (connected : old.wire ≡ Some now)
    (proceeds : Proceeds n old.gateway new.gateway now later turned)
    (uses : Uses n old.gateway.seat new.gateway.seat) where
  abbrev seat : At Limits
  seat = old.gateway.seat

  abbrev seat_after : At Limits
  seat_after = new.gateway.seat

  abbrev before : World
  before = around n old.gateway now

  abbrev behind : World
  behind = around n new.gateway later

  abbrev turn : Turn before behind turned
  turn = proceeds.turn

  running : Running k old.gateway.front (Some now) life.running
  running = rw connected at life.now

  abbrev visit : Visit
  visit = running.0

  abbrev acts_before : List Act
  acts_before = flat_map acts_in life.done ++ (map Misses visit.missed ++ visit.acts)

  parts_before : flat_map acts_in (life.done ++ life.running) ≡ acts_before
  parts_before = ap (λ (ps : List DayPart). flat_map acts_in (life.done ++ ps)) running.2
      ∙ flat_map-push acts_in life.done (There visit)

  recorded : Recorded k rings.logic rings.base seat.who acts_before
  recorded = rw parts_before at life.recorded

  abbrev between : At Limits
  between = uses.between

  entering : Entered rings k seat.who between.who acts_before
  entering = entered rings k n seat between acts_before life.sits uses.enters recorded

  sits_between : Sits rings k between
  sits_between = sits-entered rings k n seat between acts_before life.sits uses.enters

  sits_after : Sits rings k seat_after
  sits_after = sits_still rings k seat seat_after life.sits uses.stays

  abbrev on : Bool
  on = behind.front.session.logged_on

  looking : Looked rings k on between.who seat_after.who (acts_before ++ entering.more)
  looking = looked_at rings k n between seat_after
      (acts_before ++ entering.more) sits_between entering.recorded on uses.looks

  -- the reports that the look found are those that the turn took
  these_are : turn.takes.these ≡ looking.these
  these_are = append_cancel_left (taken_by k rings.logic rings.base seat.who) turn.takes.these looking.these
      ((rw (told rings k seat life.sits) at (sym turn.takes.taken)) ∙ told rings k seat_after sits_after
      ∙ (rw entering.untaken at looking.taken_more))

  -- the message that entered is the one that the turn published
  messages_are : turn.moved.messages ≡ bytes_of entering.more
  messages_are = append_cancel_left (messages_of seat.who.mine) turn.moved.messages (bytes_of entering.more)
      (sym turn.step.published ∙ looking.unsent ∙ entering.sent)

  -- the visit behind the turn, with its acts, and all acts
  record TurnsInto (v : Visit) : Type 0 where
    fits : (quiet : Bool) → Fits k behind.front (record behind.wire { quiet = quiet })
        (record v { gone = record behind.wire { quiet = quiet } })
    came_is : v.came ≡ visit.came
    acts_are : (acts_before ++ entering.more) ++ map (reporting on) looking.these
        ≡ flat_map acts_in life.done ++ (map Misses v.missed ++ v.acts)

  turned_by : (b : Bool) → on ≡ b → (v : Visit) × TurnsInto v
  turned_by true logged_on =
      let gives = map (reporting true) looking.these in
      let more = entering.more ++ gives in
      let messages : turn.moved.messages ≡ bytes_of more =
      rw (bytes-append, reporting-enters true looking.these, append-nil) messages_are in
      let handed : turn.moved.handed ≡ flat_map given_by more =
      rw (flat_map-append, entering.ungiven, giving-gives) (turn.takes.given
      ∙ ap (λ (b : Bool). if b then turn.takes.these else []) logged_on ∙ these_are) in
      let unmissed : flat_map missed_by more ≡ [] = rw (flat_map-append, entering.unmissed, giving-misses) in (
        next_visit k before behind turned turn visit running.1 false visit.missed (visit.acts ++ more),
        record {
          fits = λ quiet. next_fits k before behind turned turn visit running.1 quiet
              visit.missed more messages handed unmissed;
          came_is = refl;
          acts_are = ap (λ (b : Bool). (acts_before ++ entering.more) ++ map (reporting b) looking.these) logged_on
              ∙ regrouped (flat_map acts_in life.done) (map Misses visit.missed) visit.acts entering.more gives;
        },
      )
  turned_by false off =
      let handed : turn.moved.handed ≡ flat_map given_by entering.more = turn.takes.given
      ∙ ap (λ (b : Bool). if b then turn.takes.these else []) off ∙ sym entering.ungiven in
      let missed = visit.missed ++ looking.these in
      let none : visit.acts ++ entering.more ≡ [] =
      none_yet k before behind turned turn visit running.1 entering.more messages_are handed entering.unmissed off in (
        next_visit k before behind turned turn visit running.1 false missed (visit.acts ++ entering.more),
        record {
          fits = λ quiet. next_fits k before behind turned turn visit running.1 quiet
              missed entering.more messages_are handed entering.unmissed;
          came_is = refl;
          acts_are = ap (λ (b : Bool). (acts_before ++ entering.more) ++ map (reporting b) looking.these) off
              ∙ (rw map-append (regrouped-missed (flat_map acts_in life.done) (map Misses visit.missed) visit.acts
              entering.more (map Misses looking.these) none));
        },
      )

  abbrev after : (v : Visit) × TurnsInto v
  after = turned_by on refl

  -- the visit, where its wire was told so whether to rest
  abbrev visit_after : Bool → Visit
  visit_after quiet = record after.0 { gone = record behind.wire { quiet = quiet } }

  came_before : came_in life.done ++ visit.came ∷ [] ≡ came
  came_before = rw (running.2, came-push) at life.came_are

  came_behind : (quiet : Bool) → came_in (life.done ++ There (visit_after quiet) ∷ []) ≡ came
  came_behind quiet = rw (came-push, after.1.came_is) came_before

  recorded_behind : (quiet : Bool)
      → Recorded k rings.logic rings.base seat_after.who (flat_map acts_in
      (life.done ++ There (visit_after quiet) ∷ []))
  recorded_behind quiet = rw flat_map-push (rw after.1.acts_are at looking.recorded)

  -- it goes on, whether its wire is told to rest or not
  pub goes_on : (quiet : Bool) → new.wire ≡ Some (record behind.wire { quiet = quiet }) → Life rings k new came gone
  goes_on quiet wire = record {
    done = life.done;
    running = There (visit_after quiet) ∷ [];
    now = simp wire (visit_after quiet, after.1.fits quiet, refl);
    visits = life.visits;
    came_are = came_behind quiet;
    gone_are = life.gone_are;
    sits = sits_after;
    recorded = recorded_behind quiet;
  }

  -- or it is over
  is_over : new.wire ≡ None → Life rings k new came (gone ++ record behind.wire { quiet = true } ∷ [])
  is_over wire =
      let v = visit_after true in
      let all = append-nil (life.done ++ There v ∷ []) in record {
        done = life.done ++ There v ∷ [];
        running = [];
        now = rw wire refl;
        visits = rw flat_map-push
            (AllByRecursion-push (IsVisit k) (flat_map visits_in life.done) v life.visits (after.1.fits true).visit);
        came_are = rw all (came_behind true);
        gone_are = rw (gone-push, life.gone_are);
        sits = sits_after;
        recorded = rw all (recorded_behind true);
      }

module _ (rings : Opened Limits) (k n : ℕ) (old new : Accepting) (came gone : List Told)
    (life : Life rings k old came gone) (turned : Turned) (left : Option Told)
    (w : WithClient n old new turned left) where
  stays_on : (quiet : Bool) → new.wire ≡ Some (record w.behind { quiet = quiet }) → Life rings k new came gone
  stays_on = goes_on rings k n old new came gone life turned w.before w.behind w.connected w.proceeds w.uses

  without_more : left ≡ None → Life rings k new came gone → Life rings k new came (gone ++ option_to_list left)
  without_more none life_after = rw (none, append-nil) life_after

  leaves : (answer : Turned) → Leaves answer w.behind new.wire left
      → Life rings k new came (gone ++ option_to_list left)
  leaves Worked (wire, none) = without_more none (stays_on false wire)
  leaves Quiet (wire, none) = without_more none (stays_on true wire)
  leaves (Ended reason) (wire, is) =
      rw is (is_over rings k n old new came gone life turned w.before w.behind w.connected w.proceeds w.uses wire)

  pub life-turns : Life rings k new came (gone ++ option_to_list left)
  life-turns = leaves turned w.leaves
