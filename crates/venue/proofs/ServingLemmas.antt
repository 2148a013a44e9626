-- What a crash leaves while the venue serves: turn by turn, a journal that begins with the history at the start.
use Rattle.std.proofs.Common.{◌≡◌, ◌≢◌, ◌∙◌, ◌⊎◌, inl, inr, Bool, true, false, ℕ, zero, suc, ◌+◌, List, [], ◌∷◌, refl}
use Rattle.std.proofs.Common.{ap, sym, subst, arith}
use mathlib.Core.Option.{some, some-ne-none, some-injective}
use lib.ListN.{get_elem?}
use Rattle.venue_model.specs.Counts.{Rose}
use Rattle.venue_model.specs.History.{History}
use Rattle.venue_model.specs.Requests.{Limits}
use Rattle.std.specs.Prelude.{Result, Ok, Err, MatchResult, ◌↔◌, ◌^◌, ◌-◌}
use Rattle.disks.specs.Disk.{Told, Both, LeavesOnly}
use Rattle.journal.specs.declared.fault.JournalFault.TheVariants as faults
use Rattle.replay.specs.declared.taking_up.StartFault.{StartFault}
use Rattle.replay.specs.declared.taking_up.StartFault.TheVariants.{Journal, FalseSnapshot}
use Rattle.journal.specs.Journals.{OneJournal, IsJournalFrom}
use Rattle.disks.specs.MomentLaws.{joined, weaker}
use Rattle.ring_words.specs.At.{Opened, At, IsAt, number}
use Rattle.ring_words.specs.Crew.{AreGateways}
use Rattle.ring_words.specs.Ending.{AreSpent}
use Rattle.ring_words.specs.declared.view.Person.{Person}
use Rattle.ring_words.specs.declared.view.Role.TheVariants.{Gateway}
use Rattle.stages.specs.declared.turn.Turn.{Turn}
use Rattle.stages.specs.declared.turn.Turn.TheVariants.{Did, Idle, OutFull, JournalFailed}
use Rattle.stages.specs.Crews.{AreAt, AreIdle, Polls}
use Rattle.stages.specs.Kept.{Fails, KeepsDone, LeavesBlock}
use Rattle.stages.specs.Processes.{sizes}
use Rattle.stages.specs.declared.crew.Turns.{Turns}
use Rattle.stages.specs.Stations.{OneCrew, disk_of}
use Rattle.stages.specs.Turns.{Journals}
use Rattle.gateway.specs.Gateways.{AtRings}
use Rattle.gateway.specs.Delivers.{Proceeds, further}
use Rattle.gateway.specs.Seats.{Uses}
use Rattle.gateway.specs.Gateways.{begun}
use Rattle.gateway.specs.Turns as turns
use Rattle.wires.specs.Wires as wires
use Rattle.gateway.specs.declared.ending.Reason.{Reason}
use Rattle.gateway.specs.declared.ending.Turned.{Turned}
use Rattle.gateway.specs.declared.ending.Turned.TheVariants.{Worked, Quiet, Ended}
use Rattle.venue.specs.Crashes.{Behind}
use Rattle.venue.specs.Faults.{of_start, status_of, status_of_end}
use Rattle.venue.specs.Opened.{IsNewCrew}
use Rattle.venue.specs.Rounds.{TakesGatewayTurn, TakesPolls, DeliversOn, Rounds, Served}
use Rattle.venue.specs.Serving.{IsStatus}
use Rattle.venue.specs.VenueRings.{IsFirstSeat}
use Rattle.stages.specs.PollLaws.{journaller_grows}
use Rattle.venue.specs.CrashLaws.{LeftOrBehind, leaves_behind, still_behind}
use Rattle.stages.specs.Devices.{Device}
use Rattle.venue.specs.Venues.{Venue, IsJournalBehind}
use Rattle.venue.specs.declared.fault.ServeFault.{ServeFault}
use Rattle.venue.specs.declared.fault.ServeFault.TheVariants as fault
use Rattle.venue.proofs.OpenedLemmas.{still_at}

-- behind one poll more, in which the journaller did this
pub behind_poll : (old mid new : Told) (base : History) (t : Turn) (v w : Person)
    → LeavesOnly old mid (LeftOrBehind old base)
    → Behind base v → Journals 1024 t v w → LeavesOnly mid new (IsJournalFrom v.sequence w.seen)
    → LeavesOnly old new (LeftOrBehind old base)
behind_poll old mid new base t v w so_far behind journals poll =
    joined old mid new (LeftOrBehind old base) so_far
    (weaker mid new (IsJournalBehind base) (LeftOrBehind old base)
    (leaves_behind base v w mid new behind (journaller_grows 1024 t v w journals) poll) (λ c is. inr is))

-- a session that a turn didn't end lives
pub lives : (old new : turns.World) (turned : Turned) → turns.Turn old new turned
    → ((reason : Reason) → turned ≡ Ended reason → ⊥) → new.front.live ≡ true
lives old new Worked turn other = turn.means.1.live
lives old new Quiet turn other = turn.means.1.live
lives old new (Ended reason) turn other = absurd (other reason refl)

-- behind a poll in which the journal didn't fail no call of the disk has failed
pub still_ready : {D : Type 0} (failed : D → ℕ) (old new : OneJournal D) (t : Turn) → t ≢ JournalFailed
    → Fails failed old new t
    → (new.failed ≡ false) × (failed new.disk ≡ failed old.disk)
still_ready failed old new (Did n) other is = is
still_ready failed old new Idle other is = is
still_ready failed old new OutFull other is = is
still_ready failed old new JournalFailed other is = absurd (other refl)

-- a poll in which a journal fails that had not failed yet has raised its disk's count
pub risen : (failed : Bool) (old mid new : ℕ) → failed ≡ false → mid ≡ old → (failed ≡ true) ⊎ Rose mid new
    → Rose old new
risen failed old mid new ready same (inl was) = let no : true ≡ false = sym was ∙ ready in cc
risen failed old mid new ready same (inr rose) = subst (λ (n : ℕ). Rose n new) same rose

-- a session that is begun at the seat of gateway 1
pub began : (rings : Opened Limits) (g h : AtRings) (seat : At Limits)
    → g ≡ record { front = record (begun (number seat) 0) { live = false }; seat = seat }
    → h ≡ record g { front = begun (number g.seat) g.front.passed } → IsFirstSeat rings seat
    → (h.front ≡ begun 1 0) × (h.seat ≡ seat)
began rings g h seat made new first =
    let one : number seat ≡ 1 = ap number first in (
      ap (λ (a : AtRings). a.front) new ∙ ap (λ (a : AtRings). begun (number a.seat) a.front.passed) made
          ∙ ap (λ (n : ℕ). begun n 0) one,
      ap (λ (a : AtRings). a.seat) new ∙ ap (λ (a : AtRings). a.seat) made,
    )

-- a start that is refused ends with status 1
pub refused_status : (fault : StartFault) → status_of (of_start fault) ≡ 1
refused_status (Journal faults.Device) = refl
refused_status (Journal (faults.Damaged offset)) = refl
refused_status (Journal faults.NotAJournal) = refl
refused_status (Journal faults.Memory) = refl
refused_status (Journal faults.BadVersion) = refl
refused_status (Journal faults.SnapshotsFull) = refl
refused_status (FalseSnapshot offset) = refl

-- who sits where at the start
pub first_at : (rings : Opened Limits) (seat : At Limits) → IsFirstSeat rings seat
    → IsAt rings seat × (seat.who.role ≡ Gateway 1) × (seat.who.claims ≡ [])
first_at rings seat first =
    subst (λ (s : At Limits). IsAt rings s × (s.who.role ≡ Gateway 1) × (s.who.claims ≡ [])) (sym first)
    (refl, refl, refl)

-- and the stages are at the rings that they were made at
pub crew_at : {D : Type 0} (rings : Opened Limits) (crew : OneCrew D) → IsNewCrew rings crew → AreAt rings crew
crew_at rings crew new =
    subst (λ (c : OneCrew _). AreAt rings c) (sym new.crew_is)
    (record { unmarshaller = refl; journaller = refl; processor = refl; marshaller = refl })

-- honest as before, and then as before again
pub both_on : (a b c : Type 0) → Both a b → Both b c → Both a c
both_on a b c first second = (λ h. second.0 (first.0 h), λ h. first.1 (second.1 h))

-- the status of a session that was served: 0 where it ended by itself, and else 2
pub served_status : {D : Type 0} (device : Device D) (s t : Venue D) (result : Result (Unit {0}) ServeFault)
    (wire wire_after : wires.Told) (status old mid new : ℕ) → status ≡ status_of_end result → Served device s t result
    → mid ≡ old → MatchResult result (λ _. new ≡ mid) (λ _. Rose mid new) → IsStatus wire wire_after old new status
served_status device s t (Ok done) wire wire_after status old mid new is served same counts =
    inl (is, counts ∙ same)
served_status device s t (Err f) wire wire_after status old mid new is served same counts =
    inr (inr (is ∙ ap status_of served.finale.0, subst (λ (n : ℕ). Rose n new) same counts))

-- so that status isn't 1
pub isnt_one : {D : Type 0} (device : Device D) (s t : Venue D) (result : Result (Unit {0}) ServeFault) (status : ℕ)
    → status ≡ status_of_end result → Served device s t result → status ≡ 1 → ⊥
isnt_one device s t (Ok done) status is served one = omega (arith, is, one)
isnt_one device s t (Err f) status is served one =
    let two : status ≡ 2 = is ∙ ap status_of served.finale.0 in omega (arith, two, one)

-- ROUND BY ROUND

-- So many rounds behind the start the session lives, at the rings of the venue. No call of the disk failed, and what a
-- crash left so far begins with the history at the start.
pub record SoFar {D : Type 0} (device : Device D) (start : Venue D) (n : ℕ) (s : Venue D) : Type 0 where
  pub live : s.gateway.front.live ≡ true
  pub at : IsAt start.rings s.gateway.seat
  pub role : s.gateway.seat.who.role ≡ start.gateway.seat.who.role
  pub crew : AreAt start.rings s.crew
  pub ready : s.crew.journaller.journal.failed ≡ false
  pub behind : Behind start.rings.base s.crew.journaller.seat.who
  pub honest : Both (device.honest (disk_of start.crew)) (device.honest (disk_of s.crew))
  pub counts : device.failed (disk_of s.crew) ≡ device.failed (disk_of start.crew)
  pub leaves : device.honest (disk_of start.crew) → LeavesOnly (device.tells (disk_of start.crew))
      (device.tells (disk_of s.crew)) (LeftOrBehind (device.tells (disk_of start.crew)) start.rings.base)
  pub rounds : Rounds device n start s
  pub delivers : DeliversOn start s

-- what is known when the last turn was taken
abbrev pub EndsTurns : {D : Type 0} → Device D → Venue D → Venue D → Result (Unit {0}) ServeFault → Type 0
EndsTurns device start t result =
    let old = disk_of start.crew in let now = disk_of t.crew in record {
      honest : Both (device.honest old) (device.honest now);
      any_moment : device.honest old → LeavesOnly (device.tells old) (device.tells now)
          (LeftOrBehind (device.tells old) start.rings.base);
      served : Served device start t result;
      delivers : DeliversOn start t;
      stays : IsAt start.rings t.gateway.seat × (t.gateway.seat.who.role ≡ start.gateway.seat.who.role)
          × AreAt start.rings t.crew;
      counts : MatchResult result (λ _. device.failed now ≡ device.failed old)
          (λ _. Rose (device.failed old) (device.failed now));
    }

module _ {D : Type 0} {device : Device D} {start s : Venue D} {n : ℕ} (so_far : SoFar device start n s) where
  -- so many turns were all
  pub turns_over : n ≡ 2 ^ 64 - 1 → EndsTurns device start s (Ok tt)
  turns_over all = record {
    honest = so_far.honest;
    any_moment = so_far.leaves;
    served = record { count = n; last = s; rounds = so_far.rounds; finale = inr (all, refl) };
    delivers = so_far.delivers;
    stays = (so_far.at, so_far.role, so_far.crew);
    counts = so_far.counts;
  }

  -- the gateway took one more
  module _ {gateway : AtRings} {wire : wires.Told} {turned : Turned}
      (goes : Proceeds 1024 s.gateway gateway s.wire wire turned) (uses : Uses 1024 s.gateway.seat gateway.seat) where
    abbrev between : Venue D
    between = record s { gateway = gateway; wire = wire }

    turn : TakesGatewayTurn s between turned
    turn = record { turn = goes; uses = uses; others = refl }

    delivered : DeliversOn start between
    delivered from course before = let d = so_far.delivers from course before in
        (further d.0 goes.turn.moved, goes.delivers from d.0 d.1)

    seated_at : IsAt start.rings gateway.seat
    seated_at = still_at start.rings s.gateway.seat gateway.seat so_far.at uses.stays.rings

    -- which ended the session
    pub session_over : (reason : Reason) → turned ≡ Ended reason → EndsTurns device start between (Ok tt)
    session_over reason is = record {
      honest = so_far.honest;
      any_moment = so_far.leaves;
      served = record { count = n; last = s; rounds = so_far.rounds; finale = inl (reason, rw (← is) turn) };
      delivers = delivered;
      stays = (seated_at, uses.stays.role ∙ so_far.role, so_far.crew);
      counts = so_far.counts;
    }

    -- or didn't, and each stage was polled
    module _ {crew : OneCrew D} {polled : Turns} (goes_on : (reason : Reason) → turned ≡ Ended reason → ⊥)
        (at : AreAt start.rings crew) (poll : Polls (sizes 1024 1024 1) s.rings.logic s.crew crew polled)
        (fails : Fails device.failed s.crew.journaller.journal crew.journaller.journal polled.journaller)
        (leaves : LeavesBlock 1024 device.honest device.tells s.crew.journaller crew.journaller)
        (kept : device.honest (disk_of crew) → KeepsDone (device.tells (disk_of crew)) crew.journaller.seat.who) where
      abbrev after : Venue D
      after = record between { crew = crew }

      polls : TakesPolls device between after polled
      polls = record { polls = poll; fails = fails; leaves = leaves; keeps = kept; others = refl }

      live_still : gateway.front.live ≡ true
      live_still = lives _ _ turned goes.turn goes_on

      honest_on : Both (device.honest (disk_of start.crew)) (device.honest (disk_of crew))
      honest_on = both_on _ _ _ so_far.honest leaves.any_moment.honest

      leaves_on : device.honest (disk_of start.crew) → LeavesOnly (device.tells (disk_of start.crew))
          (device.tells (disk_of crew)) (LeftOrBehind (device.tells (disk_of start.crew)) start.rings.base)
      leaves_on honest = behind_poll _ _ _ start.rings.base polled.journaller s.crew.journaller.seat.who
          crew.journaller.seat.who (so_far.leaves honest) so_far.behind poll.journals
          (leaves.any_moment.leaves (so_far.honest.0 honest))

      -- in which the journal failed
      pub journal_failed : polled.journaller ≡ JournalFailed → EndsTurns device start after (Err fault.JournalFailed)
      journal_failed failed = record {
        honest = honest_on;
        any_moment = leaves_on;
        served = record {
          count = n;
          last = s;
          rounds = so_far.rounds;
          finale = (refl, between, turned, polled, turn, live_still, polls, failed);
        };
        delivers = delivered;
        stays = (seated_at, uses.stays.role ∙ so_far.role, at);
        counts = risen s.crew.journaller.journal.failed _ _ _ so_far.ready so_far.counts
            (rw failed at fails).1;
      }

      -- or didn't: that was one round more, behind which the wire was told whether all is quiet
      pub round_more : polled.journaller ≢ JournalFailed → (quiet : Bool)
          → ((quiet ≡ true) ↔ ((turned ≡ Quiet) × AreIdle polled))
          → SoFar device start (n + 1) (record after { wire = record wire { quiet = quiet } })
      round_more keeps quiet quiet_is =
          let ready = still_ready device.failed s.crew.journaller.journal crew.journaller.journal
          polled.journaller keeps fails in let next : suc n ≡ n + 1 = omega arith in record {
            live = live_still;
            at = seated_at;
            role = uses.stays.role ∙ so_far.role;
            crew = at;
            ready = ready.0;
            behind = still_behind start.rings.base _ _ so_far.behind
                (journaller_grows 1024 polled.journaller _ _ poll.journals);
            honest = honest_on;
            counts = ready.1 ∙ so_far.counts;
            leaves = leaves_on;
            rounds = rw (← next) (
              s,
              so_far.rounds,
              record {
                between = between;
                after = after;
                turned = turned;
                polled = polled;
                turns = turn;
                lives = live_still;
                polls = polls;
                keeps = keeps;
                rests = refl;
                quiet = quiet_is;
              },
            );
            delivers = λ from course before. let d = delivered from course before in (
              d.0,
              record {
                stands = d.1.stands;
                published = d.1.published;
                missed = d.1.missed;
                taken = d.1.taken;
                passed_over = d.1.passed_over;
                gave = d.1.gave;
                took = d.1.took;
              },
            );
          }

-- the one gateway's seat in its list
module _ {L : Type 0} (rings : Opened L) (seat : At L) where
  one_gateway : IsAt rings seat → seat.who.role ≡ Gateway 1 → (i : ℕ) (s : At L) → get_elem? (seat ∷ []) i ≡ some s
      → IsAt rings s × (s.who.role ≡ Gateway (i + 1))
  one_gateway is role zero s at = subst (λ (t : At L). IsAt rings t × (t.who.role ≡ Gateway 1))
      (some-injective seat s at) (is, role)
  one_gateway is role (suc i) s at = absurd (some-ne-none s (sym at))

  pub gateways_are : (items : List (At L)) → items ≡ seat ∷ [] → IsAt rings seat → seat.who.role ≡ Gateway 1
      → AreGateways rings items
  gateways_are items is at role = subst (AreGateways rings) (sym is) (one_gateway at role)

  one_spent : seat.who.claims ≡ [] → (i : ℕ) (s : At L) → get_elem? (seat ∷ []) i ≡ some s → s.who.claims ≡ []
  one_spent none zero s at = subst (λ (t : At L). t.who.claims ≡ []) (some-injective seat s at) none
  one_spent none (suc i) s at = absurd (some-ne-none s (sym at))

  pub are_spent : (items : List (At L)) → items ≡ seat ∷ [] → seat.who.claims ≡ [] → AreSpent items
  are_spent items is none = subst (λ (all : List (At L)). AreSpent all) (sym is) (one_spent none)
