-- What a run that listens came to, as it can be seen from outside.
use Rattle.std.proofs.Common.{◌≡◌, ◌⊎◌, inl, inr, Bool, true, false, ℕ, ◌+◌, ◌≤◌, List, length, refl, ap, sym, subst}
use Rattle.std.proofs.Common.{◌∙◌, arith}
use Rattle.std.specs.List.{flat_map}
use mathlib.Core.Option.{some}
use lib.ListN.{get_elem?}
use Rattle.venue_model.specs.Counts.{Rose}
use Rattle.venue_model.specs.History.{History}
use Rattle.venue_model.specs.Requests.{Limits}
use Rattle.disks.specs.Disk.{Both, LeavesOnly}
use Rattle.disks.specs.MomentLaws.{weaker}
use Rattle.gateway.specs.Visits.{DayPart, WasServed, IsFirstOf, acts_in, reports_by, reports_for}
use Rattle.journal.specs.Journals.{IsJournalFrom}
use Rattle.ring_words.specs.Ending.{IsBeginning}
use Rattle.ring_words.specs.declared.view.Person.{Person}
use Rattle.stages.specs.Devices.{Device}
use Rattle.stages.specs.Journalling.{FailsOn}
use Rattle.stages.specs.Stations.{disk_of}
use Rattle.venue.specs.CrashLaws.{LeftOrBehind, kept_honest, kept_leaves, leaves_behind, new_behind, serve_leaves}
use Rattle.venue.specs.CrashLaws.{still_behind}
use Rattle.venue.specs.Crashes.{Behind}
use Rattle.venue.specs.Faults.{status_of_end}
use Rattle.venue.specs.Headline.{Boundary, IsJournalBy, IsJournalOf, KeepsTold, OneHistory, ServesMembers}
use Rattle.venue.specs.Headline.{SeenListening}
use Rattle.venue.specs.Listening.{Listens, EndsListening, end_of}
use Rattle.venue.specs.Serving.{LeavesFrom}
use Rattle.venue.specs.Venues.{IsJournalBehind}
use Rattle.venue.proofs.HeadlineLemmas.{LeftOrOf, kept_same, started_by, taken_up, of_from, of_survivor, served_of}
use Rattle.venue.proofs.KeepingLemmas.{Keeps, Same, polls_keep, both_leave, same_meanwhile, same_after}
use Rattle.venue.proofs.ServingLemmas.{both_on}
use Rattle.venue.proofs.ServedLemmas.{DayAt, counts_outputs, days, came_at}
use Rattle.wires.specs.Ports.{Register}

module _ {D X : Type 0} (limits : Limits) (device : Device D) (tells : X
    → Register) (old new : Boundary D X) (status : ℕ)
    (only_now : (d : D) → device.honest d → (c : List ℕ) → (device.tells d).left_since (device.tells d).moment c
    → (device.tells d).may_leave c)
    (it : Listens limits device tells old new status) where
  abbrev base : History
  base = it.rings.base

  abbrev log : History
  log = it.finished.ended.log

  abbrev read_by : Limits
  read_by = record limits { cut = it.rings.logic.cut }

  abbrev begun : D
  begun = disk_of it.begun

  abbrev before : Person
  before = it.begun.journaller.seat.who

  abbrev behind : Person
  behind = it.ended.journaller.seat.who

  -- THE DISK

  was_behind : Behind base before
  was_behind = new_behind it.rings it.begun it.crew

  is_behind : Behind base behind
  is_behind = still_behind base before behind was_behind it.journals.grows

  honest_then : device.honest old.disk → device.honest begun
  honest_then honest = (kept_honest _ _ _ _ limits it.opened.keeps).0 honest

  honest_now : device.honest old.disk → device.honest new.disk
  honest_now honest = subst device.honest (sym it.disk_is) (it.journals.any_moment.honest.0 (honest_then honest))

  abbrev ended : D
  ended = disk_of it.ended

  by_start : device.honest old.disk → IsJournalBy read_by (device.tells begun).file base
  by_start honest = taken_up _ _ (device.tells old.disk)
      (device.tells begun) limits base it.rings.logic.cut it.opened it.cut honest

  keeps : device.honest old.disk → Keeps device begun ended
  keeps honest = polls_keep device 1024 it.journals.polls.0 it.begun.journaller it.ended.journaller it.journals.polls.1
      (honest_then honest)

  known : IsBeginning behind.seen log
  known = it.finished.ended.known 2 behind (ap (λ (ps : List Person). get_elem? ps 2) it.finished.stages)

  meanwhile : device.honest old.disk
      → LeavesOnly (device.tells old.disk) (device.tells new.disk) (LeftOrOf read_by (device.tells old.disk) base log)
  meanwhile honest =
      let by = by_start honest in let mid = device.tells begun in let end = device.tells ended in
      let from = IsJournalFrom before.sequence behind.seen in let same = Same read_by.cut by.trues.0 in
      subst (λ (d : D). LeavesOnly (device.tells old.disk) (device.tells d)
      (LeftOrOf read_by (device.tells old.disk) base log)) (sym it.disk_is)
      (served_of _ _ (device.tells old.disk) mid limits base it.rings.logic.cut it.opened it.cut honest log
      it.finished.ended.begins end
      (weaker mid end (λ c. from c × same c) (IsJournalOf read_by base log)
      (both_leave mid end from same (it.journals.any_moment.leaves (honest_then honest))
      (same_meanwhile device begun ended read_by base (only_now begun (honest_then honest))
      (it.opened.durable honest) by (keeps honest)))
      (λ c both. of_from read_by base log it.finished.ended.begins mid.file c by both.1 before behind was_behind.kept
      is_behind known both.0)))

  -- how it ended
  ended_by : (failed ready : Bool) → it.ended.journaller.journal.failed ≡ failed → it.ready ≡ ready
      → ((status ≡ 2) × Rose (device.failed old.disk) (device.failed new.disk)) ⊎ ((status ≤ 1)
      × (device.failed new.disk ≡ device.failed old.disk))
  ended_by failed ready is_failed is_ready =
      let count = ap device.failed it.disk_is in
      let is : status ≡ status_of_end (end_of failed ready) =
      it.status_is ∙ ap (λ (f : Bool). status_of_end (end_of f it.ready)) is_failed
      ∙ ap (λ (r : Bool). status_of_end (end_of failed r)) is_ready in
      by_fails failed ready is_failed is it.journals.fails
    where
      count : device.failed new.disk ≡ device.failed ended
      count = ap device.failed it.disk_is

      by_fails : (failed ready : Bool) → it.ended.journaller.journal.failed ≡ failed
          → status ≡ status_of_end (end_of failed ready)
          → FailsOn device.failed it.begun.journaller.journal it.ended.journaller.journal
          → ((status ≡ 2) × Rose (device.failed old.disk) (device.failed new.disk)) ⊎ ((status ≤ 1)
          × (device.failed new.disk ≡ device.failed old.disk))
      by_fails true ready is_failed is (inl (same, counted)) = let no : true ≡ false = sym is_failed ∙ same
          ∙ it.crew.ready in cc
      by_fails true ready is_failed is (inr (was, now, rose)) =
          inl (
            is,
            subst (λ (n : ℕ). Rose n (device.failed new.disk)) it.counts (subst
                (λ (n : ℕ). Rose (device.failed begun) n) (sym count) rose),
          )
      by_fails false true is_failed is (inl (same, counted)) = inr (omega (arith, is), count ∙ counted ∙ it.counts)
      by_fails false false is_failed is (inl (same, counted)) = inr (omega (arith, is), count ∙ counted ∙ it.counts)
      by_fails false ready is_failed is (inr (was, now, rose)) = let no : true ≡ false = sym now ∙ is_failed in cc

  -- THE MEMBERS

  abbrev all : length it.seats ≡ length old.ports
  all = it.all.0

  chosen : (ds : List (List DayPart)) × (length ds ≡ length old.ports) × ((i : ℕ) (day : List DayPart)
      → get_elem? ds i ≡ some day
      → DayAt it.rings it.finished.seats it.seats it.summary
      (counts_outputs read_by base it.rings it.behind) it.finished.gateways_are
      it.finished.ended tells old.ports new.ports all it.all.1 it.back i day)
  chosen = days it.rings it.finished.seats it.seats it.summary
      (counts_outputs read_by base it.rings it.behind) it.finished.gateways_are
      it.finished.ended tells old.ports new.ports all it.all.1 it.back

  keeps_told : device.honest old.disk → (file : List ℕ) → (device.tells new.disk).may_leave file
      → KeepsTold read_by base log chosen.0 file
  keeps_told honest file left =
      let survives = it.finished.survives (honest_now honest) file left in let by = by_start honest in
      let same = same_after device begun ended read_by base (only_now begun (honest_then honest))
      (it.opened.durable honest) by (keeps honest) file
      (subst (λ (d : D). (device.tells d).may_leave file) it.disk_is left) in record {
        of_log = of_survivor read_by base log it.finished.ended.begins
            (device.tells begun).file file by same behind is_behind survives;
        told = λ i day there. let at = chosen.2 i day there in
            subst (λ (l : Limits). IsFirstOf (flat_map reports_by (flat_map acts_in day))
            (reports_for (i + 1) l base survives.history))
            it.behind.logic
            (at.is.kept survives.history (λ s e seen. survives.holds s e
            (it.finished.holds i at.seat at.seat_at s e seen)));
      }

  one_history : OneHistory limits (device.honest old.disk) (device.tells old.disk) (device.tells new.disk) chosen.0
  one_history = record {
    base = base;
    log = log;
    cut = it.rings.logic.cut;
    journal = λ honest. started_by _ _ (device.tells old.disk)
        (device.tells begun) limits base it.rings.logic.cut it.opened it.cut honest;
    begins = it.finished.ended.begins;
    later = λ s m least there. let is = (it.finished.ended.later s m least there).1 in
        let count = ap length it.finished.gateways_are in let most = is.1 in
        let many = chosen.1 in (is.0, omega (arith, most, count, many, all));
    served = λ i day there. subst (λ (l : Limits). WasServed (i + 1) l base log day) it.behind.logic
        (chosen.2 i day there).is.served;
    meanwhile = λ honest. (meanwhile honest).each;
    keeps = keeps_told;
  }

  serves_members : ServesMembers limits device tells old new status
  serves_members = record {
    failed = ended_by it.ended.journaller.journal.failed it.ready refl refl;
    days = chosen.0;
    all = (chosen.1, it.all.1);
    history = one_history;
    clients = λ i x y day in_old in_new in_days.
        came_at it.rings it.finished.seats it.seats it.summary
        (counts_outputs read_by base it.rings it.behind) it.finished.gateways_are
        it.finished.ended tells old.ports new.ports all it.all.1 it.back i day
        (chosen.2 i day in_days) x y in_old in_new;
  }

-- What a run came to is what can be seen of it, and what a crash leaves.
module _ {D X C : Type 0} {limits : Limits} {device : Device D} {tells : X → Register} {old new : Boundary D X}
    {status : ℕ} (cleared : C)
    (only_now : (d : D) → device.honest d → (c : List ℕ) → (device.tells d).left_since (device.tells d).moment c
    → (device.tells d).may_leave c) where
  pub ends_so : EndsListening limits device tells old new status → record {
    ends : EndsListening limits device tells old new status;
    seen : SeenListening limits device tells old new status;
    cleared : C;
    honest : Both (device.honest old.disk) (device.honest new.disk);
    any_moment : device.honest old.disk → LeavesFrom (device.tells old.disk) (device.tells new.disk);
  }
  ends_so (inl (is, none)) = record {
    ends = inl (is, none);
    seen = inl (is, none.ports, kept_same _ _ _ _ limits none.disk);
    cleared = cleared;
    honest = kept_honest _ _ _ _ limits none.disk;
    any_moment = kept_leaves _ _ _ _ limits none.disk;
  }
  ends_so (inr it) =
      let then = kept_honest _ _ _ _ limits it.opened.keeps in let run = it.journals.any_moment in
      let begun = device.tells (disk_of it.begun) in let ended = device.tells (disk_of it.ended) in record {
        ends = inr it;
        seen = inr (serves_members limits device tells old new status only_now it);
        cleared = cleared;
        honest = rw it.disk_is (both_on _ _ _ then run.honest);
        any_moment = λ honest. rw it.disk_is (serve_leaves _ _ _ begun ended limits it.rings.base it.opened honest
            (weaker begun ended (IsJournalBehind it.rings.base) (LeftOrBehind begun it.rings.base)
            (leaves_behind it.rings.base _ _ begun ended (new_behind it.rings it.begun it.crew) it.journals.grows
            (run.leaves (then.0 honest))) (λ c is. inr is)));
      }
