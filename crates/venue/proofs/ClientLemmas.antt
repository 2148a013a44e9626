-- What a run for one client came to, as it can be seen from outside.
use Rattle.std.proofs.Common.{◌≡◌, ◌⊎◌, inl, inr, ⊎_elim, ℕ, zero, suc, ◌+◌, Bool, false, List, [], ◌∷◌, ◌++◌, Some}
use Rattle.std.proofs.Common.{length, refl, ap, sym, subst, ◌∙◌, arith, append-nil}
use Rattle.std.specs.Prelude.{Result, Ok, Err}
use Rattle.std.specs.List.{flat_map}
use mathlib.Core.Option.{some, some-injective, some-ne-none}
use lib.ListN.{get_elem?}
use Rattle.venue_model.specs.History.{History}
use Rattle.venue_model.specs.Requests.{Limits}
use Rattle.disks.specs.Disk.{Told, LeavesOnly}
use Rattle.disks.specs.MomentLaws.{started, joined, weaker}
use Rattle.venue.specs.Accepting.{Accepting, without_client}
use Rattle.gateway.specs.Gateways.{AtRings, begun}
use Rattle.gateway.specs.Turns.{Front}
use Rattle.gateway.specs.Visits.{DayPart, WasServed, IsFirstOf, acts_in, reports_by, reports_for}
use Rattle.gateway.specs.declared.ending.Turned.{Turned}
use Rattle.venue.proofs.LifeLemmas.{Life, life-begins, life-admits}
use Rattle.venue.proofs.WholeLives.{life-serves, life-kept, life-gone}
use Rattle.venue.proofs.TurnLives.{goes_on}
use Rattle.journal.specs.Journals.{IsJournalFrom}
use Rattle.ring_words.specs.At.{Opened, At}
use Rattle.ring_words.specs.Ending.{IsBeginning}
use Rattle.ring_words.specs.Log.{sent_at, published_at}
use Rattle.ring_words.specs.declared.view.Person.{Person}
use Rattle.stages.specs.Devices.{Device}
use Rattle.stages.specs.Finishing.{Finished}
use Rattle.stages.specs.JournallingLaws.{grows_twice, of_more, of_fewer}
use Rattle.stages.specs.PollLaws.{Grows, journaller_grows}
use Rattle.stages.specs.Stations.{OneCrew, disk_of}
use Rattle.stages.specs.declared.crew.Turns.{Turns}
use Rattle.venue.specs.CrashLaws.{kept_honest, new_behind, still_behind}
use Rattle.venue.specs.Crashes.{Behind}
use Rattle.venue.specs.Headline.{IsJournalBy, IsJournalOf, KeepsTold, OneHistory, ServesClient, SeenServing}
use Rattle.venue.specs.Rounds.{TakesGatewayTurn, TakesPolls, Round, Rounds, Finale}
use Rattle.venue.specs.Serving.{Outside, Serves, EndsWith}
use Rattle.venue.specs.Venues.{Venue}
use Rattle.venue.specs.declared.fault.ServeFault.{ServeFault}
use Rattle.venue.proofs.HeadlineLemmas.{LeftOrOf, kept_same, started_by, taken_up, of_from, of_survivor, served_of}
use Rattle.venue.proofs.KeepingLemmas.{Keeps, Same, keeps_further, block_keeps, both_leave, same_meanwhile, same_after}
use Rattle.venue.proofs.ServedLemmas.{counts_outputs}
use Rattle.venue.proofs.ServingLemmas.{still_ready}
use Rattle.wires.specs.Wires as wires

-- the one gateway with its client, whose wire tells this
abbrev with_client : AtRings → wires.Told → Accepting
with_client gateway wire = record { gateway = gateway; wire = Some wire }

abbrev at_client : {D : Type 0} → Venue D → Accepting
at_client s = with_client s.gateway s.wire

abbrev keeper : {D : Type 0} → Venue D → Person
keeper s = s.crew.journaller.seat.who

-- A session that began here, with its client's wire as it was then, has come there.
module _ {D : Type 0} (device : Device D) (start : Venue D)
    (only_now : (d : D) → device.honest d → (c : List ℕ) → (device.tells d).left_since (device.tells d).moment c
    → (device.tells d).may_leave c) where
  abbrev told_by : Venue D → Told
  told_by s = device.tells (disk_of s.crew)

  -- what a crash leaves meanwhile
  abbrev LeftOrFrom : Venue D → List ℕ → Type 0
  LeftOrFrom t file = (told_by start).may_leave file ⊎ IsJournalFrom (keeper start).sequence (keeper t).seen file

  record Reached (t : Venue D) : Type 0 where
    rings : t.rings ≡ start.rings
    life : Life start.rings 1 (at_client t) (start.wire ∷ []) []
    grows : Grows (keeper start) (keeper t)
    honest : device.honest (disk_of start.crew) → device.honest (disk_of t.crew)
    leaves : device.honest (disk_of start.crew) → LeavesOnly (told_by start) (told_by t) (LeftOrFrom t)
    keeps : device.honest (disk_of start.crew) → Keeps device (disk_of start.crew) (disk_of t.crew)

  abbrev IsReady : Venue D → Type 0
  IsReady t = t.crew.journaller.journal.failed ≡ false

  -- where the stages are as they were
  same_crew : (s t : Venue D) → t.crew ≡ s.crew → t.rings ≡ s.rings
      → Life start.rings 1 (at_client t) (start.wire ∷ []) [] → Reached s → Reached t
  same_crew s t crew rings life before = record {
    rings = rings ∙ before.rings;
    life = life;
    grows = subst (λ (c : OneCrew D). Grows (keeper start) c.journaller.seat.who) (sym crew) before.grows;
    honest = λ is. subst (λ (c : OneCrew D). device.honest (disk_of c)) (sym crew) (before.honest is);
    leaves = λ is. subst (λ (c : OneCrew D). LeavesOnly (told_by start) (device.tells (disk_of c))
        (λ file. (told_by start).may_leave file
        ⊎ IsJournalFrom (keeper start).sequence c.journaller.seat.who.seen file)) (sym crew) (before.leaves is);
    keeps = λ is. subst (λ (c : OneCrew D). Keeps device (disk_of start.crew) (disk_of c)) (sym crew) (before.keeps is);
  }

  -- behind a poll of each stage
  behind_polls : (s t : Venue D) (polled : Turns) → TakesPolls device s t polled → IsReady s → Reached s → Reached t
  behind_polls s t polled polls ready before =
      let grows = journaller_grows 1024 polled.journaller (keeper s) (keeper t) polls.polls.journals in
      let all = grows_twice (keeper start) (keeper s) (keeper t) before.grows grows in
      let meanwhile = polls.leaves.any_moment in record {
        rings = ap (λ (v : Venue D). v.rings) polls.others ∙ before.rings;
        life = subst (λ (a : Accepting). Life start.rings 1 a (start.wire ∷ []) [])
            (sym (ap at_client polls.others)) before.life;
        grows = all;
        honest = λ is. meanwhile.honest.0 (before.honest is);
        leaves = λ is. joined (told_by start) (told_by s) (told_by t) (LeftOrFrom t)
            (weaker (told_by start) (told_by s) (LeftOrFrom s) (LeftOrFrom t) (before.leaves is) (λ c had. ⊎_elim inl
            (λ from. inr (of_more (keeper start).sequence (keeper s) (keeper t) grows c from)) had))
            (weaker (told_by s) (told_by t) (IsJournalFrom (keeper s).sequence (keeper t).seen) (LeftOrFrom t)
            (meanwhile.leaves (before.honest is))
            (λ c from. inr (of_fewer (keeper start).sequence (keeper s).sequence
            (keeper t).seen before.grows.sequence c from)));
        keeps = λ is. keeps_further device (disk_of start.crew) (disk_of s.crew) (disk_of t.crew) (before.keeps is)
            (block_keeps device 1024 s.crew.journaller t.crew.journaller polls.leaves ready (before.honest is));
      }

  -- behind a turn of the gateway, whatever its wire is told of rest
  turn_lives : (s t : Venue D) (turned : Turned) → TakesGatewayTurn s t turned → Reached s → (quiet : Bool)
      → Life start.rings 1 (with_client t.gateway (record t.wire { quiet = quiet })) (start.wire ∷ []) []
  turn_lives s t turned takes before quiet =
      goes_on start.rings 1 1024 (at_client s) (with_client t.gateway (record t.wire { quiet = quiet }))
      (start.wire ∷ []) [] before.life turned
      s.wire t.wire refl takes.turn takes.uses quiet refl

  behind_turn : (s t : Venue D) (turned : Turned) → TakesGatewayTurn s t turned → Reached s → Reached t
  behind_turn s t turned takes before =
      same_crew s t (ap (λ (v : Venue D). v.crew) takes.others) (ap (λ (v : Venue D). v.rings) takes.others)
      (turn_lives s t turned takes before t.wire.quiet) before

  -- a turn leaves the stages
  ready_behind : (s t : Venue D) → t.crew ≡ s.crew → IsReady s → IsReady t
  ready_behind s t crew ready = ap (λ (c : OneCrew D). c.journaller.journal.failed) crew ∙ ready

  -- behind a round
  behind_round : (s t : Venue D) → Round device s t → IsReady s → Reached s → Reached t
  behind_round s t round ready before =
      let mid = behind_turn s round.between round.turned round.turns before in
      let after = behind_polls round.between round.after round.polled round.polls
      (ready_behind s round.between (ap (λ (v : Venue D). v.crew) round.turns.others) ready) mid in
      let quiet = t.wire.quiet in
      let is : at_client t ≡ with_client round.between.gateway (record round.between.wire { quiet = quiet }) =
      ap at_client round.rests ∙ ap (λ (v : Venue D). with_client v.gateway (record v.wire {
        quiet =
            quiet;
      })) round.polls.others in
      same_crew round.after t (ap (λ (v : Venue D). v.crew) round.rests) (ap (λ (v : Venue D). v.rings) round.rests)
      (subst (λ (a : Accepting). Life start.rings 1 a (start.wire ∷ []) []) (sym is)
      (turn_lives s round.between round.turned round.turns before quiet)) after

  still_ready_behind : (s t : Venue D) → Round device s t → IsReady t
  still_ready_behind s t round = ready_behind round.after t (ap (λ (v : Venue D). v.crew) round.rests)
      (still_ready device.failed round.between.crew.journaller.journal round.after.crew.journaller.journal
      round.polled.journaller
      round.keeps round.polls.fails).0

  behind_rounds : (n : ℕ) (t : Venue D) → Rounds device n start t → IsReady start → Reached start
      → IsReady t × Reached t
  behind_rounds zero t is ready here = subst (λ (v : Venue D). IsReady v × Reached v) (sym is) (ready, here)
  behind_rounds (suc n) t (u, before, round) ready here =
      let so_far = behind_rounds n u before ready here in
      (still_ready_behind u t round, behind_round u t round so_far.0 so_far.1)

  at_end : (n : ℕ) (s t : Venue D) (result : Result (Unit {0}) ServeFault) → Finale device n s t result → IsReady s
      → Reached s → Reached t
  at_end n s t (Ok done) (inl (reason, takes)) ready before = behind_turn s t _ takes before
  at_end n s t (Ok done) (inr (count, is)) ready before = subst Reached (sym is) before
  at_end n s t (Err f) (is, u, turned, polled, takes, live, polls, failed) ready before =
      behind_polls u t polled polls (ready_behind s u (ap (λ (v : Venue D). v.crew) takes.others) ready)
      (behind_turn s u turned takes before)

  -- at the start
  at_start : Life start.rings 1 (at_client start) (start.wire ∷ []) [] → Reached start
  at_start life = record {
    rings = refl;
    life = life;
    grows = record { more = []; seen = sym (append-nil (keeper start).seen); sequence = omega arith };
    honest = λ is. is;
    leaves = λ is. started (told_by start) (LeftOrFrom start) (λ c left. inl (only_now (disk_of start.crew) is c left));
    keeps = λ is. inl refl;
  }

module _ {D : Type 0} (limits : Limits) (device : Device D) (old new : Outside D)
    (result : Result (Unit {0}) ServeFault)
    (only_now : (d : D) → device.honest d → (c : List ℕ) → (device.tells d).left_since (device.tells d).moment c
    → (device.tells d).may_leave c)
    (it : Serves limits device old new result) where
  abbrev rings : Opened Limits
  rings = it.start.rings

  abbrev base : History
  base = rings.base

  abbrev read_by : Limits
  read_by = record limits { cut = rings.logic.cut }

  abbrev begins_at : At Limits
  begins_at = it.start.gateway.seat

  -- the client was let in where nobody had been
  life_begins : Life rings 1 (at_client it.start) (it.start.wire ∷ []) []
  life_begins =
      let gateway : it.start.gateway ≡ record (without_client rings 1).gateway { front = begun 1 0 } =
      ap (λ (f : Front). record { front = f; seat = begins_at }) it.opens.session
      ∙ ap (λ (s : At Limits). record { front = begun 1 0; seat = s }) it.opens.seat in
      life-admits rings 1 (without_client rings 1) (at_client it.start) [] []
      (life-begins rings 1 (counts_outputs read_by base rings it.opens.behind)) it.start.wire
      (refl, ap (λ (g : AtRings). with_client g it.start.wire) gateway)

  rounds : (it.serves.last.crew.journaller.journal.failed ≡ false) × Reached device it.start only_now it.serves.last
  rounds = behind_rounds device it.start only_now it.serves.count it.serves.last it.serves.rounds it.opens.crew.ready
      (at_start device it.start only_now life_begins)

  reached : Reached device it.start only_now it.end
  reached = at_end device it.start only_now it.serves.count it.serves.last it.end result it.serves.finale rounds.0
      rounds.1

  abbrev seat : At Limits
  seat = it.end.gateway.seat

  abbrev before : Person
  before = keeper it.start

  abbrev behind : Person
  behind = keeper it.end

  finished : Finished rings (seat ∷ []) it.end.crew (device.honest new.disk) (device.tells new.disk) it.summary
  finished = subst (λ (r : Opened Limits). Finished r (seat ∷ []) it.end.crew (device.honest new.disk)
      (device.tells new.disk) it.summary)
      reached.rings it.finished

  abbrev log : History
  log = finished.ended.log

  seat_at : get_elem? finished.seats.gateways.items 0 ≡ some seat
  seat_at = ap (λ (l : List (At Limits)). get_elem? l 0) finished.gateways_are

  mine : (s : ℕ) → sent_at s seat.who.mine ≡ published_at (length base) 1 log s
  mine s = subst (λ (n : ℕ). sent_at s seat.who.mine ≡ published_at (length base) n log s) reached.life.sits.number_is
      (finished.ended.mine 0 seat seat_at s)

  abbrev day : List DayPart
  day = reached.life.done ++ reached.life.running

  served : WasServed 1 rings.logic base log day
  served = life-serves rings 1 1024 (at_client it.end)
      (it.start.wire ∷ []) [] reached.life log mine (finished.ended.seen 0 seat seat_at).0

  -- THE DISK

  was_behind : Behind base before
  was_behind = new_behind rings it.start.crew it.opens.crew

  is_behind : Behind base behind
  is_behind = still_behind base before behind was_behind reached.grows

  honest_then : device.honest old.disk → device.honest (disk_of it.start.crew)
  honest_then honest = (kept_honest _ _ _ _ limits it.opens.disk_is.keeps).0 honest

  honest_now : device.honest old.disk → device.honest new.disk
  honest_now honest = subst device.honest (sym it.disk_is) (reached.honest (honest_then honest))

  abbrev first_disk : D
  first_disk = disk_of it.start.crew

  abbrev last_disk : D
  last_disk = disk_of it.end.crew

  by_start : device.honest old.disk → IsJournalBy read_by (device.tells first_disk).file base
  by_start honest = taken_up _ _ (device.tells old.disk)
      (device.tells first_disk) limits base rings.logic.cut it.opens.disk_is it.opens.cut honest

  known : IsBeginning behind.seen log
  known = finished.ended.known 2 behind (ap (λ (ps : List Person). get_elem? ps 2) finished.stages)

  -- the journal of a beginning of the log, or what stood there
  of_either : (honest : device.honest old.disk) (c : List ℕ) → LeftOrFrom device it.start only_now it.end c
      → Same read_by.cut (by_start honest).trues.0 c → IsJournalOf read_by base log c
  of_either honest c (inl left) same =
      let file = it.opens.disk_is.durable honest c left in let by = by_start honest in record {
        history = base;
        journal = subst (λ (f : List ℕ). IsJournalBy read_by f base) (sym file) by;
        begins = finished.ended.begins;
        behind = omega arith;
      }
  of_either honest c (inr from) same =
      of_from read_by base log finished.ended.begins (device.tells first_disk).file c (by_start honest) same
      before behind was_behind.kept is_behind known from

  meanwhile : device.honest old.disk
      → LeavesOnly (device.tells old.disk) (device.tells new.disk) (LeftOrOf read_by (device.tells old.disk) base log)
  meanwhile honest =
      let by = by_start honest in let mid = device.tells first_disk in let end = device.tells last_disk in
      let from = LeftOrFrom device it.start only_now it.end in let same = Same read_by.cut by.trues.0 in
      subst (λ (d : D). LeavesOnly (device.tells old.disk) (device.tells d)
      (LeftOrOf read_by (device.tells old.disk) base log)) (sym it.disk_is)
      (served_of _ _ (device.tells old.disk) mid limits base rings.logic.cut it.opens.disk_is it.opens.cut honest log
      finished.ended.begins end
      (weaker mid end (λ c. from c × same c) (IsJournalOf read_by base log)
      (both_leave mid end from same (reached.leaves (honest_then honest))
      (same_meanwhile device first_disk last_disk read_by base (only_now first_disk (honest_then honest))
      (it.opens.disk_is.durable honest) by
      (reached.keeps (honest_then honest))))
      (λ c both. of_either honest c both.0 both.1)))

  first_told : (h : History) → IsBeginning seat.who.seen h → (i : ℕ) (d : List DayPart)
      → get_elem? (day ∷ []) i ≡ some d
      → IsFirstOf (flat_map reports_by (flat_map acts_in d)) (reports_for (i + 1) read_by base h)
  first_told h begins zero d there =
      subst (λ (x : List DayPart). IsFirstOf (flat_map reports_by (flat_map acts_in x)) (reports_for 1 read_by base h))
      (some-injective day d there)
      (subst (λ (l : Limits). IsFirstOf (flat_map reports_by (flat_map acts_in day))
      (reports_for 1 l base h)) it.opens.behind.logic
      (life-kept rings 1 1024 (at_client it.end) (it.start.wire ∷ []) [] reached.life h begins))
  first_told h begins (suc i) d there = absurd (some-ne-none d (sym there))

  keeps_told : device.honest old.disk → (file : List ℕ) → (device.tells new.disk).may_leave file
      → KeepsTold read_by base log (day ∷ []) file
  keeps_told honest file left =
      let survives = finished.survives (honest_now honest) file left in let by = by_start honest in
      let same = same_after device first_disk last_disk read_by base (only_now first_disk (honest_then honest))
      (it.opens.disk_is.durable honest) by
      (reached.keeps (honest_then honest)) file (subst (λ (d : D). (device.tells d).may_leave file) it.disk_is left) in
      record {
        of_log = of_survivor read_by base log finished.ended.begins
            (device.tells first_disk).file file by same behind is_behind survives;
        told = first_told survives.history (λ s e seen. survives.holds s e (finished.holds 0 seat refl s e seen));
      }

  first_served : (i : ℕ) (d : List DayPart) → get_elem? (day ∷ []) i ≡ some d → WasServed (i + 1) read_by base log d
  first_served zero d there = subst (λ (x : List DayPart). WasServed 1 read_by base log x) (some-injective day d there)
      (subst (λ (l : Limits). WasServed 1 l base log day) it.opens.behind.logic served)
  first_served (suc i) d there = absurd (some-ne-none d (sym there))

  one_history : OneHistory limits (device.honest old.disk) (device.tells old.disk) (device.tells new.disk) (day ∷ [])
  one_history = record {
    base = base;
    log = log;
    cut = rings.logic.cut;
    journal = λ honest. started_by _ _ (device.tells old.disk)
        (device.tells first_disk) limits base rings.logic.cut it.opens.disk_is it.opens.cut honest;
    begins = finished.ended.begins;
    later = λ s m least there. let is = (finished.ended.later s m least there).1 in
        let count = ap length finished.gateways_are in let most = is.1 in (is.0, omega (arith, most, count));
    served = first_served;
    meanwhile = λ honest. (meanwhile honest).each;
    keeps = keeps_told;
  }

  serves_client : ServesClient limits (device.honest old.disk)
      (record { disk = device.tells old.disk; wire = old.wire })
      (record { disk = device.tells new.disk; wire = new.wire })
  serves_client = record {
    day = day;
    history = one_history;
    came = reached.life.came_are ∙ ap (λ (w : wires.Told). w ∷ []) it.opens.wire;
    gone = life-gone rings 1 1024 (at_client it.end)
        (it.start.wire ∷ []) [] reached.life log mine (finished.ended.seen 0 seat seat_at).0
        ∙ ap (λ (w : wires.Told). w ∷ []) (sym it.wire);
  }

-- what a run came to is what can be seen of it
pub seen_serving : {D : Type 0} (limits : Limits) (device : Device D) (old new : Outside D) (status : ℕ)
    → ((d : D) → device.honest d → (c : List ℕ) → (device.tells d).left_since (device.tells d).moment c
    → (device.tells d).may_leave c)
    → (status ≡ 1 → new.wire ≡ old.wire) → EndsWith limits device old new status
    → SeenServing limits (device.honest old.disk) (record { disk = device.tells old.disk; wire = old.wire })
    (record { disk = device.tells new.disk; wire = new.wire }) status
seen_serving limits device old new status only_now untouched (inl (is, keeps)) =
    inl (is, untouched is, kept_same _ _ (device.tells old.disk) (device.tells new.disk) limits keeps)
seen_serving limits device old new status only_now untouched (inr (result, is, it)) =
    inr (serves_client limits device old new result only_now it)
