-- How a thread rests behind a turn of its worker.
use Rattle.std.specs.Prelude.{◌≡◌, ℕ, ◌+◌, ◌-◌, ◌^◌, not, nat_lt, min, Bool, true, false, Option, Some, None}
use Rattle.std.specs.Prelude.{if◌then◌else◌}
use Rattle.workers.specs.declared.worker.Outcome.{Outcome}
use Rattle.workers.specs.declared.worker.Outcome.TheVariants.{Worked, Moved, Idle, Pressed, Over}
use Rattle.workers.specs.declared.rest.Answer.{Answer}
use Rattle.workers.specs.declared.rest.Rest.{Rest}
use Rattle.workers.specs.declared.rest.Pause.{Pause}
use Rattle.workers.specs.declared.rest.Pause.TheVariants.{Wake, Rouse, Spin, Snooze, Nap, Doze, Park}

-- after so many turns in a row that found nothing a thread says that it rests: 2,000, or 14 while it is shy
abbrev pub patience : Bool → ℕ
patience shy = if shy then 14 else 2000

-- behind a turn that found nothing, as so many before it in a row: the first 7 times it spins; then it lets others run,
-- or spins while it is shy; then it says that it rests, and takes one turn more; and if that finds nothing too, it
-- parks, for 100 milliseconds at most, and so on
abbrev pub idle_pause : ℕ → Bool → Bool → Pause
idle_pause before announced shy =
    if nat_lt before 7 then Spin
    else if nat_lt before (patience shy) then (if shy then Spin else Snooze)
    else if announced then Park 100 else Doze

-- where the worker is to look again soon: the first 8 times it spins, and then it sleeps for 30 microseconds each time
abbrev pub pressed_pause : ℕ → Pause
pressed_pause before = if nat_lt before 8 then Spin else Nap 30

-- behind a turn that did something it begins anew, and wakes others that may have work by it; and behind the last one
-- there is no pause
abbrev pub pause_after : ℕ → Bool → Bool → Outcome → Option Pause
pause_after before announced shy Worked = Some Rouse
pause_after before announced shy Moved = Some Wake
pause_after before announced shy Idle = Some (idle_pause before announced shy)
pause_after before announced shy Pressed = Some (pressed_pause before)
pause_after before announced shy Over = None

-- how many turns in a row have found nothing then; the count stays at 2^64 - 1
abbrev pub idle_after : ℕ → Outcome → ℕ
idle_after before Worked = 0
idle_after before Moved = 0
idle_after before Idle = min (before + 1) (2 ^ 64 - 1)
idle_after before Pressed = min (before + 1) (2 ^ 64 - 1)
idle_after before Over = before

-- whether it says then that it rests, or parks: else it has still to say so
abbrev pub announced_after : ℕ → Bool → Outcome → Bool
announced_after before shy Worked = false
announced_after before shy Moved = false
announced_after before shy Idle = not (nat_lt before (patience shy))
announced_after before shy Pressed = false
announced_after before shy Over = false

-- whether there is a turn more
abbrev pub has_more : Outcome → Bool
has_more Worked = true
has_more Moved = true
has_more Idle = true
has_more Pressed = true
has_more Over = false

-- whether the time is asked for: behind a turn that found nothing, as at least 7 before it in a row
abbrev pub is_asked_for : ℕ → Outcome → Bool
is_asked_for before Worked = false
is_asked_for before Moved = false
is_asked_for before Idle = not (nat_lt before 7)
is_asked_for before Pressed = false
is_asked_for before Over = false

-- what a machine tells of its calls: that it was asked for a pause, to park, to let others run, for the time, and until
-- when threads are shy, and that it was told until when they are
pub record Moments (P : Type 0) : Type 1 where
  pub paused : Pause → P → P → Type 0
  pub parked : ℕ → Bool → P → P → Type 0
  pub snoozed : ℕ → P → P → Type 0
  pub timed : ℕ → P → P → Type 0
  pub asked_until : ℕ → P → P → Type 0
  pub turned_shy : ℕ → P → P → Type 0

abbrev pub moments : {P : Type 0} → (Pause → P → P → Type 0) → (ℕ → Bool → P → P → Type 0) → (ℕ → P → P → Type 0)
    → (ℕ → P → P → Type 0) → (ℕ → P → P → Type 0) → (ℕ → P → P → Type 0) → Moments P
moments paused parked snoozed timed asked_until turned_shy = record {
  paused = paused;
  parked = parked;
  snoozed = snoozed;
  timed = timed;
  asked_until = asked_until;
  turned_shy = turned_shy;
}

-- the machine was asked for the time, then until when threads are shy, and told both; or it was asked for neither, and
-- both are 0
abbrev pub Told : {P : Type 0} → Moments P → Bool → ℕ → ℕ → P → P → Type 0
Told {P} m true time until x y = (mid : P) × m.timed time x mid × m.asked_until until mid y
Told m false time until x y = (y ≡ x) × (time ≡ 0) × (until ≡ 0)

-- what a thread tells its machine behind a pause, if it tells something: where it let others run, and was away for more
-- than 2 milliseconds, threads are shy for 100 from then on
abbrev pub shy_after : Pause → ℕ → ℕ → Option ℕ
shy_after Wake time behind = None
shy_after Rouse time behind = None
shy_after Spin time behind = None
shy_after Snooze time behind =
    if nat_lt 2000000 (behind - time) then Some (min (behind + 100000000) (2 ^ 64 - 1)) else None
shy_after (Nap micros) time behind = None
shy_after Doze time behind = None
shy_after (Park millis) time behind = None

-- the same where there was no pause
abbrev pub shy_behind : Option Pause → ℕ → ℕ → Option ℕ
shy_behind (Some pause) time behind = shy_after pause time behind
shy_behind None time behind = None

-- the machine was told that threads are shy until then, or nothing
abbrev pub SaysUntil : {P : Type 0} → Moments P → Option ℕ → P → P → Type 0
SaysUntil m (Some until) x y = m.turned_shy until x y
SaysUntil m None x y = y ≡ x

-- there was nothing to answer
abbrev pub SaysNothing : Answer → Type 0
SaysNothing answer = (answer.is_woken ≡ false) × (answer.time ≡ 0)

-- the machine was asked for this pause, or for none, and answered so
abbrev pub Asked : {P : Type 0} → Moments P → Option Pause → Answer → P → P → Type 0
Asked m (Some Wake) answer x y = m.paused Wake x y × SaysNothing answer
Asked m (Some Rouse) answer x y = m.paused Rouse x y × SaysNothing answer
Asked m (Some Spin) answer x y = m.paused Spin x y × SaysNothing answer
Asked m (Some Snooze) answer x y = m.snoozed answer.time x y × (answer.is_woken ≡ false)
Asked m (Some (Nap micros)) answer x y = m.paused (Nap micros) x y × SaysNothing answer
Asked m (Some Doze) answer x y = m.paused Doze x y × SaysNothing answer
Asked m (Some (Park millis)) answer x y = m.parked millis answer.is_woken x y × (answer.time ≡ 0)
Asked m None answer x y = (y ≡ x) × SaysNothing answer

-- A thread rested behind a turn that came to this: it asked its machine for the time and until when threads are shy,
-- then for its pause, and then told it until when they are, each where that is to be. It was shy where the time lies
-- before the end that it was told. Once it was woken it begins anew.
pub record ThreadRests {P : Type 0} (m : Moments P) (outcome : Outcome) (old new : Rest P) : Type 0 where
  pub time : ℕ
  pub until : ℕ
  pub before : P
  pub told : Told m (is_asked_for old.idle outcome) time until old.pauses before
  pub answer : Answer
  pub behind : P
  pub asked : Asked m (pause_after old.idle old.announced (nat_lt time until) outcome) answer before behind
  pub tells : SaysUntil m (shy_behind (pause_after old.idle old.announced (nat_lt time until) outcome) time answer.time)
      behind new.pauses
  pub idle : new.idle ≡ (if answer.is_woken then 0 else idle_after old.idle outcome)
  pub announced : new.announced ≡
      (if answer.is_woken then false else announced_after old.idle (nat_lt time until) outcome)
