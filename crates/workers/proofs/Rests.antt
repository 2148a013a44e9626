-- A rest of a thread, from what its steps say.
use Rattle.std.specs.Prelude.{if◌then◌else◌}
use Rattle.std.proofs.Common.{◌≡◌, ℕ, ap, nat_lt, false, Option}
use Rattle.workers.specs.declared.worker.Outcome.{Outcome}
use Rattle.workers.specs.declared.rest.Answer.{Answer}
use Rattle.workers.specs.declared.rest.Pause.{Pause}
use Rattle.workers.specs.declared.rest.Rest.{Rest}
use Rattle.workers.specs.Resting.{Moments, Asked, SaysUntil, Told, ThreadRests, announced_after, idle_after}
use Rattle.workers.specs.Resting.{is_asked_for, pause_after, shy_behind}

-- the machine told the time, then the turn was counted, and then the machine was asked for the pause
pub rest_of : {P : Type 0} (m : Moments P) (outcome : Outcome) (old timed counted new : Rest P) (told : ℕ × ℕ)
    (pause : Option Pause) (answer : Answer) (behind : P)
    → Told m (is_asked_for old.idle outcome) told.0 told.1 old.pauses timed.pauses
    → timed ≡ record old { pauses = timed.pauses }
    → pause ≡ pause_after timed.idle timed.announced (nat_lt told.0 told.1) outcome
    → counted.idle ≡ idle_after timed.idle outcome
    → counted.announced ≡ announced_after timed.idle (nat_lt told.0 told.1) outcome
    → counted ≡ record timed { idle = counted.idle; announced = counted.announced }
    → Asked m pause answer counted.pauses behind → SaysUntil m (shy_behind pause told.0 answer.time) behind new.pauses
    → new.idle ≡ (if answer.is_woken then 0 else counted.idle)
    → new.announced ≡ (if answer.is_woken then false else counted.announced) → ThreadRests m outcome old new
rest_of m outcome old timed counted new told pause answer behind says others is idle announced kept asked tells idle_is
    announced_is =
    let same = rw others at is in record {
      time = told.0;
      until = told.1;
      before = timed.pauses;
      told = says;
      answer = answer;
      behind = behind;
      asked = rw (← same) (rw (ap (λ (r : Rest _). r.pauses) kept) at asked);
      tells = rw (← same) tells;
      idle = rw (← (rw others at idle)) idle_is;
      announced = rw (← (rw others at announced)) announced_is;
    }
