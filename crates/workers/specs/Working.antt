-- The turns of a worker, with the rests of its thread between them, and why they ended.
use Rattle.std.specs.Prelude.{◌≡◌, ℕ, zero, suc, ◌-◌, ◌^◌, true}
use Rattle.workers.specs.declared.worker.Outcome.{Outcome}
use Rattle.workers.specs.declared.worker.Outcome.TheVariants.{Over}
use Rattle.workers.specs.declared.worker.Ended.{Ended}
use Rattle.workers.specs.declared.worker.Ended.TheVariants as ended
use Rattle.workers.specs.declared.rest.Rest.{Rest}
use Rattle.workers.specs.Resting.{Moments, has_more, ThreadRests}

-- turns, each of which came to an outcome
module _ {W : Type 0} (took : Outcome → W → W → Type 0) where
  -- so many of them, one behind the other, none of which was the last
  abbrev pub TakesTurns : ℕ → W → W → Type 0
  TakesTurns zero old new = new ≡ old
  TakesTurns (suc k) old new = (mid : W) × TakesTurns k old mid
      × ((outcome : Outcome) × (has_more outcome ≡ true) × took outcome mid new)

  -- Why there were no more: the last one said that it is over; it was told to end; or there were 2^64 - 1.
  abbrev pub Ends : Type 0 → Ended → W → W → Type 0
  Ends told ended.Over old new = (k : ℕ) × (mid : W) × TakesTurns k old mid × took Over mid new
  Ends told ended.Told old new = told × ((k : ℕ) × TakesTurns k old new)
  Ends told ended.TookAll old new = (k : ℕ) × (k ≡ 2 ^ 64 - 1) × TakesTurns k old new

-- a worker, and how its thread rests
pub record Thread (W P : Type 0) : Type 0 where
  pub worker : W
  pub rest : Rest P

abbrev pub thread : {W P : Type 0} → W → Rest P → Thread W P
thread worker rest = record { worker = worker; rest = rest }

-- a turn, and the rest that it asks for
pub record TurnAndRest {W P : Type 0} (took : Outcome → W → W → Type 0) (m : Moments P) (outcome : Outcome)
    (old new : Thread W P) : Type 0 where
  pub takes : took outcome old.worker new.worker
  pub rests : ThreadRests m outcome old.rest new.rest
