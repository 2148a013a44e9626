-- One turn more, the last one, and the turns of a worker as those of a part of it.
use Rattle.std.proofs.Common.{◌≡◌, ◌∙◌, ℕ, zero, suc, ◌+◌, Bool, true, false, ap, sym, subst, refl, add-one}
use Rattle.workers.specs.declared.worker.Outcome.{Outcome}
use Rattle.workers.specs.declared.worker.Outcome.TheVariants.{Worked, Moved, Idle, Pressed, Over}
use Rattle.workers.specs.Resting.{Moments, ThreadRests, has_more}
use Rattle.workers.specs.declared.worker.Ended.{Ended}
use Rattle.workers.specs.declared.worker.Ended.TheVariants as ended
use Rattle.workers.specs.Working.{Thread, TurnAndRest, TakesTurns, Ends}

-- a turn behind which there is none was the last
is_over : (outcome : Outcome) → has_more outcome ≡ false → outcome ≡ Over
is_over Worked none = let no : true ≡ false = none in cc
is_over Moved none = let no : true ≡ false = none in cc
is_over Idle none = let no : true ≡ false = none in cc
is_over Pressed none = let no : true ≡ false = none in cc
is_over Over none = refl

-- A turn, its rest, and whether there is one more.
module _ {W P : Type 0} (took : Outcome → W → W → Type 0) (m : Moments P) (mid new : Thread W P) (outcome : Outcome)
    (on : Bool) (turn : took outcome mid.worker new.worker) (rest : ThreadRests m outcome mid.rest new.rest)
    (is : on ≡ has_more outcome) where
  pub one_more : (k : ℕ) (old : Thread W P) → TakesTurns (TurnAndRest took m) k old mid → on ≡ true
      → TakesTurns (TurnAndRest took m) (k + 1) old new
  one_more k old before goes = rw add-one (mid, before, (outcome, sym is ∙ goes, record { takes = turn; rests = rest }))

  pub the_last : on ≡ false → TurnAndRest took m Over mid new
  the_last ends = subst (λ (o : Outcome). TurnAndRest took m o mid new) (is_over outcome (sym is ∙ ends))
      (record { takes = turn; rests = rest })

-- The turns of a worker as those of a part of it, where each turn is one of that part, as long as something holds of it
-- that each turn keeps.
module _ {V W : Type 0} (took : Outcome → V → V → Type 0) (part_took : Outcome → W → W → Type 0) (part : V → W)
    (Holds : V → Type 0)
    (turn : (o : Outcome) (x y : V) → Holds x → took o x y → Holds y × part_took o (part x) (part y)) where
  turns_of : (k : ℕ) (old new : V) → Holds old → TakesTurns took k old new
      → Holds new × TakesTurns part_took k (part old) (part new)
  turns_of zero old new holds same = (subst Holds (sym same) holds, ap part same)
  turns_of (suc k) old new holds (mid, before, (outcome, goes, last)) =
      let so_far = turns_of k old mid holds before in
      let behind = turn outcome mid new so_far.0 last in
      (behind.0, (part mid, so_far.1, (outcome, goes, behind.1)))

  pub ends_of : (told : Type 0) (why : Ended) (old new : V) → Holds old → Ends took told why old new
      → Ends part_took told why (part old) (part new)
  ends_of told ended.Over old new holds (k, mid, before, last) =
      let so_far = turns_of k old mid holds before in (k, part mid, so_far.1, (turn Over mid new so_far.0 last).1)
  ends_of told ended.Told old new holds (has, (k, turns)) = (has, (k, (turns_of k old new holds turns).1))
  ends_of told ended.TookAll old new holds (k, is, turns) = (k, is, (turns_of k old new holds turns).1)
