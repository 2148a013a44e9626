-- A wire that gathers in front of another one: what it is, what it tells and holds, and what its calls do.
use Rattle.std.specs.Prelude.{◌≡◌, ◌↔◌, ◌⊎◌, ℕ, ◌+◌, ◌<◌, ◌≤◌, Bool, true, false, List, [], length, Option}
use Rattle.wires.specs.declared.buffers.TheConstants.{BACKLOG, CAUGHT_UP, MOST_LATE, MOST_SKIPPED}
use Rattle.wires.specs.declared.counts.Counts.{Counts}
use Rattle.wires.specs.declared.flushed.Flushed.{Flushed}
use Rattle.wires.specs.declared.flushed.Flushed.TheVariants.{Failed}
use Rattle.wires.specs.declared.wire.TryRead.{TryRead}
use Rattle.wires.specs.declared.wire.TryRead.TheVariants as read
use Rattle.wires.specs.declared.wire.TryWrite.{TryWrite}
use Rattle.wires.specs.declared.wire.TryWrite.TheVariants as write
use Rattle.wires.specs.Wires.{Told, telling, uncounted, grown, before_last}
use Rattle.wires.specs.Flushing.{Flushes}
use Rattle.wires.specs.Gatherings.{HandsOut, Gathers}

-- the wire below; the bytes that it gave, and that were not handed out yet; those that were taken, and that it did not
-- take yet; the counts; whether it was last told to rest; how many reads in a row have asked nobody; how many writes in
-- a row came too late; and whether it is broken: from then on each read and write fails, and the wire below moves no
-- bytes
pub record Gathering (W : Type 0) : Type 0 where
  pub below : W
  pub ahead : List ℕ
  pub waiting : List ℕ
  pub counts : Counts
  pub quiet : Bool
  pub skipped : ℕ
  pub late : ℕ
  pub broken : Bool

-- where the wire below tells so: it gave what that gave, but for what is held ahead, and took what that took, and then
-- what waits
abbrev pub told_gathering : {W : Type 0} → (W → Told) → Gathering W → Told
told_gathering tells g =
    telling (before_last (tells g.below).gave g.ahead) (grown (tells g.below).took g.waiting) g.counts g.quiet

abbrev pub below_of : {W : Type 0} → Gathering W → W
below_of g = g.below

abbrev pub ahead_of : {W : Type 0} → Gathering W → List ℕ
ahead_of g = g.ahead

abbrev pub waiting_of : {W : Type 0} → Gathering W → List ℕ
waiting_of g = g.waiting

-- what the wire below took has gone out
abbrev pub sent_below : {W : Type 0} → (W → Told) → Gathering W → Option (List ℕ)
sent_below tells g = (tells g.below).took

abbrev pub quiet_of : {W : Type 0} → Gathering W → Bool
quiet_of g = g.quiet

abbrev pub skipped_of : {W : Type 0} → Gathering W → ℕ
skipped_of g = g.skipped

abbrev pub late_of : {W : Type 0} → Gathering W → ℕ
late_of g = g.late

abbrev pub broken_of : {W : Type 0} → Gathering W → Bool
broken_of g = g.broken

-- what the wire below tells, and what this one holds
pub record Holding : Type 0 where
  pub below : Told
  pub ahead : List ℕ
  pub waiting : List ℕ
  pub skipped : ℕ
  pub late : ℕ
  pub broken : Bool

-- where the wire below tells so
abbrev pub holding : {W : Type 0} → (W → Told) → Gathering W → Holding
holding tells g =
    record {
      below = tells g.below;
      ahead = g.ahead;
      waiting = g.waiting;
      skipped = g.skipped;
      late = g.late;
      broken = g.broken;
    }

-- as it is made: it holds nothing, tells of bytes what the wire below tells, and counted nothing
pub record IsFresh {W : Type 0} (tells : W → Told) (g : Gathering W) : Type 0 where
  pub ahead : ahead_of g ≡ []
  pub waiting : waiting_of g ≡ []
  pub skipped : skipped_of g ≡ 0
  pub late : late_of g ≡ 0
  pub broken : broken_of g ≡ false
  pub told : told_gathering tells g ≡ uncounted (tells g.below).gave (tells g.below).took

-- it holds the same, and the wire below is as it was
pub record HoldsSame {W : Type 0} (old new : Gathering W) : Type 0 where
  pub below : below_of new ≡ below_of old
  pub ahead : ahead_of new ≡ ahead_of old
  pub waiting : waiting_of new ≡ waiting_of old
  pub skipped : skipped_of new ≡ skipped_of old
  pub late : late_of new ≡ late_of old
  pub broken : broken_of new ≡ broken_of old

-- what a read leaves as it was
pub record HoldsElse {W : Type 0} (old new : Gathering W) : Type 0 where
  pub waiting : new.waiting ≡ old.waiting
  pub counts : new.counts ≡ old.counts
  pub quiet : new.quiet ≡ old.quiet
  pub late : new.late ≡ old.late
  pub broken : new.broken ≡ old.broken

-- the wire below was told whether to rest
abbrev pub rested : Holding → Bool → Holding
rested h quiet = record h { below = record h.below { quiet = quiet } }

-- whether a read may ask nobody: the wire wasn't last told to rest, nothing is held ahead, and fewer than 32 in a row
-- have asked nobody
abbrev pub MaySkip : Bool → List ℕ → ℕ → Type 0
MaySkip quiet ahead skipped = (quiet ≡ false) × (skipped < MOST_SKIPPED) × (ahead ≡ [])

-- a read that asks nobody finds nothing, and is counted
abbrev pub Skips : Bool → Holding → Holding → TryRead → Type 0
Skips quiet old new answer =
    MaySkip quiet old.ahead old.skipped × (answer ≡ read.Nothing) × (new ≡ record old { skipped = old.skipped + 1 })

-- a read that hands out what is held ahead, or asks the wire below
abbrev pub Asks : Holding → Holding → List ℕ → TryRead → Type 0
Asks old new buf answer =
    HandsOut old.below new.below old.ahead new.ahead buf answer
    × (new ≡ record old { below = new.below; ahead = new.ahead; skipped = 0 })

-- what a read into the buffer with this answer does, where the wire isn't broken: it asks nobody just where it may
abbrev pub ReadsGathering : Bool → Holding → Holding → List ℕ → TryRead → Type 0
ReadsGathering quiet old new buf answer =
    Skips quiet old new answer ⊎ ((MaySkip quiet old.ahead old.skipped → ⊥) × Asks old new buf answer)

-- how many writes came too late before and with a write that finds so many bytes waiting: they count from one on that
-- finds the backlog full, until one finds that the client has caught up
pub record CountsLate (waits old new : ℕ) : Type 0 where
  pub caught_up : waits < CAUGHT_UP → new ≡ 0
  pub begins : waits ≡ BACKLOG → old ≡ 0 → new ≡ 1
  pub goes_on : CAUGHT_UP ≤ waits → 0 < old → new ≡ old + 1
  pub never_full : waits < BACKLOG → old ≡ 0 → new ≡ 0

-- a wire is broken before more writes come too late
abbrev pub MayBeLate : ℕ → Bool → Type 0
MayBeLate late broken = (late ≤ MOST_LATE) × (broken ≡ false → late < MOST_LATE)

-- what a write of these bytes with this answer does, where the wire isn't broken: it is, once too many came too late, the
-- wire below has failed, or it took none where there was no room
pub record Writes (old new : Holding) (bytes : List ℕ) (answer : TryWrite) : Type 0 where
  pub counts : CountsLate (length old.waiting) old.late new.late
  pub gathers : new.late < MOST_LATE → Gathers old.below new.below old.waiting new.waiting bytes answer
  pub gives_up : new.late ≡ MOST_LATE → (answer ≡ write.Failed) × (new.below ≡ old.below) × (new.waiting ≡ old.waiting)
  pub breaks : (new.broken ≡ true) ↔ (answer ≡ write.Failed)
  pub ahead : new.ahead ≡ old.ahead

-- what sending all that waits does, where the wire isn't broken: it is, once the wire below has failed
abbrev pub Sends : Holding → Holding → Type 0
Sends old new =
    (answer : Flushed) × Flushes old.waiting new.waiting old.below new.below answer
    × ((new.broken ≡ true) ↔ (answer ≡ Failed))
    × (new ≡ record old { below = new.below; waiting = new.waiting; broken = new.broken })

-- what one flush does: it sends all that waits, as far as the wire below takes it, but where this one is broken
abbrev pub FlushesGathering : {W : Type 0} → (W → Told) → Gathering W → Gathering W → Type 0
FlushesGathering tells old new =
    (old.broken ≡ false → Sends (holding tells old) (holding tells new)) × (old.broken ≡ true → new ≡ old)

-- the wire below was shut, and nothing else
abbrev pub ShutsBelow : {W : Type 0} → (W → W → Type 0) → Gathering W → Gathering W → Type 0
ShutsBelow was_shut old new = was_shut old.below new.below × (new ≡ record old { below = new.below })
