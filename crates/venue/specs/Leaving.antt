-- A client that leaves: what is done with its wire until that is given back.
use Rattle.std.specs.Prelude.{◌≡◌, ◌⊎◌, ⊤, ℕ, ◌-◌, ◌<◌, Bool, true, false, List, [], ◌∷◌, Option, Some, None}
use Rattle.venue_model.specs.Counts.{Rose}
use Rattle.wires.specs.Clients.{IsFlushed}
use Rattle.wires.specs.Wires.{Told, grown}
use Rattle.venue.specs.declared.leaving.Leaving.{Leaving}

-- nothing more is written to it; what it still sends is read over
pub record LeavesOn (old new : Told) : Type 0 where
  pub over : List ℕ
  pub gave : new.gave ≡ grown old.gave over
  pub took : new.took ≡ old.took

-- those whose sessions had ended, each as it was then, and each of them in the same order as it is later
abbrev pub LeaveOn : List Told → List Told → Type 0
LeaveOn [] [] = ⊤
LeaveOn [] (later ∷ laters) = ⊥
LeaveOn (told ∷ tolds) [] = ⊥
LeaveOn (told ∷ tolds) (later ∷ laters) = LeavesOn told later × LeaveOn tolds laters

-- one look at what it sends: whether it has closed its side, or the wire failed
pub record ReadsOver (old new : Told) (ended : Bool) : Type 0 where
  pub leaves : LeavesOn old new
  pub ends : ended ≡ true → Rose old.ends new.ends ⊎ Rose old.failures new.failures
  pub stands : ended ≡ false → (new.ends ≡ old.ends) × (new.failures ≡ old.failures)

-- what the wire of a client that leaves tells, if one does
abbrev pub told_leaving : {W : Type 0} → (W → Told) → Option (Leaving W) → Option Told
told_leaving tells None = None
told_leaving tells (Some leaving) = Some (tells leaving.wire)

-- it is waited for in 50,000 turns, and was told nothing yet
abbrev pub BeginsLeaving : {W : Type 0} → W → Leaving W → Type 0
BeginsLeaving wire leaving = leaving ≡ record { wire = wire; turns_left = 50000; is_shut = false }

-- it was told now that nothing more comes, by this one call of its wire, or it was before, or it wasn't yet
abbrev pub SaysEnd : {W : Type 0} → (W → Told) → (W → W → Type 0) → Leaving W → Leaving W → Type 0
SaysEnd tells shuts old new =
    (new.is_shut ≡ old.is_shut)
    ⊎ ((old.is_shut ≡ false) × (new.is_shut ≡ true)
    × ((before after : _) × (tells before ≡ tells old.wire) × (tells after ≡ tells old.wire) × shuts before after))

-- One turn of it. What its wire holds is sent on, and it is told once that nothing more comes. It has left where it was waited for so long, or where it was told
-- so, and then closed its side, or the wire failed; and then it isn't waited for any more.
pub record GoesOnLeaving {W : Type 0} (tells : W → Told) (flushed shuts : W → W → Type 0) (old new : Leaving W) (left : Bool) : Type 0 where
  pub leaves : LeavesOn (tells old.wire) (tells new.wire)
  pub sends : 0 < old.turns_left → IsFlushed tells flushed (tells old.wire)
  pub says : SaysEnd tells shuts old new
  pub waits : left ≡ false → (0 < old.turns_left) × (new.turns_left ≡ old.turns_left - 1)
  pub ends : left ≡ true → (old.turns_left ≡ 0)
      ⊎ ((new.is_shut ≡ true) × (Rose (tells old.wire).ends (tells new.wire).ends ⊎ Rose (tells old.wire).failures (tells new.wire).failures))
  pub stands : left ≡ false → ((tells new.wire).ends ≡ (tells old.wire).ends) × ((tells new.wire).failures ≡ (tells old.wire).failures)

-- one turn of the one that leaves, if one does: it is still waited for, or has left
abbrev pub IsSeenOff : {W : Type 0} → (W → Told) → (W → W → Type 0) → (W → W → Type 0) → Option (Leaving W) → Option (Leaving W) → Type 0
IsSeenOff tells flushed shuts None new = new ≡ None
IsSeenOff tells flushed shuts (Some old) None = (gone : Leaving _) × GoesOnLeaving tells flushed shuts old gone true
IsSeenOff tells flushed shuts (Some old) (Some new) = GoesOnLeaving tells flushed shuts old new false
