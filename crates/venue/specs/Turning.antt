-- What a member's turn comes to for its thread.
use Rattle.std.specs.Prelude.{◌≡◌, ⊤, ℕ, ◌+◌, ◌%◌, Bool, true, false, Option, if◌then◌else◌}
use Rattle.venue.specs.Accepting.{Accepting}
use Rattle.gateway.specs.Gateways.{AtRings}
use Rattle.venue.specs.Trading.{TookTurn}
use Rattle.venue.specs.Visiting.{WasFlushed, is_ending_at}
use Rattle.venue.specs.declared.visitor.Visitor.{Visitor}
use Rattle.workers.specs.declared.worker.Outcome.{Outcome}
use Rattle.workers.specs.declared.worker.Outcome.TheVariants.{Worked, Moved, Pressed, Idle, Over}
use Rattle.wires.specs.Wires.{Told}

-- it counted a turn, modulo 65,536, and behind each 1,024th what waited in a client's wire was sent on, if one is there
pub record SendsOn {W : Type 0} (tells : W → Told) (flushed : W → W → Type 0) (old new : ℕ) (wire : Option Told) : Type 0 where
  pub counts : new ≡ (old + 1) % 65536
  pub sends : new % 1024 ≡ 0 → WasFlushed tells flushed wire

-- the gateway took one turn, and behind it a turn was counted, and sent on if it was time to
pub record SentOn {W : Type 0} (tells : W → Told) (flushed : W → W → Type 0) (old : Accepting)
    (turns turns_after : ℕ) : Type 0 where
  pub behind : Accepting
  pub moved : Bool
  pub took : TookTurn old behind moved
  pub sends : SendsOn tells flushed turns turns_after behind.wire

-- another client may be wanted only where nothing moved in the turn, and the session of the one that is there is ending
abbrev pub IsWantedWhere : {W : Type 0} → Bool → Bool → AtRings → Visitor W → Type 0
IsWantedWhere has_moved wanted gateway visitor =
    wanted ≡ true → (has_moved ≡ false) × (is_ending_at gateway visitor ≡ true)

-- Where something moved, stages may have work only if it began with a message held, which it may have published. Where nothing moved it is to look again soon
-- if it has to go on by itself, and at once if another client waits for that; else it may rest, since it is woken.
abbrev pub outcome_at : Bool → Bool → Bool → Bool → Outcome
outcome_at held has_moved pressed wanted =
    if has_moved then (if held then Worked else Moved) else (if pressed then (if wanted then Moved else Pressed) else Idle)

-- nothing moved: it may rest, or is to look again soon
abbrev pub IsAtRest : Outcome → Type 0
IsAtRest Worked = ⊥
IsAtRest Moved = ⊥
IsAtRest Pressed = ⊤
IsAtRest Idle = ⊤
IsAtRest Over = ⊥
