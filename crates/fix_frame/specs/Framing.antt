-- What a framer stands for.
use Rattle.std.specs.Prelude.{◌≡◌, ℕ, ◌≤◌, ◌⊎◌, List, [], ◌++◌, length, take, Option, None, Some}
use Rattle.fix_frame.specs.Stream.{Faults, IsWhole, BeginsNoFrame}
use Rattle.fix_frame.specs.declared.fault.FrameFault.{FrameFault}

-- the bytes fed since the last frame given, `new` or `reset`; and the fault that was answered
pub record Framing : Type 0 where
  pub held : List ℕ
  pub fault : Option FrameFault

-- nothing is held, and nothing was wrong
abbrev pub fresh : Framing
fresh = record { held = []; fault = None }

-- these bytes are held, and nothing was wrong
abbrev pub holding : List ℕ → Framing
holding bytes = record { held = bytes; fault = None }

-- nothing is held, and this was wrong
abbrev pub failed : FrameFault → Framing
failed fault = record { held = []; fault = Some fault }

-- nothing is wrong in the stream, as far as it goes
abbrev pub IsFaultless : List ℕ → Type 0
IsFaultless stream = (at : ℕ) (fault : FrameFault) → Faults stream at fault → ⊥

-- the framer took so many bytes of the piece: up to the frame's end, or all
pub record TakesPiece (old new : Framing) (piece : List ℕ) (n : ℕ) : Type 0 where
  pub within : n ≤ length piece
  pub held : new.held ≡ old.held ++ take n piece
  pub before : old.fault ≡ None
  pub after : new.fault ≡ None
  pub upto : (n ≡ length piece) ⊎ IsWhole new.held
  pub full : IsWhole old.held → n ≡ 0
  pub judged : IsWhole new.held ⊎ BeginsNoFrame new.held
  pub right : IsFaultless (old.held ++ piece)

-- the stream has this fault, or had it before
abbrev pub HasFault : Framing → List ℕ → FrameFault → Type 0
HasFault old piece fault =
    (old.fault ≡ Some fault) ⊎ ((old.fault ≡ None) × (at : ℕ) × Faults (old.held ++ piece) at fault)

-- the framer refused the piece
pub record Refuses (old new : Framing) (piece : List ℕ) (fault : FrameFault) : Type 0 where
  pub after : new.fault ≡ Some fault
  pub cause : HasFault old piece fault
