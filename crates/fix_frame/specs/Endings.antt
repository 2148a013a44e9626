-- Private: a message that is all there and has no fault, and bytes that were judged.
use Rattle.std.specs.Prelude.{◌≡◌, ℕ, ◌<◌, ◌≤◌, ◌⊎◌, List, ◌++◌, length, take}
use Rattle.fix_frame.specs.Framing.{Framing, holding}
use Rattle.fix_frame.specs.Grammar.{head}
use Rattle.fix_frame.specs.Stream.{IsBodyClosed, IsSummed, IsTyped, IsWhole, BeginsNoFrame, IsWrong, Faults}
use Rattle.fix_frame.specs.declared.fault.FrameFault.{FrameFault}

-- nothing is wrong with this body of n bytes and its trailer
pub record IsRight (n : ℕ) (body tail : List ℕ) : Type 0 where
  pub closed : IsBodyClosed body tail
  pub summed : IsSummed (head n ++ body) tail
  pub typed : IsTyped body

-- the bytes are a frame, or begin with none, and nothing in them is wrong
pub record IsJudged (bytes : List ℕ) : Type 0 where
  pub judged : IsWhole bytes ⊎ BeginsNoFrame bytes
  pub right : (k : ℕ) (fault : FrameFault) → IsWrong (take k bytes) fault → ⊥

-- the bytes are wrong with their last byte, and not before
abbrev pub IsFirstFault : List ℕ → FrameFault → Type 0
IsFirstFault bytes fault = Faults bytes (length bytes) fault

-- so many bytes from the front of some were taken behind those held, and nothing is wrong with them
pub record TakesFront (old new : Framing) (more : List ℕ) (n : ℕ) : Type 0 where
  pub some : 0 < n
  pub within : n ≤ length more
  pub held : new ≡ holding (old.held ++ take n more)
  pub judged : IsJudged (old.held ++ take n more)

-- the last of so many bytes from the front of some is wrong behind those held, and none before
abbrev pub FaultsFront : List ℕ → List ℕ → FrameFault → Type 0
FaultsFront held more fault = (n : ℕ) × (n ≤ length more) × IsFirstFault (held ++ take n more) fault
