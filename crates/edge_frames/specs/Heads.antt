-- Private: how a message begins.
use Rattle.std.specs.Prelude.{◌≡◌, ◌≢◌, ℕ, ◌+◌, ◌<◌, ◌≤◌, ◌^◌, true, List, ◌++◌, length, drop, slice_range}
use Rattle.edge_frames.specs.Fields.{is_digits}
use Rattle.edge_frames.specs.Messages.{head_with, length_of, framed, IsMessageBody}
use Rattle.edge_frames.specs.Stream.{StartsHead, MayBegin}
use Rattle.edge_frames.specs.declared.head.Head.{Head}
use Rattle.edge_frames.specs.declared.head.Head.TheVariants as heads
use Rattle.edge_frames.specs.declared.begin.Begin.{Begin}
use Rattle.edge_frames.specs.declared.begin.Begin.TheVariants as begins

-- no head stands at the front
abbrev pub HasNoHead : List ℕ → Type 0
HasNoHead bytes = (digits rest : List ℕ) → is_digits 9 digits ≡ true → bytes ≢ head_with digits ++ rest

-- a head stands at the front: so many bytes long, and of this BodyLength
pub record HasWholeHead (bytes : List ℕ) (at n : ℕ) : Type 0 where
  pub digits : List ℕ
  pub number : is_digits 9 digits ≡ true
  pub value : n ≡ length_of digits
  pub headed : bytes ≡ head_with digits ++ drop at bytes
  pub long : at ≡ length (head_with digits)

-- what the bytes are as a head
abbrev pub IsHead : List ℕ → Head → Type 0
IsHead bytes heads.Nothing = (StartsHead bytes → ⊥) × HasNoHead bytes
IsHead bytes heads.More = StartsHead bytes
IsHead bytes (heads.Whole at n) = HasWholeHead bytes at n

-- no message stands at the front, nor begins there
pub record BeginsNothing (longest : ℕ) (bytes : List ℕ) : Type 0 where
  pub shut : MayBegin longest bytes → ⊥
  pub none : (digits body rest : List ℕ) → IsMessageBody longest digits body → bytes ≢ framed digits body ++ rest

-- a message stands at the front: these bytes of it are its body
pub record StandsThere (longest : ℕ) (bytes : List ℕ) (at n : ℕ) : Type 0 where
  pub digits : List ℕ
  pub right : IsMessageBody longest digits (slice_range bytes at (at + n))
  pub whole : bytes ≡ framed digits (slice_range bytes at (at + n)) ++ drop (at + n + 7) bytes
  pub long : at ≡ length (head_with digits)
  pub within : at + n + 7 ≤ length bytes
  pub small : at + n < 2 ^ 31

-- what the bytes are as a message, whatever its fields are
abbrev pub IsBegun : ℕ → List ℕ → Begin → Type 0
IsBegun longest bytes begins.Nothing = BeginsNothing longest bytes
IsBegun longest bytes begins.More = MayBegin longest bytes
IsBegun longest bytes (begins.Whole at n) = StandsThere longest bytes at n
