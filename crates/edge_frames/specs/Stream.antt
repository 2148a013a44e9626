-- A stream of bytes: which messages come out of it, and what is passed over (FIX 4.4, volume 2, session test cases 2d,
-- 2m, 2t, 3b and 3c: garbled bytes are ignored, up to the next message).
use Rattle.std.specs.Prelude.{◌≡◌, ◌≢◌, ℕ, ◌+◌, ◌<◌, ◌⊎◌, Bool, true, ◌||◌, List, [], ◌∷◌, ◌++◌, length, take, ◌==◌}
use Rattle.fix_frame.specs.Stages.{opening}
use Rattle.edge_frames.specs.Fields.{ended, are_fields, is_digits}
use Rattle.edge_frames.specs.Messages.{head_with, length_of, IsBodyLength, ComesOut}
use Rattle.edge_frames.specs.declared.verdict.Verdict.{Verdict}

-- the digits that have come of a BodyLength, if any
abbrev pub begins_length : List ℕ → Bool
begins_length digits = length digits == 0 || is_digits 9 digits

-- part of a head has come, and nothing else
abbrev pub StartsHead : List ℕ → Type 0
StartsHead bytes =
    ((length bytes < 12) × (bytes ≡ take (length bytes) opening)) ⊎
    ((digits : List ℕ) × (bytes ≡ opening ++ digits) × (begins_length digits ≡ true))

-- a head has come, and behind it part of a message: each field that is there may stand there
pub record BeginsBody (longest : ℕ) (bytes digits part : List ℕ) : Type 0 where
  pub long : IsBodyLength longest digits
  pub headed : bytes ≡ head_with digits ++ part
  pub more : length part < length_of digits + 7
  pub fields : are_fields (ended (take (length_of digits) part)) ≡ true

-- a message may begin here, and more has to come before that is known
abbrev pub MayBegin : ℕ → List ℕ → Type 0
MayBegin longest bytes = StartsHead bytes ⊎ ((digits : List ℕ) × (part : List ℕ) × BeginsBody longest bytes digits part)

-- a message as it comes out
pub record Come : Type 0 where
  pub text : List ℕ
  pub verdict : Verdict

-- no message begins here, whatever comes
pub record IsPassed (longest most : ℕ) (bytes : List ℕ) : Type 0 where
  pub shut : MayBegin longest bytes → ⊥
  pub none : (c : Come) (rest : List ℕ) → ComesOut longest most c.text c.verdict → bytes ≢ c.text ++ rest

-- none begins at any of these bytes, in front of the rest
abbrev pub ArePassed : ℕ → ℕ → List ℕ → List ℕ → Type 0
ArePassed longest most [] rest = Unit {0}
ArePassed longest most (b ∷ bytes) rest = IsPassed longest most (b ∷ bytes ++ rest) × ArePassed longest most bytes rest

-- the message that begins first, with what stands before and behind it
pub record FirstOf (longest most : ℕ) (stream before : List ℕ) (c : Come) (behind : List ℕ) : Type 0 where
  pub whole : stream ≡ before ++ (c.text ++ behind)
  pub passed : ArePassed longest most before (c.text ++ behind)
  pub comes : ComesOut longest most c.text c.verdict

-- no message has come yet: what stands before is passed over, and one may begin with the rest
pub record WaitsFor (longest most : ℕ) (stream before rest : List ℕ) : Type 0 where
  pub whole : stream ≡ before ++ rest
  pub passed : ArePassed longest most before rest
  pub opens : MayBegin longest rest

-- These messages come out of the stream, in order, and the rest is kept: the first begins as early as any, and the
-- search for the next begins behind its end.
abbrev pub Yields : ℕ → ℕ → List ℕ → List Come → List ℕ → Type 0
Yields longest most stream [] rest = (before : List ℕ) × WaitsFor longest most stream before rest
Yields longest most stream (c ∷ cs) rest =
    (before : List ℕ) × (behind : List ℕ) × FirstOf longest most stream before c behind ×
    Yields longest most behind cs rest
