-- Private: how far a message has come.
use Rattle.std.specs.Prelude.{◌≡◌, ℕ, ◌+◌, ◌-◌, ◌<◌, ◌≤◌, List, [], ◌∷◌, ◌++◌, length, take, codes, slice_range, None, Some}
use Rattle.std.specs.Fmt.{decimal}
use Rattle.fix_frame.specs.Ascii.{soh}
use Rattle.fix_frame.specs.Grammar.{head, most_in, IsFrame, fields_of, print_fields}
use Rattle.fix_frame.specs.Stream.{IsLength}
use Rattle.fix_frame.specs.declared.stage.Stage.{Stage}
use Rattle.fix_frame.specs.declared.stage.Stage.TheVariants.{Head, Rest, Whole, Given, Faulty}
use Rattle.fix_frame.specs.Framing.{Framing}

-- what stands before the length of each head
abbrev pub opening : List ℕ
opening = codes "8=FIX.4.4" ++ soh ∷ codes "9="

-- the bytes begin a head, and this is the value of the length's digits among them
pub record IsHeading (bytes : List ℕ) (length_so_far : ℕ) : Type 0 where
  pub opens : length bytes ≤ 12 → (bytes ≡ take (length bytes) opening) × (length_so_far ≡ 0)
  pub counts : 12 < length bytes → (bytes ≡ opening ++ decimal length_so_far) × (1 ≤ length_so_far) ×
      (length_so_far ≤ most_in)

-- a head stands at the front, and the frame isn't all there
pub record IsResting (bytes : List ℕ) (body n : ℕ) : Type 0 where
  pub length_is : IsLength n
  pub headed : take body bytes ≡ head n
  pub starts : body ≡ length (head n)
  pub short : length bytes < body + n + 7

-- what stands between head and trailer
abbrev pub body_part : List ℕ → ℕ → List ℕ
body_part bytes body = slice_range bytes body (length bytes - 7)

-- the bytes are a frame, whose body begins there
pub record IsStanding (bytes : List ℕ) (body : ℕ) : Type 0 where
  pub framed : IsFrame most_in bytes (fields_of (body_part bytes body))
  pub spells : body_part bytes body ≡ print_fields (fields_of (body_part bytes body))
  pub room : body + 7 ≤ length bytes

-- what is so while a message is under way
abbrev pub IsUnderWay : Stage → List ℕ → Type 0
IsUnderWay (Head n) bytes = IsHeading bytes n
IsUnderWay (Rest body n) bytes = IsResting bytes body n
IsUnderWay (Whole body) bytes = ⊥
IsUnderWay Given bytes = ⊥
IsUnderWay (Faulty fault) bytes = ⊥

-- the same, or a frame stands
abbrev pub IsLive : Stage → List ℕ → Type 0
IsLive (Whole body) bytes = IsStanding bytes body
IsLive (Head n) bytes = IsHeading bytes n
IsLive (Rest body n) bytes = IsResting bytes body n
IsLive Given bytes = ⊥
IsLive (Faulty fault) bytes = ⊥

-- what is so at each stage: once a frame was given, or at a fault, the bytes mean nothing
abbrev pub IsAtStage : Stage → List ℕ → Type 0
IsAtStage Given bytes = Unit {0}
IsAtStage (Faulty fault) bytes = Unit {0}
IsAtStage (Head n) bytes = IsHeading bytes n
IsAtStage (Rest body n) bytes = IsResting bytes body n
IsAtStage (Whole body) bytes = IsStanding bytes body

-- a byte may come
abbrev pub IsReady : Stage → List ℕ → Type 0
IsReady Given bytes = Unit {0}
IsReady (Head n) bytes = IsHeading bytes n
IsReady (Rest body n) bytes = IsResting bytes body n
IsReady (Whole body) bytes = ⊥
IsReady (Faulty fault) bytes = ⊥

-- what a framer with these bytes stands for
abbrev pub framing : Stage → List ℕ → Framing
framing Given bytes = record { held = []; fault = None }
framing (Faulty fault) bytes = record { held = []; fault = Some fault }
framing (Head n) bytes = record { held = bytes; fault = None }
framing (Rest body n) bytes = record { held = bytes; fault = None }
framing (Whole body) bytes = record { held = bytes; fault = None }
