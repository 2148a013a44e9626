-- What the code's judgement of a frame stands for.
use Rattle.std.specs.Prelude.{◌≡◌, ℕ, ◌<◌, List, Option, Some, ⊤, Bool, false, [], ◌∷◌}
use Rattle.gateway.specs.declared.hearing.Judged.{Judged}
use Rattle.gateway.specs.declared.hearing.Judged.TheVariants as judged
use Rattle.fix_frame.specs.Grammar.{IsField, Field}
use Rattle.fix_orders.specs.Text.{field}
use Rattle.gateway.specs.Verdict.{Verdict, Welcome, Beat, Hold, Pass, Leave, Refuse, is_this_field}

abbrev pub verdict_of : Judged → Verdict
verdict_of judged.Welcome = Welcome
verdict_of (judged.Beat echo) = Beat echo.items
verdict_of judged.Pass = Pass
verdict_of judged.Leave = Leave
verdict_of judged.Hold = Hold
verdict_of (judged.Refuse refusal) = Refuse refusal

-- a message that is to be held is held then; else what was held stays
abbrev pub Holds : List ℕ → Judged → Option (List ℕ) → Option (List ℕ) → Type 0
Holds message judged.Welcome old new = new ≡ old
Holds message (judged.Beat echo) old new = new ≡ old
Holds message judged.Pass old new = new ≡ old
Holds message judged.Leave old new = new ≡ old
Holds message judged.Hold old new = new ≡ Some message
Holds message (judged.Refuse refusal) old new = new ≡ old

-- a message that is to be held is held
abbrev pub IsHeld : List ℕ → Judged → Option (List ℕ) → Type 0
IsHeld message judged.Welcome held = ⊤
IsHeld message (judged.Beat echo) held = ⊤
IsHeld message judged.Pass held = ⊤
IsHeld message judged.Leave held = ⊤
IsHeld message judged.Hold held = held ≡ Some message
IsHeld message (judged.Refuse refusal) held = ⊤

-- one more message can be counted
abbrev pub CanCount : ℕ → Judged → Type 0
CanCount accepted judged.Welcome = accepted < 999999999
CanCount accepted (judged.Beat echo) = accepted < 999999999
CanCount accepted judged.Pass = accepted < 999999999
CanCount accepted judged.Leave = ⊤
CanCount accepted judged.Hold = accepted < 999999999
CanCount accepted (judged.Refuse refusal) = ⊤

-- a TestReqID to say again is the value of a field
abbrev pub CanEcho : Judged → Type 0
CanEcho judged.Welcome = ⊤
CanEcho (judged.Beat echo) = IsField (field 112 echo.items)
CanEcho judged.Pass = ⊤
CanEcho judged.Leave = ⊤
CanEcho judged.Hold = ⊤
CanEcho (judged.Refuse refusal) = ⊤

-- this field stands first
abbrev pub begins_with : ℕ → List ℕ → List Field → Bool
begins_with tag value [] = false
begins_with tag value (f ∷ fields) = is_this_field tag value f
