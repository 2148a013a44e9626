-- What a type keeps of its bytes has at most one proof.
use Rattle.std.specs.Prelude.{ℕ, ◌<◌, List, [], ◌∷◌, length}
use Rattle.std.specs.List.{AllByRecursion, AllByRecursion-prop}
use Rattle.std.proofs.Props.{props}
use Rattle.fix_frame.specs.Grammar.{Field, IsField, LacksSoh, BeginsWithType, IsBody}
use Rattle.fix_frame.specs.Cuts.{EndsInSoh}
use Rattle.fix_frame.specs.Runs.{IsRun, IsFramed}

LacksSoh-prop : (bytes : List ℕ) → IsProp (LacksSoh bytes)
LacksSoh-prop bytes = AllByRecursion-prop _ (λ b. Prim.hlevel props) bytes

IsField-prop : (f : Field) → IsProp (IsField f)
IsField-prop f = Prim.hlevel (props, LacksSoh-prop)

AreFields-prop : (fs : List Field) → IsProp (AllByRecursion IsField fs)
AreFields-prop fs = AllByRecursion-prop _ IsField-prop fs

BeginsWithType-prop : (fs : List Field) → IsProp (BeginsWithType fs)
BeginsWithType-prop [] = Prim.hlevel props
BeginsWithType-prop (f ∷ fs) = Prim.hlevel props

IsBody-prop : (most : ℕ) (fs : List Field) → IsProp (IsBody most fs)
IsBody-prop most fs = Prim.hlevel (props, AreFields-prop, BeginsWithType-prop)

pub IsRun-prop : (bytes : List ℕ) → IsProp (IsRun bytes)
IsRun-prop bytes = Prim.hlevel (props, AreFields-prop)

pub IsFramed-prop : (text body : List ℕ) → IsProp (IsFramed text body)
IsFramed-prop text body = Prim.hlevel (props, IsBody-prop)

pub Ends-prop : (bytes : List ℕ) → IsProp (0 < length bytes → EndsInSoh bytes)
Ends-prop bytes = Prim.hlevel props
