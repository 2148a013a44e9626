-- A body that is written out: that each of its fields is right is computed.
use Rattle.std.proofs.Common.{◌≡◌, ℕ, zero, suc, ◌≤◌, Bool, true, false, ◌&&◌, List, [], ◌∷◌, arith}
use Rattle.fix_frame.specs.Grammar.{IsField, LacksSoh}

-- the byte stands behind SOH
abbrev pub is_above : ℕ → Bool
is_above zero = false
is_above (suc zero) = false
is_above (suc (suc b)) = true

abbrev pub are_above : List ℕ → Bool
are_above [] = true
are_above (b ∷ bytes) = is_above b && are_above bytes

-- so none of these is SOH
lacks_soh : (bytes : List ℕ) → are_above bytes ≡ true → LacksSoh bytes
lacks_soh [] above = tt
lacks_soh (zero ∷ bytes) above = absurd cc
lacks_soh (suc zero ∷ bytes) above = absurd cc
lacks_soh (suc (suc b) ∷ bytes) above = ((λ e. absurd (omega (arith, e))), lacks_soh bytes above)

-- a field whose value's bytes stand behind SOH
pub right : (tag b : ℕ) (bytes : List ℕ) → 1 ≤ tag → tag ≤ 99999 → are_above (b ∷ bytes) ≡ true
    → IsField (record { tag = tag; value = b ∷ bytes })
right tag b bytes least most above =
    record { tag_from = least; tag_to = most; valued = omega arith; ends = lacks_soh (b ∷ bytes) above }
