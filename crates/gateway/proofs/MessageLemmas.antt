-- The bodies of the session's own messages.
use Rattle.std.proofs.Common.{◌≡◌, ◌≢◌, ℕ, List, [], ◌∷◌, codes, refl, arith, ◌≤◌}
use Rattle.std.specs.List.{AllByRecursion}
use Rattle.std.specs.Fmt.{digits}
use Rattle.fix_frame.specs.Grammar.{IsField, field_then, print_fields}
use Rattle.fix_frame.specs.Ascii.{soh}
use Rattle.fix_orders.specs.Text.{field}
use Rattle.gateway.specs.Messages.{IsRefusalText}
use Rattle.gateway.specs.Standing.{logon_fields, text_fields}

-- the Logon's body in bytes
pub logon_is : print_fields logon_fields ≡ codes "98=0\u{1}108=0\u{1}141=Y\u{1}"
unfolding field_then digits
logon_is = refl

-- a field of one byte is right
one_byte : (tag b : ℕ) → 1 ≤ tag → tag ≤ 99999 → b ≢ soh → IsField (field tag (b ∷ []))
one_byte tag b least most other = record { tag_from = least; tag_to = most; valued = omega arith; ends = (other, tt) }

-- the Logon's fields are right
pub logon_each : AllByRecursion IsField logon_fields
logon_each = (
  one_byte 98 48 (omega arith) (omega arith) (omega arith),
  (
    one_byte 108 48 (omega arith) (omega arith) (omega arith),
    (one_byte 141 89 (omega arith) (omega arith) (omega arith), tt),
  ),
)

-- a field of a refusal's text is right
pub text_field : (text : List ℕ) → IsRefusalText text → IsField (field 58 text)
text_field text valid = record { tag_from = omega arith; tag_to = omega arith; valued = valid.some; ends = valid.lacks }

-- there is such a field
pub text_fields_is : (text : List ℕ) → IsRefusalText text → text_fields text ≡ field 58 text ∷ []
text_fields_is [] valid = absurd (omega (arith, valid.some))
text_fields_is (b ∷ text) valid = refl
