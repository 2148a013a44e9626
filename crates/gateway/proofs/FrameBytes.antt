-- How many bytes frames and fields have.
use Rattle.std.proofs.Common.{◌≡◌, ℕ, ◌+◌, ◌≤◌, List, [], ◌∷◌, ◌++◌, length, refl, ap, arith, length-append}
use Rattle.std.specs.Fmt.{decimal}
use Rattle.std.proofs.lemmas.Fmt.{length-decimal-le}
use Rattle.fix_frame.specs.Grammar.{Field, IsBody, head, trailer, frame_of, frame_text, print_fields, field_then}
use Rattle.fix_frame.specs.Grammar.{most_in}

-- BeginString and BodyLength
length_head : (n : ℕ) → n ≤ 999 → length (head n) ≤ 16
unfolding head
length_head n small =
    let few = length-decimal-le 3 n (omega arith) (omega arith) (omega arith) in
    omega (arith, few, length-append (decimal n) (1 ∷ []))

-- CheckSum
length_trailer : (front : List ℕ) → length (trailer front) ≡ 7
unfolding trailer
length_trailer front = refl

-- the frame round a body has 23 bytes more at most
pub length_frame : (body : List ℕ) → length body ≤ 999 → length (frame_of body) ≤ length body + 23
unfolding frame_of
length_frame body small =
    let front = head (length body) ++ body in
    omega (
      arith,
      length_head (length body) small,
      length_trailer front,
      length-append front (trailer front),
      length-append (head (length body)) body,
    )

-- a frame that comes in has at most 320
length_text : (fields : List Field) → IsBody most_in fields → length (frame_text fields) ≤ 320
length_text fields body = omega (arith, body.at_most, length_frame (print_fields fields) (omega (arith, body.at_most)))

-- and some
some_text : (fields : List Field) → 1 ≤ length (frame_text fields)
unfolding frame_of
some_text fields =
    let body = print_fields fields in
    let front = head (length body) ++ body in
    omega (arith, length_trailer front, length-append front (trailer front))

pub has_some_text : (fields : List Field) (text : List ℕ) → text ≡ frame_text fields → 1 ≤ length text
has_some_text fields text is = omega (arith, ap length is, some_text fields)

pub has_short_text : (fields : List Field) (text : List ℕ) → IsBody most_in fields → text ≡ frame_text fields
    → length text ≤ 320
has_short_text fields text body is = omega (arith, ap length is, length_text fields body)

-- a field in front of what follows it
pub length_field : (f : Field) (rest : List ℕ) → length (field_then f rest)
    ≡ length (decimal f.tag) + length f.value + 2 + length rest
unfolding field_then
length_field f rest = omega (
  arith,
  length-append (decimal f.tag) (61 ∷ (f.value ++ 1 ∷ rest)),
  length-append f.value (1 ∷ rest),
)
