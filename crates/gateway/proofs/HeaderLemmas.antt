-- The header of a message to the client: its fields are fields, and few bytes.
use Rattle.std.proofs.Common.{◌≡◌, ℕ, zero, suc, ◌+◌, ◌/◌, ◌%◌, ◌^◌, ◌<◌, ◌≤◌, List, [], ◌∷◌, ◌++◌, length, take, refl}
use Rattle.std.proofs.Common.{ap, sym, subst, ◌∙◌, arith, length-append, codes, get_or}
use Rattle.std.specs.List.{AllByRecursion}
use Rattle.std.specs.Fmt.{decimal, digits}
use Rattle.std.specs.Char.{digit_value}
use Rattle.std.specs.Str.Parse.{AllDigits}
use Rattle.std.proofs.lemmas.Fmt.{decimal_digit, decimal_is_IsNumeral, length-decimal-le}
use Rattle.std.proofs.lemmas.List.{length-take-le}
use Rattle.fix_frame.specs.Ascii.{soh}
use Rattle.fix_frame.specs.Grammar.{Field, IsField, LacksSoh, IsBody, field_then, print_fields, frame_of, most_out}
use Rattle.fix_frame.specs.Writing.{SpellsBody as SpellsFrame}
use Rattle.fix_orders.specs.Formats.{last_digits, time_text}
use Rattle.fix_orders.specs.Text.{Said, field, number}
use Rattle.fix_orders.specs.Writing.{Puts, PutsFields}
use Rattle.fix_orders.specs.WritingLaws.{print_fields-append}
use Rattle.gateway.specs.Verdict.{client_name, venue_name}
use Rattle.gateway.specs.Standing.{message_text}
use Rattle.gateway.specs.Messages.{IsTypeText, AreFields, Spells, header_fields}
use Rattle.gateway.proofs.FrameBytes.{length_field, length_frame}

-- no SOH stands in digits, in what has none, and in a time
lacks_soh-digits : (ds : List ℕ) → AllDigits 10 ds → LacksSoh ds
lacks_soh-digits [] all = tt
lacks_soh-digits (d ∷ ds) all = (
  (λ (e : d ≡ soh). let P : ℕ → Type 0 = λ b. digit_value b < 10 in let low : P soh = subst P e all.0 in
      absurd (omega (arith, low))),
  lacks_soh-digits ds all.1,
)

lacks_soh-append : (xs ys : List ℕ) → LacksSoh xs → LacksSoh ys → LacksSoh (xs ++ ys)
lacks_soh-append [] ys first second = second
lacks_soh-append (x ∷ xs) ys first second = (first.0, lacks_soh-append xs ys first.1 second)

lacks_soh-one : (b : ℕ) → 1 < b → LacksSoh (b ∷ [])
lacks_soh-one b above = ((λ e. absurd (omega arith)), tt)

lacks_soh-last : (count n : ℕ) → LacksSoh (last_digits count n)
lacks_soh-last zero n = tt
lacks_soh-last (suc count) n =
    lacks_soh-append (last_digits count (n / 10)) ((48 + n % 10) ∷ []) (lacks_soh-last count (n / 10))
    (lacks_soh-one (48 + n % 10) (omega arith))

lacks_soh-parts : (a b c d e f g : List ℕ) → LacksSoh a → LacksSoh b → LacksSoh c → LacksSoh d → LacksSoh e → LacksSoh f
    → LacksSoh g →
    LacksSoh (a ++ b ++ c ++ d ++ e ++ f ++ g)
lacks_soh-parts a b c d e f g la lb lc ld le lf lg =
    lacks_soh-append (a ++ b ++ c ++ d ++ e ++ f) g
    (lacks_soh-append (a ++ b ++ c ++ d ++ e) f
    (lacks_soh-append (a ++ b ++ c ++ d) e
    (lacks_soh-append (a ++ b ++ c) d (lacks_soh-append (a ++ b) c (lacks_soh-append a b la lb) lc) ld) le) lf) lg

lacks_soh-time : (n : ℕ) → LacksSoh (time_text n)
unfolding time_text
lacks_soh-time n =
    lacks_soh-parts (last_digits 8 (n / 1000000)) (45 ∷ []) (last_digits 2 (n / 10000)) (58 ∷ [])
    (last_digits 2 (n / 100)) (58 ∷ []) (last_digits 2 n)
    (lacks_soh-last 8 (n / 1000000)) (lacks_soh-one 45 (omega arith)) (lacks_soh-last 2 (n / 10000))
    (lacks_soh-one 58 (omega arith))
    (lacks_soh-last 2 (n / 100)) (lacks_soh-one 58 (omega arith)) (lacks_soh-last 2 n)

pub length_time : (n : ℕ) → length (time_text n) ≡ 17
unfolding time_text
length_time n = refl

-- the header's fields are right
number_field : (tag n : ℕ) → 1 ≤ tag → tag ≤ 99999 → n < 2 ^ 64 → IsField (number tag n)
number_field tag n low high fits =
    let numeral = decimal_is_IsNumeral n fits in
    record { tag_from = low; tag_to = high; valued = numeral.0.0; ends = lacks_soh-digits (decimal n) numeral.0.1 }

two_digit_field : (tag : ℕ) (value : List ℕ) → 1 ≤ tag → tag ≤ 99 → 1 ≤ length value → LacksSoh value
    → IsField (field tag value)
two_digit_field tag value low high some lacks =
    record { tag_from = low; tag_to = omega arith; valued = some; ends = lacks }

type_field : (type : List ℕ) → IsTypeText type → IsField (field 35 type)
type_field type (b, other, is) = rw is (two_digit_field 35 _ (omega arith) (omega arith) (omega arith) (other, tt))

venue_field : IsField (field 49 venue_name)
venue_field = two_digit_field 49 venue_name (omega arith) (omega arith) (omega arith) (omega arith)

client_field : (gateway : ℕ) → gateway < 256 → IsField (field 56 (client_name gateway))
client_field gateway small =
    let numeral = decimal_is_IsNumeral gateway (omega arith) in
    two_digit_field 56 (client_name gateway) (omega arith) (omega arith) (omega arith)
    ((λ e. absurd (omega arith)), lacks_soh-digits (decimal gateway) numeral.0.1)

time_field : (n : ℕ) → IsField (field 52 (time_text n))
time_field n =
    two_digit_field 52 (time_text n) (omega arith) (omega arith) (omega (arith, length_time n)) (lacks_soh-time n)

-- tags of two digits
length_tags : (length (decimal 35) ≡ 2) × (length (decimal 49) ≡ 2) × (length (decimal 56) ≡ 2)
    × (length (decimal 34) ≡ 2) × (length (decimal 52) ≡ 2)
unfolding digits
length_tags = (refl, refl, refl, refl, refl)

-- how many bytes the header has
module _ (gateway n : ℕ) (type time : List ℕ) where
  pub length_header : gateway < 256 → n < 2 ^ 64 → length type ≡ 1 → length time ≡ 17 →
      (5 ≤ length (print_fields (header_fields gateway n type time)))
      × (length (print_fields (header_fields gateway n type time)) ≤ 67)
  length_header small fits one seventeen =
      let tags = length_tags in
      let client = length-decimal-le 3 gateway (omega arith) (omega arith) (omega arith) in
      let seq = length-decimal-le 20 n (omega arith) (omega arith) fits in
      let last = print_fields (field 52 time ∷ []) in
      let fourth = print_fields (number 34 n ∷ field 52 time ∷ []) in
      let third = print_fields (field 56 (client_name gateway) ∷ number 34 n ∷ field 52 time ∷ []) in
      let second = print_fields (field 49 venue_name ∷ field 56 (client_name gateway) ∷ number 34 n ∷ field 52 time
      ∷ []) in
      let e1 : length (print_fields (header_fields gateway n type time))
      ≡ length (decimal 35) + length type + 2 + length second = length_field (field 35 type) second in
      let e2 : length second ≡ length (decimal 49) + 5 + 2 + length third = length_field (field 49 venue_name) third in
      let e3 : length third ≡ length (decimal 56) + suc (length (decimal gateway)) + 2 + length fourth =
      length_field (field 56 (client_name gateway)) fourth in
      let e4 : length fourth ≡ length (decimal 34) + length (decimal n) + 2 + length last =
      length_field (number 34 n) last in
      let e5 : length last ≡ length (decimal 52) + length time + 2 + 0 = length_field (field 52 time) [] in
      (omega arith, omega arith)

-- the bytes of the first three, for a gateway of one digit
parties_are : (type gateway : ℕ) → gateway < 10
    → print_fields (field 35 (type ∷ []) ∷ field 49 venue_name ∷ field 56 (client_name gateway) ∷ [])
    ≡ codes "35=" ++ type ∷ codes "\u{1}49=VENUE\u{1}56=C" ++ (48 + gateway) ∷ codes "\u{1}"
unfolding field_then digits
parties_are type gateway small = rw (decimal_digit gateway small) refl

pub parties_put : (a b : List ℕ) (end type gateway : ℕ) → gateway < 10
    → Puts a b 0 end (codes "35=" ++ type ∷ codes "\u{1}49=VENUE\u{1}56=C" ++ (48 + gateway) ∷ codes "\u{1}")
    → PutsFields a b 0 end (field 35 (type ∷ []) ∷ field 49 venue_name ∷ field 56 (client_name gateway) ∷ [])
parties_put a b end type gateway small puts =
    let fields = field 35 (type ∷ []) ∷ field 49 venue_name ∷ field 56 (client_name gateway) ∷ [] in
    let spelled : Puts a b 0 end (print_fields fields) = rw (parties_are type gateway small) puts in
    record { written = spelled.written; behind = spelled.behind; long = spelled.long }

-- the header's fields as they are written
pub header_put : (a b : List ℕ) (end gateway n : ℕ) (type moment : List ℕ) → IsTypeText type →
    PutsFields a b 0 end (field 35 (get_or type 0 0 ∷ []) ∷ field 49 venue_name ∷ field 56 (client_name gateway)
    ∷ number 34 n ∷ field 52 moment ∷ []) →
    PutsFields a b 0 end (header_fields gateway n type moment)
header_put a b end gateway n type moment (first, other, type_is) puts =
    let same : get_or type 0 0 ∷ [] ≡ type = ap (λ t. get_or t 0 0 ∷ []) type_is ∙ sym type_is in rw same at puts

-- a header and a body are a body that goes out
pub message_body : (gateway n time : ℕ) (type : List ℕ) (body : List Field) → gateway < 256 → n < 2 ^ 64
    → IsTypeText type →
    AllByRecursion IsField body → length (print_fields body) ≤ 320
    → IsBody most_out (header_fields gateway n type (time_text time) ++ body)
message_body gateway n time type body small fits kind each short =
    let front = header_fields gateway n type (time_text time) in
    let one : length type ≡ 1 = ap length kind.2 in
    let few = length_header gateway n type (time_text time) small fits one (length_time time) in
    let long : length (print_fields (front ++ body)) ≡ length (print_fields front) + length (print_fields body) =
    ap length (print_fields-append front body) ∙ length-append (print_fields front) (print_fields body) in
    record {
      each = (
        type_field type kind,
        (
          venue_field,
          (
            client_field gateway small,
            (number_field 34 n (omega arith) (omega arith) fits, (time_field time, each)),
          ),
        ),
      );
      typed = refl;
      least = omega (arith, few.0, long);
      at_most = omega (arith, few.1, long);
    }

-- the bytes of a header, and those of a body behind it
pub behind_header : (header : List Field) (body blank filled whole : List ℕ) (begun upto : ℕ)
    → PutsFields blank filled 0 begun header → Puts filled whole begun upto body →
    take upto whole ≡ print_fields header ++ body
behind_header header body blank filled whole begun upto first then = rw first.written at then.written

-- they spell a body
pub spelled : (gateway n time : ℕ) (type body bytes : List ℕ) → gateway < 256 → n < 2 ^ 64 → IsTypeText type
    → AreFields body → length body ≤ 320 →
    bytes ≡ print_fields (header_fields gateway n type (time_text time)) ++ body
    → (fs : List Field) × SpellsFrame most_out fs bytes
spelled gateway n time type body bytes small fits kind (fields, each, are) short is =
    let header = header_fields gateway n type (time_text time) in (
      header ++ fields,
      record {
        body = message_body gateway n time type fields small fits kind each (omega (arith, ap length are));
        spells = rw (print_fields-append, are) is;
      },
    )

-- and the frame is the message's
pub message_is : (gateway n time : ℕ) (type body bytes : List ℕ) (said : Said) → Spells type time body said →
    bytes ≡ print_fields (header_fields gateway n type (time_text time)) ++ body
    → frame_of bytes ≡ message_text gateway n said
unfolding message_text
message_is gateway n time type body bytes said spells is =
    let header = header_fields gateway n type (time_text time) in
    ap frame_of (rw (spells.kind, spells.time_is) (is ∙ ap (λ b. print_fields header ++ b) (sym spells.body_is)
    ∙ sym (print_fields-append header said.body)))

-- it has at most 412 bytes
pub message_length : (whole out : List ℕ) (upto end : ℕ) → upto ≤ 387 → upto ≤ length whole → end ≤ length out →
    take end out ≡ frame_of (take upto whole) → end ≤ 412
message_length whole out upto end short filled within is =
    let long = length-take-le upto whole filled in
    omega (
      arith,
      long,
      length_frame (take upto whole) (omega (arith, long)),
      ap length is,
      length-take-le end out within,
    )
