-- Exactly one frame: the test finds what the relation says.
use Rattle.std.proofs.Common.{◌≡◌, ◌≢◌, ℕ, ◌%◌, ◌<◌, Bool, true, false, cond, not, ◌&&◌, nat_lt, nat_le, ◌==◌, List, [], ◌∷◌, ◌++◌, length, sum, codes, Option, Some, None, sym, ap, subst, ◌∙◌, refl, arith}
use Rattle.std.specs.List.{list_all, AllByRecursion}
use Rattle.std.specs.Fmt.{decimal, digits}
use Rattle.std.specs.Char.{digit_value}
use Rattle.std.specs.Str.{bytes_eq}
use Rattle.std.specs.Str.Parse.{AllDigits}
use Rattle.std.proofs.lemmas.Bool.{and_parts, and_from}
use Rattle.std.proofs.lemmas.Bool.Decides.{nat_tests}
use Rattle.std.proofs.lemmas.Fmt.{decimal_is_IsNumeral}
use Rattle.std.proofs.lemmas.List.{append_assoc, length-append, take_at}
use Rattle.std.proofs.lemmas.Slice.Eq.{bytes_eq-Decides}
use Rattle.fix_frame.specs.Ascii.{soh}
use Rattle.fix_frame.specs.Grammar.{Field, IsField, LacksSoh, BeginsWithType, IsBody, IsFrame, print_fields, field_then, head, three_digits, trailer, frame_of, frame_text, fields_of, most_in}
use Rattle.fix_frame.proofs.FieldsOf.{fields_of-print_fields}
use Rattle.venue_model.specs.declared.commands.Command.{Command}
use Rattle.venue_model.specs.declared.commands.Command.TheVariants.{Void}
use Rattle.fix_orders.specs.Reading.{is_field, begins_with_type, is_body, between, exact_fields, command_of, reads}
use Rattle.std.specs.Option.{option_map_or}
use Rattle.fix_orders.specs.Text.{field}
use Rattle.fix_orders.specs.WritingLaws.{print_fields-append}

-- a test of each element, and a fact of each
pub all_from : {X : Type 0} (p : X → Bool) (P : X → Type 0) → ((x : X) → p x ≡ true → P x) → (xs : List X)
    → list_all p xs ≡ true → AllByRecursion P xs
all_from p P each [] all = tt
all_from p P each (x ∷ xs) all =
    let parts = and_parts (p x) (list_all p xs) all in (each x parts.0, all_from p P each xs parts.1)

all_to : {X : Type 0} (p : X → Bool) (P : X → Type 0) → ((x : X) → P x → p x ≡ true) → (xs : List X)
    → AllByRecursion P xs → list_all p xs ≡ true
all_to p P each [] all = refl
all_to p P each (x ∷ xs) all = and_from (p x) (list_all p xs) (each x all.0) (all_to p P each xs all.1)

-- a field, by test and by fact
no_soh_from : (b : ℕ) → not (b == soh) ≡ true → b ≢ soh
no_soh_from b passes is = grind (arith, nat_tests)

no_soh_to : (b : ℕ) → b ≢ soh → not (b == soh) ≡ true
no_soh_to b isnt = grind (arith, nat_tests)

pub field_from : (f : Field) → is_field f ≡ true → IsField f
field_from f passes =
    let value = and_parts _ _ passes in
    let some = and_parts _ (nat_lt 0 (length f.value)) value.0 in
    let tag = and_parts (nat_le 1 f.tag) (nat_le f.tag 99999) some.0 in
    record {
      tag_from = grind (arith, nat_tests, tag.0);
      tag_to = grind (arith, nat_tests, tag.1);
      valued = grind (arith, nat_tests, some.1);
      ends = all_from (λ b. not (b == soh)) (λ b. b ≢ soh) no_soh_from f.value value.1;
    }

field_to : (f : Field) → IsField f → is_field f ≡ true
field_to f is =
    let low : nat_le 1 f.tag ≡ true = grind (arith, nat_tests, is.tag_from) in
    let high : nat_le f.tag 99999 ≡ true = grind (arith, nat_tests, is.tag_to) in
    let some : nat_lt 0 (length f.value) ≡ true = grind (arith, nat_tests, is.valued) in
    and_from _ _ (and_from _ _ (and_from _ _ low high) some) (all_to (λ b. not (b == soh)) (λ b. b ≢ soh) no_soh_to f.value is.ends)

-- a body, by test and by fact
typed_from : (fields : List Field) → begins_with_type fields ≡ true → BeginsWithType fields
typed_from [] passes = cc
typed_from (f ∷ fields) passes = grind (arith, nat_tests)

typed_to : (fields : List Field) → BeginsWithType fields → begins_with_type fields ≡ true
typed_to [] is = absurd is
typed_to (f ∷ fields) is = grind (arith, nat_tests)

body_from : (fields : List Field) → is_body fields ≡ true → IsBody most_in fields
body_from fields passes =
    let short = and_parts _ (nat_le (length (print_fields fields)) most_in) passes in
    let long = and_parts _ (nat_le 5 (length (print_fields fields))) short.0 in
    let each = and_parts (list_all is_field fields) (begins_with_type fields) long.0 in
    record {
      each = all_from is_field IsField field_from fields each.0;
      typed = typed_from fields each.1;
      least = grind (arith, nat_tests, long.1);
      at_most = grind (arith, nat_tests, short.1);
    }

body_to : (fields : List Field) → IsBody most_in fields → is_body fields ≡ true
body_to fields is =
    let low : nat_le 5 (length (print_fields fields)) ≡ true = grind (arith, nat_tests, is.least) in
    let high : nat_le (length (print_fields fields)) most_in ≡ true = grind (arith, nat_tests, is.at_most) in
    and_from _ _ (and_from _ _ (and_from _ _ (all_to is_field IsField field_to fields is.each) (typed_to fields is.typed)) low) high

-- what the test finds is a frame
exact_by : (b : Bool) (fields found : List Field) → cond b (Some fields) None ≡ Some found
    → (b ≡ true) × (fields ≡ found)
exact_by true fields found e = (refl, cc)
exact_by false fields found e = cc

pub exact_sound : (bytes : List ℕ) (fields : List Field) → exact_fields bytes ≡ Some fields
    → IsFrame most_in bytes fields
unfolding exact_fields
exact_sound bytes fields found =
    let chosen = exact_by _ (between (fields_of bytes)) fields found in
    let both = and_parts (is_body (between (fields_of bytes))) (bytes_eq bytes (frame_text (between (fields_of bytes)))) chosen.0 in
    subst (IsFrame most_in bytes) chosen.1 (record { body = body_from _ both.0; spells = (bytes_eq-Decides _ _).0 both.1 })

-- all the fields of a frame
last_field : List Field → Field
last_field fields = field 10 (three_digits (sum (head (length (print_fields fields)) ++ print_fields fields) % 256))

all_fields : List Field → List Field
all_fields fields =
    field 8 (codes "FIX.4.4") ∷ field 9 (decimal (length (print_fields fields))) ∷ (fields ++ last_field fields ∷ [])

-- they print its text
eight : decimal 8 ≡ codes "8"
unfolding digits
eight = refl

nine : decimal 9 ≡ codes "9"
unfolding digits
nine = refl

ten : decimal 10 ≡ codes "10"
unfolding digits
ten = refl

regrouped : (digits body rest : List ℕ) → ((digits ++ 1 ∷ []) ++ body) ++ rest ≡ digits ++ 1 ∷ (body ++ rest)
regrouped digits body rest = append_assoc (digits ++ 1 ∷ []) body rest ∙ append_assoc digits (1 ∷ []) (body ++ rest)

print-last : (fields : List Field)
    → print_fields (last_field fields ∷ []) ≡ trailer (head (length (print_fields fields)) ++ print_fields fields)
unfolding last_field field_then trailer
print-last fields =
    ap (λ tag. tag ++ 61 ∷ (three_digits (sum (head (length (print_fields fields)) ++ print_fields fields) % 256) ++ 1 ∷ [])) ten

print-front : (digits rest : List ℕ)
    → field_then (field 8 (codes "FIX.4.4")) (field_then (field 9 digits) rest) ≡ codes "8=FIX.4.4\u{1}9=" ++ (digits ++ 1 ∷ rest)
unfolding field_then
print-front digits rest = rw (eight, nine)

frame_text-all_fields : (fields : List Field) → frame_text fields ≡ print_fields (all_fields fields)
unfolding all_fields head frame_of
frame_text-all_fields fields =
    let body = print_fields fields in
    let n = length body in
    ap (λ more. codes "8=FIX.4.4\u{1}9=" ++ more) (regrouped (decimal n) body (trailer (head n ++ body)))
    ∙ ap (λ more. codes "8=FIX.4.4\u{1}9=" ++ (decimal n ++ 1 ∷ more))
    (sym (print_fields-append fields (last_field fields ∷ []) ∙ ap (λ more. body ++ more) (print-last fields)))
    ∙ sym (print-front (decimal n) (print_fields (fields ++ last_field fields ∷ [])))

-- each of them is a field
pub digits_lack : (ds : List ℕ) → AllDigits 10 ds → LacksSoh ds
digits_lack [] all = tt
digits_lack (d ∷ ds) all =
    ((λ (e : d ≡ soh). let P : ℕ → Type 0 = λ b. digit_value b < 10 in let low : P soh = subst P e all.0 in absurd (omega (arith, low))), digits_lack ds all.1)

pub all_push : (fields : List Field) (f : Field) → AllByRecursion IsField fields → IsField f
    → AllByRecursion IsField (fields ++ f ∷ [])
all_push [] f all is = (is, tt)
all_push (g ∷ fields) f all is = (all.0, all_push fields f all.1 is)

last_is_field : (fields : List Field) → IsField (last_field fields)
unfolding last_field
last_is_field fields = record {
  tag_from = omega arith;
  tag_to = omega arith;
  valued = omega arith;
  ends = ((λ e. absurd (omega arith)), ((λ e. absurd (omega arith)), ((λ e. absurd (omega arith)), tt)));
}

all_fields-each : (fields : List Field) → IsBody most_in fields → AllByRecursion IsField (all_fields fields)
unfolding all_fields
all_fields-each fields body =
    let n = length (print_fields fields) in
    let number = decimal_is_IsNumeral n (omega (arith, body.at_most)) in (
      field_from (field 8 (codes "FIX.4.4")) refl,
      (
        record { tag_from = omega arith; tag_to = omega arith; valued = number.0.0; ends = digits_lack (decimal n) number.0.1 },
        all_push fields (last_field fields) body.each (last_is_field fields),
      ),
    )

between_all : (a b c : Field) (fields : List Field) → between (a ∷ b ∷ (fields ++ c ∷ [])) ≡ fields
between_all a b c fields = take_at fields (c ∷ []) _ (omega (arith, length-append fields (c ∷ [])))

-- a frame is what the test finds
pub exact_complete : (bytes : List ℕ) (fields : List Field) → IsFrame most_in bytes fields
    → exact_fields bytes ≡ Some fields
unfolding exact_fields all_fields
exact_complete bytes fields frame =
    let spelled : fields_of bytes ≡ all_fields fields =
    ap fields_of (frame.spells ∙ frame_text-all_fields fields)
    ∙ fields_of-print_fields (all_fields fields) (all_fields-each fields frame.body) in
    let found : between (fields_of bytes) ≡ fields = ap between spelled ∙ between_all (field 8 (codes "FIX.4.4")) (field 9 (decimal (length (print_fields fields)))) (last_field fields) fields in
    ap (λ fs. cond (is_body fs && bytes_eq bytes (frame_text fs)) (Some fs) None) found
    ∙ ap (λ b. cond b (Some fields) None) (and_from _ _ (body_to fields frame.body) ((bytes_eq-Decides bytes (frame_text fields)).1 frame.spells))

-- a frame is read by its fields, and what is none asks nothing
pub reads_frame : (market : Bool) (bytes : List ℕ) (fields : List Field) → IsFrame most_in bytes fields
    → reads market bytes ≡ command_of market fields
unfolding reads
reads_frame market bytes fields frame = ap (λ found. option_map_or (command_of market) found Void) (exact_complete bytes fields frame)

no_fields : (bytes : List ℕ) (found : Option (List Field)) → exact_fields bytes ≡ found
    → ((fields : List Field) → IsFrame most_in bytes fields → ⊥) → exact_fields bytes ≡ None
no_fields bytes None is none = is
no_fields bytes (Some fields) is none = absurd (none fields (exact_sound bytes fields is))

pub reads_none : (market : Bool) (bytes : List ℕ) → ((fields : List Field) → IsFrame most_in bytes fields → ⊥) → reads market bytes ≡ Void
unfolding reads
reads_none market bytes none =
    ap (λ found. option_map_or (command_of market) found Void) (no_fields bytes (exact_fields bytes) refl none)

-- bytes are a frame or none, so what is read by either rule is read so
either_fields : (market : Bool) (bytes : List ℕ) (result : Command) (found : Option (List Field)) → exact_fields bytes ≡ found
    → ((fields : List Field) → IsFrame most_in bytes fields → result ≡ command_of market fields)
    → (((fields : List Field) → IsFrame most_in bytes fields → ⊥) → result ≡ Void) → result ≡ reads market bytes
either_fields market bytes result None is frame none =
    let no : (fields : List Field) → IsFrame most_in bytes fields → ⊥ =
    λ fields at. absurd (let both = sym is ∙ exact_complete bytes fields at in cc) in
    none no ∙ sym (reads_none market bytes no)
either_fields market bytes result (Some fields) is frame none =
    let at = exact_sound bytes fields is in frame fields at ∙ sym (reads_frame market bytes fields at)

pub reads_either : (market : Bool) (bytes : List ℕ) (result : Command)
    → ((fields : List Field) → IsFrame most_in bytes fields → result ≡ command_of market fields)
    → (((fields : List Field) → IsFrame most_in bytes fields → ⊥) → result ≡ Void) → result ≡ reads market bytes
reads_either market bytes result frame none = either_fields market bytes result (exact_fields bytes) refl frame none
