-- The venue's fields and messages as the edge sees them.
use Rattle.std.proofs.Common.{◌≡◌, ◌≢◌, ℕ, suc, ◌+◌, ◌<◌, ◌≤◌, ◌^◌, List, [], ◌∷◌, ◌++◌, length, take, drop, map}
use Rattle.std.proofs.Common.{true, false, cond, ◌&&◌, not, ◌==◌, get_or, Option, None, Some, refl, ap, sym, ◌∙◌}
use Rattle.std.proofs.Common.{arith, length-append}
use Rattle.std.specs.Prelude.{nat_le, nat_lt}
use Rattle.std.specs.List.{AllByRecursion, list_all, position_or_len, prefix_len}
use Rattle.std.specs.Fmt.{decimal}
use Rattle.std.specs.Str.Parse.{AllDigits, digits_value}
use Rattle.std.proofs.lemmas.Bool.{and_from, le-leb, lt-ltb}
use Rattle.std.proofs.lemmas.Bool.Decides.{nat_tests}
use Rattle.std.proofs.lemmas.Fmt.{decimal_is_IsNumeral, decimal_nonempty, first_decimal, length-decimal-le}
use Rattle.std.proofs.lemmas.List.{append_assoc, take_at, drop_at, length_push}
use Rattle.std.proofs.lemmas.Str.Parse.{digit_from_value}
use Rattle.fix_frame.specs.Ascii.{is_digit}
use Rattle.fix_frame.specs.Cuts.{Lacks}
use Rattle.fix_frame.specs.Grammar.{Field, IsField, IsFrame, BeginsWithType, head, frame_of, most_in, print_fields}
use Rattle.fix_frame.proofs.NumberLemmas.{decimal_lacks}
use Rattle.fix_frame.proofs.FieldLemmas.{piece_of, piece_lacks, field_then-piece}
use Rattle.fix_frame.proofs.FieldsOf.{run_ends, printed_run}
use Rattle.edge_frames.specs.Fields.{ended, tag_text, value_text, is_digits, is_spelled, tag_value, tag_of}
use Rattle.edge_frames.specs.Fields.{piece_field, may_stand, is_frame_tag, are_fields}
use Rattle.edge_frames.specs.Faults.{IsTaken, piece_fault, field_fault, fault_or, fault, first_piece_fault}
use Rattle.edge_frames.specs.Faults.{has_header, verdict_told}
use Rattle.edge_frames.specs.Messages.{ComesOut}
use Rattle.edge_frames.specs.declared.reason.RejectReason.TheVariants.{TooMany}
use Rattle.edge_frames.specs.declared.verdict.BadField.{BadField}
use Rattle.edge_frames.specs.declared.verdict.Verdict.TheVariants.{Taken}
use Rattle.edge_frames.proofs.PieceLemmas.{ended_cut, ended_lacks}
use Rattle.edge_frames.proofs.ListLemmas.{field}

-- what stands before and behind the first mark
other_byte : (b mark : ℕ) → b ≢ mark → (b == mark) ≡ false
other_byte b mark h = grind (arith, nat_tests)

same_byte : (b : ℕ) → (b == b) ≡ true
same_byte b = grind (arith, nat_tests)

first_at : (mark : ℕ) (xs ys : List ℕ) → Lacks mark xs → position_or_len (λ b. b == mark) (xs ++ mark ∷ ys) ≡ length xs
first_at mark [] ys l = ap (λ t. cond (not t) (1 + prefix_len (λ b. not (b == mark)) ys) 0) (same_byte mark)
first_at mark (x ∷ xs) ys l =
    let e = first_at mark xs ys l.1 in
    ap (λ t. cond (not t) (1 + prefix_len (λ b. not (b == mark)) (xs ++ mark ∷ ys)) 0) (other_byte x mark l.0) ∙
    omega (arith, e)

are_digits : (ds : List ℕ) → AllDigits 10 ds → list_all is_digit ds ≡ true
are_digits [] all = refl
are_digits (d ∷ ds) all =
    let r = digit_from_value d all.0 in
    let t : is_digit d ≡ true = grind (arith, nat_tests, r) in
    and_from _ _ t (are_digits ds all.1)

decimal_number : (n k : ℕ) → 0 < k → n < 10 ^ k → n < 2 ^ 64 → is_digits k (decimal n) ≡ true
decimal_number n k some small fits =
    and_from (nat_le 1 (length (decimal n))) (nat_le (length (decimal n)) k && list_all is_digit (decimal n))
    (le-leb 1 (length (decimal n)) (omega (arith, decimal_nonempty n fits)))
    (and_from (nat_le (length (decimal n)) k) (list_all is_digit (decimal n))
    (le-leb (length (decimal n)) k (length-decimal-le k n some small fits))
    (are_digits (decimal n) (decimal_is_IsNumeral n fits).0.1))

module _ (f : Field) (is : IsField f) where
  fits : f.tag < 2 ^ 64
  fits = omega (arith, is.tag_to)

  abbrev digits : List ℕ
  digits = decimal f.tag

  sign_at : position_or_len (λ b. b == 61) (piece_of f) ≡ length digits
  sign_at = first_at 61 digits f.value (decimal_lacks 61 f.tag fits (λ h. omega (arith, h)))

  text_is : tag_text (piece_of f) ≡ digits
  text_is = take_at digits (61 ∷ f.value) (position_or_len (λ b. b == 61) (piece_of f)) (sym sign_at)

  pub value_is : value_text (piece_of f) ≡ f.value
  value_is =
      let n : ℕ = position_or_len (λ b. b == 61) (piece_of f) + 1 in
      let e : length (digits ++ 61 ∷ []) ≡ n = omega (arith, length_push digits 61, sign_at) in
      ap (drop n) (sym (append_assoc digits (61 ∷ []) f.value)) ∙ drop_at (digits ++ 61 ∷ []) f.value n e

  number : is_digits 5 digits ≡ true
  number = decimal_number f.tag 5 (omega arith) (omega (arith, is.tag_to)) fits

  all_digits : list_all is_digit digits ≡ true
  all_digits = are_digits digits (decimal_is_IsNumeral f.tag fits).0.1

  pub field_is : is_spelled (piece_of f) ≡ true
  field_is =
      let long = length-append digits (61 ∷ f.value) in
      let less : length (tag_text (piece_of f)) < length (piece_of f) = omega (arith, ap length text_is, long) in
      let some : 1 ≤ length (tag_text (piece_of f)) = omega (arith, ap length text_is, decimal_nonempty f.tag fits) in
      and_from (nat_lt (length (tag_text (piece_of f))) (length (piece_of f)))
      (nat_le 1 (length (tag_text (piece_of f))) && list_all is_digit (tag_text (piece_of f)))
      (lt-ltb (length (tag_text (piece_of f))) (length (piece_of f)) less)
      (and_from (nat_le 1 (length (tag_text (piece_of f)))) (list_all is_digit (tag_text (piece_of f)))
      (le-leb 1 (length (tag_text (piece_of f))) some) (ap (list_all is_digit) text_is ∙ all_digits))

  tag_number_is : tag_value digits ≡ f.tag
  tag_number_is =
      let first = first_decimal f.tag (omega (arith, is.tag_from)) fits in
      let other : (get_or digits 0 0 == 48) ≡ false = grind (arith, nat_tests, first) in
      let test : (is_digits 5 digits && not (get_or digits 0 0 == 48)) ≡ true =
      ap (λ t. is_digits 5 digits && not t) other ∙ ap (λ t. t && true) number in
      ap (λ t. cond t (digits_value 10 digits) 0) test ∙ (decimal_is_IsNumeral f.tag fits).1

  pub tag_is : tag_of (piece_of f) ≡ f.tag
  tag_is =
      ap (λ t. cond t (tag_value (tag_text (piece_of f))) 0) field_is ∙ ap tag_value text_is ∙ tag_number_is

  pub field_same : piece_field (piece_of f) ≡ f
  field_same =
      ap (λ t. field t (value_text (piece_of f))) tag_is ∙ ap (field f.tag) value_is

-- the pieces of a printed run
pub pieces_printed : (fs : List Field) → AllByRecursion IsField fs → ended (print_fields fs) ≡ map piece_of fs
pieces_printed [] all = ended_lacks [] tt
pieces_printed (f ∷ fs) all =
    ap ended (field_then-piece f (print_fields fs)) ∙ ended_cut (piece_of f) (print_fields fs) (piece_lacks f all.0) ∙
    ap (λ ps. piece_of f ∷ ps) (pieces_printed fs all.1)

same_fields : (fs : List Field) → AllByRecursion IsField fs → map piece_field (map piece_of fs) ≡ fs
same_fields [] all = refl
same_fields (f ∷ fs) all = ap (λ g. g ∷ map piece_field (map piece_of fs)) (field_same f all.0) ∙
    ap (λ gs. f ∷ gs) (same_fields fs all.1)

pub printed_fields : (fs : List Field) → AllByRecursion IsField fs → map piece_field (ended (print_fields fs)) ≡ fs
printed_fields fs all = ap (map piece_field) (pieces_printed fs all) ∙ same_fields fs all

all_stand : (fs : List Field) → AllByRecursion IsField fs → AllByRecursion IsTaken fs →
    list_all may_stand (map piece_of fs) ≡ true
all_stand [] all taken = refl
all_stand (f ∷ fs) all taken =
    and_from (may_stand (piece_of f)) (list_all may_stand (map piece_of fs))
    (and_from (is_spelled (piece_of f)) (not (is_frame_tag (tag_of (piece_of f)))) (field_is f all.0)
    (ap (λ t. not (is_frame_tag t)) (tag_is f all.0) ∙ ap not taken.0.inside)) (all_stand fs all.1 taken.1)

typed_stand : (fs : List Field) → AllByRecursion IsField fs → AllByRecursion IsTaken fs → BeginsWithType fs →
    are_fields (map piece_of fs) ≡ true
typed_stand [] all taken typed = absurd typed
typed_stand (f ∷ fs) all taken typed =
    let first : (tag_of (piece_of f) == 35) ≡ true = ap (λ t. t == 35) (tag_is f all.0 ∙ typed) in
    and_from (tag_of (piece_of f) == 35) (list_all may_stand (map piece_of fs)) first (all_stand fs all.1 taken.1)

no_fault : (fs : List Field) (i most : ℕ) → AllByRecursion IsField fs → AllByRecursion IsTaken fs →
    i + length fs ≤ most → first_piece_fault i most (map piece_of fs) ≡ None
no_fault [] i most all taken few = refl
no_fault (f ∷ fs) i most all taken few =
    let room : nat_lt i most ≡ true = lt-ltb i most (omega (arith, few)) in
    let right : piece_fault (piece_of f) ≡ None =
    ap (λ t. field_fault t (value_text (piece_of f))) (tag_is f all.0) ∙ ap (field_fault f.tag) (value_is f all.0) ∙
    taken.0.right in
    let others : Option BadField = first_piece_fault (suc i) most (map piece_of fs) in
    ap (λ t. cond t (fault_or i (piece_fault (piece_of f)) others) (Some (fault i TooMany))) room ∙
    ap (λ k. fault_or i k others) right ∙ no_fault fs (suc i) most all.1 taken.1 (omega (arith, few))

pub venue_comes : (longest most : ℕ) (text : List ℕ) (fs : List Field) → IsFrame most_in text fs →
    AllByRecursion IsTaken fs → 320 ≤ longest → length fs ≤ most → ComesOut longest most text Taken
unfolding frame_of head
venue_comes longest most text fs is taken large few =
    let body = print_fields fs in
    let n = length body in
    let pieces = pieces_printed fs is.body.each in
    let fits : n < 2 ^ 64 = omega (arith, is.body.at_most) in
    let value = (decimal_is_IsNumeral n fits).1 in
    let short = length-decimal-le 3 n (omega arith) (omega (arith, is.body.at_most)) fits in
    record {
      digits = decimal n;
      body = body;
      right = record {
        long = record {
          number = decimal_number n 9 (omega arith) (omega (arith, is.body.at_most)) fits;
          short = omega (arith, large, short, value, is.body.at_most, length-append (decimal n) (1 ∷ []));
        };
        exact = value;
        ends = run_ends body (printed_run body fs is.body.each refl).0 (omega (arith, is.body.least));
        fields = ap are_fields pieces ∙ typed_stand fs is.body.each taken is.body.typed;
      };
      spells = is.spells;
      judged = sym (ap (λ k. verdict_told k (has_header (take most (ended body))))
          (ap (first_piece_fault 0 most) pieces ∙ no_fault fs 0 most is.body.each taken (omega (arith, few))));
      whole = λ e. absurd (cc);
    }
