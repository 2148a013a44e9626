-- The fields that bytes spell: of a printed run of fields, just these fields.
use Rattle.std.proofs.Common.{◌*◌, ◌≤◌, ◌≡◌, ◌≢◌, ℕ, ◌+◌, ◌<◌, ◌^◌, List, [], ◌∷◌, ◌++◌, length, drop, map, refl, ap}
use Rattle.std.proofs.Common.{sym, ◌∙◌, subst, arith, cond, ◌==◌, true, false, not}
use Rattle.std.specs.List.{AllByRecursion, position_or_len, prefix_len, before_first, after_first}
use Rattle.std.specs.Fmt.{decimal}
use Rattle.std.specs.Str.Parse.{digits_value}
use Rattle.std.proofs.lemmas.Fmt.{decimal_is_IsNumeral, decimal_nonempty}
use Rattle.std.proofs.lemmas.List.{append_assoc, take_at, drop_at, length_push, length-append}
use Rattle.std.proofs.lemmas.Bool.Decides.{nat_tests}
use Rattle.fix_frame.specs.Grammar.{Field, IsField, LacksSoh, field_then, print_fields, BeginsWithType, IsBody, most_in}
use Rattle.fix_frame.specs.Grammar.{pieces, onto_first, field_of, fields_of}
use Rattle.fix_frame.specs.Stream.{IsTyped}
use Rattle.fix_frame.specs.Runs.{IsRun}
use Rattle.fix_frame.specs.Cuts.{Lacks, EndsInSoh, BeginsNoField, BeginsField}
use Rattle.fix_frame.proofs.CutLemmas.{ends_before, ends_after}
use Rattle.fix_frame.proofs.NumberLemmas.{decimal_lacks}
use Rattle.fix_frame.proofs.FieldLemmas.{piece_of, piece_lacks, field_then-piece, one_field}

other_byte : (b mark : ℕ) → b ≢ mark → (b == mark) ≡ false
other_byte b mark h = grind (arith, nat_tests)

same_byte : (b : ℕ) → (b == b) ≡ true
same_byte b = grind (arith, nat_tests)

pieces_cut : (xs rest : List ℕ) → LacksSoh xs → pieces (xs ++ 1 ∷ rest) ≡ xs ∷ pieces rest
unfolding pieces
pieces_cut [] rest l = refl
pieces_cut (x ∷ xs) rest l =
    ap (λ t. cond t ([] ∷ pieces (xs ++ 1 ∷ rest)) (onto_first x (pieces (xs ++ 1 ∷ rest)))) (other_byte x 1 l.0) ∙
    ap (onto_first x) (pieces_cut xs rest l.1)

first_at : (mark : ℕ) (xs ys : List ℕ) → Lacks mark xs → position_or_len (λ b. b == mark) (xs ++ mark ∷ ys) ≡ length xs
first_at mark [] ys l = ap (λ t. cond (not t) (1 + prefix_len (λ b. not (b == mark)) ys) 0) (same_byte mark)
first_at mark (x ∷ xs) ys l =
    let e = first_at mark xs ys l.1 in
    ap (λ t. cond (not t) (1 + prefix_len (λ b. not (b == mark)) (xs ++ mark ∷ ys)) 0) (other_byte x mark l.0) ∙
    omega (arith, e)

before_mark : (mark : ℕ) (xs ys : List ℕ) → Lacks mark xs → before_first (λ b. b == mark) (xs ++ mark ∷ ys) ≡ xs
before_mark mark xs ys l = take_at xs (mark ∷ ys) _ (sym (first_at mark xs ys l))

after_mark : (mark : ℕ) (xs ys : List ℕ) → Lacks mark xs → after_first (λ b. b == mark) (xs ++ mark ∷ ys) ≡ ys
after_mark mark xs ys l =
    let n : ℕ = position_or_len (λ b. b == mark) (xs ++ mark ∷ ys) + 1 in
    let e : length (xs ++ mark ∷ []) ≡ n = omega (arith, length_push xs mark, first_at mark xs ys l) in
    ap (drop n) (sym (append_assoc xs (mark ∷ []) ys)) ∙ drop_at (xs ++ mark ∷ []) ys n e

abbrev field : ℕ → List ℕ → Field
field tag value = record { tag = tag; value = value }

field_of-piece : (f : Field) → IsField f → field_of (piece_of f) ≡ f
field_of-piece f is =
    let fits : f.tag < 2 ^ 64 = omega (arith, is.tag_to) in
    let l = decimal_lacks 61 f.tag fits (λ h. omega (arith, h)) in
    let digits : before_first (λ b. b == 61) (piece_of f) ≡ decimal f.tag = before_mark 61 (decimal f.tag) f.value l in
    let value : after_first (λ b. b == 61) (piece_of f) ≡ f.value = after_mark 61 (decimal f.tag) f.value l in
    let tag : digits_value 10 (before_first (λ b. b == 61) (piece_of f)) ≡ f.tag = ap (digits_value 10) digits ∙
    (decimal_is_IsNumeral f.tag fits).1 in
    ap (λ t. field t (after_first (λ b. b == 61) (piece_of f))) tag ∙ ap (field f.tag) value

-- the first field, and those of the rest
pub fields_of-field_then : (f : Field) (rest : List ℕ) → IsField f → fields_of (field_then f rest) ≡ f ∷ fields_of rest
unfolding fields_of
fields_of-field_then f rest is =
    ap fields_of (field_then-piece f rest) ∙ ap (λ ps. map field_of ps)
    (pieces_cut (piece_of f) rest (piece_lacks f is)) ∙ ap (λ g. g ∷ fields_of rest) (field_of-piece f is)

pub fields_of-nil : fields_of [] ≡ []
unfolding fields_of pieces
fields_of-nil = refl

-- the fields of a printed run are just these
pub fields_of-print_fields : (fs : List Field) → AllByRecursion IsField fs → fields_of (print_fields fs) ≡ fs
fields_of-print_fields [] all = fields_of-nil
fields_of-print_fields (f ∷ fs) all =
    fields_of-field_then f (print_fields fs) all.0 ∙ ap (λ gs. f ∷ gs) (fields_of-print_fields fs all.1)

-- what prints some fields is a run
pub printed_run : (bytes : List ℕ) (fs : List Field) → AllByRecursion IsField fs → bytes ≡ print_fields fs →
    IsRun bytes × (fields_of bytes ≡ fs)
printed_run bytes fs all e =
    let same : fields_of bytes ≡ fs = ap fields_of e ∙ fields_of-print_fields fs all in
    (record { each = subst (AllByRecursion IsField) (sym same) all; spells = e ∙ ap print_fields (sym same) }, same)

-- a field in front of a run, and back
module _ (bytes : List ℕ) (f : Field) (rest : List ℕ) (b : BeginsField bytes f rest) where
  pub first_and_rest : fields_of bytes ≡ f ∷ fields_of rest
  first_and_rest = ap fields_of b.spells ∙ fields_of-field_then f rest b.right

  pub run_behind : IsRun bytes → IsRun rest
  run_behind r =
      let all : IsField f × AllByRecursion IsField (fields_of rest) = subst
      (AllByRecursion IsField) first_and_rest r.each in
      let printed : field_then f rest ≡ field_then f (print_fields (fields_of rest)) = sym b.spells ∙ r.spells ∙
      ap print_fields first_and_rest in
      record { each = all.1; spells = (one_field f f rest (print_fields (fields_of rest)) b.right b.right printed).1 }

  pub run_before : IsRun rest → IsRun bytes
  run_before r =
      (printed_run bytes (f ∷ fields_of rest) (b.right, r.each) (b.spells ∙ ap (field_then f) r.spells)).0

no_field_none_printed : (bytes : List ℕ) (fs : List Field) → BeginsNoField bytes → AllByRecursion IsField fs →
    bytes ≡ print_fields fs → bytes ≡ []
no_field_none_printed bytes [] none all e = e
no_field_none_printed bytes (f ∷ fs) none all e = absurd (none f (print_fields fs) all.0 e)

-- where no field is at the front of a run, nothing is
pub no_field_no_run : (bytes : List ℕ) → BeginsNoField bytes → IsRun bytes → bytes ≡ []
no_field_no_run bytes none r = no_field_none_printed bytes (fields_of bytes) none r.each r.spells

pub nothing_is_run : IsRun []
nothing_is_run = (printed_run [] [] tt refl).0

-- behind a field there is less
pub rest_shorter : (bytes : List ℕ) (f : Field) (rest : List ℕ) → BeginsField bytes f rest → length rest < length bytes
rest_shorter bytes f rest b =
    omega (arith, ap length (b.spells ∙ field_then-piece f rest), length-append (piece_of f) (1 ∷ rest))

-- a run whose first field is MsgType, and back
module _ (body : List ℕ) (f : Field) (rest : List ℕ) (b : BeginsField body f rest) where
  pub typed_before : f.tag ≡ 35 → IsRun rest → IsTyped body
  typed_before is r = (f ∷ fields_of rest, (b.right, r.each), is, b.spells ∙ ap (field_then f) r.spells)

  pub typed_behind : IsTyped body → (f.tag ≡ 35) × IsRun rest
  typed_behind (fs, all, first, e) =
      let p = printed_run body fs all e in
      (subst BeginsWithType (sym p.1 ∙ first_and_rest body f rest b) first, run_behind body f rest b p.0)

-- each field has four bytes at least
piece_long : (f : Field) → IsField f → 3 ≤ length (piece_of f)
piece_long f is =
    let digits = decimal_nonempty f.tag (omega (arith, is.tag_to)) in
    omega (arith, digits, length-append (decimal f.tag) (61 ∷ f.value), is.valued)

pub field_long : (bytes : List ℕ) (f : Field) (rest : List ℕ) → BeginsField bytes f rest
    → length rest + 4 ≤ length bytes
field_long bytes f rest b =
    omega (
      arith,
      ap length (b.spells ∙ field_then-piece f rest),
      length-append (piece_of f) (1 ∷ rest),
      piece_long f b.right,
    )

pub few_fields : (fs : List Field) → AllByRecursion IsField fs → 4 * length fs ≤ length (print_fields fs)
few_fields [] all = omega arith
few_fields (f ∷ fs) all =
    let more = few_fields fs all.1 in
    let long = field_long (print_fields (f ∷ fs)) f (print_fields fs) (record { right = all.0; spells = refl }) in
    omega (arith, more, long)

pub few_of_body : (fs : List Field) → IsBody most_in fs → length fs ≤ 74
few_of_body fs b = omega (arith, few_fields fs b.each, b.at_most)

-- SOH ends a run, if it has a field
print_ends : (fs : List Field) → 0 < length (print_fields fs) → EndsInSoh (print_fields fs)
print_ends [] some = absurd (omega arith)
print_ends (f ∷ fs) some =
    subst EndsInSoh (sym (field_then-piece f (print_fields fs)))
    (ends_before (piece_of f) (print_fields fs) (print_ends fs))

pub run_ends : (bytes : List ℕ) → IsRun bytes → 0 < length bytes → EndsInSoh bytes
run_ends bytes run some =
    subst EndsInSoh (sym run.spells) (print_ends (fields_of bytes) (omega (arith, some, ap length run.spells)))

-- and what stands behind a field of bytes that SOH ends, if something does
pub field_ends : (bytes : List ℕ) (f : Field) (rest : List ℕ) → BeginsField bytes f rest → EndsInSoh bytes
    → 0 < length rest → EndsInSoh rest
field_ends bytes f rest b ends some =
    ends_after (piece_of f) 1 rest (subst EndsInSoh (b.spells ∙ field_then-piece f rest) ends) some
