-- Frames: how one is made of head, body and trailer, that none has a fault, and that one stands at a front.
use Rattle.std.proofs.Common.{◌≡◌, ℕ, List, [], ◌∷◌, ◌++◌, length, take, drop, refl, ap, sym, ◌∙◌, subst, arith}
use Rattle.std.proofs.lemmas.List.{append_assoc, take-append-drop}
use Rattle.fix_frame.specs.Grammar.{Field, head, trailer, frame_of, frame_text, print_fields, BeginsWithType, IsBody}
use Rattle.fix_frame.specs.Grammar.{fields_of, most_in}
use Rattle.fix_frame.specs.Stream.{IsLength, TailFault, IsWrong}
use Rattle.fix_frame.specs.Endings.{IsRight}
use Rattle.fix_frame.specs.declared.fault.FrameFault.{FrameFault}
use Rattle.fix_frame.specs.declared.fault.FrameFault.TheVariants.{BadBegin, BadLength, BadChecksum, TooLong, BadField}
use Rattle.fix_frame.proofs.FieldLemmas.{piece_of, field_then-piece}
use Rattle.fix_frame.proofs.FieldsOf.{fields_of-print_fields}
use Rattle.fix_frame.proofs.HeadLemmas.{one_head}
use Rattle.fix_frame.proofs.WrongLemmas.{wrong_front}

-- two cuts of a list at one place
pub same_parts : (xs us ys vs : List ℕ) → length xs ≡ length us → xs ++ ys ≡ us ++ vs → (xs ≡ us) × (ys ≡ vs)
same_parts [] [] ys vs n e = (refl, e)
same_parts [] (u ∷ us) ys vs n e = absurd (omega (arith, n))
same_parts (x ∷ xs) [] ys vs n e = absurd (omega (arith, n))
same_parts (x ∷ xs) (u ∷ us) ys vs n e =
    let r = same_parts xs us ys vs (omega (arith, n)) (cc) in
    (cc r.0, r.1)

pub length-trailer : (front : List ℕ) → length (trailer front) ≡ 7
unfolding trailer
length-trailer front = refl

pub length_of_body : (fs : List Field) → IsBody most_in fs → IsLength (length (print_fields fs))
length_of_body fs b = (b.least, b.at_most)

-- head, body, trailer and what follows
pub frame_parts : (fs : List Field) (more : List ℕ) →
    let body = print_fields fs in frame_text fs ++ more ≡ head (length body) ++
    (body ++ (trailer (head (length body) ++ body) ++ more))
unfolding frame_of
frame_parts fs more =
    let body = print_fields fs in
    let front = head (length body) ++ body in
    append_assoc front (trailer front) more ∙ append_assoc (head (length body)) body (trailer front ++ more)

-- a run of fields, one at least, ends in SOH
ends_in_soh : (f : Field) (fs : List Field) → (before : List ℕ) × (print_fields (f ∷ fs) ≡ before ++ 1 ∷ [])
ends_in_soh f [] = (piece_of f, field_then-piece f [])
ends_in_soh f (g ∷ gs) =
    let r = ends_in_soh g gs in (
      piece_of f ++ 1 ∷ r.0,
      field_then-piece f (print_fields (g ∷ gs)) ∙ ap (λ k. piece_of f ++ 1 ∷ k) r.1 ∙
          sym (append_assoc (piece_of f) (1 ∷ r.0) (1 ∷ [])),
    )

typed_ends : (fs : List Field) → BeginsWithType fs → (before : List ℕ) × (print_fields fs ≡ before ++ 1 ∷ [])
typed_ends [] none = absurd none
typed_ends (f ∷ fs) is = ends_in_soh f fs

-- a body and its trailer are right
pub right_of_body : (fs : List Field) → IsBody most_in fs →
    let body = print_fields fs in IsRight (length body) body (trailer (head (length body) ++ body))
unfolding trailer
right_of_body fs b = record {
  closed = (typed_ends fs b.typed, refl);
  summed = refl;
  typed = (
    fs,
    b.each,
    b.typed,
    refl,
  );
}

-- what is right has no fault
pub no_tail_fault : (n : ℕ) (body tail : List ℕ) (fault : FrameFault) → IsRight n body tail →
    TailFault n body tail fault → ⊥
no_tail_fault n body tail BadLength r f = f r.closed
no_tail_fault n body tail BadChecksum r f = f.1 r.summed
no_tail_fault n body tail BadField r f = f.2 r.typed
no_tail_fault n body tail BadBegin r f = f
no_tail_fault n body tail TooLong r f = f

-- what is right is a frame of the fields that the body prints
pub right_is_frame : (n : ℕ) (body tail : List ℕ) → IsRight n body tail → IsLength n → length body ≡ n →
    (fs : List Field) × IsBody most_in fs × (body ≡ print_fields fs) × (head n ++ (body ++ tail) ≡ frame_text fs)
unfolding frame_of trailer
right_is_frame n body tail r is long =
    let fs = r.typed.0 in
    let prints : body ≡ print_fields fs = r.typed.3 in
    let same : length (print_fields fs) ≡ n = ap length (sym prints) ∙ long in
    let front : head n ++ body ≡ head (length (print_fields fs)) ++ print_fields fs = ap (λ k. head k ++ body)
    (sym same) ∙ ap (λ k. head (length (print_fields fs)) ++ k) prints in
    let tail_is : tail ≡ trailer (head n ++ body) = sym (take-append-drop 3 tail) ∙
    ap (λ k. k ++ drop 3 tail) r.closed.1 ∙ ap (λ k. 49 ∷ 48 ∷ 61 ∷ k) r.summed in (
      fs,
      record {
        each = r.typed.1;
        typed = r.typed.2;
        least = omega (arith, is.0, same);
        at_most = omega (
          arith,
          is.1,
          same,
        );
      },
      prints,
      sym (append_assoc (head n) body tail) ∙ ap (λ k. (head n ++ body) ++ k) tail_is ∙ ap (λ k. k ++ trailer k) front,
    )

-- from a frame on nothing is wrong
pub frame_right : (fs : List Field) (more : List ℕ) (k : ℕ) (fault : FrameFault) → IsBody most_in fs →
    IsWrong (take k (frame_text fs ++ more)) fault → ⊥
frame_right fs more k fault b wrong =
    let body = print_fields fs in
    let tail = trailer (head (length body) ++ body) in
    let w = wrong_front k (length body) (body ++ (tail ++ more)) fault (length_of_body fs b)
    (subst (λ s. IsWrong (take k s) fault) (frame_parts fs more) wrong) in
    let m = w.0 in
    let p = w.2 in
    let joined : p.body ++ (p.tail ++ drop m (body ++ (tail ++ more))) ≡ body ++ (tail ++ more) = sym
    (append_assoc p.body p.tail (drop m (body ++ (tail ++ more)))) ∙
    ap (λ s. s ++ drop m (body ++ (tail ++ more))) (sym p.parts) ∙ take-append-drop m (body ++ (tail ++ more)) in
    let one = same_parts p.body body (p.tail ++ drop m (body ++ (tail ++ more))) (tail ++ more) p.body_long joined in
    let two = same_parts p.tail tail (drop m (body ++ (tail ++ more))) more (p.tail_long ∙
    sym (length-trailer (head (length body) ++ body))) one.1 in
    no_tail_fault (length body) body tail fault (right_of_body fs b)
    (subst (λ t. TailFault (length body) body t fault) two.0
    (subst (λ s. TailFault (length body) s p.tail fault) one.0 p.faulty))

-- one frame stands at a front
pub one_frame : (fs gs : List Field) (more rest : List ℕ) → IsBody most_in fs → IsBody most_in gs →
    frame_text fs ++ more ≡ frame_text gs ++ rest → (fs ≡ gs) × (more ≡ rest)
one_frame fs gs more rest b b' e =
    let body = print_fields fs in
    let other = print_fields gs in
    let h = one_head (length body) (length other) (body ++ (trailer (head (length body) ++ body) ++ more))
    (other ++ (trailer (head (length other) ++ other) ++ rest)) (length_of_body fs b) (length_of_body gs b')
    (sym (frame_parts fs more) ∙ e ∙ frame_parts gs rest) in
    let p = same_parts body other (trailer (head (length body) ++ body) ++ more)
    (trailer (head (length other) ++ other) ++ rest) h.0 h.1 in
    let q = same_parts (trailer (head (length body) ++ body)) (trailer (head (length other) ++ other)) more rest
    (length-trailer (head (length body) ++ body) ∙ sym (length-trailer (head (length other) ++ other))) p.1 in
    (sym (fields_of-print_fields fs b.each) ∙ ap fields_of p.0 ∙ fields_of-print_fields gs b'.each, q.1)
