-- One byte more behind a head: the message is not all there yet, or it is judged.
use Rattle.std.proofs.Common.{◌≡◌, ℕ, ◌+◌, ◌-◌, ◌≤◌, ◌<◌, List, ◌++◌, length, take, drop, ap, sym, ◌∙◌, subst, arith}
use Rattle.std.proofs.lemmas.Fmt.{length-decimal-le}
use Rattle.std.proofs.lemmas.List.{append_assoc, take-append-drop, length-take, length-drop, take-take, drop-take}
use Rattle.fix_frame.specs.Grammar.{head, print_fields, fields_of, frame_text, IsBody, most_in}
use Rattle.fix_frame.specs.Stream.{TailFault, IsWrong, when_due}
use Rattle.fix_frame.specs.Stages.{IsResting, IsStanding, body_part}
use Rattle.fix_frame.specs.Endings.{IsRight}
use Rattle.fix_frame.specs.Cuts.{all_but_last}
use Rattle.fix_frame.specs.declared.fault.FrameFault.{FrameFault}
use Rattle.fix_frame.proofs.HeadLemmas.{length-head, length_fits}
use Rattle.fix_frame.proofs.FieldsOf.{fields_of-print_fields}
use Rattle.fix_frame.proofs.FrameLemmas.{right_is_frame}

-- the head is there
pub resting_long : (bytes : List ℕ) (body n : ℕ) → IsResting bytes body n → body ≤ length bytes
resting_long bytes body n h =
    omega (arith, length-take body bytes, ap length h.headed, h.starts)

-- no head has more than 16 bytes
pub resting_small : (bytes : List ℕ) (body n : ℕ) → IsResting bytes body n → (body ≤ 16) × (n ≤ 297)
resting_small bytes body n h =
    let few = length-decimal-le 3 n (omega arith) (omega (arith, h.length_is.1)) (length_fits n h.length_is) in
    (omega (arith, few, length-head n, h.starts), h.length_is.1)

module _ (bytes : List ℕ) (body n : ℕ) (some : 0 < length bytes) (h : IsResting (all_but_last bytes) body n) where
  before_long : length (all_but_last bytes) + 1 ≡ length bytes
  before_long = omega (arith, length-take (length bytes - 1) bytes)

  headed : take body bytes ≡ head n
  headed = sym (take-take body (length bytes - 1) bytes (omega (
    arith,
    before_long,
    resting_long (all_but_last bytes) body n h,
  ))) ∙ h.headed

  -- there are all
  module _ (all : body + n + 7 ≤ length bytes) where
    abbrev front : List ℕ
    front = take (body + n) bytes

    abbrev middle : List ℕ
    middle = drop body front

    abbrev tail : List ℕ
    tail = drop (body + n) bytes

    whole : length bytes ≡ body + n + 7
    whole = omega (arith, before_long, h.short)

    pub front_is : front ≡ head n ++ middle
    front_is = sym (take-append-drop body front) ∙
        ap (λ k. k ++ middle) (take-take body (body + n) bytes (omega arith) ∙ headed)

    pub tail_long : length tail ≡ 7
    tail_long = omega (arith, length-drop (body + n) bytes, whole)

    middle_long : length middle ≡ n
    middle_long = omega (arith, length-drop body front, length-take (body + n) bytes, whole)

    bytes_are : bytes ≡ head n ++ (middle ++ tail)
    bytes_are = sym (take-append-drop (body + n) bytes) ∙ ap (λ k. k ++ tail) front_is ∙
        append_assoc (head n) middle tail

    -- a fault of its end is a fault of the message
    pub rest_wrong : (fault : FrameFault) → TailFault n middle tail fault → IsWrong bytes fault
    rest_wrong fault f =
        when_due n middle tail (record {
          length_is = h.length_is;
          bytes_are = bytes_are;
          body_long =
              middle_long;
          tail_long = tail_long;
        }) f

    pub part_is : body_part bytes body ≡ middle
    part_is =
        let count : length bytes - 7 - body ≡ n = omega (arith, whole) in
        ap (λ k. take k (drop body bytes)) count ∙ sym (drop-take body n bytes)

    -- with no fault it is a frame
    pub rest_whole : IsRight n middle tail → IsStanding bytes body
    rest_whole r =
        let (fs, is, prints, text) = right_is_frame n middle tail r h.length_is middle_long in
        let same : fields_of (body_part bytes body) ≡ fs = ap fields_of (part_is ∙ prints) ∙
        fields_of-print_fields fs is.each in
        record {
          framed = record {
            body = subst (IsBody most_in) (sym same) is;
            spells = bytes_are ∙ text ∙
                ap frame_text (sym same);
          };
          spells = part_is ∙ prints ∙ ap print_fields (sym same);
          room = omega (arith, whole);
        }
