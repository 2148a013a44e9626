-- A message with a head: it is a frame just where body and trailer are what the head asks for.
use Rattle.std.proofs.Common.{◌≡◌, ℕ, ◌+◌, ◌-◌, ◌<◌, ◌≤◌, List, []}
use Rattle.std.proofs.Common.{◌++◌, length, take, drop, ap, sym, ◌∙◌, subst, arith}
use Rattle.std.proofs.lemmas.List.{append-nil, take-append-drop, drop-append-le, length-append}
use Rattle.std.proofs.lemmas.List.{length-take, length-drop, take-take, take_all}
use Rattle.std.proofs.lemmas.Fmt.{length-decimal-le}
use Rattle.fix_frame.specs.Grammar.{Field, IsFrame, BeginsWithType, head}
use Rattle.fix_frame.specs.Grammar.{trailer, frame_text, print_fields, fields_of, most_in}
use Rattle.fix_frame.specs.Stream.{IsBodyClosed, IsSummed, IsWrong}
use Rattle.fix_frame.specs.Stages.{IsResting}
use Rattle.fix_frame.specs.Cuts.{all_but_last}
use Rattle.fix_frame.specs.Runs.{IsRun}
use Rattle.fix_frame.specs.Bodies.{IsHeaded}
use Rattle.fix_frame.specs.declared.fault.FrameFault.TheVariants.{BadLength, BadChecksum}
use Rattle.fix_frame.proofs.HeadLemmas.{one_head, length-head, length_fits}
use Rattle.fix_frame.proofs.FieldsOf.{printed_run}
use Rattle.fix_frame.proofs.FrameLemmas.{frame_parts, length_of_body, length-trailer, same_parts}
use Rattle.fix_frame.proofs.MessageLemmas.{wrong_before}
use Rattle.fix_frame.proofs.RestSteps.{rest_wrong, rest_whole, front_is, part_is}

module _ (bytes : List ℕ) (body n : ℕ) (h : IsHeaded bytes body n) where
  -- the head of a frame is this one, and its body stands behind it
  frame_behind : (fields : List Field) → IsFrame most_in bytes fields →
      let printed = print_fields fields in
      (n ≡ length printed) × (drop body bytes ≡ printed ++ (trailer (head (length printed) ++ printed) ++ []))
  frame_behind fields is =
      one_head n (length (print_fields fields)) (drop body bytes) _ h.length_is (length_of_body fields is.body)
      (ap (λ k. k ++ drop body bytes) (sym h.headed) ∙ take-append-drop body bytes ∙ is.spells
      ∙ sym (append-nil (frame_text fields)) ∙ frame_parts fields [])

  -- so it has the length that the head says
  pub frame_long : (fields : List Field) → IsFrame most_in bytes fields → length bytes ≡ body + n + 7
  frame_long fields is =
      let printed = print_fields fields in
      let tail = trailer (head (length printed) ++ printed) in
      let r = frame_behind fields is in
      omega (
        arith,
        ap length (sym (take-append-drop body bytes)),
        length-append (take body bytes) (drop body bytes),
        ap length h.headed,
        h.starts,
        ap length r.1,
        length-append printed (tail ++ []),
        ap length (append-nil tail),
        length-trailer (head (length printed) ++ printed),
        r.0,
      )

  module _ (long : length bytes ≡ body + n + 7) where
    resting : IsResting (all_but_last bytes) body n
    resting = record {
      length_is = h.length_is;
      headed = take-take body (length bytes - 1) bytes (omega (arith, long)) ∙ h.headed;
      starts = h.starts;
      short = omega (arith, long, length-take (length bytes - 1) bytes);
    }

    some : 0 < length bytes
    some = omega (arith, long)

    all : body + n + 7 ≤ length bytes
    all = omega (arith, long)

    abbrev inside : List ℕ
    inside = drop body (take (body + n) bytes)

    abbrev tail : List ℕ
    tail = drop (body + n) bytes

    pub short_front : length (take (body + n) bytes) ≤ 1024
    short_front =
        let few = length-decimal-le 3 n (omega arith) (omega (arith, h.length_is.1)) (length_fits n h.length_is) in
        omega (arith, length-take (body + n) bytes, few, length-head n, h.starts, h.length_is.1)

    pub inside_long : length inside ≡ n
    inside_long = omega (arith, length-drop body (take (body + n) bytes), length-take (body + n) bytes, long)

    not_wrong : (fields : List Field) → IsFrame most_in bytes fields → (fault : _) → IsWrong bytes fault → ⊥
    not_wrong fields is fault wrong =
        wrong_before bytes fields is (length bytes) fault
        (subst (λ s. IsWrong s fault) (sym (take_all (length bytes) bytes (omega arith))) wrong)

    -- a frame's body ends a field, and CheckSum follows
    pub frame_closed : (fields : List Field) → IsFrame most_in bytes fields → (IsBodyClosed inside tail → ⊥)
        → ⊥
    frame_closed fields is other =
        not_wrong fields is BadLength (rest_wrong bytes body n some resting all BadLength other)

    -- and CheckSum is that of the bytes before it
    pub frame_summed : (fields : List Field) → IsFrame most_in bytes fields → IsBodyClosed inside tail
        → (IsSummed (take (body + n) bytes) tail → ⊥) → ⊥
    frame_summed fields is closed other =
        not_wrong fields is BadChecksum (rest_wrong bytes body n some resting all BadChecksum (
          closed,
          λ summed. other (subst (λ front. IsSummed front tail)
              (sym (front_is bytes body n some resting all)) summed),
        ))

    behind_cut : drop body bytes ≡ inside ++ tail
    behind_cut =
        ap (drop body) (sym (take-append-drop (body + n) bytes)) ∙ drop-append-le body (take (body + n) bytes)
        (drop (body + n) bytes) (omega (arith, length-take (body + n) bytes, long))

    -- its body spells its fields
    pub frame_spelled : (fields : List Field) → IsFrame most_in bytes fields → IsRun inside × (fields_of inside ≡ fields)
    frame_spelled fields is =
        let printed = print_fields fields in
        let r = frame_behind fields is in
        let cut : inside ++ tail ≡ printed ++ (trailer (head (length printed) ++ printed) ++ []) =
        sym behind_cut ∙ r.1 in
        let e = (same_parts inside printed tail _ (inside_long ∙ r.0) cut).0 in
        printed_run inside fields is.body.each e

    -- with these the message is a frame, if the body is a run of fields
    pub right_frame : IsBodyClosed inside tail → IsSummed (take (body + n) bytes) tail → IsRun inside
        → BeginsWithType (fields_of inside) → IsFrame most_in bytes (fields_of inside)
    right_frame closed summed run typed =
        let stands = rest_whole bytes body n some resting all (record {
          closed = closed;
          summed = subst (λ front. IsSummed front tail) (front_is bytes body n some resting all) summed;
          typed = (fields_of inside, run.each, typed, run.spells);
        }) in
        subst (λ part. IsFrame most_in bytes (fields_of part)) (part_is bytes body n some resting all) stands.framed
