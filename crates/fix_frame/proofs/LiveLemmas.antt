-- While a message is under way, or its frame stands: nothing was wrong, and no frame came before.
use Rattle.std.proofs.Common.{◌≡◌, ℕ, ◌+◌, ◌-◌, ◌*◌, ◌≤◌, ◌<◌, inl, inr, List, [], ◌∷◌, ◌++◌, length, take, drop, refl}
use Rattle.std.proofs.Common.{ap, sym, ◌∙◌, subst, arith, None}
use Rattle.std.specs.Fmt.{decimal}
use Rattle.std.proofs.lemmas.List.{append_assoc, append-nil, length-append, take-append-drop, length-take, length-drop}
use Rattle.std.proofs.lemmas.List.{take_all, take-take}
use Rattle.std.proofs.lemmas.Fmt.{length-decimal-le}
use Rattle.std.proofs.lemmas.Bool.{cases_lt}
use Rattle.fix_frame.specs.Grammar.{head, trailer, frame_text, print_fields, fields_of}
use Rattle.fix_frame.specs.Stream.{BeginsHead, IsWrong, IsWhole, BeginsNoFrame}
use Rattle.fix_frame.specs.Stages.{opening, IsHeading, IsResting, IsStanding, body_part, IsUnderWay, IsLive, IsAtStage}
use Rattle.fix_frame.specs.Stages.{IsReady, framing}
use Rattle.fix_frame.specs.Framing.{holding}
use Rattle.fix_frame.specs.Cuts.{all_but_last}
use Rattle.fix_frame.specs.Endings.{IsJudged, IsFirstFault}
use Rattle.fix_frame.specs.declared.fault.FrameFault.{FrameFault}
use Rattle.fix_frame.specs.declared.stage.Stage.{Stage}
use Rattle.fix_frame.specs.declared.stage.Stage.TheVariants.{Head, Rest, Whole, Given, Faulty}
use Rattle.fix_frame.proofs.NumberLemmas.{decimal_more}
use Rattle.fix_frame.proofs.HeadLemmas.{head-opening, one_head}
use Rattle.fix_frame.proofs.WrongLemmas.{head_alone, beginning_right, beginning_front, wrong_front}
use Rattle.fix_frame.proofs.RestSteps.{resting_small}
use Rattle.fix_frame.proofs.FrameLemmas.{frame_parts, frame_right, length_of_body, length-trailer}

ten_times : (v : ℕ) → 1 ≤ v → v ≤ 297 → decimal (v * 10) ≡ decimal v ++ 48 ∷ []
ten_times v some few =
    let t : v * 10 ≡ v * 10 + (48 - 48) = omega arith in
    ap decimal t ∙ decimal_more v 48 some (omega arith) (omega arith) (omega arith)

-- digits of a length that may still grow
digits_begin : (bytes : List ℕ) (v : ℕ) → bytes ≡ opening ++ decimal v → 1 ≤ v → v ≤ 297 → BeginsHead bytes
digits_begin bytes v e some few = elim (cases_lt v 5) [
  | inl short ↦ (
    v * 10,
    48 ∷ 1 ∷ [],
    (omega arith, omega arith),
    ap (λ k. k ++ 48 ∷ 1 ∷ []) e ∙ ap (λ k. opening ++ k) (sym (append_assoc (decimal v) (48 ∷ []) (1 ∷ [])) ∙
        ap (λ k. k ++ 1 ∷ []) (sym (ten_times v some few))) ∙ sym (head-opening (v * 10) []) ∙
        append-nil (head (v * 10)),
  )
  | inr long ↦ (v, 1 ∷ [], (long, few), ap (λ k. k ++ 1 ∷ []) e ∙ sym (head-opening v []) ∙ append-nil (head v))
]

pub heading_begins : (bytes : List ℕ) (v : ℕ) → IsHeading bytes v → BeginsHead bytes
heading_begins bytes v h = elim (cases_lt 12 (length bytes)) [
  | inl late ↦ let d = h.counts late in digits_begin bytes v d.0 d.1 d.2
  | inr early ↦
      let rest : List ℕ = drop (length bytes) opening ++ (decimal 5 ++ 1 ∷ []) in (
        5,
        rest,
        (omega arith, omega arith),
        ap (λ k. k ++ rest) (h.opens early).0 ∙
            sym (append_assoc (take (length bytes) opening) (drop (length bytes) opening) (decimal 5 ++ 1 ∷ [])) ∙
            ap (λ k. k ++ (decimal 5 ++ 1 ∷ [])) (take-append-drop (length bytes) opening) ∙ sym (head-opening 5 []) ∙
            append-nil (head 5),
      )
]

resting_parts : (bytes : List ℕ) (body n : ℕ) → IsResting bytes body n → bytes ≡ head n ++ drop body bytes
resting_parts bytes body n h = sym (take-append-drop body bytes) ∙ ap (λ k. k ++ drop body bytes) h.headed

resting_few : (bytes : List ℕ) (body n : ℕ) → IsResting bytes body n → length (drop body bytes) < n + 7
resting_few bytes body n h =
    omega (arith, length-drop body bytes, h.short, h.length_is.0)

-- no frame yet
pub not_yet : (stage : Stage) (bytes : List ℕ) → IsUnderWay stage bytes → BeginsNoFrame bytes
not_yet (Head v) bytes h fs more b e =
    let body = print_fields fs in
    let begins = heading_begins bytes v h in
    let tail = trailer (head (length body) ++ body) in
    let none = head_alone (length body) begins.0 (body ++ (tail ++ more)) begins.1 (length_of_body fs b) begins.2
    (ap (λ k. k ++ begins.1) (sym (e ∙ frame_parts fs more)) ∙ begins.3) in
    absurd (omega (arith, none, length-append body (tail ++ more), b.least))
not_yet (Rest at n) bytes h fs more b e =
    let body = print_fields fs in
    let tail = trailer (head (length body) ++ body) in
    let r = one_head n (length body) (drop at bytes) (body ++ (tail ++ more)) h.length_is (length_of_body fs b)
    (sym (resting_parts bytes at n h) ∙ e ∙ frame_parts fs more) in
    absurd (omega (
      arith,
      resting_few bytes at n h,
      ap length r.1,
      length-append body (tail ++ more),
      length-append tail more,
      length-trailer (head (length body) ++ body),
      r.0,
    ))
not_yet (Whole at) bytes h fs more b e = absurd h
not_yet Given bytes h fs more b e = absurd h
not_yet (Faulty f) bytes h fs more b e = absurd h

-- nothing wrong so far
pub right_so_far : (stage : Stage) (bytes : List ℕ) (k : ℕ) (fault : FrameFault) → IsLive stage bytes →
    IsWrong (take k bytes) fault → ⊥
right_so_far (Head v) bytes k fault h wrong =
    beginning_right (take k bytes) fault (beginning_front k bytes (heading_begins bytes v h)) wrong
right_so_far (Rest at n) bytes k fault h wrong =
    let w = wrong_front k n (drop at bytes) fault h.length_is
    (subst (λ s. IsWrong (take k s) fault) (resting_parts bytes at n h) wrong) in
    let p = w.2 in
    absurd (omega (
      arith,
      resting_few bytes at n h,
      ap length p.parts,
      length-append p.body p.tail,
      p.body_long,
      p.tail_long,
      length-take w.0 (drop at bytes),
    ))
right_so_far (Whole at) bytes k fault h wrong =
    frame_right (fields_of (body_part bytes at)) [] k fault h.framed.body
    (subst (λ s. IsWrong (take k s) fault) (h.framed.spells ∙
    sym (append-nil (frame_text (fields_of (body_part bytes at))))) wrong)
right_so_far Given bytes k fault h wrong = absurd h
right_so_far (Faulty f) bytes k fault h wrong = absurd h

pub right_under_way : (stage : Stage) (bytes : List ℕ) (k : ℕ) (fault : FrameFault) → IsUnderWay stage bytes →
    IsWrong (take k bytes) fault → ⊥
right_under_way (Head v) bytes k fault h wrong = right_so_far (Head v) bytes k fault h wrong
right_under_way (Rest at n) bytes k fault h wrong = right_so_far (Rest at n) bytes k fault h wrong
right_under_way (Whole at) bytes k fault h wrong = absurd h
right_under_way Given bytes k fault h wrong = absurd h
right_under_way (Faulty f) bytes k fault h wrong = absurd h

-- what begins with no frame is none
pub none_whole : (bytes : List ℕ) → BeginsNoFrame bytes → IsWhole bytes → ⊥
none_whole bytes none (fs, is, e) = none fs [] is (e ∙ sym (append-nil (frame_text fs)))

pub standing_whole : (bytes : List ℕ) (at : ℕ) → IsStanding bytes at → IsWhole bytes
standing_whole bytes at h = (fields_of (body_part bytes at), h.framed.body, h.framed.spells)

-- a message begins with no bytes
pub nothing_heads : IsHeading [] 0
nothing_heads = record { opens = λ _. (refl, refl); counts = λ late. absurd (omega (arith, late)) }

-- where no frame stands, what is held begins with none
pub partial : (stage : Stage) (bytes : List ℕ) → IsAtStage stage bytes → ((body : ℕ) → stage ≡ Whole body → ⊥) →
    BeginsNoFrame (framing stage bytes).held
partial (Head v) bytes h other = not_yet (Head v) bytes h
partial (Rest at n) bytes h other = not_yet (Rest at n) bytes h
partial (Whole at) bytes h other = absurd (other at refl)
partial Given bytes h other = not_yet (Head 0) [] nothing_heads
partial (Faulty f) bytes h other = not_yet (Head 0) [] nothing_heads

-- what is live was judged
pub live_judged : (stage : Stage) (bytes : List ℕ) → IsLive stage bytes → IsJudged bytes
live_judged (Head v) bytes h = record {
  judged = inr (not_yet (Head v) bytes h);
  right = λ k f. right_so_far
      (Head v) bytes k f h;
}
live_judged (Rest at n) bytes h = record {
  judged = inr (not_yet (Rest at n) bytes h);
  right = λ k f. right_so_far
      (Rest at n) bytes k f h;
}
live_judged (Whole at) bytes h = record {
  judged = inl (standing_whole bytes at h);
  right = λ k f. right_so_far
      (Whole at) bytes k f h;
}
live_judged Given bytes h = absurd h
live_judged (Faulty f) bytes h = absurd h

-- and so was what is held, where nothing was wrong
pub held_judged : (stage : Stage) (bytes : List ℕ) → IsAtStage stage bytes → (framing stage bytes).fault ≡ None →
    IsJudged (framing stage bytes).held
held_judged (Head v) bytes h right = live_judged (Head v) bytes h
held_judged (Rest at n) bytes h right = live_judged (Rest at n) bytes h
held_judged (Whole at) bytes h right = live_judged (Whole at) bytes h
held_judged Given bytes h right = live_judged (Head 0) [] nothing_heads
held_judged (Faulty f) bytes h right = absurd (cc)

-- what is live is held
pub live_framing : (stage : Stage) (bytes : List ℕ) → IsLive stage bytes →
    (framing stage bytes ≡ holding bytes) × IsAtStage stage bytes
live_framing (Head v) bytes h = (refl, h)
live_framing (Rest at n) bytes h = (refl, h)
live_framing (Whole at) bytes h = (refl, h)
live_framing Given bytes h = absurd h
live_framing (Faulty f) bytes h = absurd h

-- a byte may come while nothing is wrong and no frame stands
pub ready : (stage : Stage) (bytes : List ℕ) → IsAtStage stage bytes → (framing stage bytes).fault ≡ None →
    BeginsNoFrame (framing stage bytes).held → IsReady stage bytes
ready (Head v) bytes h right none = h
ready (Rest at n) bytes h right none = h
ready (Whole at) bytes h right none = none_whole bytes none (standing_whole bytes at h)
ready Given bytes h right none = tt
ready (Faulty f) bytes h right none = absurd (cc)

-- there is room for another byte
pub room_for_one : (stage : Stage) (bytes : List ℕ) → IsUnderWay stage bytes → length bytes < 320
room_for_one (Head v) bytes h = elim (cases_lt 12 (length bytes)) [
  | inl late ↦
      let d = h.counts late in
      omega (
        arith,
        ap length d.0,
        length-append opening (decimal v),
        length-decimal-le 3 v (omega arith) (omega (arith, d.2)) (omega (arith, d.2)),
      )
  | inr early ↦ omega arith
]
room_for_one (Rest at n) bytes h = let small = resting_small bytes at n h in omega (arith, h.short, small.0, small.1)
room_for_one (Whole at) bytes h = absurd h
room_for_one Given bytes h = absurd h
room_for_one (Faulty f) bytes h = absurd h

-- a wrong last byte, behind bytes that nothing is wrong with, is the first fault
pub first_fault : (stage : Stage) (bytes : List ℕ) (fault : FrameFault) → 0 < length bytes
    → IsUnderWay stage (all_but_last bytes) →
    IsWrong bytes fault → IsFirstFault bytes fault
first_fault stage bytes fault some under wrong = record {
  within = omega arith;
  here = subst (λ s. IsWrong s fault) (sym (take_all (length bytes) bytes (omega arith))) wrong;
  first = λ k other early w. right_under_way stage (all_but_last bytes) k other under
      (subst (λ s. IsWrong s other) (sym (take-take k (length bytes - 1) bytes (omega arith))) w);
}
