-- Two cuts of one stream are one.
use Rattle.std.proofs.Common.{◌≡◌, ℕ, ◌+◌, ◌≤◌, List, [], ◌∷◌, ◌++◌, length, refl, ap, sym, ◌∙◌, subst, arith}
use Rattle.std.proofs.Common.{length-append}
use Rattle.std.proofs.lemmas.List.{append_cancel_left}
use Rattle.fix_frame.proofs.FrameLemmas.{same_parts}
use Rattle.fix_frame.specs.Grammar.{trailer}
use Rattle.edge_frames.specs.Fields.{ended}
use Rattle.edge_frames.specs.Faults.{message_verdict}
use Rattle.edge_frames.specs.Messages.{head_with, length_of, framed, ComesOut}
use Rattle.edge_frames.specs.Stream.{MayBegin, Come, ArePassed, Yields}
use Rattle.edge_frames.specs.Heads.{HasWholeHead}
use Rattle.edge_frames.specs.declared.verdict.Verdict.{Verdict}
use Rattle.edge_frames.proofs.HeadLemmas.{one_head, has_head}
use Rattle.edge_frames.proofs.BeginLemmas.{frame_parts, length-trailer, shut_by, all_there}

abbrev come : List ℕ → Verdict → Come
come text verdict = record { text = text; verdict = verdict }

module _ (longest most : ℕ) (c : Come) (behind : List ℕ) (comes : ComesOut longest most c.text c.verdict) where
  abbrev bytes : List ℕ
  bytes = c.text ++ behind

  abbrev tail : List ℕ
  tail = trailer (head_with comes.digits ++ comes.body) ++ behind

  parts : bytes ≡ head_with comes.digits ++ (comes.body ++ tail)
  parts = ap (λ k. k ++ behind) comes.spells ∙ frame_parts comes.digits comes.body behind

  abbrev headed : HasWholeHead bytes (length (head_with comes.digits)) (length_of comes.digits)
  headed = has_head bytes (comes.body ++ tail) comes.digits comes.right.long.number parts

  long : length (head_with comes.digits) + length_of comes.digits + 7 ≤ length bytes
  long =
      omega (
        arith,
        ap length parts,
        length-append (head_with comes.digits) (comes.body ++ tail),
        length-append comes.body tail,
        length-append (trailer (head_with comes.digits ++ comes.body)) behind,
        length-trailer (head_with comes.digits ++ comes.body),
        comes.right.exact,
      )

  -- where a message comes, none is under way
  pub comes_shut : MayBegin longest bytes → ⊥
  comes_shut =
      shut_by longest bytes (length (head_with comes.digits)) (length_of comes.digits) headed
      (all_there longest bytes (length (head_with comes.digits)) (length_of comes.digits) headed long)

  -- and one message comes there
  module _ (d : Come) (others : List ℕ) (is : ComesOut longest most d.text d.verdict)
      (e : bytes ≡ d.text ++ others) where
    same_head : (comes.digits ≡ is.digits) ×
        (comes.body ++ tail ≡ is.body ++ (trailer (head_with is.digits ++ is.body) ++ others))
    same_head =
        one_head comes.digits is.digits (comes.body ++ tail)
        (is.body ++ (trailer (head_with is.digits ++ is.body) ++ others)) comes.right.long.number is.right.long.number
        (sym parts ∙ e ∙ ap (λ k. k ++ others) is.spells ∙ frame_parts is.digits is.body others)

    same_body : comes.body ≡ is.body
    same_body =
        let long' : length comes.body ≡ length is.body =
        sym comes.right.exact ∙ ap length_of same_head.0 ∙ is.right.exact in
        (same_parts comes.body is.body tail (trailer (head_with is.digits ++ is.body) ++ others) long' same_head.1).0

    pub one_come : (c ≡ d) × (behind ≡ others)
    one_come =
        let text : c.text ≡ d.text = comes.spells ∙ ap (λ k. framed k comes.body) same_head.0 ∙
        ap (framed is.digits) same_body ∙ sym is.spells in
        let verdict : c.verdict ≡ d.verdict = comes.judged ∙ ap (λ k. message_verdict most (ended k)) same_body ∙
        sym is.judged in (
          ap (λ t. come t c.verdict) text ∙ ap (come d.text) verdict,
          append_cancel_left d.text behind others (ap (λ k. k ++ behind) (sym text) ∙ e),
        )

-- the first message of a stream is one
pub one_first : (longest most : ℕ) (xs ys behind others : List ℕ) (c d : Come) →
    ArePassed longest most xs (c.text ++ behind) → ComesOut longest most c.text c.verdict →
    ArePassed longest most ys (d.text ++ others) → ComesOut longest most d.text d.verdict →
    xs ++ (c.text ++ behind) ≡ ys ++ (d.text ++ others) → (c ≡ d) × (behind ≡ others)
one_first longest most [] [] behind others c d p is q so e = one_come longest most c behind is d others so e
one_first longest most [] (y ∷ ys) behind others c d p is q so e = absurd (q.0.none c behind is (sym e))
one_first longest most (x ∷ xs) [] behind others c d p is q so e = absurd (p.0.none d others so e)
one_first longest most (x ∷ xs) (y ∷ ys) behind others c d p is q so e =
    one_first longest most xs ys behind others c d p.1 is q.1 so (cc)

-- and where one comes nothing is waited for
first_waits : (longest most : ℕ) (xs ys behind rest : List ℕ) (c : Come) →
    ArePassed longest most xs (c.text ++ behind) → ComesOut longest most c.text c.verdict →
    ArePassed longest most ys rest → MayBegin longest rest → xs ++ (c.text ++ behind) ≡ ys ++ rest → ⊥
first_waits longest most [] [] behind rest c p is q o e =
    comes_shut longest most c behind is (subst (MayBegin longest) (sym e) o)
first_waits longest most [] (y ∷ ys) behind rest c p is q o e = q.0.none c behind is (sym e)
first_waits longest most (x ∷ xs) [] behind rest c p is q o e = p.0.shut (subst (MayBegin longest) (sym e) o)
first_waits longest most (x ∷ xs) (y ∷ ys) behind rest c p is q o e =
    first_waits longest most xs ys behind rest c p.1 is q.1 o (cc)

one_rest : (longest most : ℕ) (xs ys rest last : List ℕ) → ArePassed longest most xs rest → MayBegin longest rest →
    ArePassed longest most ys last → MayBegin longest last → xs ++ rest ≡ ys ++ last → rest ≡ last
one_rest longest most [] [] rest last p o q r e = e
one_rest longest most [] (y ∷ ys) rest last p o q r e = absurd (q.0.shut (subst (MayBegin longest) e o))
one_rest longest most (x ∷ xs) [] rest last p o q r e = absurd (p.0.shut (subst (MayBegin longest) (sym e) r))
one_rest longest most (x ∷ xs) (y ∷ ys) rest last p o q r e = one_rest longest most xs ys rest last p.1 o q.1 r (cc)

pub cut_once : (longest most : ℕ) (stream : List ℕ) (cs ds : List Come) (rest last : List ℕ) →
    Yields longest most stream cs rest → Yields longest most stream ds last → (cs ≡ ds) × (rest ≡ last)
cut_once longest most stream [] [] rest last (xs, v) (ys, w) =
    (refl, one_rest longest most xs ys rest last v.passed v.opens w.passed w.opens (sym v.whole ∙ w.whole))
cut_once longest most stream [] (d ∷ ds) rest last (xs, v) (ys, others, g, next) =
    absurd (first_waits longest most ys xs others rest d g.passed g.comes v.passed v.opens (sym g.whole ∙ v.whole))
cut_once longest most stream (c ∷ cs) [] rest last (xs, behind, f, next) (ys, w) =
    absurd (first_waits longest most xs ys behind last c f.passed f.comes w.passed w.opens (sym f.whole ∙ w.whole))
cut_once longest most stream (c ∷ cs) (d ∷ ds) rest last (xs, behind, f, next) (ys, others, g, then) =
    let one = one_first longest most xs ys behind others c d f.passed f.comes g.passed g.comes
    (sym f.whole ∙ g.whole) in
    let more = cut_once longest most others cs ds rest last
    (subst (λ (k : List ℕ). Yields longest most k cs rest) one.1 next) then in
    (ap (λ k. k ∷ cs) one.0 ∙ ap (λ ks. d ∷ ks) more.0, more.1)
