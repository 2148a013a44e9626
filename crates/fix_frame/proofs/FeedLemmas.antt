-- A piece fed byte by byte: what is held, and that each answer of feed is right.
use Rattle.std.proofs.Common.{◌≡◌, ℕ, ◌+◌, ◌≤◌, ◌<◌, inl, inr, List, [], ◌++◌, length, take, drop, ap, sym, ◌∙◌, subst}
use Rattle.std.proofs.Common.{arith, Option, None}
use Rattle.std.proofs.lemmas.List.{append_assoc, append-nil, length-append, length-take, take-append-drop}
use Rattle.std.proofs.lemmas.List.{take-append-le, drop_all}
use Rattle.std.proofs.Math.Seq.{take-add}
use Rattle.std.proofs.lemmas.Bool.{cases_lt}
use Rattle.fix_frame.specs.Stream.{IsWhole, BeginsNoFrame, IsWrong, Faults}
use Rattle.fix_frame.specs.Framing.{Framing, holding, failed, IsFaultless, TakesPiece, Refuses}
use Rattle.fix_frame.specs.Endings.{IsJudged, IsFirstFault, TakesFront, FaultsFront}
use Rattle.fix_frame.specs.declared.fault.FrameFault.{FrameFault}
use Rattle.fix_frame.proofs.FrameLemmas.{frame_right}
use Rattle.fix_frame.specs.Cuts.{all_but_last}
use Rattle.fix_frame.specs.Stages.{IsUnderWay, IsLive, framing}
use Rattle.fix_frame.specs.declared.stage.Stage.{Stage}
use Rattle.fix_frame.proofs.LiveLemmas.{none_whole, live_framing, live_judged, first_fault}

-- a stream with a fault keeps it, whatever follows
pub faults_longer : (stream more : List ℕ) (at : ℕ) (fault : FrameFault) → Faults stream at fault →
    Faults (stream ++ more) at fault
faults_longer stream more at fault f =
    let shorter = λ (k : ℕ) (h : k ≤ length stream). take-append-le k stream more h in
    record {
      within = omega (arith, f.within, length-append stream more);
      here = subst (λ s. IsWrong s fault) (sym (shorter at f.within)) f.here;
      first = λ k other early wrong. f.first k other early (subst (λ s. IsWrong s other) (shorter k (omega (
        arith,
        f.within,
      ))) wrong);
    }

-- a stream that begins with a frame has no fault
pub whole_faultless : (front more : List ℕ) → IsWhole front → IsFaultless (front ++ more)
whole_faultless front more (fs, is, e) at fault f =
    frame_right fs more at fault is (subst (λ s. IsWrong (take at (s ++ more)) fault) e f.here)

-- so many bytes of the piece are held, and no frame stood before the first of them
pub record HasTaken (old new : Framing) (piece : List ℕ) (taken : ℕ) : Type 0 where
  pub before : old.fault ≡ None
  pub state : new ≡ holding (old.held ++ take taken piece)
  pub judged : IsJudged new.held
  pub first : 0 < taken → BeginsNoFrame old.held

abbrev framed : List ℕ → Option FrameFault → Framing
framed held fault = record { held = held; fault = fault }

pub took_none : (old : Framing) (piece : List ℕ) → old.fault ≡ None → IsJudged old.held → HasTaken old old piece 0
took_none old piece right judged =
    let held : old.held ≡ old.held ++ [] = sym (append-nil old.held) in
    record {
      before = right;
      state = ap (λ k. framed k old.fault) held ∙
          ap (framed (old.held ++ [])) right;
      judged = judged;
      first = λ h. absurd (omega arith);
    }

module _ (old now : Framing) (piece : List ℕ) (taken : ℕ) (t : HasTaken old now piece taken) where
  held_is : now.held ≡ old.held ++ take taken piece
  held_is = ap (λ (v : Framing). v.held) t.state

  pub after : now.fault ≡ None
  after = ap (λ (v : Framing). v.fault) t.state

  -- what is held and the rest of the piece are the stream
  stream_is : old.held ++ piece ≡ now.held ++ drop taken piece
  stream_is =
      ap (λ k. old.held ++ k) (sym (take-append-drop taken piece)) ∙
      sym (append_assoc old.held (take taken piece) (drop taken piece)) ∙
      ap (λ k. k ++ drop taken piece) (sym held_is)

  full : IsWhole old.held → taken ≡ 0
  full whole = elim (cases_lt 0 taken) [
    | inl some ↦ absurd (none_whole old.held (t.first some) whole)
    | inr none ↦ omega arith
  ]

  -- a frame stands before the piece's end
  pub stopped : taken ≤ length piece → IsWhole now.held → TakesPiece old now piece taken
  stopped within whole = record {
    within = within;
    held = held_is;
    before = t.before;
    after = after;
    upto = inr whole;
    full = full;
    judged = inl whole;
    right = subst IsFaultless (sym stream_is) (whole_faultless now.held (drop taken piece) whole);
  }

  -- all of the piece was taken
  pub finished : taken ≡ length piece → TakesPiece old now piece taken
  finished all = record {
    within = omega arith;
    held = held_is;
    before = t.before;
    after = after;
    upto = inl all;
    full = full;
    judged = t.judged.judged;
    right = λ at fault f. t.judged.right at fault (subst (λ s. IsWrong (take at s) fault) (stream_is ∙
        ap (λ k. now.held ++ k) (drop_all taken piece (omega arith)) ∙ append-nil now.held) f.here);
  }

  module _ (n : ℕ) where
    abbrev chunk : List ℕ
    chunk = take n (drop taken piece)

    more_held : now.held ++ chunk ≡ old.held ++ take (taken + n) piece
    more_held =
        ap (λ k. k ++ chunk) held_is ∙ append_assoc old.held (take taken piece) chunk ∙
        ap (λ k. old.held ++ k) (sym (take-add taken n piece))

    no_frame_before : BeginsNoFrame now.held → BeginsNoFrame old.held
    no_frame_before none = elim (cases_lt 0 taken) [
      | inl some ↦ t.first some
      | inr few ↦ subst BeginsNoFrame (held_is ∙
          ap (λ k. old.held ++ take k piece) (let z : taken ≡ 0 = omega arith in z) ∙ append-nil old.held) none
    ]

    -- more bytes were taken
    pub took_more : (new : Framing) → BeginsNoFrame now.held → TakesFront now new (drop taken piece) n →
        HasTaken old new piece (taken + n)
    took_more new none takes = record {
      before = t.before;
      state = takes.held ∙ ap holding more_held;
      judged = subst IsJudged (sym (ap (λ (v : Framing). v.held) takes.held)) takes.judged;
      first = λ _. no_frame_before none;
    }

    -- the last of them was wrong
    pub spoilt : (new : Framing) (fault : FrameFault) → new ≡ failed fault →
        IsFirstFault (now.held ++ chunk) fault → Refuses old new piece fault
    spoilt new fault state f =
        let stream : old.held ++ piece ≡ (now.held ++ chunk) ++ drop n (drop taken piece) = stream_is ∙
        ap (λ k. now.held ++ k) (sym (take-append-drop n (drop taken piece))) ∙
        sym (append_assoc now.held chunk (drop n (drop taken piece))) in
        record {
          after = ap (λ (v : Framing). v.fault) state;
          cause = inr (
            t.before,
            length (now.held ++ chunk),
            subst (λ s. Faults s (length (now.held ++ chunk)) fault) (sym stream)
                (faults_longer (now.held ++ chunk) (drop n (drop taken piece)) _ fault f),
          );
        }

-- one step's bytes were taken, or the last of them is wrong
module _ (held more bytes : List ℕ) (n : ℕ) (some : 0 < n) (within : n ≤ length more)
    (bytes_are : bytes ≡ held ++ take n more) (stage : Stage) where
  pub front_taken : (old new : Framing) → old.held ≡ held → IsLive stage bytes → new ≡ framing stage bytes
      → TakesFront old new more n
  front_taken old new held_is live now =
      let same : bytes ≡ old.held ++ take n more = bytes_are ∙ ap (λ k. k ++ take n more) (sym held_is) in record {
        some = some;
        within = within;
        held = now ∙ (live_framing stage bytes live).0 ∙ ap holding same;
        judged = subst IsJudged same (live_judged stage bytes live);
      }

  pub front_wrong : (fault : FrameFault) → IsUnderWay stage (all_but_last (held ++ take n more)) → IsWrong bytes fault
      → FaultsFront held more fault
  front_wrong fault under wrong =
      let long : 0 < length (held ++ take n more) =
      omega (arith, length-append held (take n more), length-take n more) in (
        n,
        within,
        first_fault stage (held ++ take n more) fault long under
            (subst (λ k. IsWrong k fault) bytes_are wrong),
      )
