-- What begins behind a head: why it is no message, or that it is one.
use Rattle.std.proofs.Common.{◌≡◌, ◌≢◌, ℕ, ◌+◌, ◌-◌, ◌<◌, ◌≤◌, ◌^◌, List, ◌++◌, length, take, drop, min, true}
use Rattle.std.proofs.Common.{false, refl, ap, sym, ◌∙◌, subst, inl, inr, arith, slice_range}
use Rattle.std.proofs.lemmas.Bool.{both_ways}
use Rattle.std.proofs.lemmas.List.{append_assoc, drop_at, take_at, take-append-drop, length-take-le, length-drop}
use Rattle.std.proofs.lemmas.List.{take_min}
use Rattle.std.proofs.Math.Seq.{take-add, drop-append-add}
use Rattle.fix_frame.specs.Cuts.{EndsInSoh}
use Rattle.fix_frame.specs.Grammar.{trailer}
use Rattle.edge_frames.specs.Fields.{ended, are_fields}
use Rattle.edge_frames.specs.Messages.{head_with, framed, IsMessageBody}
use Rattle.edge_frames.specs.Stream.{StartsHead, BeginsBody, MayBegin}
use Rattle.edge_frames.specs.Heads.{HasNoHead, HasWholeHead, BeginsNothing, StandsThere}
use Rattle.edge_frames.proofs.HeadLemmas.{one_head, whole_head, length-head, number_parts, length_small}

pub length-trailer : (front : List ℕ) → length (trailer front) ≡ 7
unfolding trailer
length-trailer front = refl

-- head, body, trailer and what follows
pub frame_parts : (digits body rest : List ℕ) →
    framed digits body ++ rest ≡ head_with digits ++ (body ++ (trailer (head_with digits ++ body) ++ rest))
frame_parts digits body rest =
    let front : List ℕ = head_with digits ++ body in
    append_assoc front (trailer front) rest ∙ append_assoc (head_with digits) body (trailer front ++ rest)

pub drop-drop : (i j : ℕ) (xs : List ℕ) → i ≤ length xs → drop (i + j) xs ≡ drop j (drop i xs)
drop-drop i j xs within =
    let short : length (take i xs) ≡ i = length-take-le i xs within in
    ap (drop (i + j)) (sym (take-append-drop i xs)) ∙
    ap (λ k. drop (k + j) (take i xs ++ drop i xs)) (sym short) ∙ drop-append-add (take i xs) (drop i xs) j

-- bytes of a message have no head where they begin none
pub no_begin : (longest : ℕ) (bytes : List ℕ) → (StartsHead bytes → ⊥) × HasNoHead bytes → BeginsNothing longest bytes
no_begin longest bytes (none, odd) = record {
  shut = λ o. elim o [ inl b ↦ none b | inr more ↦ odd more.0 more.1 more.2.long.number more.2.headed ];
  none = λ digits body rest is e.
      odd digits (body ++ (trailer (head_with digits ++ body) ++ rest)) is.long.number
      (e ∙ frame_parts digits body rest);
}

-- as many bytes of a part as there are
pub front_part : (n m : ℕ) (xs ys : List ℕ) → m ≡ min n (length xs) → xs ≡ ys → take m xs ≡ take n ys
front_part n m xs ys e same = ap (λ k. take k xs) e ∙ take_min n xs ∙ ap (take n) same

module _ (longest : ℕ) (bytes : List ℕ) (at n : ℕ) (h : HasWholeHead bytes at n) where
  abbrev behind : List ℕ
  behind = drop at bytes

  -- the head is short
  pub head_short : at ≤ 22
  head_short = omega (arith, h.long, length-head h.digits, (number_parts 9 h.digits h.number).1)

  pub body_short : n < 10 ^ 9
  body_short = omega (arith, h.value, length_small h.digits h.number)

  pub shut_by : (BeginsBody longest bytes h.digits behind → ⊥) → MayBegin longest bytes → ⊥
  shut_by odd o = elim o [
    | inl b ↦ whole_head h.digits bytes behind h.number h.headed b
    | inr more ↦
        let one = one_head h.digits more.0 behind more.1 h.number more.2.long.number (sym h.headed ∙ more.2.headed) in
        odd (subst (λ (ds : List ℕ). BeginsBody longest bytes ds behind) (sym one.0)
        (subst (λ (part : List ℕ). BeginsBody longest bytes more.0 part) (sym one.1) more.2))
  ]

  none_by : ((body rest : List ℕ) → IsMessageBody longest h.digits body →
      behind ≡ body ++ (trailer (head_with h.digits ++ body) ++ rest) → ⊥) →
      (digits body rest : List ℕ) → IsMessageBody longest digits body → bytes ≢ framed digits body ++ rest
  none_by odd digits body rest is e =
      let one = one_head h.digits digits behind (body ++ (trailer (head_with digits ++ body) ++ rest)) h.number
      is.long.number (sym h.headed ∙ e ∙ frame_parts digits body rest) in
      odd body rest (subst (λ (ds : List ℕ). IsMessageBody longest ds body) (sym one.0) is)
      (one.1 ∙ ap (λ ds. body ++ (trailer (head_with ds ++ body) ++ rest)) (sym one.0))

  -- the body at the front of what is behind the head
  pub front_body : (body more : List ℕ) → IsMessageBody longest h.digits body → behind ≡ body ++ more →
      take n behind ≡ body
  front_body body more is e =
      let long : length body ≡ n = omega (arith, is.exact, h.value) in ap (take n) e ∙ take_at body more n long

  pub too_long : longest < at + n + 7 → BeginsNothing longest bytes
  too_long less = record {
    shut = shut_by (λ b. omega (arith, less, b.long.short, h.long, h.value));
    none = none_by (λ body rest is e. omega (arith, less, is.long.short, h.long, h.value));
  }

  pub bad_fields : are_fields (ended (take n behind)) ≡ false → BeginsNothing longest bytes
  bad_fields odd = record {
    shut = shut_by (λ b. both_ways (are_fields (ended (take n behind))) odd
        (ap (λ k. are_fields (ended (take k behind))) h.value ∙ b.fields));
    none = none_by (λ body rest is e. both_ways (are_fields (ended (take n behind))) odd
        (ap (λ k. are_fields (ended k)) (front_body body (trailer (head_with h.digits ++ body) ++ rest) is e) ∙
        is.fields));
  }

  pub opens : at + n + 7 ≤ longest → are_fields (ended (take n behind)) ≡ true → length bytes < at + n + 7 →
      MayBegin longest bytes
  opens fits fine less = inr (
    h.digits,
    behind,
    record {
      long = record { number = h.number; short = omega (arith, fits, h.long, h.value) };
      headed = h.headed;
      more = omega (arith, less, length-drop at bytes, h.value);
      fields = ap (λ k. are_fields (ended (take k behind))) (sym h.value) ∙ fine;
    },
  )

  module _ (long : at + n + 7 ≤ length bytes) where
    behind_long : n + 7 ≤ length behind
    behind_long = omega (arith, long, length-drop at bytes)

    pub all_there : BeginsBody longest bytes h.digits behind → ⊥
    all_there b = omega (arith, behind_long, b.more, h.value)

    pub not_closed : (EndsInSoh (take n behind) → ⊥) → BeginsNothing longest bytes
    not_closed odd = record {
      shut = shut_by all_there;
      none = none_by (λ body rest is e. odd (subst EndsInSoh
          (sym (front_body body (trailer (head_with h.digits ++ body) ++ rest) is e)) is.ends));
    }

    -- what stands before the trailer, and from the trailer on
    front_is : take (at + n) bytes ≡ head_with h.digits ++ take n behind
    front_is =
        take-add at n bytes ∙ ap (λ k. k ++ take n behind) (ap (take at) h.headed ∙
        take_at (head_with h.digits) behind at (sym h.long))

    tail_is : drop (at + n) bytes ≡ drop n behind
    tail_is = drop-drop at n bytes (omega (arith, long))

    pub not_summed : (take 7 (drop (at + n) bytes) ≡ trailer (take (at + n) bytes) → ⊥) → BeginsNothing longest bytes
    not_summed odd = record {
      shut = shut_by all_there;
      none = none_by (λ body rest is e.
          let more : List ℕ = trailer (head_with h.digits ++ body) ++ rest in
          let same = front_body body more is e in
          let size : length body ≡ n = omega (arith, is.exact, h.value) in
          let tail : drop (at + n) bytes ≡ more = tail_is ∙ ap (drop n) e ∙ drop_at body more n size in
          odd (ap (take 7) tail ∙ take_at (trailer (head_with h.digits ++ body)) rest 7
          (length-trailer (head_with h.digits ++ body)) ∙ ap (λ k. trailer (head_with h.digits ++ k)) (sym same) ∙
          ap trailer (sym front_is)));
    }

    pub part_is : slice_range bytes at (at + n) ≡ take n behind
    part_is = ap (λ k. take k behind) (let e : at + n - at ≡ n = omega arith in e)

    pub stands : at + n + 7 ≤ longest → are_fields (ended (take n behind)) ≡ true → EndsInSoh (take n behind) →
        take 7 (drop (at + n) bytes) ≡ trailer (take (at + n) bytes) → StandsThere longest bytes at n
    stands fits fine ends sum =
        let size : length (take n behind) ≡ n = length-take-le n behind (omega (arith, behind_long)) in
        let after : drop (at + n) bytes ≡ trailer (head_with h.digits ++ take n behind) ++ drop (at + n + 7) bytes =
        sym (take-append-drop 7 (drop (at + n) bytes)) ∙
        ap (λ k. k ++ drop 7 (drop (at + n) bytes)) (sum ∙ ap trailer front_is) ∙
        ap (λ k. trailer (head_with h.digits ++ take n behind) ++ k)
        (sym (drop-drop (at + n) 7 bytes (omega (arith, long)))) in
        let body_there : behind ≡ take n behind ++
        (trailer (head_with h.digits ++ take n behind) ++ drop (at + n + 7) bytes) =
        sym (take-append-drop n behind) ∙ ap (λ k. take n behind ++ k) (sym tail_is ∙ after) in
        let right : IsMessageBody longest h.digits (take n behind) = record {
          long = record { number = h.number; short = omega (arith, fits, h.long, h.value) };
          exact = sym (size ∙ h.value);
          ends = ends;
          fields = fine;
        } in
        let whole : bytes ≡ framed h.digits (take n behind) ++ drop (at + n + 7) bytes =
        h.headed ∙ ap (λ k. head_with h.digits ++ k) body_there ∙
        sym (frame_parts h.digits (take n behind) (drop (at + n + 7) bytes)) in
        record {
          digits = h.digits;
          right = subst (λ (k : List ℕ). IsMessageBody longest h.digits k) (sym part_is) right;
          whole = whole ∙ ap (λ k. framed h.digits k ++ drop (at + n + 7) bytes) (sym part_is);
          long = h.long;
          within = long;
          small = omega (arith, head_short, body_short);
        }
