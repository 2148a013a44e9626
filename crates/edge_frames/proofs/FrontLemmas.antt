-- What stands at a front: a message that comes out, or nothing.
use Rattle.std.proofs.Common.{◌≡◌, ◌≢◌, ℕ, zero, suc, ◌+◌, ◌-◌, ◌<◌, ◌≤◌, List, [], ◌∷◌, ◌++◌, length, take, drop}
use Rattle.std.proofs.Common.{refl, ap, sym, ◌∙◌, subst, inl, inr, arith, length-append, slice_range}
use Rattle.std.proofs.lemmas.List.{drop_at, take_at, take-append-drop, length-take-le, length-drop, drop-take}
use Rattle.std.proofs.lemmas.List.{take-take}
use Rattle.fix_frame.specs.Grammar.{trailer}
use Rattle.fix_frame.specs.Stages.{opening}
use Rattle.edge_frames.specs.Fields.{ended}
use Rattle.edge_frames.specs.Faults.{message_verdict}
use Rattle.edge_frames.specs.Messages.{head_with, length_of, framed, IsMessageBody, ComesOut}
use Rattle.edge_frames.specs.Stream.{IsPassed, ArePassed, MayBegin}
use Rattle.edge_frames.specs.Heads.{HasWholeHead, BeginsNothing, StandsThere}
use Rattle.edge_frames.specs.Looks.{ComesFirst, NoneComes}
use Rattle.edge_frames.specs.declared.front.Message.{Message}
use Rattle.edge_frames.specs.declared.verdict.Verdict.{Verdict}
use Rattle.edge_frames.specs.declared.verdict.Verdict.TheVariants.{Garbled}
use Rattle.edge_frames.proofs.HeadLemmas.{one_head, begins_short}
use Rattle.edge_frames.proofs.BeginLemmas.{frame_parts, length-trailer, shut_by, all_there, front_body, part_is}
use Rattle.edge_frames.proofs.BeginLemmas.{drop-drop}

-- where nothing begins, nothing comes out
pub nothing_passed : (longest most : ℕ) (bytes : List ℕ) → BeginsNothing longest bytes → IsPassed longest most bytes
nothing_passed longest most bytes b = record {
  shut = b.shut;
  none = λ c rest comes e. b.none comes.digits comes.body rest comes.right (e ∙ ap (λ k. k ++ rest) comes.spells);
}

module _ (longest : ℕ) (bytes : List ℕ) (at n : ℕ) (s : StandsThere longest bytes at n) where
  abbrev body : List ℕ
  body = slice_range bytes at (at + n)

  body_long : length body ≡ n
  body_long =
      let count : at + n - at ≡ n = omega arith in
      ap (λ k. length (take k (drop at bytes))) count ∙
      length-take-le n (drop at bytes) (omega (arith, s.within, length-drop at bytes))

  value_is : n ≡ length_of s.digits
  value_is = sym body_long ∙ sym s.right.exact

  abbrev rest : List ℕ
  rest = drop (at + n + 7) bytes

  headed : bytes ≡ head_with s.digits ++ (body ++ (trailer (head_with s.digits ++ body) ++ rest))
  headed = s.whole ∙ frame_parts s.digits body rest

  abbrev has_it : HasWholeHead bytes at n
  has_it = record {
    digits = s.digits;
    number = s.right.long.number;
    value = value_is;
    headed = headed ∙ ap (λ k. head_with s.digits ++ k) (sym (ap (drop at) headed ∙
        drop_at (head_with s.digits) (body ++ (trailer (head_with s.digits ++ body) ++ rest)) at (sym s.long)));
    long = s.long;
  }

  pub stands_shut : MayBegin longest bytes → ⊥
  stands_shut = shut_by longest bytes at n has_it (all_there longest bytes at n has_it s.within)

  -- its text, and what has this text as a message has this body
  pub text_is : take (at + n + 7) bytes ≡ framed s.digits body
  text_is =
      let long : length (framed s.digits body) ≡ at + n + 7 = omega (
        arith,
        length-append (head_with s.digits ++ body) (trailer (head_with s.digits ++ body)),
        length-append (head_with s.digits) body,
        length-trailer (head_with s.digits ++ body),
        body_long,
        s.long,
      ) in
      ap (take (at + n + 7)) s.whole ∙ take_at (framed s.digits body) rest (at + n + 7) long

  same_body : (digits other more : List ℕ) → IsMessageBody longest digits other → bytes ≡ framed digits other ++ more →
      other ≡ body
  same_body digits other more is e =
      let behind : List ℕ = drop at bytes in
      let one = one_head s.digits digits behind (other ++ (trailer (head_with digits ++ other) ++ more))
      s.right.long.number is.long.number (sym has_it.headed ∙ e ∙ frame_parts digits other more) in
      let same = front_body longest bytes at n has_it other (trailer (head_with digits ++ other) ++ more)
      (subst (λ (ds : List ℕ). IsMessageBody longest ds other) (sym one.0) is) one.1 in
      sym same ∙ sym (part_is longest bytes at n has_it s.within)

  pub garbled_passed : (most : ℕ) → Garbled ≡ message_verdict most (ended body) → IsPassed longest most bytes
  garbled_passed most garbled = record {
    shut = stands_shut;
    none = λ c more comes e.
        let same = same_body comes.digits comes.body more comes.right (e ∙ ap (λ k. k ++ more) comes.spells) in
        comes.whole (comes.judged ∙ ap (λ k. message_verdict most (ended k)) same ∙ sym garbled);
  }

  pub comes_out : (most : ℕ) (verdict : Verdict) → verdict ≡ message_verdict most (ended body) → verdict ≢ Garbled →
      ComesOut longest most (take (at + n + 7) bytes) verdict
  comes_out most verdict judged whole = record {
    digits = s.digits;
    body = body;
    right = s.right;
    spells = text_is;
    judged = judged;
    whole = whole;
  }

  -- the body in the text
  pub body_in_text : slice_range (take (at + n + 7) bytes) at (at + n) ≡ body
  body_in_text =
      let all : at + n + 7 ≡ at + (n + 7) = omega arith in
      let count : at + n - at ≡ n = omega arith in
      ap (λ k. take (at + n - at) (drop at (take k bytes))) all ∙
      ap (take (at + n - at)) (drop-take at (n + 7) bytes) ∙
      ap (λ k. take k (take (n + 7) (drop at bytes))) count ∙
      take-take n (n + 7) (drop at bytes) (omega arith) ∙ ap (λ k. take k (drop at bytes)) (sym count)

-- one byte more is passed over
pub passed_more : (longest most : ℕ) (bytes : List ℕ) (p : ℕ) → p < length bytes →
    ArePassed longest most (take p bytes) (drop p bytes) → IsPassed longest most (drop p bytes) →
    ArePassed longest most (take (p + 1) bytes) (drop (p + 1) bytes)
passed_more longest most [] p less all one = absurd (omega (arith, less))
passed_more longest most (b ∷ bytes) zero less all one = (one, tt)
passed_more longest most (b ∷ bytes) (suc p) less all one =
    let k : suc p + 1 ≡ suc (p + 1) = omega arith in
    let same : take p bytes ++ drop p bytes ≡ take (p + 1) bytes ++ drop (p + 1) bytes =
    take-append-drop p bytes ∙ sym (take-append-drop (p + 1) bytes) in
    rw k (
      subst (λ (l : List ℕ). IsPassed longest most (b ∷ l)) same all.0,
      passed_more longest most bytes p (omega (arith, less)) all.1 one,
    )

-- a message at the front of what is left comes first
pub comes_first : (longest most : ℕ) (bytes : List ℕ) (p : ℕ) (m : Message) → p ≤ length bytes →
    ArePassed longest most (take p bytes) (drop p bytes) →
    (m.size ≤ length (drop p bytes)) × ComesOut longest most (take m.size (drop p bytes)) m.verdict →
    ComesFirst longest most bytes p m
comes_first longest most bytes p m within passed (fits, comes) =
    let split : take m.size (drop p bytes) ++ drop (p + m.size) bytes ≡ drop p bytes =
    ap (λ k. take m.size (drop p bytes) ++ k) (drop-drop p m.size bytes within) ∙
    take-append-drop m.size (drop p bytes) in
    record {
      within = omega (arith, fits, length-drop p bytes, within);
      first = record {
        whole = sym (take-append-drop p bytes) ∙ ap (λ k. take p bytes ++ k) (sym split);
        passed = subst (λ (k : List ℕ). ArePassed longest most (take p bytes) k) (sym split) passed;
        comes = comes;
      };
    }

-- what may begin a message is shorter than one has at most
pub opens_short : (longest : ℕ) (bytes : List ℕ) → 22 ≤ longest → MayBegin longest bytes → length bytes < longest
opens_short longest bytes least o = elim o [
  | inl b ↦ elim b [
    | inl short ↦ omega (arith, least, short.0)
    | inr digits ↦ let few = begins_short digits.0 digits.2 in omega (
      arith,
      least,
      few,
      ap length digits.1,
      length-append opening digits.0,
    )
  ]
  | inr more ↦ let b = more.2 in omega (
    arith,
    ap length b.headed,
    length-append (head_with more.0) more.1,
    b.more,
    b.long.short,
  )
]

-- or none comes
pub none_comes : (longest most : ℕ) (bytes : List ℕ) (p : ℕ) → p ≤ length bytes →
    ArePassed longest most (take p bytes) (drop p bytes) → MayBegin longest (drop p bytes) →
    NoneComes longest most bytes p
none_comes longest most bytes p within passed opens = record {
  within = within;
  waits = record { whole = sym (take-append-drop p bytes); passed = passed; opens = opens };
  few = λ least. omega (arith, opens_short longest (drop p bytes) least opens, length-drop p bytes, within);
}
