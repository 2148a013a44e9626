-- Where a stream isn't wrong: while it begins a head, behind one until the message is all there, and from a frame on.
use Rattle.std.proofs.Common.{◌≡◌, ℕ, ◌+◌, ◌-◌, ◌⊎◌, inl, inr, List, [], ◌++◌, length, take, drop, ap, sym, ◌∙◌, subst}
use Rattle.std.proofs.Common.{arith}
use Rattle.std.proofs.lemmas.List.{append_assoc, append-nil, length-append, take-append-drop, take-append-le}
use Rattle.std.proofs.Math.Seq.{take-append-add}
use Rattle.std.proofs.lemmas.Bool.{cases_lt}
use Rattle.fix_frame.specs.Grammar.{head}
use Rattle.fix_frame.specs.Stream.{IsLength, BeginsHead, TailFault, IsWrong, in_head, when_due}
use Rattle.fix_frame.specs.declared.fault.FrameFault.{FrameFault}
use Rattle.fix_frame.proofs.HeadLemmas.{one_head}

-- a head isn't followed by anything in what begins a head
pub head_alone : (n m : ℕ) (rest more : List ℕ) → IsLength n → IsLength m → (head n ++ rest) ++ more ≡ head m →
    length rest ≡ 0
head_alone n m rest more is is' e =
    let r = (one_head n m (rest ++ more) [] is is' (sym (append_assoc (head n) rest more) ∙ e ∙
    sym (append-nil (head m)))).1 in
    omega (arith, length-append rest more, ap length r)

-- what begins a head isn't wrong
pub beginning_right : (bytes : List ℕ) (fault : FrameFault) → BeginsHead bytes → IsWrong bytes fault → ⊥
beginning_right bytes fault b (in_head none _ _) = none b
beginning_right bytes fault (m, more, is', e) (when_due n body tail due _) =
    let none = head_alone n m (body ++ tail) more due.length_is is' (ap (λ k. k ++ more) (sym due.bytes_are) ∙ e) in
    absurd (omega (arith, none, length-append body tail, due.tail_long))

-- a message that is wrong behind its head is all there, and has the fault
pub record WrongBehind (n : ℕ) (rest : List ℕ) (fault : FrameFault) : Type 0 where
  pub body : List ℕ
  pub tail : List ℕ
  pub parts : rest ≡ body ++ tail
  pub body_long : length body ≡ n
  pub tail_long : length tail ≡ 7
  pub faulty : TailFault n body tail fault

pub wrong_behind : (bytes : List ℕ) (fault : FrameFault) (n : ℕ) (rest : List ℕ) → IsLength n →
    bytes ≡ head n ++ rest → IsWrong bytes fault → WrongBehind n rest fault
wrong_behind bytes fault n rest is e (in_head _ none _) = absurd (none (n, rest, is, e))
wrong_behind bytes fault n rest is e (when_due m body tail due faulty) =
    let r = one_head n m rest (body ++ tail) is due.length_is (sym e ∙ due.bytes_are) in
    record {
      body = body;
      tail = tail;
      parts = r.1;
      body_long = due.body_long ∙ sym r.0;
      tail_long = due.tail_long;
      faulty = subst (λ k. TailFault k body tail fault) (sym r.0) faulty;
    }

pub beginning_front : (k : ℕ) (bytes : List ℕ) → BeginsHead bytes → BeginsHead (take k bytes)
beginning_front k bytes (n, more, is, e) = (
  n,
  drop k bytes ++ more,
  is,
  sym (append_assoc (take k bytes) (drop k bytes) more) ∙
      ap (λ b. b ++ more) (take-append-drop k bytes) ∙ e,
)

-- a front of what has a head begins one, or has it too
pub front_cases : (k n : ℕ) (rest : List ℕ) → IsLength n →
    BeginsHead (take k (head n ++ rest)) ⊎ ((m : ℕ) × (k ≡ length (head n) + m) ×
    (take k (head n ++ rest) ≡ head n ++ take m rest))
front_cases k n rest is = elim (cases_lt k (length (head n))) [
  | inl short ↦ inl (subst BeginsHead (sym (take-append-le k (head n) rest (omega arith)))
      (beginning_front k (head n) (n, [], is, append-nil (head n))))
  | inr long ↦
      let m : k ≡ length (head n) + (k - length (head n)) = omega arith in
      inr (
        k - length (head n),
        m,
        ap (λ j. take j (head n ++ rest)) m ∙
            take-append-add (head n) rest (k - length (head n)),
      )
]

-- what a wrong front of a stream with a head is
pub wrong_front : (k n : ℕ) (rest : List ℕ) (fault : FrameFault) → IsLength n →
    IsWrong (take k (head n ++ rest)) fault → (m : ℕ) × (k ≡ length (head n) + m) × WrongBehind n (take m rest) fault
wrong_front k n rest fault is w = elim (front_cases k n rest is) [
  | inl begins ↦ absurd (beginning_right _ fault begins w)
  | inr f ↦ (f.0, f.1, wrong_behind _ fault n (take f.0 rest) is f.2 w)
]
