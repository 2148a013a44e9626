-- The words of a text, stored one after another.
use Rattle.std.proofs.Common.{◌≡◌, ℕ, zero, suc, ◌+◌, ◌<◌, ◌≤◌, ◌/◌, ◌%◌, List, [], ◌∷◌, ◌++◌, length, take, refl, ap}
use Rattle.std.proofs.Common.{sym, subst, inr, ◌∙◌, arith, length-append, add-one}
use Rattle.std.proofs.Math.Seq.{take-length}
use Rattle.std.specs.Int.{from_be_bytes}
use mir.Syntax.{w64}
use Rattle.venue_model.specs.Texts.{Text}
use Rattle.ring_words.specs.declared.view.Person.{Person}
use Rattle.ring_words.specs.Raw.{eight}
use Rattle.ring_words.specs.Texts.{eights, text_head, text_words}
use Rattle.ring_words.specs.Places.{published}
use Rattle.ring_words.specs.Seats.{stored, wrote}
use Rattle.ring_words.specs.At.{At, seated}
use Rattle.ring_words.specs.Steps.{GoesOnRow, Shows}

-- head, time, and the first k words of the body
abbrev pub first_words : Text → ℕ → List ℕ
first_words t k = text_head t ∷ t.sending_time ∷ eights t.body k

-- k words are k
pub length-eights : (bs : List ℕ) (k : ℕ) → length (eights bs k) ≡ k
length-eights bs zero = refl
length-eights bs (suc k) = let before = length-eights bs k in simp length-append (omega arith)

-- behind head, time and the first k words of the body comes word k + 2
goes_on : (p : Person) (q : ℕ) (t : Text) (k : ℕ) → GoesOnRow (wrote p q (first_words t k)).row q (k + 2)
goes_on p q t k = let long = length-eights t.body k in inr (refl, omega arith)

-- a store of word k of the body behind the words before it
store_after : (p : Person) (q : ℕ) (t : Text) (k x : ℕ) → x ≡ from_be_bytes w64 (eight t.body k)
    → stored (wrote p q (first_words t k)) q (k + 2) x ≡ wrote p q (first_words t (suc k))
store_after p q t k x is =
    let ws = first_words t k in
    let long : length ws ≡ k + 2 = let body = length-eights t.body k in omega arith in
    let kept : take (k + 2) ws ≡ ws = subst (λ (n : ℕ). take n ws ≡ ws) long (take-length ws) in
    ap (wrote p q) (ap (λ (l : List ℕ). l ++ x ∷ []) kept ∙ ap (λ (y : ℕ). ws ++ y ∷ []) is)

-- head, time and the first k words of the body are stored, and their row is under way
pub record Stored {L : Type 0} (v u : At L) (q : ℕ) (t : Text) (k : ℕ) : Type 0 where
  pub view : u ≡ seated v (wrote v.who q (first_words t k))

-- so it is behind the first two stores
pub store_first : {L : Type 0} {v u w : At L} {q : ℕ} {t : Text} {x y : ℕ} → u ≡ seated v (stored v.who q 0 x)
    → x ≡ text_head t → w ≡ seated u (stored u.who q 1 y) → y ≡ t.sending_time → Stored v w q t 0
store_first {v = v} {q = q} {t = t} {y = y} head head_is time time_is = record {
  view = rw head at time ∙ ap (λ (ws : List ℕ). seated v (wrote v.who q ws))
      (ap (λ (a : ℕ). a ∷ y ∷ []) head_is ∙ ap (λ (a : ℕ). text_head t ∷ a ∷ []) time_is);
}

module _ {L : Type 0} {v u : At L} {q : ℕ} {t : Text} {k : ℕ} (so_far : Stored v u q t k) where
  -- word k of the body may be stored next
  pub may_store : v.who.sequence ≤ q → Shows published v.who q
      → (u.who.sequence ≤ q) × Shows published u.who q × GoesOnRow u.who.row q (k + 2) × (q ≡ u.who.row.sequence)
  may_store from to = rw so_far.view (from, to, goes_on v.who q t k, refl)

  -- and then it is
  pub store_next : {w : At L} {x : ℕ} → x ≡ from_be_bytes w64 (eight t.body k)
      → w ≡ seated u (stored u.who q (k + 2) x) → Stored v w q t (k + 1)
  store_next {x = x} word step = record {
    view = rw so_far.view at step ∙ ap (seated v)
        (store_after v.who q t k x word ∙ ap (λ (n : ℕ). wrote v.who q (first_words t n)) (sym (add-one k)));
  }

  -- where the body is whole words all are stored
  pub store_whole : k ≡ length t.body / 8 → length t.body % 8 ≡ 0 → u ≡ seated v (wrote v.who q (text_words t))
  store_whole whole none =
      let long : ℕ = length t.body in let all : k ≡ (long + 7) / 8 = omega arith in
      so_far.view ∙ ap (λ (n : ℕ). seated v (wrote v.who q (first_words t n))) all

  -- else behind one more, of the bytes that are left
  pub store_rest : {w : At L} {x : ℕ} → k ≡ length t.body / 8 → 0 < length t.body % 8
      → x ≡ from_be_bytes w64 (eight t.body (length t.body / 8))
      → w ≡ seated u (stored u.who q (length t.body / 8 + 2) x) → w ≡ seated v (wrote v.who q (text_words t))
  store_rest {w = w} {x = x} whole some word step =
      let long : ℕ = length t.body in let all : k + 1 ≡ (long + 7) / 8 = omega arith in
      (store_next {w = w} {x = x} (rw whole word) (rw whole step)).view
      ∙ ap (λ (n : ℕ). seated v (wrote v.who q (first_words t n))) all
