-- The words of an output's text, and its body in the buffer.
use Rattle.std.proofs.Common.{◌≡◌, ℕ, zero, suc, ◌+◌, ◌*◌, ◌/◌, ◌<◌, ◌≤◌, List, [], ◌∷◌, ◌++◌, length, refl, sym, ap}
use Rattle.std.proofs.Common.{subst, ◌∙◌, arith, append_assoc}
use borrow.Rule.Slice.PartMut.{put_mid}
use Rattle.std.specs.Int.{div_ceil, to_be_bytes, from_be_bytes}
use native.Mathlib.Decide.{ℕ_discrete}
use mathlib.Core.Logic.{dite}
use mathlib.Core.Option.{some}
use mir.Syntax.{w64}
use lib.ListN.{get_elem?}
use Rattle.venue_model.specs.History.{Message}
use Rattle.venue_model.specs.Texts.{Text}
use Rattle.venue_model.specs.declared.outputs.Output.{Output}
use Rattle.venue_model.specs.ListLaws.{at_longer, at_behind}
use Rattle.ring_words.specs.declared.view.Load.{Load}
use Rattle.ring_words.specs.declared.view.Person.{Person}
use Rattle.ring_words.specs.Raw.{eight}
use Rattle.ring_words.specs.Texts.{eights, text_words}
use Rattle.ring_words.specs.Seats.{load_of, loading, looked}
use Rattle.ring_words.specs.At.{At, Steps, seated}
use Rattle.ring_words.specs.Steps.{Shows}
use Rattle.ring_words.specs.Finds.{IsTextWord}
use Rattle.barrier.specs.declared.taken.Head.{Head}
use Rattle.barrier.specs.Taking.{OnlyLoads, IsTextHead, Carries}
use Rattle.barrier.proofs.Buffers.{Agrees, begins, stays_long, agrees_more}
use Rattle.barrier.proofs.TextStores.{length-eights}

-- a load shows the same after more loads
shows_behind : (k q : ℕ) (p : Person) (ls : List Load) → Shows k p q → Shows k (loading p ls) q
shows_behind k q p ls shows = (
  shows.0,
  (shows.1.0, at_longer p.loads ls shows.0 shows.1.0 shows.1.1, shows.1.2, shows.1.3),
)

module _ {L : Type 0} (v u : At L) (only : OnlyLoads v u) where
  -- and then it only made loads again
  pub more_loads : (w : At L) → OnlyLoads u w → OnlyLoads v w
  more_loads w more = (
    only.0 ++ more.0,
    subst (λ (y : At L). w ≡ seated y (loading y.who more.0)) only.1 more.1
        ∙ ap (λ (l : List Load). seated v (record v.who { loads = l })) (append_assoc v.who.loads only.0 more.0),
  )

  -- and then it made one more
  pub one_load : (w : At L) (k x : ℕ) → w ≡ seated u (looked u.who k x) → OnlyLoads v w
  one_load w k x step = more_loads w (load_of k x ∷ [], step)

  -- what was shown is still shown
  pub still_shows : (k q : ℕ) → Shows k v.who q → Shows k u.who q
  still_shows k q shows = subst (λ (y : At L). Shows k y.who q) (sym only.1) (shows_behind k q v.who only.0 shows)

  -- and it may be read as before
  pub still_may : (k q : ℕ) → v.who.sequence ≤ q → Shows k v.who q → (u.who.sequence ≤ q) × Shows k u.who q
  still_may k q from shows = (subst (λ (y : At L). y.who.sequence ≤ q) (sym only.1) from, still_shows k q shows)

  -- the outputs that are known are as before
  pub still_at : (outputs : List Message → List Output) (o : Output) (q : ℕ) → get_elem? (outputs v.who.seen) q ≡ some o
      → get_elem? (outputs u.who.seen) q ≡ some o
  still_at outputs o q at = subst (λ (y : At L). get_elem? (outputs y.who.seen) q ≡ some o) (sym only.1) at

-- each of them is its eight bytes
eights_at : (bs : List ℕ) (n i : ℕ) → i < n → get_elem? (eights bs n) i ≡ some (from_be_bytes w64 (eight bs i))
eights_at bs zero i low = absurd (omega arith)
eights_at bs (suc n) i low = let long = length-eights bs n in dite (ℕ_discrete i n)
    (λ last. at_behind (eights bs n) (from_be_bytes w64 (eight bs n) ∷ []) 0 i _ (omega arith) refl
    ∙ (λ j. some (from_be_bytes w64 (eight bs (sym last j)))))
    (λ other. at_longer (eights bs n) (from_be_bytes w64 (eight bs n) ∷ []) i _ (eights_at bs n i (omega arith)))

-- word i of the body is text word i + 2
text_at : (t : Text) (i : ℕ) → i < (length t.body + 7) / 8
    → get_elem? (text_words t) (i + 2) ≡ some (from_be_bytes w64 (eight t.body i))
text_at t i low = let place : suc (suc i) ≡ i + 2 = omega arith in
    subst (λ (k : ℕ). get_elem? (text_words t) k ≡ some (from_be_bytes w64 (eight t.body i))) place
    (eights_at t.body ((length t.body + 7) / 8) i low)

-- the text of the output at q is read: of its body the buffer agrees with so many words
pub record Reads {L : Type 0} (outputs : List Message → List Output) (text : Output → ℕ → Text) (v u : At L) (q : ℕ)
    (head : Head) (buf : List ℕ) (k : ℕ) : Type 0 where
  pub only : OnlyLoads v u
  pub long : length buf ≡ 320
  pub most : head.len ≤ 320
  pub head_is : (o : Output) → get_elem? (outputs v.who.seen) q ≡ some o → IsTextHead head (text o q)
  pub same : (o : Output) → get_elem? (outputs v.who.seen) q ≡ some o → Agrees buf (text o q).body k

module _ {L : Type 0} {outputs : List Message → List Output} {text : Output → ℕ → Text} {v u : At L} {q : ℕ}
    {head : Head} {buf : List ℕ} {i last : ℕ} (so_far : Reads outputs text v u q head buf i)
    (ends : last ≡ div_ceil head.len 8) where
  -- a word more is loaded, and its bytes are put behind
  pub reads_more : {w : At L} {n x : ℕ} {ys zs : List ℕ} (p : ℕ) → i < last → Steps u (looked u.who p x) w
      → IsTextWord outputs text u.who q (i + 2) x → zs ≡ to_be_bytes w64 x → ys ≡ zs → n ≡ 8
      → Reads outputs text v w q head (put_mid (8 * i) n buf ys) (i + 1)
  reads_more {w = w} {n = n} {x = x} {ys = ys} {zs = zs} p low step word bytes are eight_long =
      let most = so_far.most in let inside : 8 * i + 8 ≤ 320 = omega arith in record {
        only = one_load v u so_far.only w p x step;
        long = stays_long buf ys zs i n x so_far.long inside bytes are eight_long;
        most = most;
        head_is = so_far.head_is;
        same = λ o at.
            let len = (so_far.head_is o at).len in
            let is = word _ o (still_at v u so_far.only outputs o q at) (text_at (text o q) i (omega arith)) in
            agrees_more buf ys zs i n x so_far.long inside bytes are eight_long (text o q).body (so_far.same o at)
            is.1.bytes is.0;
      }

  -- all are
  pub reads_all : last ≤ i → (o : Output) → get_elem? (outputs v.who.seen) q ≡ some o → Carries head buf (text o q)
  reads_all le o at = let is = so_far.head_is o at in let most = so_far.most in let long = so_far.long in record {
    head_is = is;
    most = most;
    body = begins buf (text o q).body head.len i is.len (omega arith) (omega arith) (so_far.same o at);
  }
