-- A function of numbers changed at one place, and words read before and after one of them is written.
use Rattle.std.proofs.Common.{◌≡◌, ◌≢◌, ℕ, ◌<◌, List, cond, eqb, length, get_or, set, refl, ap, sym, subst, eq-eqb}
use Rattle.std.proofs.Common.{ne_eqb, get_or-set_other, get_or-set_same}
use mathlib.Core.Logic.{dite}
use native.Mathlib.Decide.{ℕ_discrete}

module _ {A : Type 0} where
  abbrev pub put : (ℕ → A) → ℕ → A → ℕ → A
  put f i a j = cond (eqb j i) a (f j)

  pub put_here : (f : ℕ → A) (i : ℕ) (a : A) → put f i a i ≡ a
  put_here f i a = ap (λ b. cond b a (f i)) (eq-eqb i i refl)

  pub put_else : (f : ℕ → A) (i j : ℕ) (a : A) → j ≢ i → put f i a j ≡ f j
  put_else f i j a ne = ap (λ b. cond b a (f j)) (ne_eqb j i ne)

  -- what holds of the new value at i and of the old ones elsewhere holds everywhere
  pub by_put : (f : ℕ → A) (i j : ℕ) (a : A) (F : A → Type 0) → (j ≡ i → F a) → (j ≢ i → F (f j)) → F (put f i a j)
  by_put f i j a F here else = dite (ℕ_discrete j i)
      (λ e. subst F (sym (ap (λ b. cond b a (f j)) (eq-eqb j i e))) (here e))
      (λ ne. subst F (sym (put_else f i j a ne)) (else ne))

-- words read after the word i became x
pub word_here : (ws : List ℕ) (i x : ℕ) → i < length ws → get_or (set ws i x) i 0 ≡ x
word_here ws i x h = get_or-set_same ws i x 0 h

pub word_else : (ws : List ℕ) (i j x : ℕ) → j ≢ i → get_or (set ws i x) j 0 ≡ get_or ws j 0
word_else ws i j x ne = get_or-set_other ws i j x 0 ne
