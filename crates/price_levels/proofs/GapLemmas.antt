-- What stands behind a gap, once one comes there or goes: either those ahead of it move or those behind it.
use Rattle.std.proofs.Common.{◌≡◌, ℕ, suc, ◌+◌, ◌-◌, ◌<◌, ◌≤◌, List, ◌∷◌, ◌++◌, length, get_or, take, drop, ap, sym}
use Rattle.std.proofs.Common.{◌∙◌, arith}
use Rattle.std.specs.Prelude.{slice_set}
use Rattle.std.specs.List.{insert, remove, copy_within}
use Rattle.std.proofs.lemmas.List.{drop-set-add, drop-drop, drop-take, drop-append-le, drop_at, length-take-le}
use Rattle.std.proofs.Math.Seq.{drop-cons, set-append_seam, length_paste_head}
use Rattle.std.proofs.lemmas.List.{length-drop}

module _ {X : Type 0} (xs : List X) (start : ℕ) where
  abbrev shown : List X
  shown = drop start xs

  pub comes-behind : (j : ℕ) (x : X) → start + j ≤ length xs → drop start (insert xs (start + j) x) ≡ insert shown j x
  comes-behind j x le =
      let long = length-take-le (start + j) xs le in
      drop-append-le start (take (start + j) xs) (x ∷ drop (start + j) xs) (omega (arith, long))
      ∙ ap (λ ys. ys ++ x ∷ drop (start + j) xs) (drop-take start j xs)
      ∙ ap (λ ys. take j shown ++ x ∷ ys) (sym (drop-drop j start xs))

  pub goes-behind : (j : ℕ) → start + j < length xs → drop start (remove xs (start + j))
      ≡ take j shown ++ drop (j + 1) shown
  goes-behind j lt =
      let long = length-take-le (start + j) xs (omega (arith, lt)) in
      let far : suc (start + j) ≡ start + (j + 1) = omega arith in
      drop-append-le start (take (start + j) xs) (drop (suc (start + j)) xs) (omega (arith, long))
      ∙ ap (λ ys. ys ++ drop (suc (start + j)) xs) (drop-take start j xs)
      ∙ ap (λ ys. take j shown ++ ys) (ap (λ n. drop n xs) far ∙ sym (drop-drop (j + 1) start xs))

  -- the first ones stand one place farther ahead
  pub moved : (t j : ℕ) → t ≤ start → start + j ≤ length xs
      → drop t (copy_within xs start (start + j) t) ≡ take j shown ++ drop (t + j) xs
  moved t j ahead le =
      let n = start + j - start in
      let few : n ≡ j = omega arith in
      let rest = length-drop start xs in
      let head = length_paste_head xs t shown n (omega (arith, ahead, le)) (omega (arith, le, rest, few)) in
      drop-append-le t (take t xs ++ take n shown) (drop (t + n) xs) (omega (arith, head))
      ∙ ap (λ ys. ys ++ drop (t + n) xs)
      (drop_at (take t xs) (take n shown) t (length-take-le t xs (omega (arith, ahead, le))))
      ∙ ap (λ m. take m shown ++ drop (t + m) xs) few

  pub comes-ahead : (j : ℕ) (x : X) → 0 < start → start + j ≤ length xs
      → drop (start - 1) (slice_set (copy_within xs start (start + j) (start - 1)) (start + j - 1) x)
      ≡ insert shown j x
  comes-ahead j x some le =
      let t = start - 1 in
      let place : start + j - 1 ≡ t + j = omega (arith, some) in
      let rest = length-drop start xs in
      let long = length-take-le j shown (omega (arith, le, rest)) in
      let free = get_or xs (t + j) x in
      let far : suc (t + j) ≡ start + j = omega (arith, some) in
      ap (λ n. drop t (slice_set (copy_within xs start (start + j) t) n x)) place
      ∙ drop-set-add t (copy_within xs start (start + j) t) j x
      ∙ ap (λ ys. slice_set ys j x) (moved t j (omega (arith, some)) le
      ∙ ap (λ ys. take j shown ++ ys) (drop-cons xs (t + j) x (omega (arith, some, le))))
      ∙ ap (λ n. slice_set (take j shown ++ free ∷ drop (suc (t + j)) xs) n x) (sym long)
      ∙ set-append_seam (take j shown) free (drop (suc (t + j)) xs) x
      ∙ ap (λ ys. take j shown ++ x ∷ ys) (ap (λ n. drop n xs) far ∙ sym (drop-drop j start xs))
