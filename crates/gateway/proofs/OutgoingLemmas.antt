-- What is put behind the bytes that stand to be written.
use Rattle.std.proofs.Common.{◌≡◌, ℕ, ◌+◌, ◌≤◌, List, ◌++◌, length, take, ap, sym, ◌∙◌, arith, length-append}
use Rattle.std.proofs.lemmas.List.{length-take-le, take-append-le}
use Rattle.std.proofs.Math.Seq.{take-append-add}
use borrow.Rule.Slice.PartMut.{put_mid, post_of}

-- so many bytes stand; a buffer of all room behind them was written, and so many of its bytes stand too
module _ (standing room n : ℕ) (bytes out : List ℕ) (within : standing ≤ length bytes) (fits : n ≤ length out) where
  pub put_behind : take (standing + n) (put_mid standing room bytes out) ≡ take standing bytes ++ take n out
  put_behind =
      let front = take standing bytes in
      let behind = post_of standing room bytes in
      let long : length front + n ≡ standing + n = omega (arith, length-take-le standing bytes within) in
      ap (λ m. take m (front ++ (out ++ behind))) (sym long) ∙ (rw (take-append-add, take-append-le n out behind fits))

  pub few_behind : (stood : List ℕ) → take standing bytes ≡ stood → n ≤ 412
      → length (take (standing + n) (put_mid standing room bytes out)) ≤ length stood + 412
  few_behind stood stands few =
      omega (
        arith,
        ap length put_behind,
        ap length stands,
        length-append (take standing bytes) (take n out),
        length-take-le n out fits,
      )
