-- What a read of a wire in memory puts into the buffer is what the wire has given since.
use Rattle.std.proofs.Common.{◌≡◌, ℕ, ◌+◌, ◌-◌, ◌≤◌, List, ◌++◌, length, take, drop, sym, ap, ◌∙◌, arith, length-drop}
use Rattle.std.proofs.lemmas.List.{length-take-le, take-append-le, take-take}
use Rattle.std.proofs.Math.Seq.{take-add, take-length}

-- what stands behind a place is all that is sliced from there on
pub rest_is : (xs : List ℕ) (i : ℕ) → take (length xs - i) (drop i xs) ≡ drop i xs
rest_is xs i = ap (λ n. take n (drop i xs)) (sym (length-drop i xs)) ∙ take-length (drop i xs)

-- a front of a list stands in front of whatever follows it
pub take-front : (n : ℕ) (xs behind : List ℕ) → n ≤ length xs → take n (take n xs ++ behind) ≡ take n xs
take-front n xs behind within =
    let long = length-take-le n xs within in
    take-append-le n (take n xs) behind (omega (arith, long)) ∙ take-take n n xs (omega arith)

-- a list's first bytes, and a buffer whose front has the next ones
pub given_more : (input : List ℕ) (given count : ℕ) (behind : List ℕ) → count ≤ length (drop given input)
    → take (given + count) input ≡ take given input ++ take count (take count (drop given input) ++ behind)
given_more input given count behind within =
    take-add given count input
    ∙ ap (λ r. take given input ++ r) (sym (take-front count (drop given input) behind within))
