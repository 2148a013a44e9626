-- What a wire tells grows piece by piece.
use Rattle.std.proofs.Common.{◌≡◌, ℕ, ◌-◌, List, [], ◌++◌, length, take, Option, Some, None, refl, ap, ◌∙◌, append_assoc, append-nil, length-append, arith}
use Rattle.std.proofs.Math.Seq.{take-append_seam}
use Rattle.wires.specs.Wires.{grown, before_last}

-- two pieces, one after the other, are one
pub grown-append : (t : Option (List ℕ)) (x y : List ℕ) → grown (grown t x) y ≡ grown t (x ++ y)
grown-append None x y = refl
grown-append (Some bytes) x y = ap Some (append_assoc bytes x y)

-- no bytes change nothing
pub grown-nil : (t : Option (List ℕ)) → grown t [] ≡ t
grown-nil None = refl
grown-nil (Some bytes) = ap Some (append-nil bytes)

-- before the last bytes stand those that were told before them
pub before_last-grown : (t : Option (List ℕ)) (last : List ℕ) → before_last (grown t last) last ≡ t
before_last-grown None last = refl
before_last-grown (Some bytes) last =
    let before : length (bytes ++ last) - length last ≡ length bytes = omega (arith, length-append bytes last) in
    ap Some (ap (λ n. take n (bytes ++ last)) before ∙ take-append_seam bytes last)
