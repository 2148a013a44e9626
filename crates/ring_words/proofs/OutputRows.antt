-- The rows of the output ring: where their words lie, and how many words a text takes.
use Rattle.std.proofs.Common.{◌≡◌, ℕ, zero, suc, ◌+◌, ◌*◌, ◌/◌, ◌%◌, ◌<◌, ◌≤◌, List, [], ◌∷◌, length, length-append}
use Rattle.std.proofs.Common.{refl, arith, mod-lt}
use Rattle.std.specs.Int.{from_be_bytes}
use mir.Syntax.{w64}
use Rattle.venue_model.specs.Texts.{Text}
use Rattle.ring_words.specs.Places.{out_row, table_words}
use Rattle.ring_words.specs.Raw.{eight}
use Rattle.ring_words.specs.Texts.{eights, text_words, IsPackableText}

-- two places of output rows are one only where row and word are
pub same_out_row : (n m p q i k : ℕ) → i < 128 → k < 128 → out_row n m p i ≡ out_row n m q k → (p % m ≡ q % m) × (i ≡ k)
same_out_row n m p q i k a b e = let x : ℕ = p % m in
    let y : ℕ = q % m in
    let e' : 128 + 64 * n + 128 * x + i ≡ 128 + 64 * n + 128 * y + k = e in
    ((let g : x ≡ y = omega arith in g), (let g : i ≡ k = omega arith in g))

-- a word of an output row lies in the table
pub out_row_inside : (n m q i : ℕ) → 0 < m → i < 128 → out_row n m q i < table_words n m
out_row_inside n m q i pos small = let x : ℕ = q % m in let lt : x < m = mod-lt q pos in omega arith

-- so many words are made of bytes as are asked for
long_eights : (bs : List ℕ) (n : ℕ) → length (eights bs n) ≡ n
long_eights bs zero = refl
long_eights bs (suc n) = let rest = long_eights bs n in
    let long = length-append (eights bs n) (from_be_bytes w64 (eight bs n) ∷ []) in
    omega arith

-- a text takes at most 42 words
pub short_text : (t : Text) → IsPackableText t → length (text_words t) ≤ 42
short_text t fits = let most = fits.most in
    let n : ℕ = (length t.body + 7) / 8 in
    let long : length (eights t.body n) ≡ n = long_eights t.body n in
    let few : n ≤ 40 = omega arith in
    omega arith
