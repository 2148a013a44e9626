-- One word of a row becomes another: which words of rows stay.
use Rattle.std.proofs.Common.{◌≡◌, ◌≢◌, ℕ, ◌%◌, ◌<◌, List, get_or, set, sym}
use Rattle.ring_words.specs.Places.{in_row, out_row}
use Rattle.ring_words.proofs.Windows.{same_row}
use Rattle.ring_words.proofs.Puts.{word_else}
use Rattle.ring_words.proofs.Outgoings.{no_output, row_before}
use Rattle.ring_words.proofs.OutputRows.{same_out_row}

-- of the input ring the other words of the row, and the other rows
pub row_else : (ws : List ℕ) (n s t i j x : ℕ) → i < 64 → j < 64 → (s % n ≡ t % n → i ≢ j)
    → get_or (set ws (in_row n t j) x) (in_row n s i) 0 ≡ get_or ws (in_row n s i) 0
row_else ws n s t i j x low low_j differs = word_else ws (in_row n t j) (in_row n s i) x
    (λ e. let both = same_row n s t i j low low_j e in differs both.0 both.1)

-- and all output rows
pub output_apart : (ws : List ℕ) (n m s j q i x : ℕ) → 0 < n → j < 64
    → get_or (set ws (in_row n s j) x) (out_row n m q i) 0 ≡ get_or ws (out_row n m q i) 0
output_apart ws n m s j q i x some_row low =
    word_else ws (in_row n s j) (out_row n m q i) x (no_output n m q i (in_row n s j) (row_before n s j some_row low))

-- of the output ring the other words of the row, and the other rows
pub output_else : (ws : List ℕ) (n m p q i j x : ℕ) → i < 128 → j < 128 → (p % m ≡ q % m → i ≢ j)
    → get_or (set ws (out_row n m q j) x) (out_row n m p i) 0 ≡ get_or ws (out_row n m p i) 0
output_else ws n m p q i j x low low_j differs = word_else ws (out_row n m q j) (out_row n m p i) x
    (λ e. let both = same_out_row n m p q i j low low_j e in differs both.0 both.1)

-- and all input rows
pub row_apart : (ws : List ℕ) (n m q j s i x : ℕ) → 0 < n → i < 64
    → get_or (set ws (out_row n m q j) x) (in_row n s i) 0 ≡ get_or ws (in_row n s i) 0
row_apart ws n m q j s i x some_row low =
    word_else ws (out_row n m q j) (in_row n s i) x
    (λ e. no_output n m q j (in_row n s i) (row_before n s i some_row low) (sym e))
