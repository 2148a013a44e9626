use Rattle.std.proofs.Common.{◌≡◌, ℕ, ◌%◌, ◌<◌, List, [], ◌∷◌, length, get_or, ap, arith, rules}
use Rattle.book.specs.Rows.{number_bytes}
use Rattle.book.proofs.snapshot.numbers.one.Goals as goal

only : (xs : List ℕ) → length xs ≡ 1 → get_or xs 0 0 < 256 → (get_or xs 0 0 % 256) ∷ [] ≡ xs
only [] long small = absurd (omega arith)
only (x ∷ []) long small = ap (λ n. n ∷ []) (omega arith)
only (x ∷ y ∷ xs) long small = absurd (omega arith)

pub returns : goal.returns
unfolding number_bytes
returns c = only c.args.bytes.now c.requires (search rules)
