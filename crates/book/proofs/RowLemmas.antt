-- Numbers in bytes, and the pieces of a row.
use Rattle.std.proofs.Common.{◌≡◌, ℕ, zero, suc, ◌+◌, ◌<◌, List, [], ◌++◌, length, take, drop, get_or, refl, ap, sym}
use Rattle.std.proofs.Common.{◌∙◌, arith, length-append}
use Rattle.std.proofs.lemmas.List.{take_all, take_more, flat_map_more}
use Rattle.std.specs.List.{flat_map}
use Rattle.std.proofs.Math.Seq.{take-add}
use Rattle.std.specs.Int.{bytes_high_first}
use Rattle.book.specs.declared.snapshot.row.Row.{Row}
use Rattle.book.specs.Rows.{number_bytes, row_bytes}

length-high_first : (count n : ℕ) → length (bytes_high_first count n) ≡ count
length-high_first zero n = refl
length-high_first (suc count) n = let e = length-high_first count n in omega (arith, e)

pub length-number : (count n : ℕ) → length (number_bytes count n) ≡ count
unfolding number_bytes
length-number count n = length-high_first count n

pub length-row : (r : Row) → length (row_bytes r) ≡ 47
unfolding row_bytes
length-row r = simp (length-append, length-number)

-- so many bytes in front, and the next ones, are as many in front as both
more : (i n : ℕ) (xs : List ℕ) → take i xs ++ take n (drop i xs) ≡ take (i + n) xs
more i n xs = sym (take-add i n xs)

-- 47 bytes in ten pieces
pub ten_pieces : (xs : List ℕ) → length xs ≡ 47 →
    take 8 xs ++ take 1 (drop 8 xs) ++ take 8 (drop 9 xs) ++ take 1 (drop 17 xs) ++ take 1 (drop 18 xs)
    ++ take 4 (drop 19 xs) ++ take 4 (drop 23 xs) ++ take 4 (drop 27 xs) ++ take 8 (drop 31 xs) ++ take 8 (drop 39 xs)
    ≡ xs
ten_pieces xs long =
    rw (
      more 8 1 xs,
      more 9 8 xs,
      more 17 1 xs,
      more 18 1 xs,
      more 19 4 xs,
      more 23 4 xs,
      more 27 4 xs,
      more 31 8 xs,
      more 39 8 xs,
    )
    (take_all 47 xs (omega arith))

-- one element more, and what is written of it
pub one_further : {X : Type 0} (f : X → List ℕ) (xs : List X) (i : ℕ) (d : X) → i < length xs →
    flat_map f (take i xs) ++ f (get_or xs i d) ≡ flat_map f (take (i + 1) xs)
one_further f xs i d within =
    flat_map_more f [] (take i xs) (get_or xs i d) ∙ ap (flat_map f) (sym (take_more xs i d within))

-- the 82 bytes in front in four pieces
pub four_pieces : (xs : List ℕ) → length xs ≡ 82 →
    take 8 xs ++ take 8 (drop 8 xs) ++ take 64 (drop 16 xs) ++ take 2 (drop 80 xs) ≡ xs
four_pieces xs long = rw (more 8 8 xs, more 16 64 xs, more 80 2 xs) (take_all 82 xs (omega arith))
