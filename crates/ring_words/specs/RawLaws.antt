-- Laws on the bytes of a message's words, and on a buffer of 320 that they are written to.
use Rattle.std.proofs.Common.{◌≡◌, ℕ, zero, suc, ◌+◌, ◌-◌, ◌*◌, ◌/◌, ◌%◌, ◌<◌, ◌≤◌, List, ◌++◌, length, take, drop, get_or, refl, ap, sym, ◌∙◌, arith, mod-lt, length-append, length-drop}
use Rattle.std.specs.Int.{from_be_bytes, to_be_bytes}
use Rattle.std.proofs.lemmas.Nat.{be_bytes_8, div-add-mod'}
use Rattle.std.proofs.lemmas.List.{get_or-take, get_or_append_left, get_or-append_right, length-take-le}
use Rattle.std.proofs.lemmas.Slice.{take-put_mid}
use native.Mathlib.Decide.{dec_lt}
use borrow.Rule.Slice.PartMut.{put_mid, post_of}
use mir.Syntax.{w64}
use Rattle.ring_words.specs.Raw.{eight}

small_eight : (bs : List ℕ) (q : ℕ) → ((i : ℕ) → get_or bs i 0 < 256) → (j : ℕ) → get_or (eight bs q) j 0 < 256
small_eight bs q h zero = h (8 * q)
small_eight bs q h (suc zero) = h (8 * q + 1)
small_eight bs q h (suc (suc zero)) = h (8 * q + 2)
small_eight bs q h (suc (suc (suc zero))) = h (8 * q + 3)
small_eight bs q h (suc (suc (suc (suc zero)))) = h (8 * q + 4)
small_eight bs q h (suc (suc (suc (suc (suc zero))))) = h (8 * q + 5)
small_eight bs q h (suc (suc (suc (suc (suc (suc zero)))))) = h (8 * q + 6)
small_eight bs q h (suc (suc (suc (suc (suc (suc (suc zero))))))) = h (8 * q + 7)
small_eight bs q h (suc (suc (suc (suc (suc (suc (suc (suc j)))))))) = omega arith

-- a word that is made of eight bytes has those bytes
pub word_bytes : (bs : List ℕ) (q x : ℕ) → ((i : ℕ) → get_or bs i 0 < 256) → x ≡ from_be_bytes w64 (eight bs q) → to_be_bytes w64 x ≡ eight bs q
word_bytes bs q x small is = be_bytes_8 (eight bs q) x refl (small_eight bs q small) is

at_eight : (bs : List ℕ) (q j : ℕ) → j < 8 → get_or (eight bs q) j 0 ≡ get_or bs (8 * q + j) 0
at_eight bs q zero h = ap (λ (i : ℕ). get_or bs i 0) (let g : 8 * q ≡ 8 * q + 0 = omega arith in g)
at_eight bs q (suc zero) h = refl
at_eight bs q (suc (suc zero)) h = refl
at_eight bs q (suc (suc (suc zero))) h = refl
at_eight bs q (suc (suc (suc (suc zero)))) h = refl
at_eight bs q (suc (suc (suc (suc (suc zero))))) h = refl
at_eight bs q (suc (suc (suc (suc (suc (suc zero)))))) h = refl
at_eight bs q (suc (suc (suc (suc (suc (suc (suc zero))))))) h = refl
at_eight bs q (suc (suc (suc (suc (suc (suc (suc (suc j)))))))) h = absurd (omega arith)

-- byte i stands in the word of its eight
pub byte_at : (bs : List ℕ) (i : ℕ) → get_or (eight bs (i / 8)) (i % 8) 0 ≡ get_or bs i 0
byte_at bs i = at_eight bs (i / 8) (i % 8) (mod-lt i (let g : 0 < 8 = omega arith in g)) ∙ ap (λ (j : ℕ). get_or bs j 0) (let d = div-add-mod' i 8 in let q : ℕ = i / 8 in let r : ℕ = i % 8 in let d' : q * 8 + r ≡ i = d in let g : 8 * q + r ≡ i = omega arith in g)

-- a buffer that agrees with a text up to word i agrees one word further, once that word's bytes are put there
pub bytes_more : (buf ys bs : List ℕ) (i k : ℕ) → length buf ≡ 320 → 8 * i + 8 ≤ 320
    → ((j : ℕ) → j < 8 * i → get_or buf j 0 ≡ get_or bs j 0) → ys ≡ eight bs i
    → (j : ℕ) → j < 8 * (i + 1) → get_or (put_mid (8 * i) k buf ys) j 0 ≡ get_or bs j 0
bytes_more buf ys bs i k long fits before is j low =
    sym (get_or-take (8 * (i + 1)) (put_mid (8 * i) k buf ys) j 0 low) ∙ ap (λ (l : List ℕ). get_or l j 0) front ∙ by_place (dec_lt j (8 * i)) where
      eight_long : length ys ≡ 8
      eight_long = ap (λ (l : List ℕ). length l) is

      front : take (8 * (i + 1)) (put_mid (8 * i) k buf ys) ≡ take (8 * i) buf ++ ys
      front = let eight_is = eight_long in take-put_mid (8 * i) k buf ys (8 * (i + 1)) (omega arith) (omega arith)

      length_before : length (take (8 * i) buf) ≡ 8 * i
      length_before = length-take-le (8 * i) buf (omega arith)

      same_word : 8 * i ≤ j → eight bs i ≡ eight bs (j / 8)
      same_word from = ap (eight bs) (let g : i ≡ j / 8 = omega arith in g)

      same_place : 8 * i ≤ j → j - 8 * i ≡ j % 8
      same_place from = omega arith

      by_place : Dec (j < 8 * i) → get_or (take (8 * i) buf ++ ys) j 0 ≡ get_or bs j 0
      by_place (yes lt) = let before_is = length_before in get_or_append_left (take (8 * i) buf) ys 0 j (omega arith) ∙ get_or-take (8 * i) buf j 0 lt ∙ before j lt
      by_place (no ge) = let from : 8 * i ≤ j = omega arith in
          get_or-append_right (take (8 * i) buf) ys (8 * i) j 0 length_before from
          ∙ (λ h. get_or ((is ∙ same_word from) h) (same_place from h) 0) ∙ byte_at bs j

-- and has the length that it had
pub length_kept : (buf ys : List ℕ) (i k : ℕ) → length buf ≡ 320 → 8 * i + 8 ≤ 320 → length ys ≡ 8 → k ≡ 8 → length (put_mid (8 * i) k buf ys) ≡ 320
length_kept buf ys i k long fits eight_long k_is =
    let before : length (take (8 * i) buf) ≡ 8 * i = length-take-le (8 * i) buf (omega arith) in
    let behind : length (post_of (8 * i) k buf) ≡ length (drop (8 * i) buf) - k = length-drop k (drop (8 * i) buf) in
    let from : length (drop (8 * i) buf) ≡ length buf - 8 * i = length-drop (8 * i) buf in
    let both : length (ys ++ post_of (8 * i) k buf) ≡ length ys + length (post_of (8 * i) k buf) = length-append ys (post_of (8 * i) k buf) in
    let whole : length (put_mid (8 * i) k buf ys) ≡ length (take (8 * i) buf) + length (ys ++ post_of (8 * i) k buf) = length-append (take (8 * i) buf) (ys ++ post_of (8 * i) k buf) in
    omega arith
