-- A buffer of 320 bytes that a text's words are written to, one behind the other: a message's, or an output's.
use Rattle.std.proofs.Common.{◌≡◌, ℕ, ◌+◌, ◌*◌, ◌<◌, ◌≤◌, List, length, take, get_or, subst, ap, ◌∙◌, arith}
use Rattle.std.proofs.lemmas.List.{ext_get_or, get_or-take, length-take-le}
use Rattle.std.specs.Int.{from_be_bytes, to_be_bytes}
use borrow.Rule.Slice.PartMut.{put_mid}
use mir.Syntax.{w64}
use Rattle.ring_words.specs.Raw.{eight}
use Rattle.ring_words.specs.RawLaws.{word_bytes, bytes_more, length_kept}

-- the buffer has the text's bytes up to so many words
abbrev pub Agrees : List ℕ → List ℕ → ℕ → Type 0
Agrees buf bs words = (j : ℕ) → j < 8 * words → get_or buf j 0 ≡ get_or bs j 0

-- it begins with the text, once it agrees with that as far as the text goes
pub begins : (buf bs : List ℕ) (n i : ℕ) → n ≡ length bs → n ≤ length buf → n ≤ 8 * i → Agrees buf bs i
    → take n buf ≡ bs
begins buf bs n i len inside covers same = ext_get_or 0 (take n buf) bs (taken ∙ len) (λ j lt.
    let below : j < n = subst (λ (k : ℕ). j < k) taken lt in
    get_or-take n buf j 0 below ∙ same j (omega arith)) where
      taken : length (take n buf) ≡ n
      taken = length-take-le n buf inside

module _ (buf ys zs : List ℕ) (i n x : ℕ) (long : length buf ≡ 320) (inside : 8 * i + 8 ≤ 320)
    (bytes : zs ≡ to_be_bytes w64 x) (are : ys ≡ zs) (eight_long : n ≡ 8) where
  -- behind the bytes of a word more it is as long as before
  pub stays_long : length (put_mid (8 * i) n buf ys) ≡ 320
  stays_long = length_kept buf ys i n long inside (ap (λ (l : List ℕ). length l) (are ∙ bytes)) eight_long

  -- and agrees with a text, where the word is the text's next one
  pub agrees_more : (bs : List ℕ) → Agrees buf bs i → ((j : ℕ) → get_or bs j 0 < 256)
      → x ≡ from_be_bytes w64 (eight bs i) → Agrees (put_mid (8 * i) n buf ys) bs (i + 1)
  agrees_more bs same small is =
      bytes_more buf ys bs i n long inside same (are ∙ bytes ∙ word_bytes bs i x small is)
