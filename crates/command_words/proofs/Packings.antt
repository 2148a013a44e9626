-- A symbol comes back out of its word.
use Rattle.std.proofs.Common.{rules, ◌≡◌, ℕ, zero, suc, ◌-◌, ◌<◌, ◌≤◌, List, [], ◌∷◌, ◌++◌, Option, None, Some, IsTrue}
use Rattle.std.proofs.Common.{length, get_or, take, drop, replicate, not, nat_eq, refl, ap, ◌∙◌, arith, length-append}
use Rattle.std.specs.Prelude.{MatchOption}
use Rattle.std.specs.Int.{to_be_bytes}
use Rattle.std.specs.List.{list_all, prefix_len}
use Rattle.std.proofs.Math.Seq.{take-append_seam}
use Rattle.std.proofs.lemmas.List.{drop-replicate, length-replicate}
use Rattle.std.proofs.lemmas.Nat.{be_bytes_8}
use Rattle.std.proofs.lemmas.Bool.Decides.{nat_tests}
use Rattle.std.proofs.lemmas.Grind.{common_steps}
use mir.Syntax.{w64}
use Rattle.venue_model.specs.Spelling.{IsSpelling, is_symbol_byte, padded}
use Rattle.command_words.specs.Packing.{symbol_word}

-- a byte of a symbol
symbol_byte : (b : ℕ) → IsTrue (is_symbol_byte b) → (0 < b) × (b < 256)
symbol_byte b is = (grind (arith, nat_tests), grind (arith, nat_tests))

-- the bytes of a word
small_zeros : (k i : ℕ) → get_or (replicate k 0) i 0 < 256
small_zeros k i = grind (arith, common_steps)

small_padded : (name : List ℕ) (k i : ℕ) → IsTrue (list_all is_symbol_byte name)
    → get_or (name ++ replicate k 0) i 0 < 256
small_padded [] k i each = small_zeros k i
small_padded (b ∷ name) k zero each = (symbol_byte b (search rules)).1
small_padded (b ∷ name) k (suc i) each = small_padded name k i (search rules)

-- how many bytes stand before the first zero
abbrev pub filled : List ℕ → ℕ
filled bytes = prefix_len (λ b. not (nat_eq b 0)) bytes

name_ends : (name : List ℕ) (k : ℕ) → IsTrue (list_all is_symbol_byte name)
    → filled (name ++ replicate k 0) ≡ length name
name_ends [] zero each = refl
name_ends [] (suc k) each = refl
name_ends (b ∷ name) k each =
    let here = (symbol_byte b (search rules)).0 in
    let rest = name_ends name k (search rules) in
    grind (arith, nat_tests)

-- eight bytes of zero, with the name in front
pub padded_is : (name : List ℕ) → name ++ drop (length name) (replicate 8 0) ≡ padded name
padded_is name = ap (λ rest. name ++ rest) (drop-replicate (length name) 8 0)

long_padded : (name : List ℕ) → length name ≤ 8 → length (padded name) ≡ 8
long_padded name most = length-append name (replicate (8 - length name) 0)
    ∙ omega (arith, length-replicate {A = ℕ} (8 - length name) 0)

-- the name stands before the first zero
name_back : (name bytes : List ℕ) → IsSpelling name → bytes ≡ padded name → take (filled bytes) bytes ≡ name
name_back name bytes spelling is =
    let ends : filled bytes ≡ length name = ap filled is ∙ name_ends name (8 - length name) spelling.each in
    rw (ends, is) (take-append_seam name (replicate (8 - length name) 0))

-- the word has the name's bytes
bytes_back : (word : ℕ) (name : List ℕ) → IsSpelling name → word ≡ symbol_word name → to_be_bytes w64 word ≡ padded name
unfolding symbol_word
bytes_back word name spelling is =
    be_bytes_8 (padded name) word (long_padded name spelling.most)
    (λ i. small_padded name (8 - length name) i spelling.each) is

made : (r : Option (List ℕ)) (name : List ℕ) → IsSpelling name
    → MatchOption r (IsSpelling name → ⊥) (λ s. (s ≡ name) × IsSpelling name) → r ≡ Some name
made None name spelling none = absurd (none spelling)
made (Some s) name spelling is = ap Some is.0

-- the symbol that is made of these bytes
pub symbol_back : (word : ℕ) (name bytes : List ℕ) (n : ℕ) (r : Option (List ℕ)) → IsSpelling name
    → word ≡ symbol_word name
    → bytes ≡ to_be_bytes w64 word → n ≡ filled bytes
    → MatchOption r (IsSpelling (take n bytes) → ⊥) (λ s. (s ≡ take n bytes) × IsSpelling (take n bytes))
    → r ≡ Some name
symbol_back word name bytes n r spelling is be count new =
    let shown : take n bytes ≡ name =
    rw count (name_back name bytes spelling (be ∙ bytes_back word name spelling is)) in
    made r name spelling (rw shown at new)
