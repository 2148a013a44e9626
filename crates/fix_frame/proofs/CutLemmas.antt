-- Lists that are cut at the first of some byte.
use Rattle.std.proofs.Common.{◌≡◌, ◌≢◌, ℕ, ◌-◌, ◌≤◌, ◌<◌, List, [], ◌∷◌, ◌++◌, length, take, get_or, length-append, inl}
use Rattle.std.proofs.Common.{inr, refl, ap, arith, zero, suc, ◌+◌, drop, sym, ◌∙◌}
use Rattle.std.proofs.lemmas.Bool.{cases_lt}
use Rattle.std.proofs.lemmas.List.{take-append-drop, take-take, length-take, drop_more, get_or-append-add}
use Rattle.fix_frame.specs.Cuts.{Lacks, EndsInSoh, all_but_last}

-- the first mark cuts a list in one way
pub one_cut : (mark : ℕ) (xs us ys vs : List ℕ) → Lacks mark xs → Lacks mark us → xs ++ mark ∷ ys ≡ us ++ mark ∷ vs →
    (xs ≡ us) × (ys ≡ vs)
one_cut mark [] [] ys vs l m e = (refl, cc)
one_cut mark [] (u ∷ us) ys vs l m e = absurd (m.0 (cc))
one_cut mark (x ∷ xs) [] ys vs l m e = absurd (l.0 (cc))
one_cut mark (x ∷ xs) (u ∷ us) ys vs l m e =
    let r = one_cut mark xs us ys vs l.1 m.1 (cc) in
    (cc r.0, r.1)

-- what lacks the mark stands before the first
pub lacking_front : (mark : ℕ) (xs us more rest : List ℕ) → Lacks mark xs → xs ++ more ≡ us ++ mark ∷ rest →
    (length xs ≤ length us) × (xs ≡ take (length xs) us)
lacking_front mark [] us more rest l e = (omega arith, refl)
lacking_front mark (x ∷ xs) [] more rest l e = absurd (l.0 (cc))
lacking_front mark (x ∷ xs) (u ∷ us) more rest l e =
    let r = lacking_front mark xs us more rest l.1 (cc) in
    (omega (arith, r.0), cc r.1)

pub lacks_append : (mark : ℕ) (xs ys : List ℕ) → Lacks mark xs → Lacks mark ys → Lacks mark (xs ++ ys)
lacks_append mark [] ys l m = m
lacks_append mark (x ∷ xs) ys l m = (l.0, lacks_append mark xs ys l.1 m)

-- what stands before the first place of the mark lacks it
lacks_below : (mark : ℕ) (xs : List ℕ) (i : ℕ) → i ≤ length xs → ((k : ℕ) → k < i → get_or xs k 0 ≢ mark)
    → Lacks mark (take i xs)
lacks_below mark xs zero le h = tt
lacks_below mark [] (suc i) le h = absurd (omega arith)
lacks_below mark (x ∷ xs) (suc i) le h = (
  h 0 (omega arith),
  lacks_below mark xs i (omega arith) (λ k l. h (suc k) (omega arith)),
)

-- what stands before the mark that no byte before it is, and what behind
pub cut_at : (mark : ℕ) (xs : List ℕ) (i : ℕ) → i < length xs → get_or xs i 0 ≡ mark
    → ((k : ℕ) → k < i → get_or xs k 0 ≢ mark) →
    Lacks mark (take i xs) × (xs ≡ take i xs ++ mark ∷ drop (i + 1) xs)
cut_at mark xs i within here before = (
  lacks_below mark xs i (omega arith) before,
  sym (take-append-drop i xs) ∙
      ap (λ k. take i xs ++ k) (drop_more xs i 0 within ∙ ap (λ k. k ∷ drop (i + 1) xs) here),
)

-- SOH is at the end, so it comes behind any other byte
pub ends_later : (bytes : List ℕ) (at : ℕ) → EndsInSoh bytes → at < length bytes → get_or bytes at 0 ≢ 1
    → at + 1 < length bytes
ends_later bytes at ends within other = elim (cases_lt (at + 1) (length bytes)) [
  | inl more ↦ more
  | inr last ↦ absurd (other (ap (λ k. get_or bytes k 0) (let same : at ≡ length bytes - 1 = omega arith in same)
      ∙ ends))
]

pub ends_some : (bytes : List ℕ) → EndsInSoh bytes → 0 < length bytes
ends_some [] ends = absurd (omega (arith, ends))
ends_some (b ∷ bytes) ends = omega arith

-- the last byte is that of what stands behind
last_behind : (front : List ℕ) (b : ℕ) (behind : List ℕ) →
    get_or (front ++ b ∷ behind) (length (front ++ b ∷ behind) - 1) 0 ≡ get_or (b ∷ behind) (length behind) 0
last_behind front b behind =
    let at : length (front ++ b ∷ behind) - 1 ≡ length front + length behind =
    omega (arith, length-append front (b ∷ behind)) in
    ap (λ k. get_or (front ++ b ∷ behind) k 0) at ∙ get_or-append-add front (b ∷ behind) (length behind) 0

last_later : (b : ℕ) (behind : List ℕ) → 0 < length behind
    → get_or (b ∷ behind) (length behind) 0 ≡ get_or behind (length behind - 1) 0
last_later b behind some =
    let at : length behind ≡ suc (length behind - 1) = omega arith in ap (λ k. get_or (b ∷ behind) k 0) at

-- so SOH ends what stands behind another byte
pub ends_behind : (front : List ℕ) (b : ℕ) (behind : List ℕ) → b ≢ 1 → EndsInSoh (front ++ b ∷ behind)
    → EndsInSoh behind
ends_behind front b [] other ends = absurd (other (sym (last_behind front b []) ∙ ends))
ends_behind front b (c ∷ behind) other ends =
    sym (last_behind front b (c ∷ behind) ∙ last_later b (c ∷ behind) (omega arith)) ∙ ends

-- and what stands behind any, if something does
pub ends_after : (front : List ℕ) (b : ℕ) (rest : List ℕ) → EndsInSoh (front ++ b ∷ rest) → 0 < length rest
    → EndsInSoh rest
ends_after front b rest ends some = sym (last_behind front b rest ∙ last_later b rest some) ∙ ends

pub ends_push : (front : List ℕ) → EndsInSoh (front ++ 1 ∷ [])
ends_push front = last_behind front 1 []

-- a front that SOH ends stays such before what is nothing or ends so
pub ends_before : (front rest : List ℕ) → (0 < length rest → EndsInSoh rest) → EndsInSoh (front ++ 1 ∷ rest)
ends_before front [] ends = ends_push front
ends_before front (b ∷ rest) ends =
    last_behind front 1 (b ∷ rest) ∙ last_later 1 (b ∷ rest) (omega arith) ∙ ends (omega arith)

-- of some bytes and the next one all but the last are those before it
pub all_but_last-take : (bytes : List ℕ) (at : ℕ) → at < length bytes
    → all_but_last (take (at + 1) bytes) ≡ take at bytes
all_but_last-take bytes at within =
    let place : length (take (at + 1) bytes) - 1 ≡ at = omega (arith, length-take (at + 1) bytes) in
    ap (λ k. take k (take (at + 1) bytes)) place ∙ take-take at (at + 1) bytes (omega arith)
