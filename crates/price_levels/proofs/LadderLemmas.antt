-- Where levels belong: those of a ladder stand before those of the next.
use Rattle.std.proofs.Common.{◌≡◌, ℕ, zero, suc, ◌+◌, ◌-◌, ◌<◌, ◌≤◌, ◌⊎◌, inl, inr, true, false, List, [], ◌∷◌, ◌++◌}
use Rattle.std.proofs.Common.{length, get_or, take, drop, refl, ap, sym, subst, ◌∙◌, arith, add-one, take_all}
use Rattle.std.specs.Prelude.{slice_set}
use Rattle.std.specs.List.{AllByRecursion}
use Rattle.std.proofs.lemmas.List.{get_or-take, get_or-drop, length-take, get_or-set_same, get_or-set_other}
use Rattle.std.proofs.lemmas.List.{get_or_default}
use Rattle.std.proofs.Math.Decide.{ℕ_discrete}
use Rattle.venue_model.specs.declared.orders.Side.{Side}
use Rattle.venue_model.specs.declared.orders.Side.TheVariants.{Buy, Sell}
use Rattle.price_levels.specs.declared.keys.Key.{Key}
use Rattle.price_levels.specs.declared.keys.Level.{Level}
use Rattle.price_levels.specs.declared.ladders.Fence.{Fence}
use Rattle.price_levels.specs.Keys.{key_before, before_side, symbol_before, InOrder}
use Rattle.price_levels.specs.Arena.{of_side}
use Rattle.price_levels.specs.Ladders.{joined, is_before, BelongsToHome, AreParted}
use Rattle.price_levels.proofs.KeyLemmas.{Before, before-is, before-means, key-apart, symbol-trans}
use Rattle.price_levels.proofs.KeyLemmas.{symbol-cases}
use Rattle.price_levels.proofs.LevelLists.{all-map, all-append, order-back, order-front}
use Rattle.price_levels.proofs.SearchLemmas.{BeforeSide, side-means, side-is-before, order-at, all-take}
use Rattle.price_levels.proofs.Groups.{of-means, of-is, of-not-before, behind-not-before, beyond, false-if, not-both}
use Rattle.price_levels.proofs.Bests.{not-round}
use Rattle.price_levels.proofs.LadderLists.{cut, all-joined, take-at, drop-at}

-- a side that isn't before a fence: behind it, or its own
either-side : (d e : Side) → (d ≡ Buy → e ≡ Sell → ⊥) → e ≡ Sell → d ≡ Sell
either-side Sell e not sell = refl
either-side Buy e not sell = absurd (not refl sell)

-- what is before a fence stands before what isn't
apart-by : (s : List ℕ) (d : Side) (a b : Key) → BeforeSide s d a → (BeforeSide s d b → ⊥) → Before a b
apart-by s d a b (inl earlier) not = elim (symbol-cases b.symbol s) [
  | inl b_earlier ↦ absurd (not (inl b_earlier))
  | inr (inl same) ↦ inl (ap (λ t. symbol_before a.symbol t) same ∙ earlier)
  | inr (inr later) ↦ inl (symbol-trans a.symbol s b.symbol earlier later)
]
apart-by s d a b (inr (same, (buy, sell))) not = elim (symbol-cases b.symbol s) [
  | inl b_earlier ↦ absurd (not (inl b_earlier))
  | inr (inl also) ↦ inr (
    same ∙ sym also,
    inl (buy, either-side b.side d (λ b_buy is_sell. not (inr (also, (b_buy, is_sell)))) sell),
  )
  | inr (inr later) ↦ inl (ap (λ t. symbol_before t b.symbol) same ∙ later)
]

pub apart : (f : Fence) (a b : Key) → is_before f a.symbol a.side ≡ true → is_before f b.symbol b.side ≡ false
    → key_before a b ≡ true
apart f a b there not = before-is a b (apart-by f.symbol f.side a b (side-means f.symbol f.side a there) (λ h. not-both
    (before_side f.symbol f.side b) (side-is-before f.symbol f.side b h) not))

pub between : (fences : List Fence) (i j : ℕ) (a b : Key) → BelongsToHome fences i a.symbol a.side
    → BelongsToHome fences j b.symbol b.side → i < j →
    key_before a b ≡ true
between [] i zero a b at_i at_j lt = absurd (omega (arith, lt))
between [] i (suc j) a b at_i at_j lt = absurd at_j
between (f ∷ fences) i zero a b at_i at_j lt = absurd (omega (arith, lt))
between (f ∷ fences) zero (suc j) a b at_i at_j lt = apart f a b at_i at_j.0
between (f ∷ fences) (suc i) (suc j) a b at_i at_j lt = between fences i j a b at_i.1 at_j.1 (omega (arith, lt))

-- there is such a ladder
pub belongs-within : (fences : List Fence) (i : ℕ) (symbol : List ℕ) (side : Side) → BelongsToHome fences i symbol side
    → i ≤ length fences
belongs-within [] zero symbol side at_i = omega arith
belongs-within [] (suc i) symbol side at_i = absurd at_i
belongs-within (f ∷ fences) zero symbol side at_i = omega arith
belongs-within (f ∷ fences) (suc i) symbol side at_i = let le = belongs-within fences i symbol side at_i.1 in
    omega (arith, le)

-- the search for it ends there
pub belongs-here : (fences : List Fence) (i : ℕ) (symbol : List ℕ) (side : Side) (f g : Fence)
    → AllByRecursion (λ f. is_before f symbol side ≡ false)
    (take i fences) → i < length fences →
    before_side (get_or fences i f).symbol (get_or fences i g).side (record { symbol = symbol; side = side; price = 0 })
    ≡ true →
    BelongsToHome fences i symbol side
belongs-here [] i symbol side f g before within here = absurd (omega (arith, within))
belongs-here (x ∷ fences) zero symbol side f g before within here = here
belongs-here (x ∷ fences) (suc i) symbol side f g before within here = (
  before.0,
  belongs-here fences i symbol side f g before.1 (omega
      (arith, within)) here,
)

pub belongs-last : (fences : List Fence) (i : ℕ) (symbol : List ℕ) (side : Side)
    → AllByRecursion (λ f. is_before f symbol side ≡ false)
    (take i fences) → i ≡ length fences → BelongsToHome fences i symbol side
belongs-last [] zero symbol side before is = tt
belongs-last [] (suc i) symbol side before is = absurd (omega (arith, is))
belongs-last (g ∷ fences) zero symbol side before is = absurd (omega (arith, is))
belongs-last (g ∷ fences) (suc i) symbol side before is =
    (before.0, belongs-last fences i symbol side before.1 (omega (arith, is)))

suc-more : (P : Fence → Type 0) (fences : List Fence) (i : ℕ) (f : Fence) → AllByRecursion P (take i fences)
    → i < length fences →
    f ≡ get_or fences i f → P f → AllByRecursion P (take (suc i) fences)
suc-more P [] i f all within is here = absurd (omega (arith, within))
suc-more P (g ∷ fences) zero f all within is here = (subst P is here, tt)
suc-more P (g ∷ fences) (suc i) f all within is here = (
  all.0,
  suc-more P fences i f all.1 (omega (arith, within)) is here,
)

pub one-more : (P : Fence → Type 0) (fences : List Fence) (i : ℕ) (f : Fence) → AllByRecursion P (take i fences)
    → i < length fences →
    f ≡ get_or fences i f → P f → AllByRecursion P (take (i + 1) fences)
one-more P fences i f all within is here = subst (λ n. AllByRecursion P (take n fences)) (sym (add-one i))
    (suc-more P fences i f all within is here)

-- another ladder, whose levels belong there
pub parted-set : (fences : List Fence) (ladders : List (List Level)) (i : ℕ) (g : List Level) → AreParted fences ladders
    → i < length ladders →
    AllByRecursion (λ (m : Level). BelongsToHome fences i m.key.symbol m.key.side) g
    → AreParted fences (slice_set ladders i g)
parted-set fences ladders i g parted within all j = elim (ℕ_discrete j i) [
  | yes same ↦ subst (λ n. AllByRecursion (λ (m : Level). BelongsToHome fences n m.key.symbol m.key.side)
      (get_or (slice_set ladders i g) n [])) (sym same)
      (subst (AllByRecursion (λ (m : Level). BelongsToHome fences i m.key.symbol m.key.side))
      (sym (get_or-set_same ladders i g [] within)) all)
  | no other ↦ subst (AllByRecursion (λ (m : Level). BelongsToHome fences j m.key.symbol m.key.side))
      (sym (get_or-set_other ladders i j g [] other))
      (parted j)
]

-- a ladder among the others
module _ (fences : List Fence) (ladders : List (List Level)) (parted : AreParted fences ladders) (i : ℕ) (k : Key)
    (belongs : BelongsToHome fences i k.symbol k.side) where
  of-each : (P : Level → Type 0) (n : ℕ) → ((m : Level) → BelongsToHome fences n m.key.symbol m.key.side → P m)
      → AllByRecursion P (get_or ladders n [])
  of-each P n holds = all-map (λ (m : Level). BelongsToHome fences n m.key.symbol m.key.side) P holds
      (get_or ladders n []) (parted n)

  all-ahead : (P : Level → Type 0)
      → ((n : ℕ) → n < i → (m : Level) → BelongsToHome fences n m.key.symbol m.key.side → P m) →
      AllByRecursion P (joined (take i ladders))
  all-ahead P holds = all-joined P (take i ladders) (λ n lt.
      let long = length-take i ladders in
      let near : n < i = omega (arith, lt, long) in
      subst (AllByRecursion P) (sym (get_or-take i ladders n [] near)) (of-each P n (holds n near)))

  all-beyond : (P : Level → Type 0)
      → ((n : ℕ) → i < n → (m : Level) → BelongsToHome fences n m.key.symbol m.key.side → P m) →
      AllByRecursion P (joined (drop (suc i) ladders))
  all-beyond P holds = all-joined P (drop (suc i) ladders) (λ n lt.
      subst (AllByRecursion P) (sym (get_or-drop (suc i) ladders n []))
      (of-each P (suc i + n) (holds (suc i + n) (omega arith))))

  pub ahead-before : AllByRecursion (λ (m : Level). key_before m.key k ≡ true) (joined (take i ladders))
  ahead-before = all-ahead (λ m. key_before m.key k ≡ true) (λ n lt m at_n. between fences n i m.key k at_n belongs lt)

  pub beyond-behind : AllByRecursion (λ (m : Level). key_before k m.key ≡ true) (joined (drop (suc i) ladders))
  beyond-behind = all-beyond (λ m. key_before k m.key ≡ true)
      (λ n lt m at_n. between fences i n k m.key belongs at_n lt)

  -- a level of theirs stands in no other ladder
  nowhere : (n : ℕ) (m : Level) → (n < i) ⊎ (i < n) → BelongsToHome fences n m.key.symbol m.key.side
      → of_side k.symbol k.side m.key ≡ false
  nowhere n m other at_n = false-if (of_side k.symbol k.side m.key) (λ of.
      let is = of-means k.symbol k.side m.key of in
      let at_i : BelongsToHome fences i m.key.symbol m.key.side =
      subst (λ s. BelongsToHome fences i s m.key.side) (sym is.0) (subst (λ d. BelongsToHome fences i k.symbol d)
      (sym is.1) belongs) in
      elim other [
        | inl lt ↦ key-apart m.key m.key (between fences n i m.key m.key at_n at_i lt) refl
        | inr gt ↦ key-apart m.key m.key (between fences i n m.key m.key at_i at_n gt) refl
      ])

  pub ahead-alone : AllByRecursion (λ (m : Level). of_side k.symbol k.side m.key ≡ false) (joined (take i ladders))
  ahead-alone = all-ahead (λ m. of_side k.symbol k.side m.key ≡ false) (λ n lt m at_n. nowhere n m (inl lt) at_n)

  pub beyond-alone : AllByRecursion (λ (m : Level). of_side k.symbol k.side m.key ≡ false)
      (joined (drop (suc i) ladders))
  beyond-alone = all-beyond (λ m. of_side k.symbol k.side m.key ≡ false) (λ n gt m at_n. nowhere n m (inr gt) at_n)

-- what a search in one ladder has found, among all
module _ (fences : List Fence) (ladders : List (List Level)) (parted : AreParted fences ladders) (i j : ℕ) (k : Key)
    (belongs : BelongsToHome fences i k.symbol k.side) (within : i < length ladders)
    (le : j ≤ length (get_or ladders i [])) where
  abbrev ladder : List Level
  ladder = get_or ladders i []

  ahead : (P : Level → Type 0) → AllByRecursion P (joined (take i ladders)) → AllByRecursion P (take j ladder) →
      AllByRecursion P (take (length (joined (take i ladders)) + j) (joined ladders))
  ahead P first here = subst (AllByRecursion P)
      (sym (ap (take (length (joined (take i ladders)) + j)) (cut ladders i within)
      ∙ take-at (joined (take i ladders)) ladder (joined (drop (suc i) ladders)) j le))
      (all-append P (joined (take i ladders)) (take j ladder) first here)

  behind : (P : Level → Type 0) → AllByRecursion P (drop j ladder) → AllByRecursion P (joined (drop (suc i) ladders)) →
      AllByRecursion P (drop (length (joined (take i ladders)) + j) (joined ladders))
  behind P here rest = subst (AllByRecursion P)
      (sym (ap (drop (length (joined (take i ladders)) + j)) (cut ladders i within)
      ∙ drop-at (joined (take i ladders)) ladder (joined (drop (suc i) ladders)) j le))
      (all-append P (drop j ladder) (joined (drop (suc i) ladders)) here rest)

  pub search-before : AllByRecursion (λ (m : Level). key_before m.key k ≡ true) (take j ladder) →
      AllByRecursion (λ (m : Level). key_before m.key k ≡ true)
      (take (length (joined (take i ladders)) + j) (joined ladders))
  search-before here = ahead (λ m. key_before m.key k ≡ true) (ahead-before fences ladders parted i k belongs) here

  pub search-behind : AllByRecursion (λ (m : Level). key_before m.key k ≡ false) (drop j ladder) →
      AllByRecursion (λ (m : Level). key_before m.key k ≡ false)
      (drop (length (joined (take i ladders)) + j) (joined ladders))
  search-behind here = behind (λ m. key_before m.key k ≡ false) here
      (all-map (λ (m : Level). key_before k m.key ≡ true) (λ m. key_before m.key k ≡ false)
      (λ m after. false-if (key_before m.key k) (λ before. not-round k m.key after before))
      (joined (drop (suc i) ladders))
      (beyond-behind fences ladders parted i k belongs))

  side-before : (m : Key) → Before m k → of_side k.symbol k.side m ≡ false → before_side k.symbol k.side m ≡ true
  side-before m (inl earlier) other = side-is-before k.symbol k.side m (inl earlier)
  side-before m (inr (same, inl (buy, sell))) other = side-is-before k.symbol k.side m (inr (same, (buy, sell)))
  side-before m (inr (same, inr (sides, better))) other =
      absurd (not-both (of_side k.symbol k.side m) (of-is k.symbol k.side m same sides) other)

  side-behind : (m : Key) → key_before k m ≡ true → before_side k.symbol k.side m ≡ true → ⊥
  side-behind m after h = elim (side-means k.symbol k.side m h) [
    | inl earlier ↦ not-round k m after (before-is m k (inl earlier))
    | inr (same, (buy, sell)) ↦ not-round k m after (before-is m k (inr (same, inl (buy, sell))))
  ]

  both-of : (P Q : Level → Type 0) (ls : List Level) → AllByRecursion P ls → AllByRecursion Q ls
      → AllByRecursion (λ m. P m × Q m) ls
  both-of P Q [] all also = tt
  both-of P Q (l ∷ ls) all also = ((all.0, also.0), both-of P Q ls all.1 also.1)

  pub side-search-before : AllByRecursion (λ (m : Level). before_side k.symbol k.side m.key ≡ true) (take j ladder) →
      AllByRecursion (λ (m : Level). before_side k.symbol k.side m.key ≡ true)
      (take (length (joined (take i ladders)) + j) (joined ladders))
  side-search-before here = ahead (λ m. before_side k.symbol k.side m.key ≡ true)
      (all-map (λ (m : Level). (key_before m.key k ≡ true) × (of_side k.symbol k.side m.key ≡ false))
      (λ m. before_side k.symbol k.side m.key ≡ true)
      (λ m h. side-before m.key (before-means m.key k h.0) h.1) (joined (take i ladders))
      (both-of (λ m. key_before m.key k ≡ true) (λ m. of_side k.symbol k.side m.key ≡ false) (joined (take i ladders))
      (ahead-before fences ladders parted i k belongs) (ahead-alone fences ladders parted i k belongs))) here

  pub side-search-behind : AllByRecursion (λ (m : Level). before_side k.symbol k.side m.key ≡ false) (drop j ladder) →
      AllByRecursion (λ (m : Level). before_side k.symbol k.side m.key ≡ false)
      (drop (length (joined (take i ladders)) + j) (joined ladders))
  side-search-behind here = behind (λ m. before_side k.symbol k.side m.key ≡ false) here
      (all-map (λ (m : Level). key_before k m.key ≡ true) (λ m. before_side k.symbol k.side m.key ≡ false)
      (λ m after. false-if (before_side k.symbol k.side m.key) (side-behind m.key after))
      (joined (drop (suc i) ladders))
      (beyond-behind fences ladders parted i k belongs))

-- the levels of one ladder are in order
pub ladder-order : (ladders : List (List Level)) (i : ℕ) → i < length ladders → InOrder (joined ladders)
    → InOrder (get_or ladders i [])
ladder-order ladders i within order =
    order-front (get_or ladders i []) (joined (drop (suc i) ladders))
    (order-back (joined (take i ladders)) (get_or ladders i [] ++ joined
    (drop (suc i) ladders)) (subst InOrder (cut ladders i within) order))

-- a ladder that begins with a level of a symbol and side has none before them
pub starts : (symbol : List ℕ) (side : Side) (levels : List Level) (l : Level) → InOrder levels
    → l ≡ get_or levels 0 l →
    of_side symbol side l.key ≡ true → AllByRecursion (λ (m : Level). before_side symbol side m.key ≡ false) levels
starts symbol side [] l order is of = tt
starts symbol side (x ∷ levels) l order is of =
    let its : of_side symbol side x.key ≡ true = subst (λ (m : Level). of_side symbol side m.key ≡ true) is of in (
      false-if (before_side symbol side x.key) (of-not-before symbol side x.key its),
      all-map (λ (m : Level). key_before x.key m.key ≡ true) (λ (m : Level). before_side symbol side m.key ≡ false)
          (λ m before. false-if (before_side symbol side m.key) (behind-not-before symbol side x.key m.key its before))
          levels order.0,
    )

-- where the first and the last level are of a symbol and side, all are
module _ (symbol : List ℕ) (side : Side) (levels : List Level) (order : InOrder levels) (n : ℕ)
    (last : length levels ≡ suc n) where
  amid : (a b c : Key) → of_side symbol side a ≡ true → key_before a b ≡ true → key_before b c ≡ true
      → of_side symbol side c ≡ true →
      of_side symbol side b ≡ true
  amid a b c of_a first second of_c = elim (of_side symbol side b) as (λ t. of_side symbol side b ≡ t → t ≡ true) [
    | true ↦ λ h. refl
    | false ↦ λ h. absurd (not-both (of_side symbol side c) of_c
        (beyond symbol side b c second (false-if (before_side symbol side b)
        (behind-not-before symbol side a b of_a first)) h))
  ] refl

  pub all-amid : (d e : Level) → of_side symbol side (get_or levels 0 d).key ≡ true
      → of_side symbol side (get_or levels n e).key ≡ true →
      AllByRecursion (λ (l : Level). of_side symbol side l.key ≡ true) levels
  all-amid d e of_first of_last =
      let P : Level → Type 0 = λ l. of_side symbol side l.key ≡ true in
      subst (AllByRecursion P) (take_all (length levels) levels (omega arith))
      (all-take P levels (length levels) (omega arith) (λ i f lt.
      let same : (j : ℕ) → j < length levels → (g : Level)
      → get_or levels j f ≡ get_or levels j g = λ j within g. get_or_default levels j f g within in
      let first : P (get_or levels 0 f) = subst P (sym (same 0 (omega (arith, last)) d)) of_first in
      let final : P (get_or levels n f) = subst P (sym (same n (omega (arith, last)) e)) of_last in
      elim (ℕ_discrete i 0) [
        | yes zero_is ↦ subst (λ j. P (get_or levels j f)) (sym zero_is) first
        | no later ↦ elim (ℕ_discrete i n) [
          | yes n_is ↦ subst (λ j. P (get_or levels j f)) (sym n_is) final
          | no earlier ↦ amid (get_or levels 0 f).key (get_or levels i f).key (get_or levels n f).key first
              (order-at levels 0 i f order (omega (arith, later)) lt)
              (order-at levels i n f order (omega (arith, earlier, lt, last)) (omega (arith, last))) final
        ]
      ]))

pub all-of-ends : (symbol : List ℕ) (side : Side) (levels : List Level) → InOrder levels → (d e : Level) →
    of_side symbol side (get_or levels 0 d).key ≡ true → of_side symbol side (get_or levels (length levels - 1) e).key
    ≡ true →
    AllByRecursion (λ (l : Level). of_side symbol side l.key ≡ true) levels
all-of-ends symbol side [] order d e first last = tt
all-of-ends symbol side (l ∷ levels) order d e first last =
    let n : length (l ∷ levels) - 1 ≡ length levels = omega arith in
    all-amid symbol side (l ∷ levels) order (length levels) refl d e first
    (subst (λ i. of_side symbol side (get_or (l ∷ levels) i e).key ≡ true) n last)

-- what holds of all holds of each
pub at-all : {X : Type 0} (P : X → Type 0) (xs : List X) → AllByRecursion P xs → (i : ℕ) (d : X) → i < length xs
    → P (get_or xs i d)
at-all P [] all i d within = absurd (omega arith)
at-all P (x ∷ xs) all zero d within = all.0
at-all P (x ∷ xs) all (suc i) d within = at-all P xs all.1 i d (omega arith)
