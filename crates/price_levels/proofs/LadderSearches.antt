-- What a search in the ladder of a key has found among all levels.
use Rattle.std.proofs.Common.{◌≡◌, ℕ, ◌<◌, ◌≤◌, true, false, List, [], length, get_or, take, drop, ap, sym, subst, ◌∙◌}
use Rattle.std.proofs.Common.{arith}
use Rattle.std.specs.List.{AllByRecursion}
use Rattle.std.proofs.lemmas.List.{length-map}
use Rattle.venue_model.specs.declared.orders.Side.{Side}
use Rattle.price_levels.specs.declared.keys.Key.{Key}
use Rattle.price_levels.specs.declared.keys.Level.{Level}
use Rattle.price_levels.specs.declared.ladders.Fence.{Fence}
use Rattle.price_levels.specs.declared.ladders.Home.{Home}
use Rattle.price_levels.specs.Keys.{key_before, before_side, InOrder}
use Rattle.price_levels.specs.Ladders.{Laddered, all, rung_number, items_of, IsRung, IsHome, BelongsToHome, AreParted}
use Rattle.price_levels.specs.Ladders.{Levelled, IsHomeOf, AreLadders}
use Rattle.price_levels.proofs.SearchLemmas.{all-at}
use Rattle.price_levels.proofs.LadderLemmas.{belongs-within, beyond-alone, ladder-order, search-before, search-behind}
use Rattle.price_levels.proofs.LadderLemmas.{side-search-before, side-search-behind}
use Rattle.price_levels.proofs.LadderCalls.{shown, one-ladder, around-is}

-- the home of a symbol, as it was read
pub home-known : (fences : List Fence) (homes read : List Home) (i : ℕ) (home : Home) → read ≡ homes → i < length read
    → home ≡ get_or read i home →
    AllByRecursion (IsHomeOf fences) homes → IsHomeOf fences home
home-known fences homes read i home same within is known = subst (IsHomeOf fences) (sym is)
    (all-at (IsHomeOf fences) read i home within (subst (AllByRecursion (IsHomeOf fences)) (sym same) known))

pub at-home : (own fences : List Fence) (i : ℕ) (s symbol : List ℕ) (d side : Side) → own ≡ fences → s ≡ symbol
    → d ≡ side → BelongsToHome own i s d →
    BelongsToHome fences i symbol side
at-home own fences i s symbol d side same symbols sides belongs =
    subst (λ e. BelongsToHome fences i symbol e) sides (subst (λ t. BelongsToHome fences i t d)
    symbols (subst (λ fs. BelongsToHome fs i s d) same belongs))

-- the ladder of a key
pub record KeyLadder (l : Laddered) (fences : List Fence) (homes : List Home) (ladders : List Levelled) (room : ℕ)
    (k : Key) (i : ℕ) : Type 0 where
  pub are : AreLadders fences homes ladders room
  pub view_is : shown fences ladders room ≡ l
  pub belongs : BelongsToHome l.fences i k.symbol k.side

pub key-ladder : {l : Laddered} {fences : List Fence} {homes : List Home} {ladders : List Levelled} {room : ℕ}
    (k : Key) (i : ℕ) → AreLadders fences homes ladders room → shown fences ladders room ≡ l
    → BelongsToHome l.fences i k.symbol k.side → KeyLadder l fences homes ladders room k i
key-ladder k i are view_is belongs = record { are = are; view_is = view_is; belongs = belongs }

module _ {l : Laddered} {fences : List Fence} {homes : List Home} {ladders : List Levelled} {room : ℕ} {k : Key}
    {i : ℕ} (it : KeyLadder l fences homes ladders room k i) where
  its-fences : l.fences ≡ fences
  its-fences = sym (ap (λ (m : Laddered). m.fences) it.view_is)

  its-ladders : l.ladders ≡ items_of ladders
  its-ladders = sym (ap (λ (m : Laddered). m.ladders) it.view_is)

  pub there : i < length ladders
  there =
      let no_more = belongs-within l.fences i k.symbol k.side it.belongs in
      let long = ap (length {A = Fence}) its-fences in
      omega (arith, no_more, long, it.are.count)

  there-seen : i < length l.ladders
  there-seen =
      let long = ap (length {A = List Level}) its-ladders ∙ length-map ladders (λ (v : Levelled). v.items) in
      let own = there in
      omega (arith, own, long)

  parted : AreParted l.fences l.ladders
  parted = subst (λ gs. AreParted l.fences gs) (sym its-ladders)
      (subst (λ fs. AreParted fs (items_of ladders)) (sym its-fences) it.are.parted)

  -- in its ladder, as its levels were read, the search has come to a place
  module _ {one : Levelled} {levels : List Level} (here : one ≡ get_or ladders i one) (read : levels ≡ one.items) where
    its-levels : get_or l.ladders i [] ≡ levels
    its-levels = around-is (one-ladder ladders (record { ladder = i; at = 0 }) it.view_is there-seen here) ∙ sym read

    pub its-order : InOrder (all l) → InOrder levels
    its-order order = subst InOrder its-levels (ladder-order l.ladders i there-seen order)

    module _ (j : ℕ) (le : j ≤ length levels) where
      le-seen : j ≤ length (get_or l.ladders i [])
      le-seen = subst (λ (ls : List Level). j ≤ length ls) (sym its-levels) le

      pub is-rung : IsRung l (record { ladder = i; at = j })
      is-rung = record { ladder = there-seen; within = le-seen }

      pub is-home : IsHome l (record { ladder = i; at = j }) k.symbol k.side
      is-home = record { belongs = it.belongs; alone = beyond-alone l.fences l.ladders parted i k it.belongs }

      pub key-before : AllByRecursion (λ (m : Level). key_before m.key k ≡ true) (take j levels) →
          AllByRecursion (λ (m : Level). key_before m.key k ≡ true)
          (take (rung_number l (record { ladder = i; at = j })) (all l))
      key-before all = search-before l.fences l.ladders parted i j k it.belongs there-seen le-seen
          (subst (λ (ls : List Level). AllByRecursion (λ (m : Level). key_before m.key k ≡ true) (take j ls))
          (sym its-levels) all)

      pub key-behind : AllByRecursion (λ (m : Level). key_before m.key k ≡ false) (drop j levels) →
          AllByRecursion (λ (m : Level). key_before m.key k ≡ false)
          (drop (rung_number l (record { ladder = i; at = j })) (all l))
      key-behind all = search-behind l.fences l.ladders parted i j k it.belongs there-seen le-seen
          (subst (λ (ls : List Level). AllByRecursion (λ (m : Level). key_before m.key k ≡ false) (drop j ls))
          (sym its-levels) all)

      pub side-before : AllByRecursion (λ (m : Level). before_side k.symbol k.side m.key ≡ true) (take j levels) →
          AllByRecursion (λ (m : Level). before_side k.symbol k.side m.key ≡ true)
          (take (rung_number l (record { ladder = i; at = j })) (all l))
      side-before all = side-search-before l.fences l.ladders parted i j k it.belongs there-seen le-seen
          (subst (λ (ls : List Level). AllByRecursion (λ (m : Level). before_side k.symbol k.side m.key ≡ true)
          (take j ls)) (sym its-levels) all)

      pub side-behind : AllByRecursion (λ (m : Level). before_side k.symbol k.side m.key ≡ false) (drop j levels) →
          AllByRecursion (λ (m : Level). before_side k.symbol k.side m.key ≡ false)
          (drop (rung_number l (record { ladder = i; at = j })) (all l))
      side-behind all = side-search-behind l.fences l.ladders parted i j k it.belongs there-seen le-seen
          (subst (λ (ls : List Level). AllByRecursion (λ (m : Level). before_side k.symbol k.side m.key ≡ false)
          (drop j ls)) (sym its-levels) all)
