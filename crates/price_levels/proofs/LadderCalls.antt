-- What a call on one ladder does to all levels, as the code reads and writes.
use Rattle.std.proofs.Common.{◌≡◌, ℕ, zero, suc, ◌+◌, ◌-◌, ◌<◌, ◌≤◌, false, List, [], ◌∷◌, ◌++◌, length, get_or, take}
use Rattle.std.proofs.Common.{drop, refl, ap, sym, subst, ◌∙◌, arith, take_all, length-append}
use Rattle.std.specs.Prelude.{slice_set}
use Rattle.std.specs.List.{AllByRecursion, insert}
use Rattle.std.proofs.lemmas.List.{get_or_default, get_or-map, map-set, length-set, length-map, length-drop}
use Rattle.venue_model.specs.declared.orders.Side.{Side}
use Rattle.price_levels.specs.declared.keys.Key.{Key}
use Rattle.price_levels.specs.declared.keys.Level.{Level}
use Rattle.price_levels.specs.declared.ladders.Fence.{Fence}
use Rattle.price_levels.specs.declared.ladders.Home.{Home}
use Rattle.price_levels.specs.declared.ladders.Rung.{Rung}
use Rattle.venue_model.specs.Orders.{opposite}
use Rattle.price_levels.specs.Arena.{holds, first_in, of_side, crossed_left, levels_with}
use Rattle.price_levels.specs.Ladders.{Laddered, joined, all, rung_number, around, beyond, items_of, BelongsToHome}
use Rattle.price_levels.specs.Ladders.{Levelled, IsRung, IsOn, AreParted, AreLadders}
use Rattle.price_levels.proofs.LevelLists.{all-append}
use Rattle.price_levels.proofs.SearchLemmas.{all-at}
use Rattle.price_levels.proofs.LadderLists.{cut, cut-set, get-at, insert-at, with-at, set-at, drop-at, first-row}
use Rattle.price_levels.proofs.LadderLists.{holds-row, crossed-row}
use Rattle.price_levels.proofs.LadderLemmas.{parted-set}

module _ {X : Type 0} (P : X → Type 0) where
  pub all-set : (xs : List X) (i : ℕ) (x : X) → AllByRecursion P xs → P x → AllByRecursion P (slice_set xs i x)
  all-set [] zero x all its = tt
  all-set [] (suc i) x all its = tt
  all-set (y ∷ xs) zero x all its = (its, all.1)
  all-set (y ∷ xs) (suc i) x all its = (all.0, all-set xs i x all.1 its)

  all-take-n : (xs : List X) (n : ℕ) → AllByRecursion P xs → AllByRecursion P (take n xs)
  all-take-n [] zero all = tt
  all-take-n [] (suc n) all = tt
  all-take-n (x ∷ xs) zero all = tt
  all-take-n (x ∷ xs) (suc n) all = (all.0, all-take-n xs n all.1)

  all-drop-n : (xs : List X) (n : ℕ) → AllByRecursion P xs → AllByRecursion P (drop n xs)
  all-drop-n [] zero all = tt
  all-drop-n [] (suc n) all = tt
  all-drop-n (x ∷ xs) zero all = all
  all-drop-n (x ∷ xs) (suc n) all = all-drop-n xs n all.1

-- one ladder, as it was read
pub record OneLadder (l : Laddered) (ladders : List Levelled) (r : Rung) (one : Levelled) : Type 0 where
  pub is : l.ladders ≡ items_of ladders
  pub within : r.ladder < length l.ladders
  pub here : one ≡ get_or ladders r.ladder one

abbrev pub shown : List Fence → List Levelled → ℕ → Laddered
shown fences ladders room = record { fences = fences; ladders = items_of ladders; room = room }

pub one-ladder : {fences : List Fence} {room : ℕ} {l : Laddered} {one : Levelled} (ladders : List Levelled)
    (r : Rung) → shown fences ladders room ≡ l → r.ladder < length l.ladders → one ≡ get_or ladders r.ladder one
    → OneLadder l ladders r one
one-ladder ladders r view_is within here = record {
  is = sym (ap (λ (m : Laddered). m.ladders) view_is);
  within = within;
  here = here;
}

module _ {l : Laddered} {ladders : List Levelled} {r : Rung} {one : Levelled} (it : OneLadder l ladders r one) where
  abbrev ahead : List Level
  ahead = joined (take r.ladder l.ladders)

  pub within-ladders : r.ladder < length ladders
  within-ladders = let long = ap length it.is ∙ length-map ladders (λ (v : Levelled). v.items) in
      omega (arith, it.within, long)

  pub around-is : around l r ≡ one.items
  around-is = ap (λ xs. get_or xs r.ladder []) it.is ∙ get_or-map (λ (v : Levelled). v.items) ladders r.ladder one []
      within-ladders
      ∙ ap (λ (v : Levelled). v.items) (sym it.here)

  pub whole : all l ≡ ahead ++ (one.items ++ beyond l r)
  whole = cut l.ladders r.ladder it.within ∙ ap (λ g. ahead ++ (g ++ beyond l r)) around-is

  long-is : length (around l r) ≡ length one.items
  long-is = ap length around-is

  pub rung-here : IsRung l r → r.at ≤ length one.items
  rung-here rung = subst (λ n. r.at ≤ n) long-is rung.within

  pub on-here : IsOn l r → r.at < length one.items
  on-here on = subst (λ n. r.at < n) long-is on.on

  pub on-there : r.at < length one.items → IsOn l r
  on-there lt = record { ladder = it.within; on = subst (λ n. r.at < n) (sym long-is) lt }

  pub level-is : (m : Level) → r.at < length one.items → m ≡ get_or one.items r.at m
      → m ≡ get_or (all l) (rung_number l r) m
  level-is m lt m_is = m_is ∙ sym (get-at ahead one.items (beyond l r) r.at m lt)
      ∙ ap (λ ys. get_or ys (rung_number l r) m) (sym whole)

  key-there : (m : Level) → r.at < length one.items → (get_or (all l) (rung_number l r) m).key
      ≡ (get_or one.items r.at m).key
  key-there m lt = ap (λ ys. (get_or ys (rung_number l r) m).key) whole
      ∙ ap (λ (x : Level). x.key) (get-at ahead one.items (beyond l r) r.at m lt)

  -- a ladder has no more levels than all
  pub no-longer : length one.items ≤ length (all l)
  no-longer =
      let all_is = ap (length {A = Level}) whole in
      let parts = length-append ahead (one.items ++ beyond l r) in
      let more = length-append one.items (beyond l r) in
      omega (arith, all_is, parts, more)

  pub holds-is-here : (k : Key) → r.at ≤ length one.items
      → AllByRecursion (λ (m : Level). of_side k.symbol k.side m.key ≡ false) (beyond l r) →
      holds (all l) (rung_number l r) k ≡ holds one.items r.at k
  holds-is-here k le alone = ap (λ ys. holds ys (rung_number l r) k) whole
      ∙ holds-row k.symbol k.side k refl refl ahead one.items (beyond l r) r.at le alone

  pub first-is : (symbol : List ℕ) (side : Side) → r.at ≤ length one.items
      → AllByRecursion (λ (m : Level). of_side symbol side m.key ≡ false)
      (beyond l r) → first_in symbol side (all l) (rung_number l r) ≡ first_in symbol side one.items r.at
  first-is symbol side le alone = ap (λ ys. first_in symbol side ys (rung_number l r)) whole
      ∙ first-row symbol side ahead one.items (beyond l r) r.at le alone

  pub crossed-is : (symbol : List ℕ) (side : Side) (price : ℕ) → r.at ≤ length one.items →
      AllByRecursion (λ (m : Level). of_side symbol (opposite side) m.key ≡ false) (beyond l r) →
      crossed_left symbol side price (drop (rung_number l r) (all l))
      ≡ crossed_left symbol side price (take (length one.items - r.at)
      (drop r.at one.items))
  crossed-is symbol side price le alone =
      let rest = length-drop r.at one.items in
      ap (λ ys. crossed_left symbol side price (drop (rung_number l r) ys)) whole
      ∙ ap (crossed_left symbol side price) (drop-at ahead one.items (beyond l r) r.at le)
      ∙ crossed-row symbol side price (drop r.at one.items) (beyond l r) alone
      ∙ ap (crossed_left symbol side price)
      (sym (take_all (length one.items - r.at) (drop r.at one.items) (omega (arith, rest))))

  -- it is another one now
  module _ (other : Levelled) where
    pub replaced-is : joined (items_of (slice_set ladders r.ladder other)) ≡ ahead ++ (other.items ++ beyond l r)
    replaced-is = ap joined (map-set (λ (v : Levelled). v.items) ladders r.ladder other
        ∙ ap (λ xs. slice_set xs r.ladder other.items) (sym it.is))
        ∙ cut-set l.ladders r.ladder other.items it.within

    pub set-is : (m : Level) → r.at < length one.items → other.items ≡ slice_set one.items r.at m →
        joined (items_of (slice_set ladders r.ladder other)) ≡ slice_set (all l) (rung_number l r) m
    set-is m lt items = replaced-is ∙ ap (λ g. ahead ++ (g ++ beyond l r)) items
        ∙ sym (set-at ahead one.items (beyond l r) r.at m lt)
        ∙ ap (λ ys. slice_set ys (rung_number l r) m) (sym whole)

    pub insert-is : (m : Level) → r.at ≤ length one.items → other.items ≡ insert one.items r.at m →
        joined (items_of (slice_set ladders r.ladder other)) ≡ insert (all l) (rung_number l r) m
    insert-is m le items = replaced-is ∙ ap (λ g. ahead ++ (g ++ beyond l r)) items
        ∙ sym (insert-at ahead one.items (beyond l r) r.at m le)
        ∙ ap (λ ys. insert ys (rung_number l r) m) (sym whole)

    pub remove-is : r.at < length one.items → other.items ≡ levels_with one.items r.at [] →
        joined (items_of (slice_set ladders r.ladder other)) ≡ levels_with (all l) (rung_number l r) []
    remove-is lt items = replaced-is ∙ ap (λ g. ahead ++ (g ++ beyond l r)) items
        ∙ sym (with-at ahead one.items (beyond l r) r.at [] lt)
        ∙ ap (λ ys. levels_with ys (rung_number l r) []) (sym whole)

    -- the ladders are right with it
    pub ladders-with : {fences : List Fence} {homes : List Home} {room : ℕ} → AreLadders fences homes ladders room →
        AllByRecursion (λ (m : Level). BelongsToHome fences r.ladder m.key.symbol m.key.side) other.items
        → room ≤ other.room →
        AreLadders fences homes (slice_set ladders r.ladder other) room
    ladders-with {fences} {homes} {room} are belong roomy = record {
      count = length-set ladders r.ladder other ∙ are.count;
      parted = subst (AreParted fences) (sym (map-set (λ (v : Levelled). v.items) ladders r.ladder other))
          (parted-set fences (items_of ladders) r.ladder other.items are.parted
          (let long = ap length it.is in omega (arith, it.within, long)) belong);
      roomy = all-set (λ (v : Levelled). room ≤ v.room) ladders r.ladder other are.roomy roomy;
      known = are.known;
    }

  -- what holds of the levels of a ladder
  module _ {fences : List Fence} {homes : List Home} {room : ℕ} (are : AreLadders fences homes ladders room) where
    abbrev Belong : List Level → Type 0
    Belong levels = AllByRecursion (λ (m : Level). BelongsToHome fences r.ladder m.key.symbol m.key.side) levels

    pub belong-there : Belong one.items
    belong-there = subst Belong (ap (λ xs. get_or xs r.ladder []) (sym it.is) ∙ around-is) (are.parted r.ladder)

    pub roomy-there : room ≤ one.room
    roomy-there = subst (λ v. room ≤ v.room) (sym it.here)
        (all-at (λ (v : Levelled). room ≤ v.room) ladders r.ladder one
        within-ladders are.roomy)

    pub belong-set : (m : Level) → r.at < length one.items → m.key ≡ (get_or (all l) (rung_number l r) m).key
        → Belong (slice_set one.items r.at m)
    belong-set m lt same =
        let old = get_or one.items r.at m in
        all-set (λ (x : Level). BelongsToHome fences r.ladder x.key.symbol x.key.side) one.items r.at m belong-there
        (subst (λ (k : Key). BelongsToHome fences r.ladder k.symbol k.side) (sym (same ∙ key-there m lt))
        (subst (λ (x : Level). BelongsToHome fences r.ladder x.key.symbol x.key.side)
        (sym (get_or_default one.items r.at m old lt))
        (all-at (λ (x : Level). BelongsToHome fences r.ladder x.key.symbol x.key.side) one.items r.at old lt
        belong-there)))

    pub belong-insert : (m : Level) → BelongsToHome fences r.ladder m.key.symbol m.key.side
        → Belong (insert one.items r.at m)
    belong-insert m its = all-append (λ (x : Level). BelongsToHome fences r.ladder x.key.symbol x.key.side)
        (take r.at one.items) (m ∷ drop r.at one.items)
        (all-take-n (λ (x : Level). BelongsToHome fences r.ladder x.key.symbol x.key.side) one.items r.at
        belong-there) (
          its,
          all-drop-n (λ (x : Level). BelongsToHome fences r.ladder x.key.symbol x.key.side) one.items r.at
              belong-there,
        )

    pub belong-remove : Belong (levels_with one.items r.at [])
    belong-remove = all-append (λ (x : Level). BelongsToHome fences r.ladder x.key.symbol x.key.side)
        (take r.at one.items) (drop (r.at + 1) one.items)
        (all-take-n (λ (x : Level). BelongsToHome fences r.ladder x.key.symbol x.key.side) one.items r.at belong-there)
        (all-drop-n (λ (x : Level). BelongsToHome fences r.ladder x.key.symbol x.key.side) one.items (r.at + 1)
        belong-there)
