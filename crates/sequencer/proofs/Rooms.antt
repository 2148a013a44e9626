-- The look for room: the taken words are loaded one after another, and the least of them is kept.
use Rattle.std.proofs.Common.{Some, ◌≡◌, ◌⊎◌, inl, inr, ℕ, zero, suc, ◌+◌, ◌<◌, ◌≤◌, List, [], ◌∷◌}
use Rattle.std.proofs.Common.{◌++◌, length, min}
use Rattle.std.proofs.Common.{refl, ap, sym, subst, ◌∙◌, arith, append_assoc, length-append}
use Rattle.venue_model.specs.ListLaws.{stands, within, at_end, at_behind}
use mathlib.Core.Option.{some, some-injective, some-ne-none}
use lib.ListN.{get_elem?}
use native.Mathlib.Decide.{dec_le}
use Rattle.ring_words.specs.declared.view.Load.{Load}
use Rattle.ring_words.specs.declared.view.Person.{Person}
use Rattle.ring_words.specs.Places.{taken}
use Rattle.ring_words.specs.Rule.{IsGateway}
use Rattle.ring_words.specs.Seats.{load_of, looked}
use Rattle.ring_words.specs.SeatLaws.{output_room_last_loaded}
use Rattle.ring_words.specs.At.{At, seated}
use Rattle.ring_words.specs.Steps.{HasOutputRoom}
use Rattle.sequencer.specs.Rooms.{taken_loads, least_from, least, HasLooked, last_taken}
use Rattle.sequencer.specs.Rooms.{KeepsRoom, LeavesNoRoom, KeepsNoRoom}

-- one value more is one load more, of the next gateway's word
taken_more : (k : ℕ) (xs : List ℕ) (x : ℕ) → taken_loads k (xs ++ x ∷ [])
    ≡ taken_loads k xs ++ load_of (taken (k + length xs)) x ∷ []
taken_more k [] x = let g : k ≡ k + 0 = omega arith in λ i. load_of (taken (g i)) x ∷ []
taken_more k (y ∷ ys) x = let g : suc k + length ys ≡ k + suc (length ys) = omega arith in
    ap (λ (ls : List Load). load_of (taken k) y ∷ ls)
    (taken_more (suc k) ys x ∙ (λ i. taken_loads (suc k) ys ++ load_of (taken (g i)) x ∷ []))

-- the least of a number and these, with one value more
least_from_more : (a : ℕ) (xs : List ℕ) (x : ℕ) → least_from a (xs ++ x ∷ []) ≡ min (least_from a xs) x
least_from_more a [] x = refl
least_from_more a (y ∷ ys) x = least_from_more (min a y) ys x

-- the least with one value more
least_more : (xs : List ℕ) (x : ℕ) → 1 ≤ length xs → least (xs ++ x ∷ []) ≡ min (least xs) x
least_more [] x some_there = absurd (omega arith)
least_more (y ∷ ys) x some_there = least_from_more y ys x

-- the least is no more than the number
least_from_low : (a : ℕ) (xs : List ℕ) → least_from a xs ≤ a
least_from_low a [] = omega arith
least_from_low a (y ∷ ys) = let low = least_from_low (min a y) ys in omega arith

-- nor than any of the values
least_from_below : (a : ℕ) (xs : List ℕ) (i x : ℕ) → get_elem? xs i ≡ some x → least_from a xs ≤ x
least_from_below a [] i x at = absurd (some-ne-none x (sym at))
least_from_below a (y ∷ ys) zero x at = let low = least_from_low (min a y) ys in
    let same : y ≡ x = some-injective y x at in
    omega arith
least_from_below a (y ∷ ys) (suc i) x at = least_from_below (min a y) ys i x at

-- the least is no more than any of the values
least_below : (xs : List ℕ) (i x : ℕ) → get_elem? xs i ≡ some x → least xs ≤ x
least_below [] i x at = absurd (some-ne-none x (sym at))
least_below (y ∷ ys) zero x at = let low = least_from_low y ys in
    let same : y ≡ x = some-injective y x at in
    omega arith
least_below (y ∷ ys) (suc i) x at = least_from_below y ys i x at

-- the least is the number or one of the values
least_from_is : (a : ℕ) (xs : List ℕ) → (least_from a xs ≡ a) ⊎ ((i : ℕ) × (get_elem? xs i ≡ some (least_from a xs)))
least_from_is a [] = inl refl
least_from_is a (y ∷ ys) = by_rest (least_from_is (min a y) ys) where
  by_rest : (least_from (min a y) ys ≡ min a y) ⊎ ((i : ℕ) × (get_elem? ys i ≡ some (least_from (min a y) ys)))
      → (least_from (min a y) ys ≡ a) ⊎ ((i : ℕ) × (get_elem? (y ∷ ys) i ≡ some (least_from (min a y) ys)))
  by_rest (inr (i, there)) = inr (suc i, there)
  by_rest (inl is) = by_order (dec_le a y) where
    by_order : Dec (a ≤ y) → (least_from (min a y) ys ≡ a)
        ⊎ ((i : ℕ) × (get_elem? (y ∷ ys) i ≡ some (least_from (min a y) ys)))
    by_order (yes le) = inl (omega arith)
    by_order (no gt) = let other : y ≡ least_from (min a y) ys = omega arith in inr (0, ap some other)

-- the least of some values is one of them
least_is : (xs : List ℕ) → 1 ≤ length xs → (i : ℕ) × (get_elem? xs i ≡ some (least xs))
least_is [] some_there = absurd (omega arith)
least_is (y ∷ ys) some_there = by_case (least_from_is y ys) where
  by_case : (least_from y ys ≡ y) ⊎ ((i : ℕ) × (get_elem? ys i ≡ some (least_from y ys)))
      → (i : ℕ) × (get_elem? (y ∷ ys) i ≡ some (least_from y ys))
  by_case (inl is) = (0, ap some (sym is))
  by_case (inr (i, there)) = (suc i, there)

-- each value was loaded of its gateway's word
taken_at : (k : ℕ) (xs : List ℕ) (i x : ℕ) → get_elem? xs i ≡ some x
    → get_elem? (taken_loads k xs) i ≡ some (load_of (taken (k + i)) x)
taken_at k [] i x at = absurd (some-ne-none x (sym at))
taken_at k (y ∷ ys) zero x at = let place : k ≡ k + 0 = omega arith in
    let same : y ≡ x = some-injective y x at in
    λ i. some (load_of (taken (place i)) (same i))
taken_at k (y ∷ ys) (suc i) x at = let place : suc k + i ≡ k + suc i = omega arith in
    taken_at (suc k) ys i x at ∙ (λ j. some (load_of (taken (place j)) x))

-- where all taken words were loaded, there is room for each place below the least of them and the number of rows
room_for : (g m : ℕ) (p : Person) (values : List ℕ) (place : ℕ) → length values ≡ g → place < least values + m
    → HasOutputRoom g m (record p { loads = p.loads ++ taken_loads 1 values }) place
room_for g m p values place count free zero inside = let from : 1 ≤ 0 = inside.0 in absurd (omega arith)
room_for g m p values place count free (suc i) inside = let to : suc i ≤ g = inside.1 in
    let at = stands values i (omega arith) in
    let low = least_below values i at.0 at.1 in
    let number : 1 + i ≡ suc i = omega arith in (
      length p.loads + i,
      (
        load_of (taken (1 + i)) at.0,
        at_behind p.loads (taken_loads 1 values) i (length p.loads + i)
            _ refl (taken_at 1 values i at.0 at.1),
        ap taken number,
        omega arith,
      ),
    )

-- the taken words of all gateways below k were loaded, and `low` is the least of them
pub record LookedBelow {L : Type 0} (m : ℕ) (v u : At L) (k low : ℕ) : Type 0 where
  pub values : List ℕ
  pub count : 1 + length values ≡ k
  pub some_there : 1 ≤ length values
  pub view : u ≡ seated v (record v.who { loads = v.who.loads ++ taken_loads 1 values })
  pub low_is : least values ≡ low
  pub below : low ≤ v.who.row.sequence
  pub near : v.who.row.sequence ≤ low + m

module _ {L : Type 0} (m : ℕ) (v : At L) where
  -- the first gateway's word was loaded
  pub looks_first : (w : At L) (x : ℕ) → w ≡ seated v (looked v.who (taken 1) x) → x ≤ v.who.row.sequence
      → v.who.row.sequence ≤ x + m → LookedBelow m v w 2 x
  looks_first w x view most near = record {
    values = x ∷ [];
    count = refl;
    some_there = omega arith;
    view = view;
    low_is = refl;
    below = most;
    near = near;
  }

  -- the next one's was loaded
  pub looks_next : (u w : At L) (k low x after : ℕ) → LookedBelow m v u k low → w ≡ seated u (looked u.who (taken k) x)
      → x ≤ u.who.row.sequence → u.who.row.sequence ≤ x + m → after ≡ min low x → LookedBelow m v w (k + 1) after
  looks_next u w k low x after r view most near is =
      let p = v.who in
      let place : u.who.row.sequence ≡ p.row.sequence = ap (λ (y : At L). y.who.row.sequence) r.view in
      let more = least_more r.values x r.some_there in
      let low_is = r.low_is in
      let below = r.below in
      let close = r.near in
      let long = length-append r.values (x ∷ []) in let count = r.count in record {
        values = r.values ++ x ∷ [];
        count = omega arith;
        some_there = omega arith;
        view = subst (λ (y : At L). w ≡ seated y (looked y.who (taken k) x)) r.view view
            ∙ ap (λ (l : List Load). seated v (record p { loads = l }))
            (append_assoc p.loads (taken_loads 1 r.values) (load_of (taken k) x ∷ [])
            ∙ ap (λ (l : List Load). p.loads ++ l)
            (sym (taken_more 1 r.values x ∙ (λ i. taken_loads 1 r.values ++ load_of (taken (count i)) x ∷ []))));
        low_is = more ∙ (λ i. min (low_is i) x) ∙ sym is;
        below = omega arith;
        near = omega arith;
      }

  -- all were loaded
  pub has_looked : (u : At L) (k low g answer : ℕ) → LookedBelow m v u k low → k ≡ g + 1
      → answer + v.who.row.sequence ≡ low + m → HasLooked g m v.who answer u.who
  has_looked u k low g answer r all is =
      let p = v.who in
      let at : u.who ≡ record p { loads = p.loads ++ taken_loads 1 r.values } = ap (λ (y : At L). y.who) r.view in
      let count = r.count in
      let low_is = r.low_is in
      let below = r.below in
      let long : length r.values ≡ g = omega arith in
      record {
        values = r.values;
        count = long;
        loads = at;
        room = record { below = omega arith; is = omega arith };
      }

  -- so there is room for the places that the answer counts
  pub has_free : (g answer : ℕ) (q : Person) → HasLooked g m v.who answer q → (i : ℕ) → i < answer
      → HasOutputRoom g m q (v.who.row.sequence + i)
  has_free g answer q looked i below = let count = looked.count in let room = looked.room.is in
      subst (λ (p : Person). HasOutputRoom g m p (v.who.row.sequence + i)) (sym looked.loads)
      (room_for g m v.who looked.values (v.who.row.sequence + i) count (omega (arith, room, below)))

  -- published is as before
  pub place_kept : (u : At L) (k low : ℕ) → LookedBelow m v u k low → u.who.row.sequence ≡ v.who.row.sequence
  place_kept u k low r = ap (λ (y : At L). y.who.row.sequence) r.view

-- the values of all gateways below k were loaded last, and `low` is the least of them
pub record KeptBelow (p : Person) (k low : ℕ) : Type 0 where
  pub values : List ℕ
  pub count : 1 + length values ≡ k
  pub some_there : 1 ≤ length values
  pub last : (i x : ℕ) → get_elem? values i ≡ some x → last_taken (suc i) p.loads ≡ Some x
  pub low_is : least values ≡ low
  pub below : low ≤ p.row.sequence

module _ (m : ℕ) (p : Person) where
  -- the first gateway's value
  pub keeps_first : (x : ℕ) → last_taken 1 p.loads ≡ Some x → x ≤ p.row.sequence → KeptBelow p 2 x
  keeps_first x last most = record {
    values = x ∷ [];
    count = refl;
    some_there = omega arith;
    last = λ i y at. by_place i y at;
    low_is = refl;
    below = most;
  } where
    by_place : (i y : ℕ) → get_elem? (x ∷ []) i ≡ some y → last_taken (suc i) p.loads ≡ Some y
    by_place zero y at = last ∙ ap Some (some-injective x y at)
    by_place (suc i) y at = absurd (some-ne-none y (sym at))

  -- the next one's
  pub keeps_next : (k low x after : ℕ) → KeptBelow p k low → last_taken k p.loads ≡ Some x → x ≤ p.row.sequence
      → after ≡ min low x → KeptBelow p (k + 1) after
  keeps_next k low x after r last most is =
      let more = least_more r.values x r.some_there in
      let low_is = r.low_is in
      let below = r.below in
      let long = length-append r.values (x ∷ []) in let count = r.count in record {
        values = r.values ++ x ∷ [];
        count = omega arith;
        some_there = omega arith;
        last = λ i y at. by_place i y (at_end r.values x y i at);
        low_is = more ∙ (λ i. min (low_is i) x) ∙ sym is;
        below = omega arith;
      } where
        by_place : (i y : ℕ) → (get_elem? r.values i ≡ some y) ⊎ ((i ≡ length r.values) × (x ≡ y))
            → last_taken (suc i) p.loads ≡ Some y
        by_place i y (inl before) = r.last i y before
        by_place i y (inr (here, same)) = let count = r.count in let place : suc i ≡ k = omega (arith, here, count) in
            ap (λ (j : ℕ). last_taken j p.loads) place ∙ last ∙ ap Some same

  -- all were, and they leave nothing
  pub has_none : (k low g : ℕ) → KeptBelow p k low → k ≡ g + 1 → low + m ≤ p.row.sequence → KeepsNoRoom g m p
  has_none k low g r all full =
      let count = r.count in
      let low_is = r.low_is in
      let one = least_is r.values r.some_there in
      let inside = within r.values one.0 _ one.1 in (
        suc one.0,
        (
          (omega arith, omega (arith, inside, count, all)),
          subst (LeavesNoRoom m p.row.sequence) (sym (r.last one.0 _ one.1)) (omega (arith, low_is, full)),
        ),
      )

-- behind the values kept there is room for each output of those that they leave room for
pub keeps_free : (g m : ℕ) (p : Person) (answer i : ℕ) → KeepsRoom g m p answer → i < answer
    → HasOutputRoom g m p (p.row.sequence + i)
keeps_free g m p answer i kept below = output_room_last_loaded g m p (p.row.sequence + i) by_gateway where
  by_gateway : (k : ℕ) → IsGateway g k → (x : ℕ) × (last_taken k p.loads ≡ Some x) × (p.row.sequence + i < x + m)
  by_gateway zero gateway = let from = gateway.0 in absurd (omega arith)
  by_gateway (suc j) gateway =
      let count = kept.count in
      let to = gateway.1 in
      let at = stands kept.values j (omega arith) in
      let low = least_below kept.values j at.0 at.1 in
      let is = kept.room.is in
      (at.0, kept.last j at.0 at.1, omega (arith, low, is, below))
