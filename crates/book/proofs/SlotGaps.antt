-- The closing of a gap: an entry stays or moves back, up to a free slot.
use Rattle.std.proofs.Common.{◌≡◌, ◌+◌, ◌-◌, ◌<◌, ◌≤◌, ℕ, Option, Some, None, refl, ap, sym, subst, ◌∙◌, inl, inr, ◌⊎◌}
use Rattle.std.proofs.Common.{arith}
use Rattle.std.specs.Prelude.{◌≢◌}
use Rattle.book.specs.declared.order_index.slots.IndexEntry.{IndexEntry}
use Rattle.book.specs.Slots.{has, home_of, slot_from, steps_to, IsProbed, IsClosing}
use Rattle.book.proofs.SlotSteps.{home-within, slot-within, steps-within, steps-lead, steps-apart, steps-back, slot-add}
use Rattle.book.proofs.SlotSteps.{same-on, as-long, steps-cancel, around, no-steps}
use Rattle.book.proofs.SlotNames.{IsFound}
use Rattle.book.proofs.SlotWays.{Written}
use Rattle.book.proofs.SlotComings.{same-or-not, some-one}

-- an entry moved back into the gap
pub record Moved (old new : ℕ → Option IndexEntry) (gap slot : ℕ) (e : IndexEntry) : Type 0 where
  pub there : new gap ≡ Some e
  pub left : new slot ≡ None
  pub others : (t : ℕ) → t ≢ gap → t ≢ slot → new t ≡ old t

module _ (at : ℕ → Option IndexEntry) (start gap step : ℕ) (closing : IsClosing at start gap step) where
  -- the gap isn't seen again
  pub not-gap : (k : ℕ) → step ≤ k → k < 8192 → slot_from start k ≢ gap
  not-gap k far few same =
      let one = steps-apart start k closing.behind few
      (omega (arith, closing.behind_few, closing.ahead_far, closing.ahead_few)) (same ∙ closing.gap_is) in
      omega (arith, one, closing.behind_few)

  -- at a free slot the gap is closed
  pub closed : step < 8192 → at (slot_from start step) ≡ None → IsProbed at
  closed few free = record {
    within = closing.within;
    apart = closing.apart;
    led = λ e d j hd stands before gone.
        let h = home_of e in
        let s = slot_from h d in
        let i = steps_to start s in
        let led = closing.led e d j hd stands before gone in
        let i_few = steps-within start s in
        let lead = steps-lead start s closing.from (slot-within h d) in
        let other : i ≢ step = λ same. let there : at s ≡ None = ap at (sym lead ∙ ap (λ k. slot_from start k) same)
        ∙ free in
        cc in
        let far : step < i = omega (arith, led.1, other) in
        let sooner : j ≤ d = omega (arith, before) in
        let not_less : closing.behind ≤ i = omega (arith, closing.behind_few, far) in
        let long = as-long h j d start closing.behind i (led.0 ∙ closing.gap_is) (sym lead) sooner not_less hd i_few in
        let on = same-on h j start closing.behind (step - closing.behind) (led.0 ∙ closing.gap_is) in
        let to : closing.behind + (step - closing.behind) ≡ step = omega (arith, closing.behind_few) in
        let here : slot_from h (j + (step - closing.behind))
        ≡ slot_from start step = on ∙ ap (λ k. slot_from start k) to in
        let less : j + (step - closing.behind) < d = omega (arith, long, far, closing.behind_few) in
        let again = closing.led e d (j + (step - closing.behind)) hd stands less (ap at here ∙ free) in
        not-gap step (omega arith) few (sym here ∙ again.0);
  }

  module _ (few : step < 8192) (e : IndexEntry) (stands : at (slot_from start step) ≡ Some e) where
    pub farther : step + 1 ≤ closing.ahead
    farther =
        let other : closing.ahead ≢ step = λ same. let there = ap (λ k. at (slot_from start k)) (sym same)
        ∙ closing.ahead_free in
        cc in
        omega (arith, closing.ahead_far, other)

    pub from-gap : steps_to gap (slot_from start step) ≡ step - closing.behind
    from-gap =
        let to : closing.behind + (step - closing.behind) ≡ step = omega (arith, closing.behind_few) in
        let on : slot_from gap (step - closing.behind) ≡ slot_from start step =
        ap (λ s. slot_from s (step - closing.behind)) closing.gap_is
        ∙ slot-add start closing.behind (step - closing.behind) ∙ ap (λ k. slot_from start k) to in
        let within : gap < 8192 = subst (λ s. s < 8192) (sym closing.gap_is) (slot-within start closing.behind) in
        ap (λ s. steps_to gap s) (sym on) ∙ steps-back gap (step - closing.behind) within (omega arith)

    -- an entry whose way begins behind the gap stays
    pub kept : steps_to (home_of e) (slot_from start step) < steps_to gap (slot_from start step)
        → IsClosing at start gap (step + 1)
    kept short = record {
      from = closing.from;
      behind = closing.behind;
      behind_few = omega (arith, closing.behind_few);
      gap_is = closing.gap_is;
      gap_free = closing.gap_free;
      ahead = closing.ahead;
      ahead_far = farther;
      ahead_few = closing.ahead_few;
      ahead_free = closing.ahead_free;
      within = closing.within;
      apart = closing.apart;
      led = λ x d j hd there before gone.
          let h = home_of x in
          let s = slot_from h d in
          let i = steps_to start s in
          let led = closing.led x d j hd there before gone in
          let lead = steps-lead start s closing.from (slot-within h d) in
          let other : i ≢ step = λ same.
          let at_step : s ≡ slot_from start step = sym lead ∙ ap (λ k. slot_from start k) same in
          let it : x ≡ e = some-one (sym there ∙ ap at at_step ∙ stands) in
          let way : d ≡ steps_to h s = sym (steps-back h d (home-within x.client x.name) hd) in
          let its : steps_to h s ≡ steps_to (home_of e) (slot_from start step) = ap (λ t. steps_to h t) at_step
          ∙ ap (λ (y : IndexEntry). steps_to (home_of y) (slot_from start step)) it in
          let long = as-long h j d start closing.behind step (led.0 ∙ closing.gap_is) at_step (omega (arith, before))
          (omega (arith, closing.behind_few)) hd few in
          let gap_way = from-gap in
          omega (arith, way, its, short, long, gap_way, closing.behind_few) in
          (led.0, omega (arith, led.1, other));
    }

    module _ (new : ℕ → Option IndexEntry) (moved : Moved at new gap (slot_from start step) e) where
      -- what stands now is the entry that moved, or it stood before
      pub was : (t : ℕ) (x : IndexEntry) → new t ≡ Some x → ((t ≡ gap) × (x ≡ e))
          ⊎ ((t ≢ slot_from start step) × (at t ≡ Some x))
      was t x there = elim (same-or-not t gap) [
        | inl same ↦ inl (same, some-one (sym there ∙ (ap new same ∙ moved.there)))
        | inr other ↦ elim (same-or-not t (slot_from start step)) [
          | inl same ↦ let left : new t ≡ None = ap new same ∙ moved.left in absurd (cc)
          | inr too ↦ inr (too, sym (moved.others t other too) ∙ there)
        ]
      ]

      -- a slot that is free now was free, or the entry left it
      pub was-free : (t : ℕ) → new t ≡ None → (t ≡ slot_from start step) ⊎ ((t ≢ gap) × (at t ≡ None))
      was-free t gone = elim (same-or-not t gap) [
        | inl same ↦ let there : new t ≡ Some e = ap new same ∙ moved.there in absurd (cc)
        | inr other ↦ elim (same-or-not t (slot_from start step)) [
          | inl same ↦ inl same
          | inr too ↦ inr (other, sym (moved.others t other too) ∙ gone)
        ]
      ]

      pub moved-found : (c n : ℕ) (o : Option ℕ) → IsFound at c n o → IsFound new c n o
      moved-found c n None none = λ t x there is_it. elim (was t x there) [
        | inl (same, it) ↦ none (slot_from start step) e stands (subst (λ y. has c n y) it is_it)
        | inr (other, stood) ↦ none t x stood is_it
      ]
      moved-found c n (Some p) it = elim (same-or-not it.slot (slot_from start step)) [
        | inl same ↦
            let one : it.entry ≡ e = some-one (sym it.stands ∙ (ap at same ∙ stands)) in
            record {
              slot = gap;
              entry = it.entry;
              stands = moved.there ∙ ap (λ y. Some y) (sym one);
              is_it = it.is_it;
              place = it.place;
            }
        | inr other ↦
            let not_there : it.slot ≢ gap = λ same. let free : at it.slot ≡ None = ap at same ∙ closing.gap_free in
            let full = it.stands in
            cc in
            record {
              slot = it.slot;
              entry = it.entry;
              stands = moved.others it.slot not_there other ∙ it.stands;
              is_it = it.is_it;
              place = it.place;
            }
      ]

      -- the way of an entry that stood, over the slot that is free now, goes on to slots not yet seen
      pub goes-on : (x : IndexEntry) (d j : ℕ) → d < 8192 → at (slot_from (home_of x) d) ≡ Some x
          → slot_from (home_of x) d ≢ slot_from start step → j < d
          → slot_from (home_of x) j ≡ slot_from start step → step + 1 ≤ steps_to start (slot_from (home_of x) d)
      goes-on x d j hd stood not_it before same =
          let h = home_of x in
          let s = slot_from h d in
          let i = steps_to start s in
          let i_few = steps-within start s in
          let lead = steps-lead start s closing.from (slot-within h d) in
          let other : i ≢ step = λ eq. not_it (sym lead ∙ ap (λ k. slot_from start k) eq) in
          elim (seen i step other) [
            | inl more ↦ more
            | inr less ↦
                let at_end : slot_from start (8192 + i) ≡ s = around start i ∙ lead in
                let all : step + (8192 - step + i) ≡ 8192 + i = omega arith in
                let to : slot_from (slot_from start step) (8192 - step + i)
                ≡ s = slot-add start step (8192 - step + i) ∙ ap (λ k. slot_from start k) all ∙ at_end in
                let rest : j + (d - j) ≡ d = omega (arith, before) in
                let on : slot_from (slot_from start step) (d - j)
                ≡ s = ap (λ t. slot_from t (d - j)) (sym same) ∙ slot-add h j (d - j)
                ∙ ap (λ k. slot_from h k) rest in
                let long = steps-apart (slot_from start step) (d - j) (8192 - step + i) (omega (arith, hd))
                (omega (arith, less)) (on ∙ sym to) in
                let w = closing.ahead in
                let w_far = farther in
                let past = same-on h j start step (w - step) same in
                let up : step + (w - step) ≡ w = omega (arith, w_far) in
                let here : slot_from h (j + (w - step)) ≡ slot_from start w = past ∙ ap (λ k. slot_from start k) up in
                let between : j + (w - step) < d = omega (arith, long, w_far, closing.ahead_few, before) in
                let again = closing.led x d (j + (w - step)) hd stood between (ap at here ∙ closing.ahead_free) in
                absurd (not-gap w (omega (arith, w_far)) closing.ahead_few (sym here ∙ again.0))
          ]
        where
          seen : (i k : ℕ) → i ≢ k → (k + 1 ≤ i) ⊎ (i < k)
          seen i k h = grind arith

      -- the way of the entry that moved back is free of gaps
      pub leads-back : steps_to gap (slot_from start step) ≤ steps_to (home_of e) (slot_from start step) → (d j : ℕ)
          → d < 8192 → slot_from (home_of e) d ≡ gap → j < d
          → new (slot_from (home_of e) j) ≡ None → ⊥
      leads-back long d j hd to before gone =
          let h = home_of e in
          let h_few = home-within e.client e.name in
          let way = steps_to h (slot_from start step) in
          let way_few = steps-within h (slot_from start step) in
          let lead = steps-lead h (slot_from start step) h_few (slot-within start step) in
          let gap_way = from-gap in
          let gap_within : gap < 8192 = subst (λ s. s < 8192) (sym closing.gap_is) (slot-within start closing.behind) in
          let gap_lead = steps-lead gap (slot_from start step) gap_within (slot-within start step) in
          let short = steps_to gap (slot_from start step) in
          let rest : way - short + short ≡ way = omega (arith, long) in
          let through : slot_from (slot_from h (way - short)) short
          ≡ slot_from gap short = slot-add h (way - short) short ∙ ap (λ k. slot_from h k) rest ∙ lead
          ∙ sym gap_lead in
          let at_gap = steps-cancel (slot_from h (way - short)) gap short (slot-within h (way - short)) gap_within
          through in
          let same = steps-apart h d (way - short) hd (omega (arith, way_few)) (to ∙ sym at_gap) in
          let positive : 0 < short = omega (arith, gap_way, closing.behind_few) in
          let less : j < way = omega (arith, same, before) in
          elim (was-free (slot_from h j) gone) [
            | inl there ↦ let one = steps-apart h j way (omega (arith, less, way_few)) way_few (there ∙ sym lead) in
                omega (arith, one, less)
            | inr (not_gap, free) ↦
                let there : at (slot_from h way) ≡ Some e = ap at lead ∙ stands in
                let led = closing.led e way j way_few there less free in
                not_gap led.0
          ]

      -- an entry whose way leads over the gap moves back into it
      pub moves : steps_to gap (slot_from start step) ≤ steps_to (home_of e) (slot_from start step)
          → IsClosing new start (slot_from start step) (step + 1)
      moves long = record {
        from = closing.from;
        behind = step;
        behind_few = omega arith;
        gap_is = refl;
        gap_free = moved.left;
        ahead = closing.ahead;
        ahead_far = farther;
        ahead_few = closing.ahead_few;
        ahead_free =
            let far = farther in
            moved.others (slot_from start closing.ahead) (not-gap closing.ahead (omega (arith, far)) closing.ahead_few)
            (λ same. let one = steps-apart start closing.ahead step closing.ahead_few few same in
            omega (arith, one, far))
            ∙ closing.ahead_free;
        within = λ t x there. elim (was t x there) [
          | inl (same, it) ↦ subst (λ s. s < 8192) (sym (same ∙ closing.gap_is)) (slot-within start closing.behind)
          | inr (other, stood) ↦ closing.within t x stood
        ];
        apart = λ a b x y at_a at_b named. elim (was a x at_a) [
          | inl (same_a, it_a) ↦ elim (was b y at_b) [
            | inl (same_b, it_b) ↦ same_a ∙ sym same_b
            | inr (other_b, stood_b) ↦
                absurd (other_b (sym (closing.apart (slot_from start step) b e y stands stood_b
                (subst (λ (z : IndexEntry). has z.client z.name y) it_a named))))
          ]
          | inr (other_a, stood_a) ↦ elim (was b y at_b) [
            | inl (same_b, it_b) ↦
                absurd (other_a (closing.apart a (slot_from start step) x e stood_a stands
                (subst (λ z. has x.client x.name z) it_b named)))
            | inr (other_b, stood_b) ↦ closing.apart a b x y stood_a stood_b named
          ]
        ];
        led = λ x d j hd there before gone. elim (was (slot_from (home_of x) d) x there) [
          | inl (same, it) ↦
              absurd (leads-back long d j hd (ap (λ y. slot_from (home_of y) d) (sym it) ∙ same) before
              (ap (λ y. new (slot_from (home_of y) j)) (sym it) ∙ gone))
          | inr (other, stood) ↦ elim (was-free (slot_from (home_of x) j) gone) [
            | inl at_slot ↦ (at_slot, goes-on x d j hd stood other before at_slot)
            | inr (not_gap, free) ↦ absurd (not_gap (closing.led x d j hd stood before free).0)
          ]
        ];
      }

-- a gap opens where an entry left
module _ (old new : ℕ → Option IndexEntry) (s : ℕ) (e : IndexEntry) (probed : IsProbed old) (stood : old s ≡ Some e)
    (written : Written old new s None) where
  pub leaves : (t : ℕ) (x : IndexEntry) → new t ≡ Some x → (t ≢ s) × (old t ≡ Some x)
  leaves t x there = elim (same-or-not t s) [
    | inl same ↦ let left : new t ≡ None = ap new same ∙ written.here in absurd (cc)
    | inr other ↦ (other, sym (written.others t other) ∙ there)
  ]

  pub opened : (v : ℕ) → v < 8192 → old v ≡ None → IsClosing new s s 1
  opened v v_few v_free =
      let s_few = probed.within s e stood in
      let lead = steps-lead s v s_few v_few in
      let v_other : v ≢ s = λ same. let free : old s ≡ None = ap old (sym same) ∙ v_free in cc in
      let far : steps_to s v ≢ 0 = λ none. v_other (sym lead ∙ ap (λ k. slot_from s k) none ∙ no-steps s s_few) in
      record {
        from = s_few;
        behind = 0;
        behind_few = omega arith;
        gap_is = sym (no-steps s s_few);
        gap_free = written.here;
        ahead = steps_to s v;
        ahead_far = omega (arith, far);
        ahead_few = steps-within s v;
        ahead_free = ap new lead ∙ written.others v v_other ∙ v_free;
        within = λ t x there. probed.within t x (leaves t x there).1;
        apart = λ a b x y at_a at_b named. probed.apart a b x y (leaves a x at_a).1 (leaves b y at_b).1 named;
        led = λ x d j hd there before gone.
            let (other, still) = leaves (slot_from (home_of x) d) x there in
            elim (same-or-not (slot_from (home_of x) j) s) [
              | inl same ↦ (same, later (slot_from (home_of x) d) (slot-within (home_of x) d) other)
              | inr not_it ↦ absurd (probed.led x d j hd still before
                  (sym (written.others (slot_from (home_of x) j) not_it) ∙ gone))
            ];
      }
    where
      later : (t : ℕ) → t < 8192 → t ≢ s → 1 ≤ steps_to s t
      later t few other =
          let s_few = probed.within s e stood in
          let lead = steps-lead s t s_few few in
          let far : steps_to s t ≢ 0 = λ none. other (sym lead ∙ ap (λ k. slot_from s k) none ∙ no-steps s s_few) in
          omega (arith, far)
