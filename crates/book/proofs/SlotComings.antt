-- A new entry at the free slot where its name's way ends.
use Rattle.std.proofs.Common.{◌≡◌, ◌<◌, ℕ, Bool, true, false, Option, Some, None, refl, ap, sym, subst, ◌∙◌, inl, inr}
use Rattle.std.proofs.Common.{◌⊎◌, arith}
use Rattle.std.specs.Prelude.{◌≢◌, if◌then◌else◌}
use Rattle.book.specs.declared.order_index.slots.IndexEntry.{IndexEntry}
use Rattle.book.specs.IndexNames.{same_name}
use Rattle.book.specs.Slots.{has, home, home_of, slot_from, ends_way, IsProbed, WayEnds}
use Rattle.book.proofs.SlotSteps.{slot-within, steps-apart}
use Rattle.book.proofs.SlotNames.{same-name, name-same, one-name, its-home, HasPlace, IsFound}
use Rattle.book.proofs.SlotWays.{Written}

pub same-or-not : (a b : ℕ) → (a ≡ b) ⊎ (a ≢ b)
same-or-not a b = grind arith

pub some-one : {x y : IndexEntry} → Some x ≡ Some y → x ≡ y
some-one h = cc

module _ (old new : ℕ → Option IndexEntry) (c n s : ℕ) (e : IndexEntry) (its : has c n e) (way : WayEnds old c n s)
    (free : old s ≡ None) (written : Written old new s (Some e)) where
  -- what stood before stands still
  pub still : (t : ℕ) (x : IndexEntry) → old t ≡ Some x → new t ≡ Some x
  still t x stands = written.others t (λ same. let there : old s ≡ Some x = ap old (sym same) ∙ stands in cc) ∙ stands

  -- what stands now is the new entry, or it stood before
  pub was : (t : ℕ) (x : IndexEntry) → new t ≡ Some x → ((t ≡ s) × (x ≡ e)) ⊎ ((t ≢ s) × (old t ≡ Some x))
  was t x stands = elim (same-or-not t s) [
    | inl same ↦ inl (same, some-one (sym stands ∙ (ap new same ∙ written.here)))
    | inr other ↦ inr (other, sym (written.others t other) ∙ stands)
  ]

  pub come : IsProbed old → IsFound old c n None → IsProbed new
  come probed none = record {
    within = λ t x stands. elim (was t x stands) [
      | inl (same, it) ↦ subst (λ k. k < 8192) (sym (same ∙ way.there)) (slot-within (home c n) way.steps)
      | inr (other, stood) ↦ probed.within t x stood
    ];
    apart = λ a b x y at_a at_b named. elim (was a x at_a) [
      | inl (same_a, it_a) ↦ elim (was b y at_b) [
        | inl (same_b, it_b) ↦ same_a ∙ sym same_b
        | inr (other_b, stood_b) ↦
            let its_x : has c n x = subst (λ z. has c n z) (sym it_a) its in
            absurd (none b y stood_b (both c n x y its_x named))
      ]
      | inr (other_a, stood_a) ↦ elim (was b y at_b) [
        | inl (same_b, it_b) ↦
            let its_y : has c n y = subst (λ z. has c n z) (sym it_b) its in
            absurd (none a x stood_a (back c n x y its_y named))
        | inr (other_b, stood_b) ↦ probed.apart a b x y stood_a stood_b named
      ]
    ];
    led = λ x d j few stands before gone. elim (was (slot_from (home_of x) d) x stands) [
      | inl (same, it) ↦
          let at_home : home_of x ≡ home c n = ap home_of it ∙ its-home c n e its in
          let same_steps = steps-apart (home c n) d way.steps few way.few
          (ap (λ h. slot_from h d) (sym at_home) ∙ (same ∙ way.there)) in
          let sooner : j < way.steps = omega arith in
          let other = way.passed j sooner in
          passed-taken (old (slot_from (home c n) j)) other refl
          (λ y stood. stays-taken (slot_from (home_of x) j) y (ap (λ h. old (slot_from h j)) at_home ∙ stood) gone)
      | inr (other, stood) ↦ elim-taken (old (slot_from (home_of x) j)) refl (probed.led x d j few stood before)
          (λ y there. stays-taken (slot_from (home_of x) j) y there gone)
    ];
  }
    where
      both : (c n : ℕ) (x y : IndexEntry) → has c n x → has x.client x.name y → has c n y
      both c n x y h k = let a = same-name c n x.client x.name h in
          let b = same-name x.client x.name y.client y.name k in
          name-same c n y.client y.name (b.0 ∙ a.0) (b.1 ∙ a.1)

      back : (c n : ℕ) (x y : IndexEntry) → has c n y → has x.client x.name y → has c n x
      back c n x y h k = let a = same-name c n y.client y.name h in
          let b = same-name x.client x.name y.client y.name k in
          name-same c n x.client x.name (sym b.0 ∙ a.0) (sym b.1 ∙ a.1)

      stays-taken : (t : ℕ) (y : IndexEntry) → old t ≡ Some y → new t ≡ None → ⊥
      stays-taken t y stood gone = let there = still t y stood in cc

      passed-taken : (o : Option IndexEntry) → ends_way c n o ≡ false → {o' : Option IndexEntry} → o' ≡ o
          → ((y : IndexEntry) → o' ≡ Some y → ⊥) → ⊥
      passed-taken None other is k = cc
      passed-taken (Some y) other is k = k y is

      elim-taken : (o : Option IndexEntry) → {o' : Option IndexEntry} → o' ≡ o → o' ≢ None
          → ((y : IndexEntry) → o' ≡ Some y → ⊥) → ⊥
      elim-taken None is h k = h is
      elim-taken (Some y) is h k = k y is

  pub come-here : HasPlace new c n e.place
  come-here = record { slot = s; entry = e; stands = written.here; is_it = its; place = refl }

  pub come-other : (x y : ℕ) → same_name c n x y ≡ false → (o : Option ℕ) → IsFound old x y o → IsFound new x y o
  come-other x y other None none = λ t z stands is_it. elim (was t z stands) [
    | inl (same, it) ↦ let one = one-name c n x y e its (subst (λ w. has x y w) it is_it) in cc
    | inr (other, stood) ↦ none t z stood is_it
  ]
  come-other x y other (Some p) it = record {
    slot = it.slot;
    entry = it.entry;
    stands = still it.slot it.entry it.stands;
    is_it = it.is_it;
    place = it.place;
  }

  -- each name is found where the new entry and the others say
  pub come-found : (x y : ℕ) (o : Option ℕ) → IsFound old x y o → (b : Bool) → same_name c n x y ≡ b
      → IsFound new x y (if b then Some e.place else o)
  come-found x y o it true same = let a = same-name c n x y same in
      subst (λ k. HasPlace new k y e.place) (sym a.0) (subst (λ k. HasPlace new c k e.place) (sym a.1) come-here)
  come-found x y o it false other = come-other x y other o it
