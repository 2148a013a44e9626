-- The way to a name finds its entry, and where it ends a new entry may stand.
use Rattle.std.proofs.Common.{◌≡◌, ◌<◌, ℕ, true, false, Option, Some, None, refl, ap, sym, subst, ◌∙◌, inl, inr, ◌⊎◌}
use Rattle.std.proofs.Common.{arith}
use Rattle.std.specs.Prelude.{◌≢◌, option_map}
use Rattle.book.specs.declared.order_index.slots.IndexEntry.{IndexEntry}
use Rattle.book.specs.Slots.{home, slot_from, steps_to, ends_way, IsProbed, WayEnds}
use Rattle.book.proofs.SlotSteps.{home-within, steps-within, steps-lead}
use Rattle.book.proofs.SlotNames.{its-home, IsFound}

pub compared : (a b : ℕ) → (a < b) ⊎ ((a ≡ b) ⊎ (b < a))
compared a b = grind arith

-- one slot is another now
pub record Written (old new : ℕ → Option IndexEntry) (s : ℕ) (v : Option IndexEntry) : Type 0 where
  pub here : new s ≡ v
  pub others : (t : ℕ) → t ≢ s → new t ≡ old t

abbrev pub place_at : Option IndexEntry → Option ℕ
place_at o = option_map (λ e. e.place) o

module _ (at : ℕ → Option IndexEntry) (probed : IsProbed at) (c n s : ℕ) (way : WayEnds at c n s) where
  -- where it ends at a free slot, no entry has the name
  pub way-misses : at s ≡ None → IsFound at c n None
  way-misses free = λ t e stands is_it.
      let h = home c n in
      let d = steps_to h t in
      let few = steps-within h t in
      let lead = steps-lead h t (home-within c n) (probed.within t e stands) in
      let there : at (slot_from h d) ≡ Some e = ap at lead ∙ stands in
      let its = its-home c n e is_it in
      elim (compared d way.steps) [
        | inl before ↦
            let no = way.passed d before in
            let no_more : ends_way c n (Some e) ≡ false = subst (λ o. ends_way c n o ≡ false) there no in
            cc
        | inr rest ↦ elim rest [
          | inl same ↦ let free_there : at (slot_from h d) ≡ None = ap (λ k. at (slot_from h k)) same
              ∙ (ap at (sym way.there) ∙ free) in
              cc
          | inr behind ↦
              let its_way = probed.led e d way.steps few (subst (λ k. at (slot_from k d) ≡ Some e) (sym its) there)
              behind in
              its_way (ap (λ k. at (slot_from k way.steps)) its ∙ (ap at (sym way.there) ∙ free))
        ]
      ]

  pub way-finds : (o : Option IndexEntry) → at s ≡ o → IsFound at c n (place_at o)
  way-finds None free = way-misses free
  way-finds (Some e) stands = record {
    slot = s;
    entry = e;
    stands = stands;
    is_it = subst (λ o. ends_way c n o ≡ true) stands way.ends;
    place = refl;
  }
