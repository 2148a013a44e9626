-- What the entries tell of a name, and what stands in the slots.
use Rattle.std.proofs.Common.{◌≡◌, ℕ, zero, suc, Bool, true, false, [], ◌∷◌, Option, Some, None, refl, ap, sym, subst}
use Rattle.std.proofs.Common.{◌∙◌, arith}
use Rattle.std.specs.Prelude.{if◌then◌else◌}
use Rattle.std.proofs.lemmas.Bool.Decides.{nat_tests}
use Rattle.book.specs.declared.order_index.slots.IndexEntry.{IndexEntry}
use Rattle.book.specs.IndexNames.{same_name, place_of}
use Rattle.book.specs.Slots.{Slots, at, has, entries_of, home, home_of}

pub same-name : (c n x y : ℕ) → same_name c n x y ≡ true → (x ≡ c) × (y ≡ n)
same-name c n x y h = (grind (arith, nat_tests), grind (arith, nat_tests))

pub name-same : (c n x y : ℕ) → x ≡ c → y ≡ n → same_name c n x y ≡ true
name-same c n x y h k = grind (arith, nat_tests)

-- two names of one entry are one
pub one-name : (c n x y : ℕ) (e : IndexEntry) → has c n e → has x y e → same_name c n x y ≡ true
one-name c n x y e h k =
    let a = same-name c n e.client e.name h in
    let b = same-name x y e.client e.name k in
    name-same c n x y (sym b.0 ∙ a.0) (sym b.1 ∙ a.1)

pub its-home : (c n : ℕ) (e : IndexEntry) → has c n e → home_of e ≡ home c n
its-home c n e h = let a = same-name c n e.client e.name h in ap (λ x. home x e.name) a.0 ∙ ap (λ y. home c y) a.1

-- an entry of this name stands in a slot, with this place
pub record HasPlace (at : ℕ → Option IndexEntry) (c n p : ℕ) : Type 0 where
  pub slot : ℕ
  pub entry : IndexEntry
  pub stands : at slot ≡ Some entry
  pub is_it : has c n entry
  pub place : entry.place ≡ p

-- what the slots tell of a name
abbrev pub IsFound : (ℕ → Option IndexEntry) → ℕ → ℕ → Option ℕ → Type 0
IsFound at c n None = (s : ℕ) (e : IndexEntry) → at s ≡ Some e → has c n e → ⊥
IsFound at c n (Some p) = HasPlace at c n p

pub found : (slots : Slots) (c n : ℕ) → IsFound (at slots) c n (place_of (entries_of slots) c n)
found [] c n = λ s e stands is_it. cc
found (None ∷ slots) c n = later (place_of (entries_of slots) c n) (found slots c n)
  where
    later : (o : Option ℕ) → IsFound (at slots) c n o → IsFound (at (None ∷ slots)) c n o
    later None none = λ s e stands is_it. elim s as (λ s. at (None ∷ slots) s ≡ Some e → ⊥)
        [ zero ↦ λ h. cc | suc t ↦ λ h. none t e h is_it ] stands
    later (Some p) has_place = record {
      slot = suc has_place.slot;
      entry = has_place.entry;
      stands = has_place.stands;
      is_it = has_place.is_it;
      place = has_place.place;
    }
found (Some x ∷ slots) c n = here (found slots c n) (same_name c n x.client x.name) refl
  where
    later : same_name c n x.client x.name ≡ false → (o : Option ℕ) → IsFound (at slots) c n o
        → IsFound (at (Some x ∷ slots)) c n o
    later other None none = λ s e stands is_it. elim s as (λ s. at (Some x ∷ slots) s ≡ Some e → ⊥) [
      | zero ↦ λ h. let same : x ≡ e = cc in let it = subst (λ y. has c n y) (sym same) is_it in cc
      | suc t ↦
          λ h. none t e h is_it
    ] stands
    later other (Some p) has_place = record {
      slot = suc has_place.slot;
      entry = has_place.entry;
      stands = has_place.stands;
      is_it = has_place.is_it;
      place = has_place.place;
    }

    here : IsFound (at slots) c n (place_of (entries_of slots) c n) → (b : Bool) → same_name c n x.client x.name ≡ b
        → IsFound (at (Some x ∷ slots)) c n (if b then Some x.place else place_of (entries_of slots) c n)
    here rest true it = record { slot = zero; entry = x; stands = refl; is_it = it; place = refl }
    here rest false other = later other (place_of (entries_of slots) c n) rest

-- where no name stands twice, the slots tell one thing
pub found-once : (at : ℕ → Option IndexEntry)
    → ((s t : ℕ) (e x : IndexEntry) → at s ≡ Some e → at t ≡ Some x → has e.client e.name x → s ≡ t)
    → (c n : ℕ) (o r : Option ℕ) → IsFound at c n o → IsFound at c n r → o ≡ r
found-once at apart c n None None h k = refl
found-once at apart c n None (Some p) h k = absurd (h k.slot k.entry k.stands k.is_it)
found-once at apart c n (Some p) None h k = absurd (k h.slot h.entry h.stands h.is_it)
found-once at apart c n (Some p) (Some q) h k =
    let a = same-name c n h.entry.client h.entry.name h.is_it in
    let b = same-name c n k.entry.client k.entry.name k.is_it in
    let same = apart h.slot k.slot h.entry k.entry h.stands k.stands
    (name-same h.entry.client h.entry.name k.entry.client k.entry.name (b.0 ∙ sym a.0) (b.1 ∙ sym a.1)) in
    let here = subst (λ s. at s ≡ Some k.entry) (sym same) k.stands in
    let it : h.entry ≡ k.entry = some-one (sym h.stands ∙ here) in
    ap (λ q. Some q) (sym h.place ∙ ap (λ (e : IndexEntry). e.place) it ∙ k.place)
  where
    some-one : {x y : IndexEntry} → Some x ≡ Some y → x ≡ y
    some-one h = cc
