-- From lists of slots to what stands in each: writes, and how many entries there are.
use Rattle.std.proofs.Common.{◌≡◌, ◌+◌, ◌<◌, ◌≤◌, ℕ, zero, suc, true, false, [], ◌∷◌, length, Option, Some, None, refl}
use Rattle.std.proofs.Common.{ap, ◌∙◌, arith, get_or-set_same, get_or-set_other}
use Rattle.std.specs.Prelude.{slice_set, replicate}
use Rattle.book.specs.declared.order_index.slots.IndexEntry.{IndexEntry}
use Rattle.book.specs.Slots.{Slots, at, entries_of, ends_way, home, slot_from, steps_to, IsTable}
use Rattle.book.proofs.SlotSteps.{home-within, steps-within, steps-lead}
use Rattle.book.proofs.SlotWays.{Written}

pub write : (slots : Slots) (s : ℕ) (v : Option IndexEntry) → s < length slots
    → Written (at slots) (at (slice_set slots s v)) s v
write slots s v within = record {
  here = get_or-set_same slots s v None within;
  others = λ t other. get_or-set_other slots s t v None other;
}

pub one-more : (slots : Slots) (s : ℕ) (e : IndexEntry) → s < length slots → at slots s ≡ None
    → length (entries_of (slice_set slots s (Some e))) ≡ length (entries_of slots) + 1
one-more [] s e within free = absurd (omega arith)
one-more (None ∷ slots) zero e within free = omega arith
one-more (Some x ∷ slots) zero e within free = cc
one-more (None ∷ slots) (suc s) e within free = one-more slots s e (omega arith) free
one-more (Some x ∷ slots) (suc s) e within free = let rest = one-more slots s e (omega arith) free in
    omega (arith, rest)

pub one-less : (slots : Slots) (s : ℕ) (e : IndexEntry) → at slots s ≡ Some e
    → length (entries_of (slice_set slots s None)) + 1 ≡ length (entries_of slots)
one-less [] s e stands = cc
one-less (None ∷ slots) zero e stands = cc
one-less (Some x ∷ slots) zero e stands = omega arith
one-less (None ∷ slots) (suc s) e stands = one-less slots s e stands
one-less (Some x ∷ slots) (suc s) e stands = let rest = one-less slots s e stands in omega (arith, rest)

pub beyond : (slots : Slots) (s : ℕ) (e : IndexEntry) → at slots s ≡ Some e → s < length slots
beyond [] s e stands = cc
beyond (o ∷ slots) zero e stands = omega arith
beyond (o ∷ slots) (suc s) e stands = let rest = beyond slots s e stands in omega (arith, rest)

-- a free slot, where there are more slots than entries
pub record Free (slots : Slots) : Type 0 where
  pub slot : ℕ
  pub within : slot < length slots
  pub free : at slots slot ≡ None

pub some-free : (slots : Slots) → length (entries_of slots) < length slots → Free slots
some-free [] room = absurd (omega arith)
some-free (None ∷ slots) room = record { slot = zero; within = omega arith; free = refl }
some-free (Some e ∷ slots) room =
    let rest = some-free slots (omega arith) in
    record { slot = suc rest.slot; within = omega (arith, rest.within); free = rest.free }

pub all-free : (n : ℕ) → entries_of (replicate n None) ≡ []
all-free zero = refl
all-free (suc n) = all-free n

pub each-free : (n s : ℕ) → at (replicate n None) s ≡ None
each-free zero s = refl
each-free (suc n) zero = refl
each-free (suc n) (suc s) = each-free n s

-- no way leads past all slots
pub never-full : (slots : Slots) → IsTable slots → (c n steps : ℕ) → 8192 ≤ steps
    → ((before : ℕ) → before < steps → ends_way c n (at slots (slot_from (home c n) before)) ≡ false) → ⊥
never-full slots table c n steps all passed =
    let room : length (entries_of slots) < length slots = omega (arith, table.size, table.few) in
    let free = some-free slots room in
    let within : free.slot < 8192 = omega (arith, free.within, table.size) in
    let d = steps_to (home c n) free.slot in
    let there = steps-lead (home c n) free.slot (home-within c n) within in
    let sooner : d < steps = omega (arith, steps-within (home c n) free.slot) in
    let ends : ends_way c n (at slots (slot_from (home c n) d))
    ≡ true = ap (λ s. ends_way c n (at slots s)) there ∙ ap (λ o. ends_way c n o) free.free in
    let passed_it = passed d sooner in
    cc
