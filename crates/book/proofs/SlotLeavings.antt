-- An entry leaves its slot: the others have the places that they had, and the table has a gap.
use Rattle.std.proofs.Common.{◌≡◌, ◌+◌, ◌<◌, ℕ, Bool, true, false, List, length, Option, Some, None, refl, ap, sym}
use Rattle.std.proofs.Common.{subst, ◌∙◌, arith}
use Rattle.std.specs.Prelude.{◌≢◌, slice_set, if◌then◌else◌}
use Rattle.std.proofs.Math.Path.{fun_ext}
use Rattle.std.proofs.lemmas.List.{length-set}
use Rattle.book.specs.declared.order_index.slots.IndexEntry.{IndexEntry}
use Rattle.book.specs.IndexNames.{same_name, place_of, without_name}
use Rattle.book.specs.Slots.{Slots, at, has, ends_way, entries_of, IsProbed, IsTable, HasGap, WayEnds}
use Rattle.book.proofs.SlotNames.{same-name, name-same, one-name, IsFound, found, found-once}
use Rattle.book.proofs.SlotWays.{Written}
use Rattle.book.proofs.SlotComings.{some-one}
use Rattle.book.proofs.SlotGaps.{leaves, opened}
use Rattle.book.proofs.SlotLemmas.{write, one-less, some-free}
use Rattle.book.proofs.SlotTables.{finds}

module _ (old new : ℕ → Option IndexEntry) (c n s : ℕ) (e : IndexEntry) (its : has c n e) (probed : IsProbed old)
    (stood : old s ≡ Some e) (written : Written old new s None) where
  pub gone-here : IsFound new c n None
  gone-here = λ t x there is_it.
      let (other, still) = leaves old new s e probed stood written t x there in
      let a = same-name c n e.client e.name its in
      let b = same-name c n x.client x.name is_it in
      other (sym (probed.apart s t e x stood still
      (name-same e.client e.name x.client x.name (b.0 ∙ sym a.0) (b.1 ∙ sym a.1))))

  pub gone-other : (x y : ℕ) → same_name c n x y ≡ false → (o : Option ℕ) → IsFound old x y o → IsFound new x y o
  gone-other x y differs None none = λ t z there is_it. none t z (leaves old new s e probed stood written t z there).1
      is_it
  gone-other x y differs (Some p) it =
      let other : it.slot ≢ s = λ same.
      let one : it.entry ≡ e = some-one (sym it.stands ∙ (ap old same ∙ stood)) in
      let named = one-name c n x y e its (subst (λ z. has x y z) one it.is_it) in
      cc in
      record {
        slot = it.slot;
        entry = it.entry;
        stands = written.others it.slot other ∙ it.stands;
        is_it = it.is_it;
        place = it.place;
      }

  -- each name is found where the others say, but the one that left
  pub gone-found : (x y : ℕ) (o : Option ℕ) → IsFound old x y o → (b : Bool) → same_name c n x y ≡ b
      → IsFound new x y (if b then None else o)
  gone-found x y o it true same =
      let a = same-name c n x y same in
      subst (λ k. IsFound new k y None) (sym a.0) (subst (λ k. IsFound new c k None) (sym a.1) gone-here)
  gone-found x y o it false differs = gone-other x y differs o it

-- the table with the gap
pub record IsOpened (slots after : Slots) (c n s : ℕ) : Type 0 where
  pub has_gap : HasGap after s s 1
  pub places : place_of (entries_of after) ≡ without_name c n (place_of (entries_of slots))
  pub entries : length (entries_of after) + 1 ≡ length (entries_of slots)

-- the entry that leaves
pub record Leaver (slots : Slots) (c n s : ℕ) : Type 0 where
  pub entry : IndexEntry
  pub stands : at slots s ≡ Some entry
  pub its : has c n entry

pub leaver : (slots : Slots) → IsTable slots → (c n s : ℕ) → WayEnds (at slots) c n s
    → place_of (entries_of slots) c n ≢ None → Leaver slots c n s
leaver slots table c n s way there = by_slot (at slots s) refl
  where
    by_slot : (o : Option IndexEntry) → at slots s ≡ o → Leaver slots c n s
    by_slot None free = absurd (there (sym (finds slots table c n s way None free)))
    by_slot (Some e) stands = record {
      entry = e;
      stands = stands;
      its = subst (λ o. ends_way c n o ≡ true) stands way.ends;
    }

pub opens : (slots : Slots) → IsTable slots → (c n s : ℕ) → Leaver slots c n s
    → IsOpened slots (slice_set slots s None) c n s
opens slots table c n s leaver =
    let probed = table.probed in
    let within : s < length slots = omega (arith, probed.within s leaver.entry leaver.stands, table.size) in
    let written = write slots s None within in
    let free = some-free slots (omega (arith, table.size, table.few)) in
    let closing = opened (at slots) (at (slice_set slots s None)) s leaver.entry probed leaver.stands written free.slot
    (omega (arith, free.within, table.size)) free.free in
    let fewer = one-less slots s leaver.entry leaver.stands in
    record {
      has_gap = record {
        size = length-set slots s None ∙ table.size;
        few = omega (arith, fewer, table.few);
        closing = closing;
      };
      places = fun_ext (λ x. fun_ext (λ y.
          found-once (at (slice_set slots s None)) closing.apart x y
          (place_of (entries_of (slice_set slots s None)) x y) (without_name c n (place_of (entries_of slots)) x y)
          (found (slice_set slots s None) x y)
          (gone-found (at slots) (at (slice_set slots s None)) c n s leaver.entry leaver.its probed leaver.stands
          written x y (place_of (entries_of slots) x y) (found slots x y) (same_name c n x y) refl)));
      entries = fewer;
    }

-- the removal, as the code reads the slots
pub removed : (slots seen : Slots) (view : List IndexEntry) → IsTable slots → seen ≡ slots → view ≡ entries_of slots
    → (c n s : ℕ) → WayEnds (at seen) c n s
    → place_of view c n ≢ None → IsOpened slots (slice_set slots s None) c n s
removed slots seen view table same is c n s way there =
    opens slots table c n s
    (leaver slots table c n s (subst (λ xs. WayEnds (at xs) c n s) same way)
    (subst (λ v. place_of v c n ≢ None) is there))
