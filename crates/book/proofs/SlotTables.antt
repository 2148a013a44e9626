-- The table keeps what holds of it, call by call; names are found where the entries say.
use Rattle.std.proofs.Common.{◌≡◌, ◌+◌, ◌<◌, ◌≤◌, ℕ, List, length, get_or, Option, Some, None, refl, ap, sym, subst}
use Rattle.std.proofs.Common.{◌∙◌, arith}
use Rattle.std.specs.Prelude.{◌≢◌, slice_set, replicate, IsSome}
use Rattle.std.proofs.Math.Path.{fun_ext}
use Rattle.std.proofs.lemmas.List.{get_or_read, length-set, length-replicate}
use Rattle.book.specs.declared.order_index.slots.IndexEntry.{IndexEntry}
use Rattle.book.specs.IndexNames.{same_name, place_of, with_name, most_entries}
use Rattle.book.specs.Slots.{Slots, at, has, entries_of, home_of, slot_from, IsProbed, IsTable, WayEnds}
use Rattle.book.proofs.SlotNames.{name-same, IsFound, found, found-once}
use Rattle.book.proofs.SlotWays.{place_at, way-finds}
use Rattle.book.proofs.SlotComings.{come, come-found}
use Rattle.book.proofs.SlotLemmas.{write, one-more, all-free, each-free}

pub empty-table : (n : ℕ) → n ≡ 8192 → IsTable (replicate n None)
empty-table n is = record {
  size = length-replicate n None ∙ is;
  few = subst (λ entries. length entries ≤ most_entries) (sym (all-free n)) (omega arith);
  probed = record {
    within = λ s e stands. let free = each-free n s in cc;
    apart = λ s t e x stands other named. let free = each-free n s in cc;
    led = λ e steps before few stands less. let free = each-free n (slot_from (home_of e) steps) in cc;
  };
}

module _ (slots : Slots) (table : IsTable slots) (c n s : ℕ) (way : WayEnds (at slots) c n s) where
  pub finds : (o : Option IndexEntry) → at slots s ≡ o → place_at o ≡ place_of (entries_of slots) c n
  finds o is = found-once (at slots) table.probed.apart c n (place_at o) (place_of (entries_of slots) c n)
      (way-finds (at slots) table.probed c n s way o is) (found slots c n)

  -- the name has no place: its way ends at a free slot
  pub fresh-free : place_of (entries_of slots) c n ≡ None → at slots s ≡ None
  fresh-free fresh = free (at slots s) refl
    where
      free : (o : Option IndexEntry) → at slots s ≡ o → at slots s ≡ None
      free None is = is
      free (Some e) is = let there = finds (Some e) is in cc

  module _ (fresh : place_of (entries_of slots) c n ≡ None) (within : s < length slots) (place : ℕ) where
    abbrev entry : IndexEntry
    entry = record { client = c; name = n; place = place }

    abbrev after : Slots
    after = slice_set slots s (Some entry)

    its : has c n entry
    its = name-same c n c n refl refl

    none : IsFound (at slots) c n None
    none = subst (λ o. IsFound (at slots) c n o) fresh (found slots c n)

    probed-after : IsProbed (at after)
    probed-after = come (at slots) (at after) c n s entry its way (fresh-free fresh) (write slots s (Some entry) within)
        table.probed none

    pub more : length (entries_of after) ≡ length (entries_of slots) + 1
    more = one-more slots s entry within (fresh-free fresh)

    pub insert-table : length (entries_of slots) < most_entries → IsTable after
    insert-table room = record {
      size = length-set slots s (Some entry) ∙ table.size;
      few = let grown = more in omega (arith, grown);
      probed = probed-after;
    }

    pub insert-places : place_of (entries_of after) ≡ with_name c n place (place_of (entries_of slots))
    insert-places = fun_ext (λ x. fun_ext (λ y.
        found-once (at after) probed-after.apart x y (place_of (entries_of after) x y)
        (with_name c n place (place_of (entries_of slots)) x y) (found after x y)
        (come-found (at slots) (at after) c n s entry its way (fresh-free fresh) (write slots s (Some entry) within) x y
        (place_of (entries_of slots) x y) (found slots x y) (same_name c n x y) refl)))

-- a read where the way ends
pub read-finds : (slots seen : Slots) → IsTable slots → seen ≡ slots → (c n s : ℕ) → WayEnds (at seen) c n s
    → s < length seen
    → (read : Option IndexEntry) → read ≡ get_or slots s read → (o : Option IndexEntry) → read ≡ o
    → place_at o ≡ place_of (entries_of slots) c n
read-finds slots seen table same c n s way within read is o was =
    let in_slots : s < length slots = subst (λ xs. s < length xs) same within in
    finds slots table c n s (subst (λ xs. WayEnds (at xs) c n s) same way) o
    (sym (get_or_read slots s read in_slots is None) ∙ was)

-- where a name has a place, what is read there is an entry
pub reads-entry : (slots seen : Slots) (view : List IndexEntry) → IsTable slots → seen ≡ slots → entries_of slots ≡ view
    → (c n s : ℕ)
    → WayEnds (at seen) c n s → s < length seen → place_of view c n ≢ None → (read : Option IndexEntry)
    → read ≡ get_or slots s read
    → (o : Option IndexEntry) → read ≡ o → IsSome o
reads-entry slots seen view table same view_is c n s way within there read is None was = absurd (there
    (ap (λ entries. place_of entries c n) (sym view_is) ∙ sym
    (read-finds slots seen table same c n s way within read is None was)))
reads-entry slots seen view table same view_is c n s way within there read is (Some e) was = refl

-- what an insertion makes of the table
pub record IsInsert (slots after : Slots) (c n place : ℕ) (before : List IndexEntry) : Type 0 where
  pub table : IsTable after
  pub places : place_of (entries_of after) ≡ with_name c n place (place_of before)
  pub entries : length (entries_of after) ≡ length before + 1

pub inserted : (slots seen : Slots) (view : List IndexEntry) → IsTable slots → seen ≡ slots → view ≡ entries_of slots
    → (c n s : ℕ) → WayEnds (at seen) c n s → s < length seen
    → place_of view c n ≡ None → length view < most_entries → (place : ℕ)
    → IsInsert slots (slice_set slots s (Some (record { client = c; name = n; place = place }))) c n place view
inserted slots seen view table same is c n s way within fresh room place =
    let in_slots : s < length slots = subst (λ xs. s < length xs) same within in
    let its_way : WayEnds (at slots) c n s = subst (λ xs. WayEnds (at xs) c n s) same way in
    let its_fresh : place_of (entries_of slots) c n ≡ None = subst (λ v. place_of v c n ≡ None) is fresh in
    let its_room : length (entries_of slots) < most_entries = subst (λ v. length v < most_entries) is room in
    subst (λ v. IsInsert slots (slice_set slots s (Some (record { client = c; name = n; place = place }))) c n place v)
    (sym is)
    (record {
      table = insert-table slots table c n s its_way its_fresh in_slots place its_room;
      places = insert-places slots table c n s its_way its_fresh in_slots place;
      entries = more slots table c n s its_way its_fresh in_slots place;
    })
