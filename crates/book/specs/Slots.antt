-- The table of slots: where an entry may stand, so that the way from its home leads to it.
use Rattle.std.specs.Prelude.{◌≡◌, ◌≢◌, ℕ, ◌+◌, ◌-◌, ◌*◌, ◌/◌, ◌%◌, ◌^◌, ◌<◌, ◌≤◌, Bool, true, false, List, [], ◌∷◌, length, get_or, Option, Some, None}
use Rattle.book.specs.declared.order_index.slots.IndexEntry.{IndexEntry}
use Rattle.book.specs.IndexNames.{same_name, most_entries}

-- a slot holds an entry, or it is free
abbrev pub Slots : Type 0
Slots = List (Option IndexEntry)

-- what stands in a slot; beyond the last one nothing does
abbrev pub at : Slots → ℕ → Option IndexEntry
at slots s = get_or slots s None

-- the entry is this client's of this name
abbrev pub has : ℕ → ℕ → IndexEntry → Type 0
has client name e = same_name client name e.client e.name ≡ true

-- the entries, in the order of their slots
abbrev pub entries_of : Slots → List IndexEntry
entries_of [] = []
entries_of (None ∷ slots) = entries_of slots
entries_of (Some e ∷ slots) = e ∷ entries_of slots

-- where the way to a name begins: client and name mixed by a multiplication, of which the upper 13 bits count
unfoldable pub home : ℕ → ℕ → ℕ
home client name = ((name * 8) % 2 ^ 64 + client) % 2 ^ 64 * 0x9E37_79B9_7F4A_7C15 % 2 ^ 64 / 2 ^ 51

abbrev pub home_of : IndexEntry → ℕ
home_of e = home e.client e.name

-- the slot so many steps on; behind the last one comes the first
unfoldable pub slot_from : ℕ → ℕ → ℕ
slot_from s steps = (s + steps) % 8192

-- how many steps it is from a slot on to another
unfoldable pub steps_to : ℕ → ℕ → ℕ
steps_to s t = (t + 8192 - s) % 8192

-- the slots, by what stands in each: no name stands twice, and on the way from an entry's home to it no slot is free
pub record IsProbed (at : ℕ → Option IndexEntry) : Type 0 where
  pub within : (s : ℕ) (e : IndexEntry) → at s ≡ Some e → s < 8192
  pub apart : (s t : ℕ) (e x : IndexEntry) → at s ≡ Some e → at t ≡ Some x → has e.client e.name x → s ≡ t
  pub led : (e : IndexEntry) (steps before : ℕ) → steps < 8192 → at (slot_from (home_of e) steps) ≡ Some e
      → before < steps → at (slot_from (home_of e) before) ≢ None

-- the table: half of its slots stay free at least
pub record IsTable (slots : Slots) : Type 0 where
  pub size : length slots ≡ 8192
  pub few : length (entries_of slots) ≤ most_entries
  pub probed : IsProbed (at slots)

-- the way to a name ends at a slot that is free, or has the name's entry
abbrev pub ends_way : ℕ → ℕ → Option IndexEntry → Bool
ends_way client name None = true
ends_way client name (Some e) = same_name client name e.client e.name

-- from a name's home this slot is the first at which its way ends
pub record WayEnds (at : ℕ → Option IndexEntry) (client name s : ℕ) : Type 0 where
  pub steps : ℕ
  pub few : steps < 8192
  pub there : s ≡ slot_from (home client name) steps
  pub passed : (before : ℕ) → before < steps → ends_way client name (at (slot_from (home client name) before)) ≡ false
  pub ends : ends_way client name (at s) ≡ true

-- a slot on an entry's way is taken, or it is the gap and the entry stands where the closing of the gap hasn't come yet
abbrev pub IsLed : (ℕ → Option IndexEntry) → ℕ → ℕ → ℕ → ℕ → ℕ → Type 0
IsLed at start gap step s t = (at t ≡ None) → (t ≡ gap) × (step ≤ steps_to start s)

-- while a gap is closed that began at a slot, and the slots fewer than so many steps on have been seen: another slot
-- farther on is free
pub record IsClosing (at : ℕ → Option IndexEntry) (start gap step : ℕ) : Type 0 where
  pub from : start < 8192
  pub behind : ℕ
  pub behind_few : behind < step
  pub gap_is : gap ≡ slot_from start behind
  pub gap_free : at gap ≡ None
  pub ahead : ℕ
  pub ahead_far : step ≤ ahead
  pub ahead_few : ahead < 8192
  pub ahead_free : at (slot_from start ahead) ≡ None
  pub within : (s : ℕ) (e : IndexEntry) → at s ≡ Some e → s < 8192
  pub apart : (s t : ℕ) (e x : IndexEntry) → at s ≡ Some e → at t ≡ Some x → has e.client e.name x → s ≡ t
  pub led : (e : IndexEntry) (steps before : ℕ) → steps < 8192 → at (slot_from (home_of e) steps) ≡ Some e
      → before < steps → IsLed at start gap step (slot_from (home_of e) steps) (slot_from (home_of e) before)

-- the table with a gap
pub record HasGap (slots : Slots) (start gap step : ℕ) : Type 0 where
  pub size : length slots ≡ 8192
  pub few : length (entries_of slots) ≤ most_entries
  pub closing : IsClosing (at slots) start gap step
