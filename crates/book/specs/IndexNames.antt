-- What contracts see of the index: its entries, in an order of which nothing is said. They tell the place of each name.
use Rattle.std.specs.Prelude.{ℕ, Bool, ◌&&◌, nat_eq, List, [], ◌∷◌, Option, Some, None, if◌then◌else◌}
use Rattle.book.specs.declared.order_index.slots.IndexEntry.{IndexEntry}

-- from a client and its name for one of its orders (ClOrdID) to the place where the order rests
abbrev pub PlaceOf : Type 0
PlaceOf = ℕ → ℕ → Option ℕ

-- how many entries there are at most
abbrev pub most_entries : ℕ
most_entries = 4096

-- both are one client's name
abbrev pub same_name : ℕ → ℕ → ℕ → ℕ → Bool
same_name client name other_client other_name = nat_eq other_client client && nat_eq other_name name

-- the place under a client's name, where an entry has it
abbrev pub place_of : List IndexEntry → PlaceOf
place_of [] client name = None
place_of (e ∷ entries) client name = if same_name client name e.client e.name then Some e.place else place_of entries client name

-- this name has this place, all others have what they had
abbrev pub with_name : ℕ → ℕ → ℕ → PlaceOf → PlaceOf
with_name client name place old = λ c n. if same_name client name c n then Some place else old c n

-- this name has no place, all others have what they had
abbrev pub without_name : ℕ → ℕ → PlaceOf → PlaceOf
without_name client name old = λ c n. if same_name client name c n then None else old c n
