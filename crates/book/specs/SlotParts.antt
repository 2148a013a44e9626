-- How a slot is kept: an entry's parts beside a mark that one stands there, and zeros where none does.
use Rattle.std.specs.Prelude.{◌≡◌, ℕ, Bool, true, false, Option, Some, None, if◌then◌else◌}
use Rattle.std.proofs.Common.{refl, sym}
use Rattle.book.specs.declared.order_index.slots.IndexEntry.{IndexEntry}

abbrev pub entry_in : Bool → ℕ → ℕ → ℕ → Option IndexEntry
entry_in taken client name place = if taken then Some (record { client = client; name = name; place = place }) else None

-- a free slot is kept in one way
pub record IsKept (taken : Bool) (client name place : ℕ) : Type 0 where
  pub no_client : taken ≡ false → client ≡ 0
  pub no_name : taken ≡ false → name ≡ 0
  pub no_place : taken ≡ false → place ≡ 0

abbrev pub client_of : Option IndexEntry → ℕ
client_of None = 0
client_of (Some e) = e.client

abbrev pub name_of : Option IndexEntry → ℕ
name_of None = 0
name_of (Some e) = e.name

abbrev pub place_in : Option IndexEntry → ℕ
place_in None = 0
place_in (Some e) = e.place

abbrev pub some_in : Option IndexEntry → Bool
some_in None = false
some_in (Some e) = true

-- each part comes back
pub client-back : (taken : Bool) (client name place : ℕ) → IsKept taken client name place → client_of (entry_in taken client name place) ≡ client
client-back true client name place keeps = refl
client-back false client name place keeps = sym (keeps.no_client refl)

pub name-back : (taken : Bool) (client name place : ℕ) → IsKept taken client name place → name_of (entry_in taken client name place) ≡ name
name-back true client name place keeps = refl
name-back false client name place keeps = sym (keeps.no_name refl)

pub place-back : (taken : Bool) (client name place : ℕ) → IsKept taken client name place → place_in (entry_in taken client name place) ≡ place
place-back true client name place keeps = refl
place-back false client name place keeps = sym (keeps.no_place refl)

pub taken-back : (taken : Bool) (client name place : ℕ) → some_in (entry_in taken client name place) ≡ taken
taken-back true client name place = refl
taken-back false client name place = refl
