-- How the orders are kept: at places of the levels, with their names in the index.
use Rattle.std.specs.Prelude.{◌≡◌, ℕ, true, List, length, Some}
use Rattle.venue_model.specs.declared.orders.Order.{Order}
use Rattle.venue_model.specs.Requests.{is_named, most_resting}
use Rattle.price_levels.specs.Places.{Places, StandsAt, standing}
use Rattle.book.specs.declared.order_index.slots.IndexEntry.{IndexEntry}
use Rattle.book.specs.IndexNames.{place_of}
use Rattle.book.specs.Standing.{Rests}

-- the client's order of this name stands at this place
pub record HasName (places : Places) (client name p : ℕ) : Type 0 where
  pub order : Order
  pub stands : StandsAt places p order
  pub is_it : is_named client name order ≡ true

-- the index has each order that stands under its name, and no other
pub record IsIndexed (places : Places) (entries : List IndexEntry) : Type 0 where
  pub named : (p : ℕ) (o : Order) → StandsAt places p o → place_of entries o.client o.cl_ord_id ≡ Some p
  pub stands : (client name p : ℕ) → place_of entries client name ≡ Some p → HasName places client name p

-- levels, index and number of orders at any time
pub record AreKept (places : Places) (entries : List IndexEntry) (count : ℕ) : Type 0 where
  pub size : length places ≡ most_resting
  pub each : (p : ℕ) (o : Order) → StandsAt places p o → Rests o
  pub indexed : IsIndexed places entries
  pub counted : count ≡ length (standing places)
  pub as_many : length entries ≡ length (standing places)
