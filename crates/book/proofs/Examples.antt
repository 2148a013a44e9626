-- Definitions computed on a book with one order at rest.
use Rattle.std.specs.Prelude.{◌≡◌, ℕ, false, List, [], ◌∷◌, ◌++◌, length, replicate, codes}
use Rattle.std.proofs.Common.{refl, ap}
use Rattle.venue_model.specs.declared.orders.Side.TheVariants.{Buy}
use Rattle.venue_model.specs.declared.orders.Order.{Order}
use Rattle.book.specs.Listing.{listing}
use Rattle.book.specs.Rows.{number_bytes, row_bytes}
use Rattle.book.specs.Snapshots.{snapshot_bytes}

-- the first command of a history: client 1 buys 100 of ABC at 50, under the ClOrdID 1
abbrev resting : Order
resting = record {
  id = 1;
  client = 1;
  cl_ord_id = 1;
  symbol = codes "ABC";
  side = Buy;
  is_market = false;
  price = 50;
  total = 100;
  cum = 0;
  notional = 0;
  stamp = 0;
}

abbrev taken : List ℕ
taken = snapshot_bytes (codes "ABC" ∷ []) 1 1 (1 ∷ replicate 7 0) (listing (codes "ABC" ∷ []) (resting ∷ []))

taken-is : taken ≡
    -- one command, one output
    (replicate 7 0 ++ 1 ∷ []) ++ (replicate 7 0 ++ 1 ∷ [])
    -- client 1's greatest ClOrdID, and those of the other seven
    ++ (replicate 7 0 ++ 1 ∷ []) ++ replicate 56 0
    -- one order: its id, client, ClOrdID, symbol and side
    ++ (0 ∷ 1 ∷ []) ++ (replicate 7 0 ++ 1 ∷ []) ++ (1 ∷ []) ++ (replicate 7 0 ++ 1 ∷ []) ++ (0 ∷ []) ++ (1 ∷ [])
    -- price, total and what was filled; notional and stamp
    ++ (0 ∷ 0 ∷ 0 ∷ 50 ∷ []) ++ (0 ∷ 0 ∷ 0 ∷ 100 ∷ []) ++ replicate 4 0 ++ replicate 16 0
unfolding number_bytes row_bytes
taken-is = refl

taken-long : length taken ≡ 129
unfolding number_bytes row_bytes
taken-long = ap length taken-is
