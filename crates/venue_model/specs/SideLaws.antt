-- The two sides, and the prices of one that meet the other's.
use Rattle.std.proofs.Common.{◌≡◌, ℕ, ◌≤◌, true, not, refl, arith}
use Rattle.std.proofs.lemmas.Bool.Decides.{nat_tests}
use Rattle.venue_model.specs.declared.commands.OrdType.TheVariants.{Market}
use Rattle.venue_model.specs.declared.orders.Side.{Side}
use Rattle.venue_model.specs.declared.orders.Side.TheVariants.{Buy, Sell}
use Rattle.venue_model.specs.Orders.{opposite, same_side, meets, price_of}

-- the test tells the sides apart
pub one_side : (a b : Side) → same_side a b ≡ true → a ≡ b
one_side Buy Buy h = refl
one_side Sell Sell h = refl
one_side Buy Sell h = cc
one_side Sell Buy h = cc

pub side_itself : (a b : Side) → a ≡ b → same_side a b ≡ true
side_itself Buy Buy h = refl
side_itself Sell Sell h = refl
side_itself Buy Sell h = cc
side_itself Sell Buy h = cc

-- prices meet from opposite sides
pub met_side : (side : Side) (p : ℕ) (other : Side) (q : ℕ) → meets side p other q ≡ true → other ≡ opposite side
met_side Buy p Buy q h = cc
met_side Buy p Sell q h = refl
met_side Sell p Buy q h = refl
met_side Sell p Sell q h = cc

-- the price of a market order is met by each of the other side that is in range
pub market_meets : (side other : Side) (q : ℕ) → q ≤ 1000000 →
    meets side (price_of side Market) other q ≡ not (same_side side other)
market_meets Buy Buy q most = refl
market_meets Buy Sell q most = grind (arith, nat_tests, most)
market_meets Sell Buy q most = grind (arith, nat_tests)
market_meets Sell Sell q most = refl
