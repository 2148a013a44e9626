-- The levels in ladders: those of all symbols and sides between two fences are a list of their own.
use Rattle.std.specs.Prelude.{◌≡◌, ⊤, ℕ, zero, suc, ◌+◌, ◌<◌, ◌≤◌, Bool, true, false, List, [], ◌∷◌, ◌++◌, length, map, get_or, take, drop, MatchOption, if◌then◌else◌}
use Rattle.std.specs.List.{AllByRecursion}
use Rattle.std.specs.Str.{bytes_eq}
use Rattle.venue_model.specs.declared.orders.Side.{Side}
use Rattle.venue_model.specs.declared.orders.Side.TheVariants.{Buy, Sell}
use Rattle.price_levels.specs.declared.keys.Level.{Level}
use Rattle.price_levels.specs.declared.nodes.Node.{Node}
use Rattle.price_levels.specs.declared.ladder.TheConstants.{GAP}
use Rattle.price_levels.specs.declared.ladders.Fence.{Fence}
use Rattle.price_levels.specs.declared.ladders.Home.{Home}
use Rattle.price_levels.specs.declared.ladders.Rung.{Rung}
use Rattle.price_levels.specs.Keys.{symbol_before, side_before}
use Rattle.price_levels.specs.Arena.{of_side, IsLevels}

-- what contracts see of one ladder: its levels, and how many it has room for
pub record Levelled : Type 0 where
  pub items : List Level
  pub room : ℕ

-- its levels begin at a place of the list, behind a gap
pub record IsBehindGap (start : ℕ) (list : List Level) : Type 0 where
  pub within : start ≤ length list
  pub short : start ≤ GAP

-- what contracts see: the fences, a ladder more than those, and how many levels each has room for
pub record Laddered : Type 0 where
  pub fences : List Fence
  pub ladders : List (List Level)
  pub room : ℕ

-- ladder by ladder
abbrev pub joined : List (List Level) → List Level
joined [] = []
joined (levels ∷ ladders) = levels ++ joined ladders

-- all levels
abbrev pub all : Laddered → List Level
all l = joined l.ladders

-- the place of a rung among all levels
abbrev pub rung_number : Laddered → Rung → ℕ
rung_number l r = length (joined (take r.ladder l.ladders)) + r.at

-- the levels of the ladder that a rung is of
abbrev pub around : Laddered → Rung → List Level
around l r = get_or l.ladders r.ladder []

-- the levels of the ladders behind it
abbrev pub beyond : Laddered → Rung → List Level
beyond l r = joined (drop (suc r.ladder) l.ladders)

-- a place in a ladder, or the one behind its last
pub record IsRung (l : Laddered) (r : Rung) : Type 0 where
  pub ladder : r.ladder < length l.ladders
  pub within : r.at ≤ length (around l r)

-- a level stands there
pub record IsOn (l : Laddered) (r : Rung) : Type 0 where
  pub ladder : r.ladder < length l.ladders
  pub on : r.at < length (around l r)

-- a symbol and side stand before a fence
abbrev pub is_before : Fence → List ℕ → Side → Bool
is_before f symbol side = if bytes_eq symbol f.symbol then side_before side f.side false else symbol_before symbol f.symbol

-- their levels stand in the ladder of this number: behind all fences ahead of it, and before the next
abbrev pub BelongsToHome : List Fence → ℕ → List ℕ → Side → Type 0
BelongsToHome [] zero symbol side = ⊤
BelongsToHome [] (suc i) symbol side = ⊥
BelongsToHome (f ∷ fences) zero symbol side = is_before f symbol side ≡ true
BelongsToHome (f ∷ fences) (suc i) symbol side = (is_before f symbol side ≡ false) × BelongsToHome fences i symbol side

-- the ladder that a node names is its order's
abbrev pub NamesLadder : List Fence → Node → Type 0
NamesLadder fences n = MatchOption n.order ⊤ (λ o. BelongsToHome fences n.ladder o.symbol o.side)

abbrev pub NameLadders : List Fence → List Node → Type 0
NameLadders fences nodes = AllByRecursion (NamesLadder fences) nodes

-- the levels in ladders are those of the orders that stand at these nodes, whose other places are free
pub record StandInLadders (nodes : List Node) (free : List ℕ) (l : Laddered) : Type 0 where
  pub levels : IsLevels nodes free (all l)
  pub named : NameLadders l.fences nodes

-- the rung's ladder is theirs, and none of their levels stands farther on
pub record IsHome (l : Laddered) (r : Rung) (symbol : List ℕ) (side : Side) : Type 0 where
  pub belongs : BelongsToHome l.fences r.ladder symbol side
  pub alone : AllByRecursion (λ (m : Level). of_side symbol side m.key ≡ false) (beyond l r)

-- each level stands where it belongs
abbrev pub AreParted : List Fence → List (List Level) → Type 0
AreParted fences ladders = (i : ℕ) → AllByRecursion (λ (m : Level). BelongsToHome fences i m.key.symbol m.key.side) (get_or ladders i [])

abbrev pub items_of : List Levelled → List (List Level)
items_of ladders = map (λ v. v.items) ladders

-- a ladder without levels, with room for so many
abbrev pub IsEmpty : ℕ → Levelled → Type 0
IsEmpty room v = (v.items ≡ []) × (room ≤ v.room)

-- where a symbol's ladders are
pub record IsHomeOf (fences : List Fence) (home : Home) : Type 0 where
  pub buys : BelongsToHome fences home.buys home.symbol Buy
  pub sells : BelongsToHome fences home.sells home.symbol Sell

pub record AreLadders (fences : List Fence) (homes : List Home) (ladders : List Levelled) (room : ℕ) : Type 0 where
  pub count : length ladders ≡ suc (length fences)
  pub parted : AreParted fences (items_of ladders)
  pub roomy : AllByRecursion (λ v. room ≤ v.room) ladders
  pub known : AllByRecursion (IsHomeOf fences) homes
