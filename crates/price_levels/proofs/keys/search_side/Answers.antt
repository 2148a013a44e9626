-- The levels are parted by the test, since they stand in order.
use Rattle.std.proofs.Common.{◌≡◌, true, false, rules, arith}
use Rattle.std.proofs.lemmas.List.Sorted.{IsPartitionPoint-from_clause}
use Rattle.price_levels.specs.declared.keys.Level.{Level}
use Rattle.price_levels.specs.Keys.{before_side}
use Rattle.price_levels.proofs.SearchLemmas.{parted, side-down, all-take, all-drop}
use Rattle.price_levels.proofs.keys.search_side.Goals as goal

pub returns-clause-before : goal.returns-clause-before
returns-clause-before c =
    let levels = c.args.levels.now in
    let at = c.partition_point.result in
    let bound = c.partition_point.ensures.bound in
    let parts = parted (before_side c.args.symbol.now c.args.side) (side-down c.args.symbol.now c.args.side) levels
    c.requires in
    let point = IsPartitionPoint-from_clause (λ (l : Level). before_side c.args.symbol.now c.args.side l.key) levels at
    c.partition_point.ensures.partitioned parts (λ a r q h. search rules) in
    all-take (λ (l : Level). before_side c.args.symbol.now c.args.side l.key ≡ true) levels at bound
    (λ n d lt. point.0 n d
    (omega arith) lt)

pub returns-clause-behind : goal.returns-clause-behind
returns-clause-behind c =
    let levels = c.args.levels.now in
    let at = c.partition_point.result in
    let parts = parted (before_side c.args.symbol.now c.args.side) (side-down c.args.symbol.now c.args.side) levels
    c.requires in
    let point = IsPartitionPoint-from_clause (λ (l : Level). before_side c.args.symbol.now c.args.side l.key) levels at
    c.partition_point.ensures.partitioned parts (λ a r q h. search rules) in
    all-drop (λ (l : Level). before_side c.args.symbol.now c.args.side l.key ≡ false) levels at
    (λ n d le lt. point.1 n d le lt)
