-- The levels are parted by the test, since they stand in order.
use Rattle.std.proofs.Common.{◌≡◌, true, false, rules, arith}
use Rattle.std.proofs.lemmas.List.Sorted.{IsPartitionPoint-from_clause}
use Rattle.price_levels.specs.declared.keys.Level.{Level}
use Rattle.price_levels.specs.Keys.{key_before}
use Rattle.price_levels.proofs.KeyLemmas.{key-trans}
use Rattle.price_levels.proofs.SearchLemmas.{parted, all-take, all-drop}
use Rattle.price_levels.proofs.keys.search.Goals as goal

pub returns-clause-before : goal.returns-clause-before
returns-clause-before c =
    let k = c.args.key.now in
    let levels = c.args.levels.now in
    let at = c.partition_point.result in
    let bound = c.partition_point.ensures.bound in
    let parts = parted (λ j. key_before j k) (λ a b h g. key-trans a b k h g) levels c.requires in
    let point = IsPartitionPoint-from_clause (λ (l : Level). key_before l.key k) levels at
    c.partition_point.ensures.partitioned parts
    (λ a r q h. search rules) in
    all-take (λ (l : Level). key_before l.key k ≡ true) levels at bound (λ n d lt. point.0 n d (omega arith) lt)

pub returns-clause-behind : goal.returns-clause-behind
returns-clause-behind c =
    let k = c.args.key.now in
    let levels = c.args.levels.now in
    let at = c.partition_point.result in
    let parts = parted (λ j. key_before j k) (λ a b h g. key-trans a b k h g) levels c.requires in
    let point = IsPartitionPoint-from_clause (λ (l : Level). key_before l.key k) levels at
    c.partition_point.ensures.partitioned parts
    (λ a r q h. search rules) in
    all-drop (λ (l : Level). key_before l.key k ≡ false) levels at (λ n d le lt. point.1 n d le lt)
