-- A look at the next level says whether those of a better price end behind it.
use Rattle.std.proofs.Common.{◌≤◌, ◌+◌, arith}
use Rattle.price_levels.specs.Keys.{count_better, BetterFirst}
use Rattle.price_levels.proofs.CountLemmas.{one-look, look-most, count-on}
use Rattle.price_levels.proofs.keys.count_some.Goals as goal

pub levels-preserved : goal.levels-preserved
levels-preserved c =
    let before = c.levels.invariant in
    let end = count_better c.args.side c.args.price c.args.levels.now in
    let one = look-most c.from-at.result c.price_before.result c.from-at.ensures in
    let on = λ (parts : BetterFirst c.args.side c.args.price c.args.levels.now) (start : c.args.from ≤ end).
    count-on c.levels.at (c.args.from + c.levels.next) c.from-at.result end c.price_before.result
    (one-look c.args.side c.args.price c.args.levels.now (c.args.from + c.levels.next) c.index-levels-from.result
    c.price_before.result parts (omega arith) c.price_before.ensures) c.from-at.ensures (before.all parts)
    (before.end parts start) in
    record {
      most = omega (arith, one, before.most);
      all = λ parts more. let past = (on parts (omega (arith, more))).0 in omega (arith, past, more);
      end = λ parts start less. let past = (on parts start).1 in omega (arith, past, less);
    }
