-- A look at the last of eight says whether the levels of a better price end behind it.
use Rattle.std.proofs.Common.{◌+◌, ◌*◌, arith}
use Rattle.price_levels.specs.Keys.{count_better}
use Rattle.price_levels.proofs.CountLemmas.{one-look, eights-on}
use Rattle.price_levels.proofs.keys.count_eights.Goals as goal

pub eights-preserved : goal.eights-preserved
eights-preserved c =
    let look = one-look c.args.side c.args.price c.args.levels.now (c.args.from + 8 * c.eights.eight + 7)
    c.index-levels-from.result
    c.price_before.result c.requires.order (omega arith) c.price_before.ensures in
    let on = eights-on c.args.from c.eights.eights c.eights.eight c.from-eights.result
    (count_better c.args.side c.args.price
    c.args.levels.now) c.price_before.result look c.from-eights.ensures c.eights.invariant.at c.eights.invariant.all
    c.eights.invariant.end in
    record { at = on.0; all = on.1; end = on.2 }
