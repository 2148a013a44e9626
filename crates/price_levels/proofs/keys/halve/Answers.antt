-- A look at the middle says in which half the levels of a better price end.
use Rattle.std.proofs.Common.{◌+◌, ◌-◌, ◌/◌, arith, sym, ◌∙◌}
use Rattle.venue_model.specs.Orders.{is_better}
use Rattle.price_levels.specs.declared.keys.Level.{Level}
use Rattle.price_levels.proofs.CountLemmas.{ends-behind, ends-before}
use Rattle.price_levels.proofs.keys.halve.Goals as goal

pub loop-upto-preserved-then-price_before : goal.loop-upto-preserved-then-price_before
loop-upto-preserved-then-price_before c =
    let end = ends-behind (λ (l : Level). is_better c.args.side l.key.price c.args.price) c.args.levels.now c.requires
    (c.loop-upto.from + (c.loop-upto.upto - c.loop-upto.from) / 2) c.index-levels-middle.result (omega arith)
    (sym c.price_before.ensures ∙ c.if-price_before.true) in
    record { from = omega (arith, end); upto = c.loop-upto.invariant.upto; within = c.loop-upto.invariant.within }

pub loop-upto-preserved : goal.loop-upto-preserved
loop-upto-preserved c =
    let end = ends-before (λ (l : Level). is_better c.args.side l.key.price c.args.price) c.args.levels.now c.requires
    (c.loop-upto.from + (c.loop-upto.upto - c.loop-upto.from) / 2) c.index-levels-middle.result
    (sym c.price_before.ensures ∙ c.if-price_before.false) (omega arith) in
    record { from = c.loop-upto.invariant.from; upto = end; within = omega arith }
