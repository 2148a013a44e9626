-- The level is read where it stands.
use Rattle.std.proofs.Common.{sym, ◌∙◌}
use Rattle.price_levels.proofs.FirstLemmas.{first-none, first-here, first-other}
use Rattle.price_levels.proofs.finds.first_in.Goals as goal

pub returns-then-levels-at : goal.returns-then-levels-at
returns-then-levels-at c = sym (first-none c.args.symbol.now c.args.side c.args.levels.now c.args.at
    c.if-levels-at.true)

pub returns-then-is_of : goal.returns-then-is_of
returns-then-is_of c =
    sym (first-here c.args.symbol.now c.args.side c.args.levels.now c.args.at c.index-levels-at.result
    c.if-levels-at.false
    c.index-levels-at.is
    (sym c.is_of.ensures ∙ c.if-is_of.true))

pub returns-else-is_of : goal.returns-else-is_of
returns-else-is_of c =
    sym (first-other c.args.symbol.now c.args.side c.args.levels.now c.args.at c.index-levels-at.result
    c.if-levels-at.false
    c.index-levels-at.is
    (sym c.is_of.ensures ∙ c.if-is_of.false))
