-- A level of theirs isn't before them, nor is one behind it.
use Rattle.std.proofs.Common.{sym, ◌∙◌}
use Rattle.price_levels.proofs.LadderLemmas.{starts}
use Rattle.price_levels.proofs.ladder.start_of.Goals as goal

pub returns-then-is_of-clause-behind : goal.returns-then-is_of-clause-behind
returns-then-is_of-clause-behind c =
    starts c.args.symbol.now c.args.side c.args.levels.now c.index-levels-0.result c.requires c.index-levels-0.is
    (sym c.is_of.ensures ∙ c.if-is_of.true)
