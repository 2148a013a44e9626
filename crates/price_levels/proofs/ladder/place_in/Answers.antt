-- The level there is the one that is looked for, and so the place.
use Rattle.std.proofs.Common.{sym, ◌∙◌}
use Rattle.price_levels.specs.Keys.{key_with}
use Rattle.price_levels.proofs.PlaceLemmas.{at-it-ahead, at-it-behind}
use Rattle.price_levels.proofs.ladder.place_in.Goals as goal

pub returns-then-holds-clause-before : goal.returns-then-holds-clause-before
returns-then-holds-clause-before c =
    at-it-ahead (key_with c.args.symbol.now c.args.side c.args.price) c.args.levels.now c.requires
    c.likely_place-at.result
    (sym c.holds.ensures ∙ c.if-holds.true)

pub returns-then-holds-clause-behind : goal.returns-then-holds-clause-behind
returns-then-holds-clause-behind c =
    at-it-behind (key_with c.args.symbol.now c.args.side c.args.price) c.args.levels.now c.requires
    c.likely_place-at.result
    (sym c.holds.ensures ∙ c.if-holds.true)
