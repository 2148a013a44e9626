-- Where the level ahead stands before the key, so do all ahead of that one.
use Rattle.std.proofs.Common.{arith, sym, ◌∙◌}
use Rattle.price_levels.specs.Keys.{key_with}
use Rattle.price_levels.proofs.SearchLemmas.{by-price}
use Rattle.price_levels.proofs.PlaceLemmas.{all-ahead}
use Rattle.price_levels.proofs.ladder.are_ahead.Goals as goal

pub returns-then-is_of : goal.returns-then-is_of
returns-then-is_of c = λ better.
    let k = key_with c.args.symbol.now c.args.side c.args.price in
    let l = c.index-levels-at.result in
    all-ahead k c.args.levels.now c.requires.order c.args.at l (omega (arith, c.if-at-eq0.false)) c.requires.within
    c.index-levels-at.is (by-price l.key k (sym c.is_of.ensures ∙ c.if-is_of.true) ∙ sym c.price_before.ensures
    ∙ better)
