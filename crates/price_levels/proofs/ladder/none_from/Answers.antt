-- Where the level there isn't before the key, none behind it is.
use Rattle.std.proofs.Common.{arith, sym, ◌∙◌}
use Rattle.std.proofs.lemmas.Bool.{not-true}
use Rattle.price_levels.specs.Keys.{key_with}
use Rattle.price_levels.proofs.SearchLemmas.{by-price}
use Rattle.price_levels.proofs.PlaceLemmas.{none-behind}
use Rattle.price_levels.proofs.ladder.none_from.Goals as goal

pub returns-then-is_of : goal.returns-then-is_of
returns-then-is_of c = λ none.
    let k = key_with c.args.symbol.now c.args.side c.args.price in
    let l = c.index-levels-at.result in
    none-behind k c.args.levels.now c.requires.order c.args.at l (omega (
      arith,
      c.requires.within,
      c.if-at-levels.false,
    ))
    c.index-levels-at.is (by-price l.key k (sym c.is_of.ensures ∙ c.if-is_of.true) ∙ sym c.price_before.ensures
    ∙ not-true c.price_before.result none)
