-- Ladders ahead stand before the symbol and side, ladders behind them don't, and have no level of theirs.
use Rattle.std.proofs.Common.{List, ap, sym, ◌∙◌, arith}
use Rattle.price_levels.specs.declared.keys.Key.{Key}
use Rattle.price_levels.specs.declared.keys.Level.{Level}
use Rattle.price_levels.specs.Arena.{first_in}
use Rattle.price_levels.proofs.LadderCalls.{one-ladder, first-is, rung-here}
use Rattle.price_levels.proofs.LadderSearches.{KeyLadder, key-ladder, there, its-order, is-rung, is-home}
use Rattle.price_levels.proofs.LadderSearches.{side-before, side-behind}
use Rattle.price_levels.proofs.ladders.Ladders.search_side.Goals.{After-self}
use Rattle.price_levels.proofs.ladders.Ladders.search_side.Goals as goal

abbrev any-key : After-self → Key
any-key c = record { symbol = c.args.symbol.now; side = c.args.side; price = 0 }

its : (c : After-self) → KeyLadder c.args.self.now c.self.inside.fences.items c.self.inside.homes.items
    c.self.inside.ladders.items c.self.inside.room (any-key c) c.ladder_of-ladder.result
its c = key-ladder (any-key c) c.ladder_of-ladder.result c.self.invariant c.self.view_is c.ladder_of-ladder.ensures

pub index-requires : goal.index-requires
index-requires c = let within = there (its (goal.at.index-requires c).After-self) in
    omega (arith, within, c.self.inside.ladders.ok.0)

pub start_of-at-requires : goal.start_of-at-requires
start_of-at-requires c =
    its-order (its (goal.at.start_of-at-requires c).After-self) c.index.ensures c.levels.ensures c.requires

pub returns : goal.returns
returns c = let its = its (goal.at.returns c).After-self in
    let here = c.index.ensures in let read = c.levels.ensures in let found = c.start_of-at.ensures in
    let rung = is-rung its here read _ found.within in let home = is-home its here read _ found.within in
    let it = one-ladder _ _ c.self.view_is rung.ladder here in
    record {
      rung = rung;
      home = home;
      before = side-before its here read _ found.within found.before;
      behind = side-behind its here read _ found.within found.behind;
      first = found.first
          ∙ ap (λ (levels : List Level). first_in c.args.symbol.now c.args.side levels c.start_of-at.result.0) read
          ∙ sym (first-is it c.args.symbol.now c.args.side (rung-here it rung) home.alone);
    }
