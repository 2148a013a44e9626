-- Ladders ahead stand before the key, ladders behind it don't.
use Rattle.std.proofs.Common.{List, length, ◌<◌, ap, sym, subst, ◌∙◌, arith}
use Rattle.price_levels.specs.declared.keys.Level.{Level}
use Rattle.price_levels.specs.Arena.{holds}
use Rattle.price_levels.proofs.LevelLists.{holds-within}
use Rattle.price_levels.proofs.LadderCalls.{one-ladder, holds-is-here, rung-here, on-there}
use Rattle.price_levels.proofs.LadderSearches.{key-ladder, there, its-order, is-rung, is-home, key-before, key-behind}
use Rattle.price_levels.specs.Keys.{key_with}
use Rattle.price_levels.proofs.ladders.Ladders.search_in.Goals as goal

pub index-requires : goal.index-requires
index-requires c =
    let within = there (key-ladder (key_with c.args.symbol.now c.args.side c.args.price) c.args.ladder
    c.self.invariant c.self.view_is c.requires.belongs) in
    omega (arith, within, c.self.inside.ladders.ok.0)

pub place_in-at-requires : goal.place_in-at-requires
place_in-at-requires c = its-order (key-ladder (key_with c.args.symbol.now c.args.side c.args.price) c.args.ladder
    c.self.invariant c.self.view_is c.requires.belongs) c.index.ensures c.levels.ensures c.requires.order

pub returns : goal.returns
returns c = let k = key_with c.args.symbol.now c.args.side c.args.price in
    let its = key-ladder k c.args.ladder c.self.invariant c.self.view_is c.requires.belongs in
    let here = c.index.ensures in let read = c.levels.ensures in let found = c.place_in-at.ensures in
    let at = c.place_in-at.result.0 in let rung = is-rung its here read at found.within in
    let home = is-home its here read at found.within in
    let it = one-ladder c.self.inside.ladders.items (record { ladder = c.args.ladder; at = at }) c.self.view_is
    rung.ladder here in
    record {
      rung = rung;
      home = home;
      before = key-before its here read at found.within found.before;
      behind = key-behind its here read at found.within found.behind;
      holds = found.holds ∙ ap (λ (levels : List Level). holds levels at k) read
          ∙ sym (holds-is-here it k (rung-here it rung) home.alone);
      on = λ yes. on-there it (subst (λ (levels : List Level). at < length levels) read
          (holds-within c.levels.result.now at k (sym found.holds ∙ yes)));
    }
