-- The levels behind it move.
use Rattle.std.proofs.Common.{◌+◌, ◌<◌, [], ◌++◌, List, length, take, drop, ap, ◌∙◌, arith}
use Rattle.std.proofs.lemmas.List.{length-drop}
use Rattle.price_levels.specs.declared.keys.Level.{Level}
use Rattle.price_levels.specs.Arena.{levels_with}
use Rattle.price_levels.specs.Ladders.{Levelled}
use Rattle.price_levels.proofs.GapLemmas.{goes-behind}
use Rattle.price_levels.proofs.ladder.Ladder.close_up.Goals as goal

pub returns-else-at-len-clause-levels : goal.returns-else-at-len-clause-levels
returns-else-at-len-clause-levels c =
    let start = c.close_long_gap-start.result in
    let list = c.close_long_gap-start.new.list.items in
    let seen = ap (λ (s : Levelled). length s.items) c.self.view_is in
    let same = ap (length {A = Level}) c.close_long_gap-start.ensures.levels in
    let rest = length-drop start list in
    let on : start + c.args.at < length list = omega (arith, seen, same, rest, c.requires) in
    ap (drop start) c.remove.ensures.items ∙ goes-behind list start c.args.at on
    ∙ ap (λ (levels : List Level). take c.args.at levels ++ drop (c.args.at + 1) levels)
    c.close_long_gap-start.ensures.levels
    ∙ ap (λ (s : Levelled). levels_with s.items c.args.at []) c.self.view_is
