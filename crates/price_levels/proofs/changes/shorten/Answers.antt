-- One level is written, by the neighbours that there are.
use Rattle.std.proofs.Common.{◌∙◌}
use Rattle.price_levels.specs.Ladders.{all, rung_number}
use Rattle.price_levels.proofs.ShortenLemmas.{first-gone, last-gone, inner-gone}
use Rattle.price_levels.proofs.LadderEnds.{on-all}
use Rattle.price_levels.proofs.changes.shorten.Goals as goal

pub returns-in-None-Some-clause-levels : goal.returns-in-None-Some-clause-levels
returns-in-None-Some-clause-levels c = λ level is.
    let l = c.args.ladders.now in
    c.set.ensures.levels ∙ first-gone (all l) (rung_number l c.args.rung) level c.level-level.result c.args.prev
    c.args.next c.args.quantity c.saturating_sub.result c.saturating_sub-2.result
    (on-all l c.args.rung c.requires.on) is c.level-level.ensures c.saturating_sub.ensures c.saturating_sub-2.ensures
    c.in-None-Some.first c.in-None-Some.is-0 c.in-None-Some.is-1

pub returns-in-Some-None-clause-levels : goal.returns-in-Some-None-clause-levels
returns-in-Some-None-clause-levels c = λ level is.
    let l = c.args.ladders.now in
    c.set-in-Some-None.ensures.levels ∙ last-gone (all l) (rung_number l c.args.rung) level c.level-level.result
    c.args.prev c.args.next c.args.quantity c.saturating_sub.result c.saturating_sub-2.result
    (on-all l c.args.rung c.requires.on) is c.level-level.ensures c.saturating_sub.ensures c.saturating_sub-2.ensures
    c.in-Some-None.last c.in-Some-None.is-0 c.in-Some-None.is-1

pub returns-in-Some-Some-clause-levels : goal.returns-in-Some-Some-clause-levels
returns-in-Some-Some-clause-levels c = λ level is.
    let l = c.args.ladders.now in
    c.set-in-Some-Some.ensures.levels ∙ inner-gone (all l) (rung_number l c.args.rung) level c.level-level.result
    c.args.prev c.args.next c.args.quantity c.saturating_sub.result c.saturating_sub-2.result
    (on-all l c.args.rung c.requires.on) is c.level-level.ensures c.saturating_sub.ensures c.saturating_sub-2.ensures
    c.in-Some-Some.field-0-0 c.in-Some-Some.field-0-1 c.in-Some-Some.is-0 c.in-Some-Some.is-1
