-- Behind the head all is taken up to the message's end.
use Rattle.std.proofs.Common.{◌<◌, ◌≤◌, ◌+◌, length, subst, arith}
use Rattle.fix_frame.specs.Stages.{IsResting, IsUnderWay}
use Rattle.fix_frame.specs.declared.stage.Stage.{Stage}
use Rattle.fix_frame.proofs.RestSteps.{resting_small}
use Rattle.fix_frame.proofs.StrideLemmas.{under_way_rest}
use Rattle.fix_frame.proofs.stage.stride.Goals as goal

pub returns-in-Rest : goal.returns-in-Rest
returns-in-Rest c =
    let held = c.args.held.now in
    let more = c.args.more.now in
    let resting : IsResting held c.in-Rest.body c.in-Rest.count =
    subst (λ (s : Stage). IsUnderWay s held) c.in-Rest.is c.requires.under_way in
    let small = resting_small held c.in-Rest.body c.in-Rest.count resting in
    let some : 0 < c.min.result = omega (arith, c.min.ensures, c.from.ensures, resting.short, c.requires.some) in
    let within : c.min.result ≤ length more = omega (arith, c.min.ensures) in
    let upto : length held + c.min.result ≤ c.in-Rest.body + c.in-Rest.count + 7 =
    omega (arith, c.min.ensures, c.from.ensures, resting.short) in
    record {
      some = some;
      within = within;
      room = omega (arith, upto, small.0, small.1);
      under_way = under_way_rest held more c.in-Rest.body c.in-Rest.count c.min.result some within upto resting;
    }
