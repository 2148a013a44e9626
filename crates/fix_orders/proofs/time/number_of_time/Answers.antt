-- Two digits after two digits are all of them, in front of one another.
use Rattle.std.proofs.Common.{ap, ◌∙◌, arith}
use Rattle.fix_orders.specs.Formats.{time_text}
use Rattle.fix_orders.proofs.ClockLemmas.{time_law, time_number}
use Rattle.fix_orders.proofs.time.number_of_time.Goals as goal

pub returns-clause-value : goal.returns-clause-value
returns-clause-value c =
    omega (
      arith,
      time_number c.args.time.now c.requires,
      c.two_at.ensures.value,
      c.two_at-2.ensures.value,
      c.two_at-3.ensures.value,
      c.two_at-4.ensures.value,
      c.two_at-5.ensures.value,
      c.two_at-6.ensures.value,
      c.two_at-7.ensures.value,
    )

pub returns-clause-back : goal.returns-clause-back
returns-clause-back c = ap time_text (returns-clause-value c) ∙ time_law c.args.time.now c.requires
