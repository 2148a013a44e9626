-- Its stamp is the latest, so it is put behind all others.
use Rattle.std.proofs.Common.{◌<◌}
use Rattle.price_levels.specs.Places.{InOneLevel}
use Rattle.price_levels.specs.StampLaws.{comes-last}
use Rattle.book.proofs.Lists.{each-map}
use Rattle.book.proofs.resting.RestingOrders.push.Goals as goal

pub insert-requires-clause-later : goal.insert-requires-clause-later
insert-requires-clause-later c =
    each-map (λ x. x.stamp < c.args.order.now.stamp)
    (λ x. InOneLevel c.args.order.now x → x.stamp < c.args.order.now.stamp)
    (λ x earlier one_level. earlier) c.args.self.now c.requires.behind

pub returns : goal.returns
returns c = comes-last c.args.order.now c.args.self.now c.insert.new.self c.insert.ensures.comes c.requires.behind
