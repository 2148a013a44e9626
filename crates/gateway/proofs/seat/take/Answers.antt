-- A look for an output is that of the rings' call, in the words of the venue's one logic.
use Rattle.gateway.proofs.SeatLemmas.{looks_so, looks_keeps, looks_tells, looks_stays}
use Rattle.gateway.proofs.seat.take.Goals as goal

pub returns-clause-looks : goal.returns-clause-looks
returns-clause-looks g c =
    looks_so c.args.rings.now c.args.seat.now c.take.new.seat c.requires.at c.take.ensures.step _ _
    c.take.ensures.nothing c.take.ensures.taken

pub returns-clause-stays : goal.returns-clause-stays
returns-clause-stays g c = looks_stays c.args.seat.now c.take.new.seat c.take.result c.take.new.buf
    (returns-clause-looks g c)

pub returns-clause-seen : goal.returns-clause-seen
returns-clause-seen g c =
    looks_keeps g.row.N c.args.seat.now c.take.new.seat c.requires.seen c.take.result
    c.take.new.buf (returns-clause-looks g c)

pub returns-clause-tells : goal.returns-clause-tells
returns-clause-tells g c =
    looks_tells g.row.N c.args.seat.now c.take.new.seat c.requires.seen c.take.result
    c.take.new.buf (returns-clause-looks g c)
