-- As many outputs as there is room for are put, and the book follows with the others.
use Rattle.std.proofs.Common.{rules, ◌+◌, drop, refl, nat_lt, arith}
use Rattle.stages.specs.Insides.{PutRound}
use Rattle.stages.proofs.Putting.{may_put, puts_round}
use Rattle.stages.proofs.processor.Processor.put_round.Given as given
use Rattle.stages.proofs.processor.Processor.put_round.Goals.{After-put_all}
use Rattle.stages.proofs.processor.Processor.put_round.Goals as goal

pub put_all-requires : goal.put_all-requires
put_all-requires g c = let view = c.self.view_is in let most = c.min-most.ensures in
    let may = may_put g.row.G g.row.M c.room.result c.self.invariant.0 (rw (← view) at c.requires.under_way)
    c.room.ensures.looked c.room.ensures.step c.self.inside.put c.min-most.result c.self.inside.pending.items _ refl
    c.deref.ensures.value c.args.rings.now (rw (← view) at c.requires.at) _ (omega (arith, most)) c.room.ensures.free in
    (omega arith, (search rules, may))

round : (g : given.Over) (c : After-put_all g) → PutRound g.row.M g.row.G (nat_lt 0 c.min-most.result) c.args.self.now
    (record {
      seat = c.put_all.new.seat;
      book = c.self.inside.book;
      applied = c.self.inside.applied;
      left = drop (c.self.inside.put + c.min-most.result) c.self.inside.pending.items;
    })
round g c = let view = c.self.view_is in let least = c.min-most.ensures in let len = c.len.ensures in
    rw (← view) (puts_round g.row.G g.row.M c.room.result c.self.invariant.0 (rw (← view) at c.requires.under_way)
    c.room.ensures.looked c.room.ensures.step c.self.inside.put _ c.self.inside.pending.items _ refl
    c.deref.ensures.value (rw (← view) at c.requires.some) (omega (arith, least, len)) _ c.put_all.ensures.step)

pub invariant_of-self : goal.invariant_of-self
invariant_of-self g c =
    ((round g (goal.at.invariant_of-self g c).After-put_all).working, omega arith, c.self.invariant.2)

pub returns-clause-round : goal.returns-clause-round
returns-clause-round g c = round g (goal.at.returns-clause-round g c).After-put_all
