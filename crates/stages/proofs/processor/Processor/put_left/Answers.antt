-- Rounds are made until nothing is left, or the ring has no room.
use Rattle.std.proofs.Common.{rules, refl, subst, ◌∙◌, arith}
use Rattle.stages.specs.Insides.{upto}
use Rattle.stages.specs.Processes.{PutsRound}
use Rattle.stages.proofs.Putting.{one_round_more, round_ahead}
use Rattle.stages.proofs.processor.Processor.put_left.Goals as goal

pub rounds-init : goal.rounds-init
rounds-init g c = (c.requires.at, search rules, refl, refl, refl, refl, (0, refl))

pub rounds-smaller : goal.rounds-smaller
rounds-smaller g c = let v = c.rounds.self in
    let w = c.put_round.new.self in
    let ahead = round_ahead g.row.M g.row.G (upto v) v.seat.who w.seat.who c.if-not-put_round.ensures.round.puts in
    let same = c.put_round.ensures.round.same_end in
    omega (arith, ahead, same)

pub rounds-preserved : goal.rounds-preserved
rounds-preserved g c = let u = c.args.self.now in let v = c.rounds.self in let w = c.put_round.new.self in
    let so_far = c.rounds.invariant in let round = c.put_round.ensures.round in
    let again = c.if-not-put_round.ensures in (
      search rules,
      search rules,
      search rules,
      search rules,
      round.own ∙ so_far.4,
      round.same_end ∙ so_far.5,
      one_round_more g.row.M g.row.G (upto u) u.seat.who v.seat.who w.seat.who so_far.6
          (subst (λ k. PutsRound g.row.M g.row.G k v.seat.who w.seat.who) so_far.5 again.round.puts),
    )
