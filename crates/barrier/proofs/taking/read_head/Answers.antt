use Rattle.std.proofs.Common.{rules, arith, refl, length, ◌≤◌}
use Rattle.ring_words.specs.Places.{marshalled}
use Rattle.barrier.specs.Taking.{OnlyLoads}
use Rattle.barrier.proofs.TextReading.{one_load, still_may, still_at}
use Rattle.barrier.proofs.taking.read_head.Goals as goal

pub load_text-time-requires : goal.load_text-time-requires
load_text-time-requires g c =
    let may = still_may c.args.seat.now c.load_text.new.seat (_, c.load_text.ensures.step) marshalled c.args.place
    c.requires.from c.requires.to in
    (omega arith, (search rules, (may.0, (may.1, omega arith))))

pub returns-clause-step : goal.returns-clause-step
returns-clause-step g c =
    one_load c.args.seat.now c.load_text.new.seat (_, c.load_text.ensures.step) _ _ _ c.load_text-time.ensures.step

pub returns-clause-head : goal.returns-clause-head
returns-clause-head g c = λ o at.
    let v = c.args.seat.now in let u = c.load_text.new.seat in
    let only : OnlyLoads v u = (_, c.load_text.ensures.step) in
    let t = g.L.Logic.text c.args.rings.now.logic o c.args.place in let first = c.load_text.ensures.text _ o at refl in
    let second = c.load_text-time.ensures.text _ o
    (still_at v u only (g.L.Logic.outputs c.args.rings.now.logic) o c.args.place at) refl in
    let len = c.from_word-msg_type.ensures.len t first.1 first.0 in
    let most : length t.body ≤ 320 = first.1.most in
    let cut = c.min.ensures in
    record {
      kind = c.from_word-msg_type.ensures.msg_type t first.1 first.0;
      time = second.0;
      len = omega arith;
    }
