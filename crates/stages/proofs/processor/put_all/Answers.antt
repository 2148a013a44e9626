use Rattle.std.proofs.Common.{rules, arith}
use Rattle.stages.proofs.Putting.{read_stands, room_behind, synced_behind, next_behind}
use Rattle.stages.proofs.processor.put_all.Goals as goal

pub put_output-requires : goal.put_output-requires
put_output-requires g c = let v = c.args.seat.now in let u = c.loop-output.seat in let k = c.loop-output.output-index in
    let here = c.loop-output.invariant.1 in let next = c.requires.next in (
      omega arith,
      (
        search rules,
        (
          room_behind v u k here g.row.G g.row.M (c.requires.room _ (omega arith)),
          (
            synced_behind v u k here c.requires.synced,
            next_behind v u k here c.args.rings.now.logic c.output-item.result
                (next k c.output-item.result
                (read_stands c.args.outputs.now k _ c.output-item.is c.loop-output-test.true)),
          ),
        ),
      ),
    )
