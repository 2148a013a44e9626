use Rattle.std.proofs.Common.{rules, suc, arith}
use Rattle.ring_words.specs.Seats.{person}
use Rattle.ring_words.proofs.Outputs.{place_small}
use Rattle.ring_words.proofs.Putting.{puts_output_in}
use Rattle.ring_words.proofs.Publishing.{publishes_put}
use Rattle.ring_words.proofs.steps.processor.put_output.Goals as goal

pub overflow_add-next : goal.overflow_add-next
overflow_add-next g c = let seat = c.seat.inside in let p = person seat.seat.me.0 in
    let logic = c.args.rings.now.logic in let known = seat.counts.0 in let most = seat.counts.3 in let put = seat.put in
    let small = place_small (g.L.Logic.outputs logic) (g.L.Logic.nothing logic) (g.L.Logic.grows logic) (suc p.sequence)
    p.row.sequence p.seen c.args.output.now (rw (← c.seat.view_is) at c.requires.next) (omega arith) in
    search rules

pub store-requires : goal.store-requires
store-requires g c = let seat = c.seat.inside in let rows = c.rings.inside.rows in (
  search rules,
  search rules,
  puts_output_in _ g.row.N g.row.M g.row.G rows.0 rows.1 rows.2 _ _ _ seat.seat.me c.args.output.now _ seat.alone
      seat.role seat.home (rw (← c.seat.view_is) at c.requires.room)
      (rw seat.put at c.output_word-word.ensures.place),
)

-- behind the store of its address and the exchange the slot of its row is out, with its report
pub store-requires-2 : goal.store-requires-2
store-requires-2 g c = let seat = c.seat.inside in let rows = c.rings.inside.rows in let put = seat.put in
    let told = c.store.ensures.2 (rw put at c.output_word-word.ensures.place) in
    let row = rw put at c.output_row-row.ensures.row in
    let out = rw (told.1.2, c.from.ensures, row) at c.exchange_report.ensures.left in (
      search rules,
      search rules,
      publishes_put _ g.row.M g.row.G rows.1 rows.2 _ _ seat.seat.me _ _ c.rings.inside.table.shared.key.logic
          c.args.output.now told.0 c.replace.new.b (search rules) seat.role (omega arith)
          (rw (← c.seat.view_is) at c.requires.room) (search rules) told.1.1 (rw put at c.replace.ensures.after) out,
    )
