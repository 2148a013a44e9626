use Rattle.std.proofs.Common.{rules, arith}
use Rattle.ring_words.specs.SeatLaws.{still_at}
use Rattle.venue_model.specs.ListLaws.{stands}
use Rattle.barrier.proofs.Words.{reads_none, reads_more, reads_all}
use Rattle.barrier.proofs.reading.read_raw.Goals as goal

pub loop-index-init : goal.loop-index-init
loop-index-init g c = let head = c.read_head-raw in
    let e = stands c.args.seat.now.who.seen c.args.sequence c.requires.to in (
      still_at c.args.rings.now c.args.seat.now head.new.seat _ c.requires.at (head.ensures.step e.0 e.1),
      reads_none c.requires.to head.ensures.step head.ensures.head (search rules),
    )

pub loop-index-preserved : goal.loop-index-preserved
loop-index-preserved g c = (
  search rules,
  reads_more c.loop-index.invariant.1 c.div_ceil-index-end.ensures c.loop-index-test.true c.load_raw-word.ensures.step
      c.load_raw-word.ensures.raw c.to_be_bytes.ensures c.copy_from_slice.ensures.after (omega arith),
)

pub returns-clause-entry : goal.returns-clause-entry
returns-clause-entry g c = λ e at. (reads_all c.loop-index.invariant.1 c.div_ceil-index-end.ensures
    c.loop-index.auto.index-end c.loop-index-test.false e at).0

pub returns-clause-step : goal.returns-clause-step
returns-clause-step g c = λ e at. (reads_all c.loop-index.invariant.1 c.div_ceil-index-end.ensures
    c.loop-index.auto.index-end c.loop-index-test.false e at).1
