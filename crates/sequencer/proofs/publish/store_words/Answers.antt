use Rattle.std.proofs.Common.{◌≡◌, ◌/◌, length, rules, arith}
use Rattle.sequencer.proofs.WordLemmas.{may_store, store_next, store_whole, store_rest}
use Rattle.sequencer.proofs.publish.store_words.Goals as goal

pub store_raw-requires-in-loop-index : goal.store_raw-requires-in-loop-index
store_raw-requires-in-loop-index g c =
    let may = may_store c.args.seat.now _ c.args.sequence c.args.bytes.now _ c.loop-index.invariant.2
    c.requires.claimed in
    (omega arith, (search rules, (may.0, (omega arith, may.1))))

pub loop-index-preserved : goal.loop-index-preserved
loop-index-preserved g c = (
  search rules,
  search rules,
  store_next c.args.seat.now _ c.args.sequence c.args.bytes.now _ _ _ c.loop-index.invariant.2 c.whole_word_at.ensures
      c.store_raw-in-loop-index.ensures.step,
)

pub store_raw-requires-then-bytes-gt0 : goal.store_raw-requires-then-bytes-gt0
store_raw-requires-then-bytes-gt0 g c =
    let whole : c.loop-index.index ≡ length c.args.bytes.now / 8 = omega arith in
    let may = may_store c.args.seat.now _ c.args.sequence c.args.bytes.now _ (rw whole at c.loop-index.invariant.2)
    c.requires.claimed in
    (omega arith, (search rules, (may.0, (omega arith, may.1))))

pub returns-then-bytes-gt0-clause-step : goal.returns-then-bytes-gt0-clause-step
returns-then-bytes-gt0-clause-step g c =
    store_rest c.args.seat.now _ c.args.sequence c.args.bytes.now _ c.loop-index.index _ c.loop-index.invariant.2
    (omega arith) (omega arith) c.word_at.ensures c.store_raw-then-bytes-gt0.ensures.step

pub returns-else-bytes-gt0-clause-step : goal.returns-else-bytes-gt0-clause-step
returns-else-bytes-gt0-clause-step g c =
    store_whole c.args.seat.now _ c.args.sequence c.args.bytes.now c.loop-index.index c.loop-index.invariant.2
    (omega arith) (omega arith)
