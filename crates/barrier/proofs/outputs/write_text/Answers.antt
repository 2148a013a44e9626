-- Head, time and the words of the body are stored one behind another, while their row is under way.
use Rattle.std.proofs.Common.{◌≡◌, ◌/◌, inl, inr, length, refl, rules, arith}
use Rattle.barrier.proofs.TextStores.{may_store, store_first, store_next, store_whole, store_rest}
use Rattle.barrier.proofs.outputs.write_text.Goals as goal

pub loop-index-init : goal.loop-index-init
loop-index-init g c =
    (search rules, store_first c.store_text.ensures.step c.to_word.ensures c.store_text-2.ensures.step refl)

pub store_text-requires-in-loop-index : goal.store_text-requires-in-loop-index
store_text-requires-in-loop-index g c =
    let may = may_store c.loop-index.invariant.1 c.requires.from c.requires.to in
    (omega arith, (search rules, (may.0, (may.1, (omega arith, (may.2, inr (inl may.3)))))))

pub loop-index-preserved : goal.loop-index-preserved
loop-index-preserved g c = (
  search rules,
  store_next c.loop-index.invariant.1 c.whole_word_at.ensures c.store_text-in-loop-index.ensures.step,
)

-- at the end of the loop all whole words of the body are stored
pub store_text-requires-then-body-gt0 : goal.store_text-requires-then-body-gt0
store_text-requires-then-body-gt0 g c =
    let whole : c.loop-index.index ≡ length c.args.body.now / 8 = omega arith in
    let may = may_store (rw whole at c.loop-index.invariant.1) c.requires.from c.requires.to in
    (omega arith, (search rules, (may.0, (may.1, (omega arith, (may.2, inr (inl may.3)))))))

pub returns-then-body-gt0-clause-step : goal.returns-then-body-gt0-clause-step
returns-then-body-gt0-clause-step g c =
    store_rest c.loop-index.invariant.1 (omega arith) (omega arith) c.word_at.ensures
    c.store_text-then-body-gt0.ensures.step

pub returns-else-body-gt0-clause-step : goal.returns-else-body-gt0-clause-step
returns-else-body-gt0-clause-step g c = store_whole c.loop-index.invariant.1 (omega arith) (omega arith)
