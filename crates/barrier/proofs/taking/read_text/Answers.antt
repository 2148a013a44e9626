use Rattle.std.proofs.Common.{rules, ◌≤◌, ◌+◌, ◌*◌, arith}
use Rattle.ring_words.specs.Places.{marshalled}
use Rattle.barrier.proofs.TextReading.{still_may, reads_more, reads_all}
use Rattle.barrier.proofs.taking.read_text.Goals as goal

pub loop-index-init : goal.loop-index-init
loop-index-init g c = let head = c.read_head-head.ensures in (
  search rules,
  record {
    only = head.step;
    long = search rules;
    most = head.most;
    head_is = head.head;
    same = λ o at j lt. absurd (omega arith);
  },
)

pub load_text-word-requires : goal.load_text-word-requires
load_text-word-requires g c =
    let so_far = c.loop-index.invariant.1 in let most = so_far.most in
    let inside : 8 * c.loop-index.index + 8 ≤ 320 = omega arith in
    let may = still_may _ _ so_far.only marshalled c.args.place c.requires.from c.requires.to in
    (omega arith, (search rules, (may.0, (may.1, omega arith))))

pub loop-index-preserved : goal.loop-index-preserved
loop-index-preserved g c = (
  search rules,
  reads_more c.loop-index.invariant.1 c.div_ceil-index-end.ensures _ c.loop-index-test.true
      c.load_text-word.ensures.step c.load_text-word.ensures.text c.to_be_bytes.ensures
      c.copy_from_slice.ensures.after (omega arith),
)

pub returns-clause-step : goal.returns-clause-step
returns-clause-step g c = c.loop-index.invariant.1.only

pub returns-clause-text : goal.returns-clause-text
returns-clause-text g c = reads_all c.loop-index.invariant.1 c.div_ceil-index-end.ensures c.loop-index-test.false
