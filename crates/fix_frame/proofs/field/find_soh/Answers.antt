use Rattle.std.proofs.Common.{◌≢◌, ◌+◌, get_or, arith}
use borrow.Author.Count.{below_more}
use Rattle.fix_frame.proofs.CutLemmas.{cut_at, ends_some, ends_later}
use Rattle.fix_frame.proofs.field.find_soh.Goals as goal

pub loop-at-init : goal.loop-at-init
loop-at-init c = record { within = ends_some c.args.bytes.now c.requires; before = λ k early. absurd (omega arith) }

pub bounds-bytes-at-in-loop-at : goal.bounds-bytes-at-in-loop-at
bounds-bytes-at-in-loop-at c =
    ends_later c.args.bytes.now c.loop-at.at c.requires c.loop-at.invariant.within c.loop-at-test.true

pub loop-at-preserved : goal.loop-at-preserved
loop-at-preserved c =
    let bytes = c.args.bytes.now in
    let at = c.loop-at.at in
    let next = ends_later bytes at c.requires c.loop-at.invariant.within c.loop-at-test.true in
    let before = below_more (λ k. get_or bytes k 0 ≢ 1) at c.loop-at.invariant.before c.loop-at-test.true in record {
      within = omega (arith, ends_later bytes (at + 1) c.requires next c.if-bytes-at-eq-SOH.false);
      before = λ k early. below_more (λ k. get_or bytes k 0 ≢ 1) (at + 1) before c.if-bytes-at-eq-SOH.false k
          (omega arith);
    }

pub returns-then-bytes-at-eq-SOH : goal.returns-then-bytes-at-eq-SOH
returns-then-bytes-at-eq-SOH c =
    let bytes = c.args.bytes.now in
    let at = c.loop-at.at in
    let next = ends_later bytes at c.requires c.loop-at.invariant.within c.loop-at-test.true in
    let before = below_more (λ k. get_or bytes k 0 ≢ 1) at c.loop-at.invariant.before c.loop-at-test.true in
    let cut = cut_at 1 bytes (at + 1) next c.if-bytes-at-eq-SOH.true before in
    record { within = next; lacks = cut.0; ends = cut.1 }

pub returns : goal.returns
returns c =
    let cut = cut_at 1 c.args.bytes.now c.loop-at.at c.loop-at.invariant.within c.loop-at-test.false
    c.loop-at.invariant.before in
    record { within = c.loop-at.invariant.within; lacks = cut.0; ends = cut.1 }
