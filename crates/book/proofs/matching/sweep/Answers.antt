-- The fills so far and one more; and when no more comes, the definitions say that the match is over.
use Rattle.std.proofs.Common.{refl, ◌∙◌, arith}
use Rattle.book.specs.Passes.{matching}
use Rattle.book.proofs.CountLemmas.{few-fills}
use Rattle.book.proofs.FillLemmas.{Filled, passed-trans, first-rests, fill-is}
use Rattle.book.proofs.Overs.{Ended, ended, fills-over}
use Rattle.book.proofs.matching.sweep.Goals.{After-tell_fill, In_default}
use Rattle.book.proofs.matching.sweep.Goals as goal

one : (c : After-tell_fill) → Filled c.args.cause (matching c.fills.incoming c.fills.orders c.fills.out.items)
    (matching c.tell_fill.new.incoming c.next_fill.new.orders c.tell_fill.new.out.items)
one c = fill-is _ _ _ _ c.in-Some.ensures.next.0 c.fills.invariant.left.standing c.args.cause c.in-Some.ensures.next.1
    _ _ _ c.tell_fill.ensures.next c.tell_fill.ensures.told

over : (c : In_default) → Ended c.args.cause (matching c.args.incoming.now c.args.orders.now c.args.out.now.items)
    c.fills.incoming c.fills.orders c.fills.out.items
over c = ended c.fills.invariant.passed c.in_default.ensures.next.0 c.fills.invariant.left

pub next_fill-requires-clause-reads : goal.next_fill-requires-clause-reads
next_fill-requires-clause-reads c =
    let few = few-fills c.args.incoming.now c.args.orders.now in
    omega (arith, c.fills.invariant.read, few, c.requires.can_match.standing.few, c.requires.can_match.reads)

pub tell_fill-requires-clause-rests : goal.tell_fill-requires-clause-rests
tell_fill-requires-clause-rests c =
    first-rests _ _ _ _ c.in-Some.ensures.next.0 c.fills.invariant.left.standing

pub fills-smaller : goal.fills-smaller
fills-smaller c = (one (goal.at.fills-smaller c).After-tell_fill).less

pub fills-preserved : goal.fills-preserved
fills-preserved c =
    let so_far = c.fills.invariant in
    let told = c.tell_fill.ensures in
    let fill = one (goal.at.fills-preserved c).After-tell_fill in
    let most = so_far.most c.in-Some.ensures.next.1 in
    record {
      passed = passed-trans c.args.cause _ _ _ so_far.passed fill.passed;
      in_range = told.in_range;
      left = record {
        orders = refl;
        standing = fill.standing;
        below = λ sequence below. fill.below sequence (so_far.left.below sequence below);
        no_longer = omega (arith, so_far.left.no_longer, fill.no_longer);
      };
      same_room = told.room ∙ so_far.same_room;
      more = omega (arith, fill.some, told.more, most);
      most = λ some. let shorter = fill.shorter some in omega (arith, shorter, told.more, most);
      read = omega (arith, so_far.read, c.in-Some.ensures.reads, fill.one_less);
    }

pub returns-clause-orders : goal.returns-clause-orders
returns-clause-orders c = rw c.in_default.ensures.next.1 (over (goal.at.returns-clause-orders c).In_default).left

pub returns-clause-done : goal.returns-clause-done
returns-clause-done c = (over (goal.at.returns-clause-done c).In_default).done_is

pub returns-clause-told : goal.returns-clause-told
returns-clause-told c = record {
  items = (over (goal.at.returns-clause-told c).In_default).told_is;
  room = c.fills.invariant.same_room;
}

pub returns-clause-reads : goal.returns-clause-reads
returns-clause-reads c =
    let read = c.fills.invariant.read in
    let none = fills-over c.fills.incoming c.fills.orders c.in_default.ensures.next.0 in
    let last = c.in_default.ensures.reads in
    record { least = omega (arith, read, none, last); most = omega (arith, read, none, last) }
