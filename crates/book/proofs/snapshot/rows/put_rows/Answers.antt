use Rattle.std.proofs.Common.{◌++◌, drop, ap, sym, ◌∙◌, arith, take-append-drop}
use Rattle.book.specs.Rows.{row_bytes}
use Rattle.book.proofs.RestoredOrders.{none-yet, few-yet, behind-level, one-more, none-comes}
use Rattle.book.proofs.snapshot.rows.put_rows.Goals as goal

pub loop-init : goal.loop-init
loop-init c = let none = none-yet c.args.symbols.now c.args.head.now.greatest c.args.head.now.commands
    c.args.bytes.now c.args.orders.now c.requires.empty in record { so_far = none; left = omega arith }

pub returns-in_default-clause-none : goal.returns-in_default-clause-none
returns-in_default-clause-none c _ = none-comes c.args.symbols.now c.args.head.now.greatest c.args.head.now.commands
    c.args.bytes.now c.loop.rest.now c.loop.counter c.loop.last c.loop.orders c.loop.invariant.so_far c.requires.table
    c.requires.counts.counted c.read.result c.split_at.result.1.now c.read.ensures.small
    (sym (take-append-drop 47 c.loop.rest.now)
    ∙ ap (λ front. front ++ drop 47 c.loop.rest.now) (sym (c.read.ensures.spelled ∙ c.split_at.ensures.front))
    ∙ ap (λ back. row_bytes c.read.result ++ back) (sym c.split_at.ensures.back)) c.in_default.ensures.none

pub insert-requires-clause-room : goal.insert-requires-clause-room
insert-requires-clause-room c =
    let few = few-yet c.args.symbols.now c.args.head.now.greatest c.args.head.now.commands c.args.bytes.now
    c.loop.rest.now c.loop.counter c.loop.last c.loop.orders c.loop.invariant.so_far in
    omega (arith, few, c.loop-test.true, c.requires.counts.few)

pub insert-requires-clause-later : goal.insert-requires-clause-later
insert-requires-clause-later c = behind-level c.args.symbols.now c.args.head.now.greatest c.args.head.now.commands
    c.args.bytes.now c.loop.rest.now c.loop.counter c.loop.last c.loop.orders c.loop.invariant.so_far c.in-Some.order
    c.in-Some.ensures.can.behind

pub loop-preserved : goal.loop-preserved
loop-preserved c = record {
  so_far = one-more c.args.symbols.now c.args.head.now.greatest c.args.head.now.commands
      c.args.bytes.now c.loop.rest.now c.loop.counter c.loop.last c.loop.orders c.loop.invariant.so_far c.in-Some.order
      c.insert.new.self c.read.result c.split_at.result.1.now c.in-Some.ensures.can c.in-Some.ensures.row
      (sym (take-append-drop 47 c.loop.rest.now)
      ∙ ap (λ front. front ++ drop 47 c.loop.rest.now) (sym (c.read.ensures.spelled ∙ c.split_at.ensures.front))
      ∙ ap (λ back. row_bytes c.read.result ++ back) (sym c.split_at.ensures.back))
      c.insert.ensures.comes c.insert.ensures.stamps;
  left = omega (arith, c.loop.invariant.left, c.split_at.ensures.back_len);
}
