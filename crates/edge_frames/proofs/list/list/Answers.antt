-- Each field is listed where it stands, and at the end none is left.
use Rattle.std.proofs.Common.{◌∙◌, ◌-◌, ◌≤◌, length, drop, map, slice_range, ap, sym, arith}
use Rattle.std.proofs.lemmas.List.{length-set}
use Rattle.edge_frames.specs.Fields.{ended, piece_field}
use Rattle.edge_frames.proofs.ListLemmas.{all_listed, piece_there, next_high, behind_first, next_left, next_listed}
use Rattle.edge_frames.proofs.list.list.Goals as goal

pub returns-in_default : goal.returns-in_default
returns-in_default c =
    let i = c.loop-count.invariant in
    let few : c.loop-count.count ≤ length c.args.places.now = omega (arith, i.few, c.loop-count.auto.places) in
    let r = all_listed c.loop-count.count (length c.args.places.now)
    (ended (slice_range c.args.text.now c.args.at c.args.«end»)) few i.some (sym i.left ∙ c.in_default.ensures) in
    record { count_is = r.0; fields = i.listed ∙ ap (map piece_field) r.1 }

pub place_of-requires-clause-there : goal.place_of-requires-clause-there
place_of-requires-clause-there c =
    (piece_there (drop c.loop-count.from c.args.text.now) c.in-Some.piece.now c.in-Some.field-0-1.now
    (c.args.«end» - c.loop-count.from) c.in-Some.ensures).0

pub loop-count-preserved : goal.loop-count-preserved
loop-count-preserved c =
    let i = c.loop-count.invariant in
    let s = c.in-Some.ensures in
    let high = next_high c.args.text.now c.args.at c.loop-count.from c.args.«end» c.loop-count.count
    c.in-Some.piece.now c.in-Some.field-0-1.now c.loop-count.places c.place_of.result i.high c.requires.within s in
    let first = behind_first c.args.text.now c.args.at c.loop-count.from c.args.«end» c.loop-count.count
    c.in-Some.piece.now c.in-Some.field-0-1.now c.loop-count.places c.place_of.result i.high c.requires.within s
    c.loop-count-test.true i.some i.left i.listed c.place_of.ensures in
    record {
      low = omega (arith, i.low);
      high = high;
      few = omega (
        arith,
        c.loop-count-test.true,
        length-set c.loop-count.places c.loop-count.count c.place_of.result,
      );
      some = omega (arith, first.0);
      left = next_left c.args.text.now c.args.at c.loop-count.from c.args.«end» c.loop-count.count
          c.in-Some.piece.now c.in-Some.field-0-1.now c.loop-count.places c.place_of.result i.high c.requires.within s
          c.loop-count-test.true i.some i.left i.listed c.place_of.ensures;
      listed = next_listed c.args.text.now c.args.at c.loop-count.from c.args.«end» c.loop-count.count
          c.in-Some.piece.now c.in-Some.field-0-1.now c.loop-count.places c.place_of.result i.high c.requires.within s
          c.loop-count-test.true i.some i.left i.listed c.place_of.ensures;
    }
