-- What stands before the last byte taken begins the head, as what is held.
use Rattle.std.proofs.Common.{◌≡◌, length, sym, refl, arith}
use Rattle.std.proofs.lemmas.Slice.Eq.{slice_eq-Decides}
use Rattle.std.proofs.lemmas.Bool.Decides.{Decides-eqb, nat_tests}
use Rattle.std.proofs.lemmas.List.{nil_from_length, length-take}
use Rattle.fix_frame.specs.declared.stage.Stage.TheVariants.{Head}
use Rattle.fix_frame.proofs.LiveLemmas.{room_for_one}
use Rattle.fix_frame.proofs.StrideLemmas.{under_way_one, under_way_head}
use Rattle.fix_frame.proofs.head.head_stride.Goals as goal

pub length_in_front-length-requires-clause-opens : goal.length_in_front-length-requires-clause-opens
length_in_front-length-requires-clause-opens c =
    sym ((slice_eq-Decides Decides-eqb _ _ _ c.if-starts_with.ensures.value).0 refl)

pub returns-then-starts_with : goal.returns-then-starts_with
returns-then-starts_with c =
    let empty : length c.args.held.now ≡ 0 = grind (arith, nat_tests, c.if-is_empty.ensures) in
    let ahead = c.length_in_front-length.ensures in
    let room = room_for_one (Head c.length_in_front-length.result.0) _ ahead.heading in record {
      some = omega arith;
      within = omega (arith, ahead.within);
      room = omega (arith, empty, room, ahead.within, length-take c.length_in_front-length.result.1 c.args.more.now);
      heading = under_way_head c.args.held.now c.args.more.now _ _ (nil_from_length _ empty) ahead.within ahead.heading;
    }

pub returns : goal.returns
returns c = record {
  some = omega arith;
  within = c.requires.some;
  room = omega (arith, room_for_one (Head c.args.so_far) c.args.held.now c.requires.heading);
  heading = under_way_one (Head c.args.so_far) c.args.held.now c.args.more.now c.requires.some c.requires.heading;
}
