-- An output is looked for; its address is loaded, and its text where it goes to this gateway; then it is taken.
use Rattle.std.proofs.Common.{rules, arith}
use Rattle.barrier.proofs.TextReading.{more_loads, still_may}
use Rattle.barrier.proofs.Takings.{may_look, may_take, takes_mine}
use Rattle.barrier.proofs.taking.take.Goals as goal

pub load_address-requires : goal.load_address-requires
load_address-requires g c =
    let may = may_look c.load_marshalled.ensures.some c.taken-place.ensures.value c.if-load_marshalled-place.false in
    (omega arith, (search rules, may))

pub read_text-head-requires : goal.read_text-head-requires
read_text-head-requires g c =
    let may = may_look c.load_marshalled.ensures.some c.taken-place.ensures.value c.if-load_marshalled-place.false in
    (omega arith, (search rules, still_may _ _ (_, c.load_address.ensures.step) _ _ may.0 may.1))

pub store_taken-requires : goal.store_taken-requires
store_taken-requires g c = let shows = c.load_marshalled in
    let may = may_take shows.ensures.some c.taken-place.ensures.value c.if-load_marshalled-place.false _
    (_, c.load_address.ensures.step) shows.type_inv in
    (omega arith, (search rules, may))

pub store_taken-requires-2 : goal.store_taken-requires-2
store_taken-requires-2 g c = let shows = c.load_marshalled in
    let may = may_take shows.ensures.some c.taken-place.ensures.value c.if-load_marshalled-place.false _
    (more_loads _ _ (_, c.load_address.ensures.step) _ c.read_text-head.ensures.step) shows.type_inv in
    (omega arith, (search rules, may))

pub returns-clause-taken : goal.returns-clause-taken
returns-clause-taken g c = λ _.
    takes_mine c.load_marshalled.ensures.some c.taken-place.ensures.value c.if-load_marshalled-place.false _ _ _
    (_, c.load_address.ensures.step) c.read_text-head.ensures.step c.args.rings.now c.requires.at
    c.store_taken-2.ensures.step _ _ c.load_address.ensures.address c.number.ensures.value
    c.if-load_address-number.false (g.L.Logic.text c.args.rings.now.logic) _ _ c.read_text-head.ensures.text
