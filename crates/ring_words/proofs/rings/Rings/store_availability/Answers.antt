use Rattle.std.proofs.Common.{rules, ◌≡◌, ◌+◌, suc, ◌∙◌, ap, sym, arith}
use Rattle.ring_words.specs.Terms.{terms_of}
use Rattle.ring_words.specs.Places.{number_of}
use Rattle.ring_words.specs.At.{number}
use Rattle.ring_words.proofs.Becomes.{gateway_sits}
use Rattle.ring_words.proofs.Marks.{marks_row_in}
use Rattle.ring_words.proofs.rings.Rings.store_availability.Goals as goal

pub store-requires : goal.store-requires
store-requires g c = let key = c.self.inside.table.shared.key in
    let e = c.requires.message in
    let next : c.args.sequence + 1 ≡ suc c.args.sequence = omega arith in (
      search rules,
      search rules,
      marks_row_in (terms_of g.L.Logic.reads g.L.Logic.outputs g.L.Logic.text g.L.Logic.nothing g.L.Logic.grows key) g.row.N
          c.self.inside.rows.0 _ _ _ c.args.sequence _ e.0 _ _
          c.seat.inside.alone c.seat.inside.role (search rules) (search rules) (search rules) e.2
          (e.3 ∙ ap number (sym c.seat.view_is) ∙ ap number_of c.seat.inside.role) c.row_word-place.ensures.place next,
    )

pub invariant_of-seat-inside : goal.invariant_of-seat-inside
invariant_of-seat-inside g c = let seat = c.seat.inside in
    let e = c.requires.message in
    let next : c.args.sequence + 1 ≡ suc c.args.sequence = omega arith in
    let is = c.store.ensures.2 c.args.sequence e.0 next (search rules) e.2 in
    gateway_sits seat.seat.me _ _ is seat.bare _ seat.role seat.numbered _ seat.counts _ seat.kept
