use Rattle.std.proofs.Common.{rules, sym, subst}
use Rattle.ring_words.specs.Terms.{terms_of}
use Rattle.ring_words.specs.At.{Opened, At}
use Rattle.ring_words.specs.Steps.{MayWrite}
use Rattle.ring_words.proofs.Becomes.{still_sits}
use Rattle.ring_words.proofs.Commands.{writes_command_in}
use Rattle.ring_words.proofs.rings.Rings.store_command.Goals as goal

pub store-requires : goal.store-requires
store-requires g c = let key = c.self.inside.table.shared.key in (
  search rules,
  search rules,
  writes_command_in (terms_of g.L.Logic.reads g.L.Logic.outputs g.L.Logic.text g.L.Logic.nothing g.L.Logic.grows key)
      g.row.N c.self.inside.rows.0 _ _ c.args.sequence c.args.word c.args.value _ _
      c.seat.inside.alone c.seat.inside.role (search rules) (search rules) c.requires.word (search rules)
      (subst (λ (z : Opened g.row.L.Denot × At g.row.L.Denot). MayWrite (g.L.Logic.reads z.0.logic) z.1.who
      c.args.sequence) (λ i. (sym c.self.view_is i, sym c.seat.view_is i)) c.requires.row)
      c.row_word-place.ensures.place,
)

pub invariant_of-seat-inside : goal.invariant_of-seat-inside
invariant_of-seat-inside g c = let seat = c.seat.inside in
    let is = c.store.ensures.2 c.args.sequence c.args.word (search rules) (search rules) c.requires.word
    c.row_word-place.ensures.place in
    still_sits seat.seat.me _ _ is seat.bare _ seat.role (search rules, tt)
