use Rattle.std.proofs.Common.{◌≡◌, suc, rules, sym, subst, arith}
use Rattle.venue_model.specs.ListLaws.{within}
use Rattle.ring_words.specs.Terms.{terms_of}
use Rattle.ring_words.specs.Seats.{person}
use Rattle.ring_words.specs.At.{Opened, At}
use Rattle.ring_words.specs.Steps.{WroteCommand}
use Rattle.ring_words.proofs.Becomes.{still_sits}
use Rattle.ring_words.proofs.Stores.{stores_unmarshalled}
use Rattle.ring_words.proofs.steps.unmarshaller.release_written.Goals as goal

pub store-requires : goal.store-requires
store-requires g c = let key = c.rings.inside.table.shared.key in let wrote = c.requires.command in (
  search rules,
  search rules,
  stores_unmarshalled (terms_of g.L.Logic.reads g.L.Logic.outputs g.L.Logic.text g.L.Logic.nothing g.L.Logic.grows key)
      _ _ _ c.args.upto wrote.0 c.seat.inside.alone c.seat.inside.role (search rules)
      (subst (λ (z : Opened g.row.L.Denot × At g.row.L.Denot). WroteCommand (g.L.Logic.reads z.0.logic) z.1.who wrote.0)
      (λ i. (sym c.rings.view_is i, sym c.seat.view_is i)) wrote.1),
)

pub invariant_of-seat-inside : goal.invariant_of-seat-inside
invariant_of-seat-inside g c = let seat = c.seat.inside in
    let is = c.store.ensures.2 in
    let p = person seat.seat.me.0 in
    let e = c.requires.command.0 in
    let wrote = subst (λ (s : At g.row.L.Denot). WroteCommand (g.L.Logic.reads c.args.rings.now.logic) s.who e)
    (sym c.seat.view_is) c.requires.command.1 in
    let longer = within p.seen p.row.sequence e wrote.entry in
    let last : c.args.upto ≡ suc p.row.sequence = search rules in
    still_sits seat.seat.me _ _ is seat.bare _ seat.role
    ((search rules, search rules, (let known_is = seat.counts.0 in omega arith), search rules), tt)
