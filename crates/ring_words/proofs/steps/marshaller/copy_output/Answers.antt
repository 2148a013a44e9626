use Rattle.std.proofs.Common.{◌≡◌, rules, refl}
use Rattle.ring_words.proofs.Marshalling.{Copying, loads_taking_in, loads_giving_back, copying, copied}
use Rattle.ring_words.proofs.steps.marshaller.copy_output.Given as given
use Rattle.ring_words.proofs.steps.marshaller.copy_output.Goals.{After-exchange_report-2}
use Rattle.ring_words.proofs.steps.marshaller.copy_output.Goals as goal

pub load-requires : goal.load-requires
load-requires g c = let seat = c.seat.inside in let sizes = c.rings.inside.rows in (
  search rules,
  search rules,
  loads_taking_in _ g.row.N g.row.M sizes.0 sizes.1 _ _ c.args.place seat.seat.me _ seat.alone seat.role seat.home
      (search rules) (search rules) c.output_word-word.ensures.place,
)

-- behind both exchanges
out : (g : given.Over) (c : After-exchange_report-2 g) → Copying g.row.M c.args.place c.output_word-word.result
    c.load.result g.L.Logic.outputs c.seat.inside.seat.me c.exchange_report-2.new.seat.me c.exchange_report.new.spare
out g c = copying (c.load.ensures.2 c.args.place (search rules) (search rules) c.output_word-word.ensures.place)
    c.seat.inside.bare c.exchange_report.ensures.found c.exchange_report.ensures.left c.exchange_report-2.ensures.left

pub load-requires-2 : goal.load-requires-2
load-requires-2 g c = let sizes = c.rings.inside.rows in
    let out = out g (goal.at.load-requires-2 g c).After-exchange_report-2 in
    (search rules, search rules, loads_giving_back _ g.row.N g.row.M sizes.0 sizes.1 _ _ out c.seat.inside.role)

pub returns : goal.returns
returns g c = record {
  copied = λ o at.
      let both = copied g.row.N (out g (goal.at.returns g c).After-exchange_report-2) c.load-2.ensures.2
      c.seat.inside.home c.rings.inside.table.shared.key.logic o (search rules) (search rules) (search rules)
      (search rules) c.output_word-word.ensures.place in
      let read = c.deref.ensures in let said = both.0 in
      let table : c.load-2.new.seat.table_id ≡ c.seat.inside.seat.table_id = search rules in
      ((cc), rw (← c.seat.view_is, ← c.output_word-word.ensures.place, table, both.1) refl);
}
