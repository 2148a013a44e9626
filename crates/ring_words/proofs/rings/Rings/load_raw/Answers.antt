use Rattle.std.proofs.Common.{rules, sym, subst}
use Rattle.ring_words.specs.Terms.{terms_of}
use Rattle.ring_words.specs.Seats.{IsReader}
use Rattle.ring_words.proofs.Loads.{loads_raw_in}
use Rattle.ring_words.proofs.rings.Rings.load_raw.Goals as goal

pub load-requires : goal.load-requires
load-requires g c = let key = c.self.inside.table.shared.key in (
  search rules,
  search rules,
  loads_raw_in
      (terms_of g.L.Logic.reads g.L.Logic.outputs g.L.Logic.text g.L.Logic.nothing g.L.Logic.grows key) g.row.N
      c.self.inside.rows.0 _ _ _ _ c.seat.inside.alone (subst IsReader (sym c.seat.inside.role) g.R.Reader.reads),
)

pub returns-clause-raw : goal.returns-clause-raw
returns-clause-raw g c = λ e there few. c.load.ensures.2.1 c.args.sequence c.args.word e (search rules) (search rules)
    few c.row_word-place.ensures.place
