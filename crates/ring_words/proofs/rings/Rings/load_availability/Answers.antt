use Rattle.std.proofs.Common.{rules, sym, subst}
use Rattle.ring_words.specs.Terms.{terms_of}
use Rattle.ring_words.specs.Seats.{IsReader}
use Rattle.ring_words.proofs.Loads.{loads_mark_in}
use Rattle.ring_words.proofs.rings.Rings.load_availability.Goals as goal

pub load-found-requires : goal.load-found-requires
load-found-requires g c = let key = c.self.inside.table.shared.key in (
  search rules,
  search rules,
  loads_mark_in
      (terms_of g.L.Logic.reads g.L.Logic.outputs g.L.Logic.text g.L.Logic.nothing g.L.Logic.grows key) g.row.N
      c.self.inside.rows.0 _ _ _ _ c.seat.inside.alone (subst IsReader (sym c.seat.inside.role) g.R.Reader.reads)
      (search rules),
)
