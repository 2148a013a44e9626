use Rattle.std.proofs.Common.{rules, suc, ◌+◌, ◌*◌, ◌∙◌, sym, arith}
use Rattle.ring_words.specs.Terms.{terms_of}
use Rattle.ring_words.specs.Seats.{person}
use Rattle.ring_words.specs.SeatLaws.{kept_else, last_kept}
use Rattle.ring_words.proofs.Windows.{no_control}
use Rattle.ring_words.proofs.Becomes.{process_sits}
use Rattle.ring_words.proofs.Loads.{loads_command_in}
use Rattle.ring_words.proofs.rings.Rings.load_command.Goals as goal

pub load-requires : goal.load-requires
load-requires g c = let key = c.self.inside.table.shared.key in (
  search rules,
  search rules,
  loads_command_in
      (terms_of g.L.Logic.reads g.L.Logic.outputs g.L.Logic.text g.L.Logic.nothing g.L.Logic.grows key) g.row.N
      c.self.inside.rows.0 _ _ _ _ c.seat.inside.alone c.seat.inside.role,
)

pub invariant_of-seat-inside : goal.invariant_of-seat-inside
invariant_of-seat-inside g c = let seat = c.seat.inside in
    let is = c.load.ensures.2.0 in
    let place = c.row_word-place.ensures.place in
    process_sits seat.seat.me _ _ is seat.bare seat.role (search rules) _
    (seat.loaded ∙ sym (last_kept 16 c.row_word-place.result 0 c.load.result (person seat.seat.me.0).loads
    (λ e. no_control g.row.N c.args.sequence (c.args.word + 48) 16 (omega arith) (sym place ∙ e)))) _ seat.put _
    (kept_else seat.taken (person seat.seat.me.0).loads c.row_word-place.result c.load.result
    (λ k few e. no_control g.row.N c.args.sequence (c.args.word + 48) (32 + 8 * suc k) (omega arith) (sym place ∙ e))
    seat.kept) seat.home seat.below
