use Rattle.std.proofs.Common.{arith}
use Rattle.ring_words.specs.Places.{processed}
use Rattle.ring_words.specs.Rule.{words_of}
use Rattle.ring_words.proofs.Windows.{one_window}
use Rattle.ring_words.proofs.laws.a_row_has_one_sequence_in_use.Goals as goal

pub returns : goal.returns
returns g c terms s one other rule one_there other_there row =
    let room = rule.order.room in
    let low = one_there.1 in
    let high = other_there.1 in
    one_window (words_of s processed) one other terms.rows one_there.0 other_there.0
    (omega (arith, room, low)) (omega (arith, room, high)) row
