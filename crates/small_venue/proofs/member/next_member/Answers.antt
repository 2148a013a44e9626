-- The seat that is taken is the last one, and the others stay.
use Rattle.std.proofs.Common.{◌≡◌, ◌+◌, length, vec_len, arith}
use Rattle.small_venue.proofs.Seats.{stays, last_one}
use Rattle.small_venue.proofs.member.next_member.Goals as goal

pub invariant_of-result : goal.invariant_of-result
invariant_of-result g c =
    let left = c.pop.new.self.items in
    record {
      fits = (c.requires (length left) c.in_ok-seat.seat
          (rw c.in_ok-seat.ensures.items (last_one left c.in_ok-seat.seat))).at;
    }

pub returns-clause-left : goal.returns-clause-left
returns-clause-left g c = λ i s there. c.requires i s (rw c.pop.ensures.items (stays c.pop.new.self.items _ i s there))

pub returns-clause-member : goal.returns-clause-member
returns-clause-member g c =
    let left = c.pop.new.self.items in
    let count : length left + 1 ≡ vec_len c.args.gateways.now =
    omega (arith, c.pop.new.self.ok.0, c.in_ok-seat.ensures.len) in
    rw (← count) (c.requires (length left) c.in_ok-seat.seat
    (rw c.in_ok-seat.ensures.items (last_one left c.in_ok-seat.seat)))
