-- The others are as they were, and the last one is the last of all.
use Rattle.std.proofs.Common.{◌≡◌, ℕ, true, false, length, refl, arith}
use Rattle.venue_model.specs.ListLaws.{at_longer}
use Rattle.venue.specs.Headline.{in_box}
use Rattle.venue.proofs.MemberLemmas.{of_last}
use Rattle.venue.proofs.members.split_last.Goals as goal

pub returns-clause-others : goal.returns-clause-others
returns-clause-others g c =
    let all = c.requires.ports in let fewer = c.in-Some.ensures.count in let popped = c.in-Some-pop.ensures.len in
    let room = c.requires.room in let seats = room.0 in let ports = room.1 in record {
      doors = c.last_door.ensures.left;
      ports = omega (arith, all, fewer, popped);
      opened = λ i x there. c.requires.opened i x (rw c.in-Some-pop.ensures.items
          (at_longer c.pop.new.self.items _ i x there));
      free = λ i x there. c.requires.free i x (rw c.in-Some-pop.ensures.items
          (at_longer c.pop.new.self.items _ i x there));
      empty = c.requires.empty;
      room = (omega (arith, seats, fewer), omega (arith, ports, fewer));
    }

pub returns-clause-port : goal.returns-clause-port
returns-clause-port g c = (
  of_last (λ (n : ℕ) x. (in_box g.X.Port.tells x).is_open ≡ true) c.args.members.ports.items c.pop.new.self.items
      c.in-Some-pop.port
      c.in-Some-pop.ensures.items (λ i x there. c.requires.opened i x there) (length c.args.members.ports.items) refl,
  of_last (λ (n : ℕ) x. (in_box g.X.Port.tells x).out ≡ false) c.args.members.ports.items c.pop.new.self.items
      c.in-Some-pop.port
      c.in-Some-pop.ensures.items (λ i x there. c.requires.free i x there) (length c.args.members.ports.items) refl,
)
