-- Each door and each port is as it was made, and there is room for all.
use Rattle.std.proofs.Common.{arith}
use Rattle.venue.specs.Headline.{in_box}
use Rattle.venue.proofs.HomeLemmas.{free_again}
use Rattle.venue.proofs.listening.open_members.Goals as goal

pub returns-clause-ready : goal.returns-clause-ready
returns-clause-ready g c =
    let doors = c.in-Ok-open_doors.ensures in let opened = c.open_ports.ensures in
    let all = c.requires.ports.0 in let made = doors.count in let kept = opened.count in let home = doors.home in
    let room = c.in-Ok.ensures in record {
      doors = doors.doors;
      ports = omega (arith, all, made, kept);
      opened = c.in_default-open_ports.ensures.opened;
      free = free_again (in_box g.X.Port.tells) c.args.ports.items c.open_ports.new.ports.items opened.ports
          c.requires.ports.1;
      empty = (home.0, room.items);
      room = (
        let same = home.1 in let within = c.args.seats.ok in omega (arith, made, same, within.1),
        let wide = room.capacity in let length = c.len.ensures in omega (arith, made, all, wide, length),
      );
    }
