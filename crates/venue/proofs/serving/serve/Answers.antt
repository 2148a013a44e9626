-- The seat is that of gateway 1, as the rings were opened with it; and what was opened was served from there on.
use Rattle.std.proofs.Common.{◌∙◌, ap, refl}
use Rattle.gateway.specs.Gateways.{AtRings}
use Rattle.stages.specs.Devices.{device}
use Rattle.venue.specs.Faults.{status_of}
use Rattle.venue.specs.CrashLaws.{new_behind, unopened_kept}
use Rattle.venue.specs.OpenedLaws.{new_seen}
use Rattle.venue.proofs.RunLemmas.{nobody_served, client_served}
use Rattle.venue.proofs.ServingLemmas.{began, crew_at, first_at, refused_status}
use Rattle.venue.proofs.serving.serve.Goals as goal

pub new-requires : goal.new-requires
new-requires g c = new_seen _ _ _ 1 _ c.in-Ok.ensures.opened.0 c.first_seat-seat.ensures.seat c.in-Ok.ensures.disk.few

-- the session isn't begun
pub returns-in-Err : goal.returns-in-Err
returns-in-Err g c = let D = g.D.JournalDisk in
    nobody_served (device D.honest D.tells D.failed) g.W.Wire.tells c.args.limits c.args.disk _ c.args.wire.now _ _
    (c.say.ensures ∙ ap status_of c.from.ensures ∙ refused_status c.in-Err.fault) refl
    (unopened_kept _ _ _ _ c.args.limits c.in-Err.fault c.in-Err.ensures.refused)

pub returns-in-Err-new : goal.returns-in-Err-new
returns-in-Err-new g c = let D = g.D.JournalDisk in
    nobody_served (device D.honest D.tells D.failed) g.W.Wire.tells c.args.limits c.args.disk _ c.args.wire.now _ _
    c.say-in-Err-new.ensures refl (rw c.finish-disk.ensures.disk c.in-Ok.ensures.disk.keeps)

pub finish-disk-requires-clause-crew : goal.finish-disk-requires-clause-crew
finish-disk-requires-clause-crew g c = crew_at _ _ c.in-Ok.ensures.opened.1

pub finish-disk-requires-clause-seat : goal.finish-disk-requires-clause-seat
finish-disk-requires-clause-seat g c =
    let seat = first_at _ _ (c.in-Err-new.ensures.back ∙ c.first_seat-seat.ensures.seat) in (seat.0, seat.1)

pub finish-disk-requires-clause-spent : goal.finish-disk-requires-clause-spent
finish-disk-requires-clause-spent g c = (first_at _ _ (c.in-Err-new.ensures.back ∙ c.first_seat-seat.ensures.seat)).2

-- the turns are taken from the start on
pub take_turns-requires-clause-live : goal.take_turns-requires-clause-live
take_turns-requires-clause-live g c = ap (λ (a : AtRings). a.front.live) c.begin.ensures.new

pub take_turns-requires-clause-may : goal.take_turns-requires-clause-may
take_turns-requires-clause-may g c =
    let first = began c.in-Ok.opened.0 c.in-Ok-new.gateway c.begin.new.self c.first_seat-seat.result
    c.in-Ok-new.ensures.made c.begin.ensures.new c.first_seat-seat.ensures.seat in
    let crew = c.in-Ok.ensures.opened.1 in record {
      seat = (first_at _ _ (first.1 ∙ c.first_seat-seat.ensures.seat)).0;
      crew = crew_at _ _ crew;
      ready = crew.ready;
      behind = new_behind _ _ crew;
    }

pub finish-disk-requires-2-clause-crew : goal.finish-disk-requires-2-clause-crew
finish-disk-requires-2-clause-crew g c = c.take_turns.ensures.stays.2

pub finish-disk-requires-2-clause-seat : goal.finish-disk-requires-2-clause-seat
finish-disk-requires-2-clause-seat g c =
    let first = began c.in-Ok.opened.0 c.in-Ok-new.gateway c.begin.new.self c.first_seat-seat.result
    c.in-Ok-new.ensures.made c.begin.ensures.new c.first_seat-seat.ensures.seat in
    let stays = c.take_turns.ensures.stays in
    rw c.end.ensures.seat (stays.0, stays.1 ∙ (first_at _ _ (first.1 ∙ c.first_seat-seat.ensures.seat)).1)

pub finish-disk-requires-2-clause-spent : goal.finish-disk-requires-2-clause-spent
finish-disk-requires-2-clause-spent g c = c.end.ensures.seen.spent

pub returns : goal.returns
returns g c = let opened = c.in-Ok.ensures in let D = g.D.JournalDisk in
    let first = began c.in-Ok.opened.0 c.in-Ok-new.gateway c.begin.new.self c.first_seat-seat.result
    c.in-Ok-new.ensures.made c.begin.ensures.new c.first_seat-seat.ensures.seat in
    client_served (device D.honest D.tells D.failed) g.W.Wire.tells c.args.limits c.args.disk _ c.args.wire.now _ _
    (λ disk honest file left. g.met.D.JournalDisk.only_now disk file honest left) c.take_turns.ensures
    (record {
      crew = opened.opened.1;
      behind = opened.opened.0;
      cut = opened.cut;
      seat = rw first.1 c.first_seat-seat.ensures.seat;
      session = first.0;
      wire = refl;
      disk_is = opened.disk;
    })
    opened.counts c.status_of-status.ensures (c.begin.ensures.begins 1024 _)
    (rw c.end.ensures.seat at c.finish-disk-2.ensures.finished) refl c.finish-disk-2.ensures.disk
