-- What was opened was served from there on, by the journaller's run and the members' turns.
use Rattle.std.proofs.Common.{◌∙◌, ℕ, Bool, List, inl, inr, refl, arith, ap}
use Rattle.std.specs.Prelude.{if◌then◌else◌}
use Rattle.stages.specs.Stations.{OneCrew}
use Rattle.venue.specs.Faults.{status_of, status_of_end}
use Rattle.venue.specs.Listening.{end_of}
use Rattle.venue.specs.Headline.{in_box}
use Rattle.venue.specs.CrashLaws.{unopened_kept}
use Rattle.venue.proofs.HomeLemmas.{back_again, spent_again}
use Rattle.venue.proofs.ListeningLemmas.{ends_so}
use Rattle.venue.proofs.ServingLemmas.{refused_status}
use Rattle.venue.proofs.listening.listen.Given as given
use Rattle.venue.proofs.listening.listen.Goals as goal

-- what an honest disk left since now, it may leave
only_now : (g : given.Over) (disk : g.row.D.Denot) → g.D.JournalDisk.honest disk → (file : List ℕ)
    → (g.D.JournalDisk.tells disk).left_since (g.D.JournalDisk.tells disk).moment file
    → (g.D.JournalDisk.tells disk).may_leave file
only_now g disk honest file left =
    (g.met.D.JournalDisk g.world.𝓛 g.world.𝓜 g.world.𝓡 ((λ s x. x), (λ x. x), (λ x. x), λ x. x)).only_now disk file
    honest left

pub close-disk-requires : goal.close-disk-requires
close-disk-requires g c =
    let members = c.in-Ok-open_members.members in let home = c.serve_members-crew.result.0.1 in
    let back = c.serve_members-crew.ensures.home in let ready = c.in-Ok-open_members.ensures.ready in
    let seats = back.seats in let ports = back.ports in let paired = ready.ports in
    let ok_seats = home.seats.ok.0 in let ok_ports = home.ports.ok.0 in let ok_before = members.ports.ok.0 in
    let same = c.in-Ok-open_members.ensures.ports.1 in let all = c.requires.ports.0 in (
      omega arith,
      (
        c.serve_members-crew.ensures.crew.0,
        (
          spent_again (in_box g.X.Port.tells) c.in-Ok.opened.0 home.seats.items home.ports.items members.ports.items
              (omega (arith, seats, paired, ok_seats, ok_before))
              (omega (arith, ports, paired, ok_ports, ok_before)) back.back,
          omega (arith, seats, paired, same, all),
        ),
      ),
    )

pub returns : goal.returns
returns g c =
    let opened = c.in-Ok.ensures in let served = c.serve_members-crew in let home = served.result.0.1 in
    let members = c.in-Ok-open_members.members in let ready = c.in-Ok-open_members.ensures.ready in
    let back = served.ensures.home in let same = c.in-Ok-open_members.ensures.ports in
    let seats = back.seats in let ports = back.ports in let paired = ready.ports in let count = same.1 in
    let ok_seats = home.seats.ok.0 in let ok_ports = home.ports.ok.0 in let ok_before = c.args.ports.ok.0 in
    ends_so (_, c.clear.ensures) (only_now g) (inr (record {
      rings = c.in-Ok.opened.0;
      begun = c.in-Ok.opened.1;
      ended = served.result.0.0;
      seats = home.seats.items;
      ready = served.result.1;
      summary = c.close-disk.result.0;
      behind = opened.opened.0;
      cut = opened.cut;
      crew = opened.opened.1;
      counts = opened.counts;
      opened = opened.disk;
      journals = served.ensures.crew.1;
      back = back_again (in_box g.X.Port.tells) c.in-Ok.opened.0 home.seats.items home.ports.items c.args.ports.items
          members.ports.items same.0 back.back;
      all = (
        omega (arith, seats, paired, count, ok_seats, ok_before),
        omega (arith, ports, paired, count, ok_ports, ok_before),
      );
      finished = c.close-disk.ensures.finished;
      disk_is = c.close-disk.ensures.disk;
      status_is = c.say_end.ensures
          ∙ ap status_of_end (c.end_of-end.ensures ∙ ap (λ failed. end_of failed served.result.1)
          (c.has_failed.ensures ∙ ap (λ (k : OneCrew g.row.D.Denot). k.journaller.journal.failed) c.crew.view_is));
    }))

pub returns-in-Err-open_members : goal.returns-in-Err-open_members
returns-in-Err-open_members g c = ends_so (_, c.clear.ensures) (only_now g) (inl (
  c.say-in-Err-open_members.ensures ∙ ap (λ (served : Bool). if served then 2 else 1)
      c.in-Err-open_members.ensures.fault,
  record {
    disk = rw c.unserved.ensures c.in-Ok.ensures.disk.keeps;
    ports = c.in-Err-open_members.ensures.back.0;
    all = omega (arith, c.in-Err-open_members.ensures.back.1, c.args.ports.ok.0, c.in-Err-open_members.ports.ok.0);
  },
))

pub returns-in-Err : goal.returns-in-Err
returns-in-Err g c =
    let kept = unopened_kept _ _ _ _ c.args.limits c.in-Err.fault c.in-Err.ensures.refused in
    let is = c.say.ensures ∙ ap status_of c.from.ensures ∙ refused_status c.in-Err.fault in
    ends_so (_, c.clear.ensures) (only_now g) (inl (is, record { disk = kept; ports = refl; all = refl }))
