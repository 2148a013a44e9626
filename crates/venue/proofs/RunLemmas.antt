-- What a run for one client comes to: nobody was served, or the client was, turn by turn.
use Rattle.std.proofs.Common.{◌≡◌, inl, inr, ℕ, [], ◌∷◌, List, ap}
use Rattle.std.specs.Prelude.{Result}
use Rattle.venue_model.specs.Requests.{Limits}
use Rattle.disks.specs.Disk.{Both}
use Rattle.gateway.specs.Delivers.{Delivers, nothing_yet, starts}
use Rattle.gateway.specs.Seats.{ledger_of}
use Rattle.replay.specs.StartsUp.{KeepsHistory}
use Rattle.ring_words.specs.declared.close.Summary.{Summary}
use Rattle.stages.specs.Devices.{Device}
use Rattle.stages.specs.Finishing.{Finished}
use Rattle.stages.specs.Stations.{disk_of}
use Rattle.wires.specs.Wires as wires
use Rattle.venue.specs.CrashLaws.{kept_honest, kept_leaves, serve_leaves}
use Rattle.venue.specs.Faults.{status_of_end}
use Rattle.venue.specs.Headline.{SeenServing, seen}
use Rattle.venue.specs.Serving.{LeavesFrom, IsStatus, Opens, EndsWith}
use Rattle.venue.specs.Venues.{Venue}
use Rattle.venue.specs.declared.fault.ServeFault.{ServeFault}
use Rattle.venue.proofs.ClientLemmas.{seen_serving}
use Rattle.venue.proofs.HeadlineLemmas.{kept_same}
use Rattle.venue.proofs.ServingLemmas.{EndsTurns, both_on, served_status, isnt_one}

module _ {D W : Type 0} (device : Device D) (tells : W → wires.Told) (limits : Limits) (disk disk_after : D)
    (wire wire_after : W) (code : ℕ) where
  -- all that is known behind a run
  abbrev Runs : Type 0
  Runs = record {
    status : IsStatus (tells wire) (tells wire_after) (device.failed disk) (device.failed disk_after) code;
    untouched : code ≡ 1 → wire_after ≡ wire;
    served : EndsWith limits device (record { disk = disk; wire = tells wire })
        (record { disk = disk_after; wire = tells wire_after }) code;
    seen : SeenServing limits (device.honest disk) (seen (device.tells disk) (tells wire))
        (seen (device.tells disk_after) (tells wire_after)) code;
    honest : Both (device.honest disk) (device.honest disk_after);
    any_moment : device.honest disk → LeavesFrom (device.tells disk) (device.tells disk_after);
  }

  -- the session wasn't begun: the disk keeps its history, and no byte moved
  pub nobody_served : code ≡ 1 → wire_after ≡ wire
      → KeepsHistory (device.honest disk) (device.honest disk_after) (device.tells disk) (device.tells disk_after)
      limits → Runs
  nobody_served is same keeps = record {
    status = inr (inl (is, ap tells same));
    untouched = λ one. same;
    served = inl (is, keeps);
    seen = inl (is, ap tells same, kept_same _ _ _ _ limits keeps);
    honest = kept_honest _ _ _ _ limits keeps;
    any_moment = kept_leaves _ _ _ _ limits keeps;
  }

  -- what was opened was served until the turns ended, and then closed
  pub client_served : {start end : Venue D} {result : Result (Unit {0}) ServeFault} {summary : Summary}
      → ((d : D) → device.honest d → (c : List ℕ) → (device.tells d).left_since (device.tells d).moment c
      → (device.tells d).may_leave c)
      → EndsTurns device start end result → Opens limits device (record { disk = disk; wire = tells wire }) start
      → device.failed (disk_of start.crew) ≡ device.failed disk → code ≡ status_of_end result
      → Delivers (starts 1024 start.gateway start.wire) start.gateway.front start.wire
      (ledger_of 1024 start.gateway.seat) nothing_yet
      → Finished end.rings (end.gateway.seat ∷ []) end.crew (device.honest disk_after) (device.tells disk_after) summary
      → tells wire_after ≡ end.wire → disk_after ≡ disk_of end.crew → Runs
  client_served {start = start} {end = end} {result = result} {summary = summary} only_now turns opens counts is begins
      finished wire_is disk_is = record {
        status = rw (disk_is, wire_is) (served_status _ _ _ result _ _ _ _ _ _ is turns.served counts turns.counts);
        untouched = λ one. absurd (isnt_one _ _ _ result _ is turns.served one);
        served = served;
        seen = seen_serving limits device _ _ code only_now
            (λ one. absurd (isnt_one _ _ _ result _ is turns.served one)) served;
        honest = rw disk_is (both_on _ _ _ started turns.honest);
        any_moment = λ honest. rw disk_is (serve_leaves _ _ _ _ _ limits start.rings.base opens.disk_is honest
            (turns.any_moment (started.0 honest)));
      } where
        started : Both (device.honest disk) (device.honest (disk_of start.crew))
        started = kept_honest _ _ _ _ limits opens.disk_is.keeps

        served : EndsWith limits device (record { disk = disk; wire = tells wire })
            (record { disk = disk_after; wire = tells wire_after }) code
        served = let delivered = turns.delivers (starts 1024 start.gateway start.wire) nothing_yet begins in inr (
          result,
          is,
          record {
            start = start;
            end = end;
            opens = opens;
            serves = turns.served;
            course = delivered.0;
            delivers = delivered.1;
            summary = summary;
            finished = finished;
            wire = wire_is;
            disk_is = disk_is;
          },
        )
