-- What a run of the mode `-` comes to.
use Rattle.std.specs.Prelude.{◌≡◌, ◌⊎◌, ℕ, false, [], ◌∷◌, Result}
use Rattle.venue_model.specs.Counts.{Rose}
use Rattle.venue_model.specs.History.{History}
use Rattle.venue_model.specs.Requests.{Limits}
use Rattle.gateway.specs.Delivers.{Course, Delivers, starts}
use Rattle.gateway.specs.Gateways.{begun}
use Rattle.gateway.specs.Seats.{ledger_of}
use Rattle.wires.specs.Wires as wires
use Rattle.disks.specs.Disk.{Told, LeavesOnly}
use Rattle.journal.specs.Format.{IsJournal}
use Rattle.replay.specs.StartsUp.{KeepsHistory, IsStarted}
use Rattle.ring_words.specs.At.{Opened, At, IsAt}
use Rattle.ring_words.specs.declared.close.Summary.{Summary}
use Rattle.venue.specs.Faults.{status_of_end}
use Rattle.stages.specs.Stations.{OneCrew, disk_of}
use Rattle.stages.specs.Crews.{AreAt}
use Rattle.stages.specs.Finishing.{Finished}
use Rattle.venue.specs.Crashes.{Behind}
use Rattle.venue.specs.Opened.{AreBehind, IsNewCrew, ReadsByCut}
use Rattle.venue.specs.Rounds.{Served}
use Rattle.venue.specs.VenueRings.{IsFirstSeat}
use Rattle.stages.specs.Devices.{Device}
use Rattle.venue.specs.Venues.{Venue, IsJournalBehind}
use Rattle.venue.specs.declared.fault.ServeFault.{ServeFault}

-- A crash at any moment since old leaves a file that it might have left then, or the journal of a history that begins with that of the
-- file then.
abbrev pub LeavesFrom : Told → Told → Type 0
LeavesFrom old new = LeavesOnly old new (λ file. old.may_leave file ⊎ ((base : History) × IsJournal old.file base × IsJournalBehind base file))

-- of the wire before and after, and of how many calls of the disk had failed: at 0 none failed; at 1 no byte moved; at 2 one failed
abbrev pub IsStatus : wires.Told → wires.Told → ℕ → ℕ → ℕ → Type 0
IsStatus wire wire_after failed failed_after status =
    ((status ≡ 0) × (failed_after ≡ failed)) ⊎ (((status ≡ 1) × (wire_after ≡ wire)) ⊎ ((status ≡ 2) × Rose failed failed_after))

-- what a run is handed and gives back: its disk, and what its wire tells
pub record Outside (D : Type 0) : Type 0 where
  pub disk : D
  pub wire : wires.Told

module _ {D : Type 0} where
  -- The seat is at these rings, and so are the stages. Their journal hasn't failed, and what it has begins with the
  -- history at the start.
  pub record MayServe (rings : Opened Limits) (here : At Limits) (stages : OneCrew D) : Type 0 where
    pub seat : IsAt rings here
    pub crew : AreAt rings stages
    pub ready : stages.journaller.journal.failed ≡ false
    pub behind : Behind rings.base stages.journaller.seat.who

  -- Gateway 1 has begun a session, and nothing was done: the venue stands behind the journal's history, which it reads by the journal's cut,
  -- and so does the gateway's seat.
  pub record Opens (limits : Limits) (device : Device D) (old : Outside D) (s : Venue D) : Type 0 where
    pub crew : IsNewCrew s.rings s.crew
    pub behind : AreBehind (record limits { cut = s.rings.logic.cut }) s.rings.base s.rings
    pub cut : ReadsByCut (device.honest (disk_of s.crew)) (device.tells (disk_of s.crew)) s.rings
    pub seat : IsFirstSeat s.rings s.gateway.seat
    pub session : s.gateway.front ≡ begun 1 0
    pub wire : s.wire ≡ old.wire
    pub disk_is : IsStarted (device.honest old.disk) (device.honest (disk_of s.crew)) (device.tells old.disk) (device.tells (disk_of s.crew))
        limits s.rings.base

  -- The session was served. It ended by itself (or 2 ^ 64 - 1 rounds were taken), or the journal failed. What the client sent, was given and was written
  -- is the course of the session; and one log tells of all.
  pub record Serves (limits : Limits) (device : Device D) (old new : Outside D) (result : Result (Unit {0}) ServeFault) : Type 0 where
    pub start : Venue D
    pub end : Venue D
    pub opens : Opens limits device old start
    pub serves : Served device start end result
    pub course : Course
    pub delivers : Delivers (starts 1024 start.gateway start.wire) end.gateway.front end.wire (ledger_of 1024 end.gateway.seat) course
    pub summary : Summary
    pub finished : Finished end.rings (end.gateway.seat ∷ []) end.crew (device.honest new.disk) (device.tells new.disk) summary
    pub wire : new.wire ≡ end.wire
    pub disk_is : new.disk ≡ disk_of end.crew

  -- What the program's status says: 1 where the session didn't begin, and the disk was only read, or a snapshot that was due was added to the journal
  -- of the same history, or not; and else how it ended.
  abbrev pub EndsWith : Limits → Device D → Outside D → Outside D → ℕ → Type 0
  EndsWith limits device old new status =
      ((status ≡ 1) × KeepsHistory (device.honest old.disk) (device.honest new.disk) (device.tells old.disk) (device.tells new.disk) limits)
      ⊎ ((result : Result (Unit {0}) ServeFault) × (status ≡ status_of_end result) × Serves limits device old new result)
