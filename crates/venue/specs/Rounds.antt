-- The mode `-`, round by round: a turn of the gateway, and then one poll of each stage.
use Rattle.std.specs.Prelude.{◌≡◌, ◌≢◌, ◌⊎◌, ◌↔◌, ℕ, zero, suc, ◌^◌, ◌-◌, true, Result, Ok, Err}
use Rattle.gateway.specs.Delivers.{Start, Course, Delivers, Proceeds}
use Rattle.gateway.specs.Seats.{Uses, ledger_of}
use Rattle.gateway.specs.declared.ending.Reason.{Reason}
use Rattle.gateway.specs.declared.ending.Turned.{Turned}
use Rattle.gateway.specs.declared.ending.Turned.TheVariants.{Quiet, Ended}
use Rattle.stages.specs.Kept.{KeepsDone, Fails, LeavesBlock}
use Rattle.stages.specs.Stations.{disk_of}
use Rattle.stages.specs.Crews.{Polls, AreIdle}
use Rattle.stages.specs.Processes.{sizes}
use Rattle.stages.specs.declared.crew.Turns.{Turns}
use Rattle.stages.specs.declared.turn.Turn.TheVariants.{JournalFailed}
use Rattle.stages.specs.Devices.{Device}
use Rattle.venue.specs.Venues.{Venue}
use Rattle.venue.specs.declared.fault.ServeFault.{ServeFault}
use Rattle.venue.specs.declared.fault.ServeFault.TheVariants as fault

module _ {D : Type 0} where
  -- the gateway took a turn, and that was all
  pub record TakesGatewayTurn (s t : Venue D) (turned : Turned) : Type 0 where
    pub turn : Proceeds 1024 s.gateway t.gateway s.wire t.wire turned
    pub uses : Uses 1024 s.gateway.seat t.gateway.seat
    pub others : t ≡ record s { gateway = t.gateway; wire = t.wire }

  -- Each stage was polled once, and that was all; a call of the disk failed just where the journal did. A crash at any moment of it leaves the journal of a beginning of what the journaller knows now, which
  -- has all that it had handed on before, with the block that the poll took up or without it, of the same version; and a crash from then on leaves one with all that
  -- it has handed on now.
  pub record TakesPolls (device : Device D) (s t : Venue D) (polled : Turns) : Type 0 where
    pub polls : Polls (sizes 1024 1024 1) s.rings.logic s.crew t.crew polled
    pub fails : Fails device.failed s.crew.journaller.journal t.crew.journaller.journal polled.journaller
    pub leaves : LeavesBlock 1024 device.honest device.tells s.crew.journaller t.crew.journaller
    pub keeps : device.honest (disk_of t.crew) → KeepsDone (device.tells (disk_of t.crew)) t.crew.journaller.seat.who
    pub others : t ≡ record s { crew = t.crew }

  -- A round: the session goes on, and so does the journal. Behind it the wire is told that all is quiet just where nothing moved in the turn and no stage
  -- had anything to do: a read may wait for the client then.
  pub record Round (device : Device D) (s t : Venue D) : Type 0 where
    pub between : Venue D
    pub after : Venue D
    pub turned : Turned
    pub polled : Turns
    pub turns : TakesGatewayTurn s between turned
    pub lives : between.gateway.front.live ≡ true
    pub polls : TakesPolls device between after polled
    pub keeps : polled.journaller ≢ JournalFailed
    pub rests : t ≡ record after { wire = record after.wire { quiet = t.wire.quiet } }
    pub quiet : (t.wire.quiet ≡ true) ↔ ((turned ≡ Quiet) × AreIdle polled)

  -- whatever course the session had before, it has one that goes on from there
  abbrev pub DeliversOn : Venue D → Venue D → Type 0
  DeliversOn s t = (start : Start) (c : Course) → Delivers start s.gateway.front s.wire (ledger_of 1024 s.gateway.seat) c →
      (d : Course) × Delivers start t.gateway.front t.wire (ledger_of 1024 t.gateway.seat) d

  -- so many rounds
  abbrev pub Rounds : Device D → ℕ → Venue D → Venue D → Type 0
  Rounds device zero s t = t ≡ s
  Rounds device (suc n) s t = (u : Venue D) × Rounds device n s u × Round device u t

  -- How it ends behind n rounds: the turn ended the session, which no poll follows; or 2 ^ 64 - 1 rounds were taken. Or the journal failed in a poll.
  abbrev pub Finale : Device D → ℕ → Venue D → Venue D → Result (Unit {0}) ServeFault → Type 0
  Finale device n s t (Ok done) = ((reason : Reason) × TakesGatewayTurn s t (Ended reason)) ⊎ ((n ≡ 2 ^ 64 - 1) × (t ≡ s))
  Finale device n s t (Err f) =
      (f ≡ fault.JournalFailed) × (u : Venue D) × (turned : Turned) × (polled : Turns) × TakesGatewayTurn s u turned × (u.gateway.front.live ≡ true)
      × TakesPolls device u t polled × (polled.journaller ≡ JournalFailed)

  -- the session was served from here to there
  pub record Served (device : Device D) (s t : Venue D) (result : Result (Unit {0}) ServeFault) : Type 0 where
    pub count : ℕ
    pub last : Venue D
    pub rounds : Rounds device count s last
    pub finale : Finale device count last t result
