-- What a run of the listening mode comes to.
use Rattle.std.specs.Prelude.{◌≡◌, ◌⊎◌, ℕ, Bool, true, false, List, length, Result, Ok, Err}
use Rattle.venue_model.specs.Requests.{Limits}
use Rattle.ring_words.specs.At.{Opened, At}
use Rattle.ring_words.specs.declared.close.Summary.{Summary}
use Rattle.replay.specs.StartsUp.{KeepsHistory, IsStarted}
use Rattle.stages.specs.Stations.{OneCrew, disk_of}
use Rattle.stages.specs.Finishing.{Finished}
use Rattle.stages.specs.Journalling.{JournalsOn}
use Rattle.venue.specs.Faults.{status_of_end}
use Rattle.venue.specs.Headline.{Boundary, SamePorts}
use Rattle.venue.specs.Members.{AreBack}
use Rattle.wires.specs.Ports.{Register}
use Rattle.venue.specs.Opened.{AreBehind, IsNewCrew, ReadsByCut}
use Rattle.stages.specs.Devices.{Device}
use Rattle.venue.specs.declared.fault.ServeFault.{ServeFault}
use Rattle.venue.specs.declared.fault.ServeFault.TheVariants as fault

-- How it ended, by whether the journal failed, and whether all workers had begun. One for which the system makes no thread is a want of memory.
abbrev pub end_of : Bool → Bool → Result (Unit {0}) ServeFault
end_of true ready = Err fault.JournalFailed
end_of false true = Ok tt
end_of false false = Err fault.Memory

module _ {D X : Type 0} where
  -- Members were served behind the journal's history, which is read by the journal's cut. The stages went on from there, the journaller with all that it
  -- was told, and all gateways' seats came back, and their ports; one log tells of all of them, of which the disk keeps what was answered.
  pub record Listens (limits : Limits) (device : Device D) (tells : X → Register) (old new : Boundary D X) (status : ℕ) : Type 0 where
    pub rings : Opened Limits
    pub begun : OneCrew D
    pub ended : OneCrew D
    pub seats : List (At Limits)
    pub ready : Bool
    pub summary : Summary
    pub behind : AreBehind (record limits { cut = rings.logic.cut }) rings.base rings
    pub cut : ReadsByCut (device.honest (disk_of begun)) (device.tells (disk_of begun)) rings
    pub crew : IsNewCrew rings begun
    pub counts : device.failed (disk_of begun) ≡ device.failed old.disk
    pub opened : IsStarted (device.honest old.disk) (device.honest (disk_of begun)) (device.tells old.disk) (device.tells (disk_of begun)) limits rings.base
    pub journals : JournalsOn 1024 rings device begun.journaller ended.journaller
    pub back : AreBack rings tells old.ports seats new.ports
    pub all : (length seats ≡ length old.ports) × (length new.ports ≡ length old.ports)
    pub finished : Finished rings seats ended (device.honest new.disk) (device.tells new.disk) summary
    pub disk_is : new.disk ≡ disk_of ended
    pub status_is : status ≡ status_of_end (end_of ended.journaller.journal.failed ready)

  -- Nobody was served: no client came in at the ports, and the disk was only read, or a snapshot that was due was added to the journal of the same history,
  -- or not.
  pub record ServesNobody (limits : Limits) (device : Device D) (tells : X → Register) (old new : Boundary D X) : Type 0 where
    pub disk : KeepsHistory (device.honest old.disk) (device.honest new.disk) (device.tells old.disk) (device.tells new.disk) limits
    pub ports : SamePorts tells old.ports new.ports
    pub all : length new.ports ≡ length old.ports

  -- What the program's status says: 1 where nobody was served; and else how it ended.
  abbrev pub EndsListening : Limits → Device D → (X → Register) → Boundary D X → Boundary D X → ℕ → Type 0
  EndsListening limits device tells old new status =
      ((status ≡ 1) × ServesNobody limits device tells old new) ⊎ Listens limits device tells old new status
