-- What a run of the program comes to, from the folder of its journal on.
use Rattle.std.specs.Prelude.{◌≡◌, ◌⊎◌, ℕ, ◌≤◌, true, false, List, Option}
use Rattle.venue_model.specs.History.{History}
use Rattle.disks.specs.Disk.{Told}
use Rattle.journal.specs.Format.{IsJournal}
use Rattle.disks.specs.Places.{Place, IsLeft}
use Rattle.journal.specs.Openings.{Opens}
use Rattle.disks.specs.declared.file_disk.FileDisk.{FileDisk}
use Rattle.stages.specs.Devices.{Device, device}
use Rattle.venue.specs.Headline.{boundary, SeenListening, SeenServing, seen}
use Rattle.venue.specs.Venues.{IsJournalBehind}
use Rattle.venue_model.specs.Requests.{Limits}
use Rattle.wires.specs.Ports.{Register}
use Rattle.wires.specs.Wires as wires

-- What may stand in the file of a journal behind a run that began in this place: where there was a file, what a crash
-- might have left of it, or the journal of a history that begins with that of the file; where there was none, a
-- journal.
abbrev pub StandsFrom : Place → List ℕ → Type 0
StandsFrom place c =
    ((place.there ≡ true)
    × (place.named.may_leave c ⊎ ((base : History) × IsJournal place.named.file base × IsJournalBehind base c)))
    ⊎ ((place.there ≡ false) × ((h : History) × IsJournal c h))

-- A run over the file of this place: a crash at any moment since the file was opened leaves such a one, and leaves one
-- under the name.
pub record Runs (old new : Place) (disk : Told) : Type 0 where
  pub opened : ℕ
  pub later : opened ≤ disk.moment
  pub file : (c : List ℕ) → disk.left_since opened c → StandsFrom old c
  pub name : (o : Option (List ℕ)) → new.may_leave o → IsLeft (StandsFrom old) o

-- a disk over such files
abbrev pub on_file : {F : Type 0} → (F → Type 0) → (F → Told) → Device (FileDisk F)
on_file honest tells = device (λ disk. honest disk.file) (λ disk. tells disk.file) (λ disk. disk.failures)

-- what a run is handed: what the folder of its journal tells, and over what it serves: what the client's wire tells, or
-- the members' ports
pub record Handed (S : Type 0) : Type 1 where
  pub place : Place
  pub over : S

abbrev pub handed : {S : Type 0} → Place → S → Handed S
handed place over = record { place = place; over = over }

-- what it gives back: the same as it is then, its disk, and its status
pub record GivenBack (D S : Type 0) : Type 1 where
  pub place : Place
  pub over : S
  pub disk : D
  pub status : ℕ

abbrev pub back : {D S : Type 0} → Place → S → D → ℕ → GivenBack D S
back place over disk status = record { place = place; over = over; disk = disk; status = status }

module _ {D : Type 0} (honest : Type 0) (limits : Limits) (device : Device D) where
  -- A disk was opened, and this was seen of a run for one client over it, to its end. Where the folder is honest, the
  -- disk is the file of the journal, or one that was made for it.
  pub record ServesIn (old : Handed wires.Told) (new : GivenBack D wires.Told) : Type 0 where
    pub opened : D
    pub opens : honest → Opens old.place new.place (device.honest opened) (device.tells opened)
    pub served : SeenServing limits (device.honest opened) (seen (device.tells opened) old.over)
        (seen (device.tells new.disk) new.over) new.status

  -- The same of a venue that listens: this was seen of a run for all members over the disk, to its end.
  pub record ListensIn {X : Type 0} (tells : X → Register) (old : Handed (List X)) (new : GivenBack D (List X)) : Type 0 where
    pub opened : D
    pub opens : honest → Opens old.place new.place (device.honest opened) (device.tells opened)
    pub served : SeenListening limits device tells (boundary opened old.over) (boundary new.disk new.over) new.status
