-- What holds of the venue's rings, seats and stages as they are opened behind a history.
use Rattle.std.specs.Prelude.{◌≡◌, false, length}
use Rattle.venue_model.specs.History.{History}
use Rattle.venue_model.specs.Requests.{Limits}
use Rattle.disks.specs.Disk.{Told, OnlyRead}
use Rattle.journal.specs.declared.fault.JournalFault.TheVariants.{Device, Damaged, NotAJournal, Memory, BadVersion, SnapshotsFull}
use Rattle.journal.specs.Format.{HasCut}
use Rattle.ring_words.specs.At.{Opened}
use Rattle.book.specs.Books.{Book}
use Rattle.book.specs.Histories.{state_of, outputs_of}
use Rattle.replay.specs.declared.taking_up.StartFault.{StartFault}
use Rattle.replay.specs.declared.taking_up.StartFault.TheVariants.{Journal, FalseSnapshot}
use Rattle.replay.specs.StartsUp.{KeepsHistory}
use Rattle.stages.specs.Stations.{OneCrew}
use Rattle.stages.specs.Crews.{new_crew}

-- the rings are those of this logic behind this history, whose outputs are given
pub record AreBehind (limits : Limits) (base : History) (rings : Opened Limits) : Type 0 where
  pub logic : rings.logic ≡ limits
  pub base_is : rings.base ≡ base
  pub base_outputs : rings.base_outputs ≡ length (outputs_of limits base)

-- market orders are read from the cut of the journal on the disk
abbrev pub ReadsByCut : Type 0 → Told → Opened Limits → Type 0
ReadsByCut honest disk rings = honest → HasCut disk.file rings.logic.cut

-- What is left of the disk where no venue is opened. Where the journal can't be read, or a snapshot in it isn't true, the disk was only read. A call that
-- fails, and memory that is refused, may come later, behind a snapshot that was due.
abbrev pub LeavesUnopened : Type 0 → Type 0 → Told → Told → Limits → StartFault → Type 0
LeavesUnopened was is old new limits (Journal Device) = KeepsHistory was is old new limits
LeavesUnopened was is old new limits (Journal (Damaged offset)) = OnlyRead was is old new
LeavesUnopened was is old new limits (Journal NotAJournal) = OnlyRead was is old new
LeavesUnopened was is old new limits (Journal Memory) = KeepsHistory was is old new limits
LeavesUnopened was is old new limits (Journal BadVersion) = OnlyRead was is old new
LeavesUnopened was is old new limits (Journal SnapshotsFull) = OnlyRead was is old new
LeavesUnopened was is old new limits (FalseSnapshot offset) = OnlyRead was is old new

-- the book is that of the history that the rings were opened with
pub record IsBookOf (rings : Opened Limits) (book : Book) : Type 0 where
  pub limits : book.limits ≡ rings.logic
  pub state : book.state ≡ state_of rings.logic rings.base

-- the stages at these rings, as they are at the start, with a journal that hasn't failed
pub record IsNewCrew {D : Type 0} (rings : Opened Limits) (crew : OneCrew D) : Type 0 where
  pub crew_is : crew ≡ new_crew rings crew.journaller.journal crew.processor.book
  pub ready : crew.journaller.journal.failed ≡ false
  pub book_is : IsBookOf rings crew.processor.book
