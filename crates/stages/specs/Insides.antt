-- What holds of the fields of a stage that holds more than a seat.
use Rattle.std.specs.Prelude.{◌≡◌, ℕ, suc, ◌+◌, ◌^◌, ◌<◌, ◌≤◌, Bool, false, List, [], length, take, drop, Some}
use Rattle.std.specs.Prelude.{MatchBool}
use Rattle.venue_model.specs.History.{History}
use Rattle.venue_model.specs.Requests.{Limits}
use Rattle.venue_model.specs.declared.outputs.Output.{Output}
use Rattle.ring_words.specs.declared.view.Person.{Person}
use Rattle.ring_words.specs.Places.{journalled}
use Rattle.ring_words.specs.Seats.{last_from}
use Rattle.ring_words.specs.At.{At, seated}
use Rattle.disks.specs.Disk.{Told}
use Rattle.journal.specs.Journals.{OneJournal}
use Rattle.book.specs.Books.{Book}
use Rattle.book.specs.Histories.{state_of, outputs_of}
use Rattle.stages.specs.Kept.{HoldsDone, KeepsDone}
use Rattle.stages.specs.Stations.{AtBook}
use Rattle.sequencer.specs.Rooms.{SaysRoom}
use Rattle.stages.specs.Processes.{PutsRound}
use Rattle.stages.specs.Turns.{after_messages, next_block}

-- the journal has just the entries that are done, while no append failed; and whatever a crash leaves has them
pub record IsKeeping {D : Type 0} (honest : Type 0) (disk : Told) (who : Person) (journal : OneJournal D) : Type 0 where
  pub counts : journal.failed ≡ false → journal.count ≡ who.sequence
  pub holds : honest → journal.failed ≡ false → ∥ HoldsDone disk who ∥₁
  pub keeps : honest → ∥ KeepsDone disk who ∥₁

-- the book is that of the first entries, so many; of their outputs all but those left are published
pub record FollowsRings (v : At Limits) (book : Book) (applied : ℕ) (left : List Output) : Type 0 where
  pub logic : v.logic ≡ Some book.limits
  pub state : book.state ≡ state_of book.limits (take applied v.who.seen)
  pub rest : drop v.who.row.sequence (outputs_of book.limits (take applied v.who.seen)) ≡ left
  pub published : length (outputs_of book.limits (take applied v.who.seen)) ≡ v.who.row.sequence + length left

-- So it is of the entries that are done, or of one more, which was seen journalled, of which some outputs may be left.
pub record IsWorking (p : AtBook) : Type 0 where
  pub follows : FollowsRings p.seat p.book p.applied p.left
  pub counts : (p.seat.who.sequence ≤ p.applied) × (p.applied ≤ suc p.seat.who.sequence) × (p.applied ≤ length p.seat.who.seen)
  pub whole : p.applied ≡ p.seat.who.sequence → p.left ≡ []
  pub synced : p.seat.who.sequence < p.applied → p.seat.who.sequence < last_from journalled 0 p.seat.who.loads

-- the command of the sequence s may be taken up: it is the next one, and was seen journalled
pub record MayTake (p : AtBook) (s : ℕ) : Type 0 where
  pub next : s ≡ p.seat.who.sequence
  pub all : p.applied ≡ s
  pub known : s < length p.seat.who.seen
  pub small : s < 2 ^ 48
  pub synced : s < last_from journalled 0 p.seat.who.loads

-- the place behind the last of the outputs left
abbrev pub upto : AtBook → ℕ
upto p = p.seat.who.row.sequence + length p.left

-- One round of the processor: some outputs were put, or there was no room for any. The others are left.
pub record PutRound (m g : ℕ) (put : Bool) (old new : AtBook) : Type 0 where
  pub own : new.seat.who.sequence ≡ old.seat.who.sequence
  pub same_end : upto new ≡ upto old
  pub puts : MatchBool put (PutsRound m g (upto old) old.seat.who new.seat.who)
      (SaysRoom g m old.seat.who 0 new.seat.who)
  pub working : IsWorking new

-- the next block ends where upto says, and has some entries
pub record EndsBlock (n upto : ℕ) (v : Person) : Type 0 where
  pub at : upto ≡ v.sequence + length (next_block n v.sequence v.seen)
  pub some : v.sequence < upto
  pub most : upto ≤ v.sequence + 4096
  pub small : upto ≤ 2 ^ 48

-- the entries below upto, which stand from the own word on, were read
pub record HasRead {L : Type 0} (n : ℕ) (v : At L) (upto : ℕ) (block : History) (w : At L) : Type 0 where
  pub read : w ≡ seated v (after_messages n v.who block)
  pub are : block ≡ take (length block) (drop v.who.sequence v.who.seen)
  pub count : upto ≡ v.who.sequence + length block
