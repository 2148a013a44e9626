-- What contracts see of the stages that hold more than a seat, and of all four together.
use Rattle.std.specs.Prelude.{ℕ, List, []}
use Rattle.venue_model.specs.Requests.{Limits}
use Rattle.venue_model.specs.declared.outputs.Output.{Output}
use Rattle.ring_words.specs.At.{At}
use Rattle.journal.specs.Journals.{OneJournal}
use Rattle.book.specs.Books.{Book}

-- the journaller at its seat, with its journal
pub record AtJournal (D : Type 0) : Type 0 where
  pub seat : At Limits
  pub journal : OneJournal D

-- the processor at its seat, with its book; how many entries the book has, and which outputs of the last of them are left to be put
pub record AtBook : Type 0 where
  pub seat : At Limits
  pub book : Book
  pub applied : ℕ
  pub left : List Output

-- the processor at this seat, where no command is under way
abbrev pub at_rest : At Limits → Book → AtBook
at_rest seat book = record { seat = seat; book = book; applied = seat.who.sequence; left = [] }

-- the four stages of one venue
pub record OneCrew (D : Type 0) : Type 0 where
  pub unmarshaller : At Limits
  pub journaller : AtJournal D
  pub processor : AtBook
  pub marshaller : At Limits

-- the disk of their journal
abbrev pub disk_of : {D : Type 0} → OneCrew D → D
disk_of crew = crew.journaller.journal.disk
