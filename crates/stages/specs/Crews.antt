-- The four stages of one venue together: where they are, how they are at the start, and what one poll of each does.
use Rattle.std.specs.Prelude.{◌≡◌, length}
use Rattle.venue_model.specs.Requests.{Limits}
use Rattle.ring_words.specs.At.{Opened, at, IsAt}
use Rattle.ring_words.specs.Rule.{newcomer, processor}
use Rattle.ring_words.specs.declared.view.Role.TheVariants.{Unmarshal, Journal, Marshal}
use Rattle.journal.specs.Journals.{OneJournal}
use Rattle.book.specs.Books.{Book}
use Rattle.stages.specs.Stations.{OneCrew, at_rest}
use Rattle.stages.specs.Turns.{Unmarshals, Journals}
use Rattle.stages.specs.Processes.{Sizes, working, Processes}
use Rattle.stages.specs.Marshals.{Marshals}
use Rattle.stages.specs.declared.crew.Turns.{Turns}
use Rattle.stages.specs.declared.turn.Turn.TheVariants.{Idle}

-- no stage had anything to do
abbrev pub AreIdle : Turns → Type 0
AreIdle turns = (turns.unmarshaller ≡ Idle) × (turns.journaller ≡ Idle) × (turns.processor ≡ Idle) × (turns.marshaller ≡ Idle)

module _ {D : Type 0} where
  -- all four are of these rings
  pub record AreAt (rings : Opened Limits) (crew : OneCrew D) : Type 0 where
    pub unmarshaller : IsAt rings crew.unmarshaller
    pub journaller : IsAt rings crew.journaller.seat
    pub processor : IsAt rings crew.processor.seat
    pub marshaller : IsAt rings crew.marshaller

  -- at rings as they were opened: each has done just the history at the start, which is that of this journal and of this book
  abbrev pub new_crew : Opened Limits → OneJournal D → Book → OneCrew D
  new_crew rings journal book = record {
    unmarshaller = at rings (newcomer Unmarshal rings.base (length rings.base));
    journaller = record { seat = at rings (newcomer Journal rings.base (length rings.base)); journal = journal };
    processor = at_rest (at rings (processor rings.base rings.base_outputs)) book;
    marshaller = at rings (newcomer Marshal rings.base rings.base_outputs);
  }

  -- each polled once, with these turns
  pub record Polls (s : Sizes) (limits : Limits) (old new : OneCrew D) (turns : Turns) : Type 0 where
    pub unmarshals : Unmarshals s.rows limits turns.unmarshaller old.unmarshaller.who new.unmarshaller.who
    pub journals : Journals s.rows turns.journaller old.journaller.seat.who new.journaller.seat.who
    pub processes : Processes s limits turns.processor (working old.processor.seat.who old.processor.applied)
        (working new.processor.seat.who new.processor.applied)
    pub marshals : Marshals s.rows s.output_rows limits turns.marshaller old.marshaller.who new.marshaller.who
