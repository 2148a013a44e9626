-- What contracts see of rings and of seats, whatever role a seat has.
use Rattle.std.specs.Prelude.{◌≡◌, ℕ, List, Option, Some}
use Rattle.atomic_table.specs.Seated.{TableId}
use Rattle.venue_model.specs.History.{Message}
use Rattle.ring_words.specs.declared.view.Person.{Person}
use Rattle.ring_words.specs.declared.view.View.{View}
use Rattle.ring_words.specs.Places.{number_of}
use Rattle.ring_words.specs.Seats.{person}

-- rings: which table they are, and what they were opened with: the logic, the history at the start, and the number of its outputs
pub record Opened (L : Type 0) : Type 0 where
  pub table : TableId
  pub logic : L
  pub base : List Message
  pub base_outputs : ℕ

-- a seat: its table, the logic and the history at the start that it knows the table by, and who sits there
pub record At (L : Type 0) : Type 0 where
  pub table : TableId
  pub logic : Option L
  pub base : List Message
  pub who : Person

module _ {L : Type 0} where
  -- the seat of this person at these rings
  abbrev pub at : Opened L → Person → At L
  at rings p = record { table = rings.table; logic = Some rings.logic; base = rings.base; who = p }

  -- the seat is of these rings
  abbrev pub IsAt : Opened L → At L → Type 0
  IsAt rings seat = seat ≡ at rings seat.who

  -- the seat with q in place of its person
  abbrev pub seated : At L → Person → At L
  seated seat q = record seat { who = q }

  -- the seat's person is now q, and nothing else changed
  abbrev pub Steps : At L → Person → At L → Type 0
  Steps old q new = new ≡ seated old q

  -- two seats of the same rings, or one seat before and after: the person is all that may differ
  abbrev pub SamePlace : At L → At L → Type 0
  SamePlace one other = Steps one other.who other

  -- the number of a gateway's seat
  abbrev pub number : At L → ℕ
  number seat = number_of seat.who.role

  -- the seat at this table whose view is this one, of one person
  abbrev pub seat_of : TableId → View L → At L
  seat_of table v = record { table = table; logic = v.logic; base = v.base; who = person v }
