-- What one poll of the processor does, by what it answers: of its person, and of how many entries its book has, before and after it.
use Rattle.std.specs.Prelude.{◌≡◌, ◌≢◌, ◌⊎◌, ℕ, zero, suc, ◌+◌, ◌-◌, min, ◌<◌, List, [], length, take, drop}
use mathlib.Core.Option.{some}
use lib.ListN.{get_elem?}
use Rattle.venue_model.specs.History.{Message}
use Rattle.venue_model.specs.Requests.{Limits}
use Rattle.venue_model.specs.declared.outputs.Output.{Output}
use Rattle.ring_words.specs.declared.view.Person.{Person}
use Rattle.ring_words.specs.Places.{unmarshalled, journalled}
use Rattle.ring_words.specs.Rule.{at_place}
use Rattle.ring_words.specs.Seats.{looked}
use Rattle.ring_words.specs.Steps.{lesser_of}
use Rattle.barrier.specs.Availability.{BehindBoth}
use Rattle.sequencer.specs.Rooms.{SaysRoom}
use Rattle.book.specs.Histories.{outputs_of}
use Rattle.stages.specs.Turns.{one_done, after_reading}
use Rattle.stages.specs.declared.turn.Turn.{Turn}
use Rattle.stages.specs.declared.turn.Turn.TheVariants.{Did, Idle, OutFull, JournalFailed}

-- the lesser of unmarshalled and journalled, loaded in this order, was the stage's own word, and it knows nothing beyond that
abbrev pub NothingHandedOn : Person → Person → Type 0
NothingHandedOn v w =
    (length v.seen ≡ v.sequence) × ((u j : ℕ) × (lesser_of u j ≡ v.sequence) × (w ≡ looked (looked v unmarshalled u) journalled j))

-- the outputs of the entries that are done and of the next one, but for those that are published
abbrev pub to_put : Limits → Person → List Output
to_put limits p = drop p.row.sequence (outputs_of limits (take (suc p.sequence) p.seen))

-- Where the book has no entry but those that are done, a command is taken up: that of the next sequence was read, which a look for new ones had left
-- known. Else one is under way.
abbrev pub TakesUp : ℕ → Limits → ℕ → Person → Person → Type 0
TakesUp n limits applied v u =
    ((applied ≡ v.sequence) × ((q : Person) × BehindBoth v q × ((e : Message) × (get_elem? q.seen q.sequence ≡ some e) × (u ≡ after_reading n limits q e))))
    ⊎ ((v.sequence < applied) × (u ≡ v))

-- so many outputs more are published, one after another
abbrev pub put_ahead : Person → ℕ → Person
put_ahead p zero = p
put_ahead p (suc k) = at_place (put_ahead p k) (suc (put_ahead p k).row.sequence)

-- One round of putting: some outputs below the place upto aren't published, the ring was asked for room and had some, and as many were put as it had
-- room for and are left
abbrev pub PutsRound : ℕ → ℕ → ℕ → Person → Person → Type 0
PutsRound m g upto v w = (v.row.sequence < upto) × ((room : ℕ) × ((q : Person) × SaysRoom g m v room q × (0 < room)
    × (w ≡ put_ahead q (min room (upto - v.row.sequence)))))

-- so many rounds, one after another
abbrev pub PutsRounds : ℕ → ℕ → ℕ → ℕ → Person → Person → Type 0
PutsRounds m g upto zero u w = w ≡ u
PutsRounds m g upto (suc k) u w = (v : Person) × PutsRounds m g upto k u v × PutsRound m g upto v w

-- these outputs were put in some rounds; where there are none, nobody asks for room
abbrev pub PutsOutputs : ℕ → ℕ → Person → List Output → Person → Type 0
PutsOutputs m g u outputs w = (rounds : ℕ) × PutsRounds m g (u.row.sequence + length outputs) rounds u w

-- some of them were put, or none, and then the ring was asked for room and had none
abbrev pub PutsUntilFull : ℕ → ℕ → Person → List Output → Person → Type 0
PutsUntilFull m g u outputs w = (v : Person) × PutsOutputs m g u outputs v × SaysRoom g m v 0 w

-- how many rows the two rings have, and how many gateways there are
pub record Sizes : Type 0 where
  pub rows : ℕ
  pub output_rows : ℕ
  pub gateways : ℕ

abbrev pub sizes : ℕ → ℕ → ℕ → Sizes
sizes rows output_rows gateways = record { rows = rows; output_rows = output_rows; gateways = gateways }

-- the processor: what it knows, and how many entries its book has
pub record Working : Type 0 where
  pub who : Person
  pub applied : ℕ

abbrev pub working : Person → ℕ → Working
working who applied = record { who = who; applied = applied }

-- A command's outputs were put, and it is done when all of them are; or some are left, for which there was no room; or there was no command, which
-- the look for one showed.
abbrev pub Processes : Sizes → Limits → Turn → Working → Working → Type 0
Processes s limits (Did k) v w =
    (k ≡ 1) × ((u q : Person) × TakesUp s.rows limits v.applied v.who u × PutsOutputs s.output_rows s.gateways u (to_put limits u) q × (to_put limits q ≡ [])
    × (w.who ≡ one_done q) × (w.applied ≡ w.who.sequence))
Processes s limits Idle v w = (v.applied ≡ v.who.sequence) × NothingHandedOn v.who w.who × (w.applied ≡ v.applied)
Processes s limits OutFull v w =
    (u : Person) × TakesUp s.rows limits v.applied v.who u × PutsUntilFull s.output_rows s.gateways u (to_put limits u) w.who × (to_put limits w.who ≢ [])
    × (w.applied ≡ suc w.who.sequence)
Processes s limits JournalFailed v w = ⊥
