-- What was found, in the numbers that C is told.
use Rattle.std.specs.Prelude.{◌≡◌, ℕ, List}
use Rattle.edge_frames.specs.Reasons.{reject_number}
use Rattle.edge_frames.specs.declared.found.Found.{Found}
use Rattle.edge_frames.specs.declared.found.Found.TheVariants as found
use Rattle.edge_frames.specs.declared.front.Message.{Message}
use Rattle.edge_frames.specs.declared.verdict.Verdict.{Verdict}
use Rattle.edge_frames.specs.declared.verdict.Verdict.TheVariants.{Taken, Refused, Garbled}
use Rattle.edge_frames.specs.declared.list.FieldPlace.{FieldPlace}
use Rattle.edge_frames.specs.Looks.{Finds, Lists}
use Rattle.edge_frames_c.specs.declared.Sight.{Sight}

-- taken, refused, or none
abbrev pub kind_of : Verdict → ℕ
kind_of Taken = 1
kind_of (Refused f) = 2
kind_of Garbled = 0

-- for which reason, and which field, if it is refused
abbrev pub reason_of : Verdict → ℕ
reason_of Taken = 0
reason_of (Refused f) = reject_number f.reason
reason_of Garbled = 0

abbrev pub bad_field : Verdict → ℕ
bad_field Taken = 0
bad_field (Refused f) = f.field
bad_field Garbled = 0

abbrev pub message_sight : ℕ → Message → Sight
message_sight passed m = record {
  kind = kind_of m.verdict;
  reason = reason_of m.verdict;
  passed = passed;
  size = m.size;
  fields = m.fields;
  field = bad_field m.verdict;
}

abbrev pub sight_of : Found → Sight
sight_of (found.Waits passed) = record { kind = 0; reason = 0; passed = passed; size = 0; fields = 0; field = 0 }
sight_of (found.Comes passed m) = message_sight passed m

-- C is told what comes first out of these bytes, and where its fields stand
pub record TellsFound (longest : ℕ) (bytes : List ℕ) (room : ℕ) (places : List FieldPlace) (sight : Sight) : Type 0 where
  pub found : Found
  pub told : sight ≡ sight_of found
  pub finds : Finds longest room bytes found
  pub lists : Lists bytes room places found
