-- The slots of the output ring, one for each row. Each holds a box with an output and its place, but while the processor or the marshaller has it out.
use Rattle.std.specs.Prelude.{Option, Some, ◌≡◌, ℕ, ◌%◌, ◌<◌, List, length}
use Rattle.std.specs.Global.{Box}
use mathlib.Core.Option.{Option as Maybe, some}
use lib.ListN.{get_elem?}
use Rattle.venue_model.specs.declared.outputs.Output.{Output}
use Rattle.ring_words.specs.declared.report.PlacedOutput.{PlacedOutput}
use Rattle.ring_words.specs.declared.view.Role.{Role}
use Rattle.ring_words.specs.declared.view.Role.TheVariants.{Process, Unmarshal, Journal, Marshal, Gateway}

-- what a slot holds
abbrev pub Boxed : Type 0
Boxed = Box PlacedOutput

-- the output o, whose place is q
abbrev pub report_of : Output → ℕ → PlacedOutput
report_of o q = record { output = o; place = q }

-- Which report stands for each row, whether its slot is at home or out; which one the processor is about to put, and which one the marshaller copies
pub record Slots : Type 0 where
  pub reports : ℕ → Maybe PlacedOutput
  pub filling : Option PlacedOutput
  pub reading : Option PlacedOutput

-- what a person has out is what the slots say of its role
abbrev pub OutOf : Slots → Role → Option PlacedOutput → Type 0
OutOf slots Process out = out ≡ slots.filling
OutOf slots Unmarshal out = Unit {0}
OutOf slots Journal out = Unit {0}
OutOf slots Marshal out = out ≡ slots.reading
OutOf slots (Gateway k) out = Unit {0}

-- in m rows, the row j is that of the report, if there is one
abbrev pub IsRowOf : ℕ → Option PlacedOutput → ℕ → Type 0
IsRowOf m out j = (f : PlacedOutput) × (out ≡ Some f) × (f.place % m ≡ j)

-- each of m slots that nobody has out is at home, with the report that stands for its row
pub record Filled (m : ℕ) (slots : Slots) (homes : List (Maybe Boxed)) : Type 0 where
  pub wide : length homes ≡ m
  pub home : (j : ℕ) → j < m → ¬ (IsRowOf m slots.filling j) → ¬ (IsRowOf m slots.reading j)
      → (b : Boxed) × (get_elem? homes j ≡ some (some b)) × (slots.reports j ≡ some b.value)
