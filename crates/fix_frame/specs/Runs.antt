-- Bytes that are a run of fields, and the bytes of a frame with its body among them.
use Rattle.std.specs.Prelude.{◌≡◌, ℕ, List}
use Rattle.std.specs.List.{AllByRecursion}
use Rattle.fix_frame.specs.Grammar.{IsField, IsFrame, print_fields, fields_of, most_in}

-- the bytes are the run of the fields that they spell
pub record IsRun (bytes : List ℕ) : Type 0 where
  pub each : AllByRecursion IsField (fields_of bytes)
  pub spells : bytes ≡ print_fields (fields_of bytes)

-- the text is a frame of the fields that its body spells
pub record IsFramed (text body : List ℕ) : Type 0 where
  pub frame : IsFrame most_in text (fields_of body)
  pub spells : body ≡ print_fields (fields_of body)
