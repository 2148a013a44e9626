-- What a clause sees of a field that the code borrows.
use Rattle.std.specs.Prelude.{ℕ, List}
use Rattle.fix_frame.specs.Grammar.{Field}
use Rattle.fix_frame.specs.declared.field.Field as borrowed

-- a borrowed field as the grammar's
abbrev pub as_field : borrowed.Field → Field
as_field f = record { tag = f.tag; value = f.value.now }

-- the field of a tag and a value whose size was known
abbrev pub sized : ℕ → List ℕ → Field
sized tag value = record { tag = tag; value = value }
