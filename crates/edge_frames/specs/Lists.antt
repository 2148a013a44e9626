-- The fields of a message as they are handed out: where each of them stands.
use Rattle.std.specs.Prelude.{◌≡◌, ℕ, ◌+◌, List, length, take, map, min, slice_range}
use Rattle.fix_frame.specs.Grammar.{Field}
use Rattle.edge_frames.specs.Fields.{ended, piece_field}
use Rattle.edge_frames.specs.Messages.{framed}
use Rattle.edge_frames.specs.declared.list.FieldPlace.{FieldPlace}

-- the field that stands at a place of the text
abbrev pub field_at : List ℕ → FieldPlace → Field
field_at text place = record { tag = place.tag; value = slice_range text place.at (place.at + place.len) }

-- the first so many places are those of the first fields of this body, as many as there is room for
pub record ListsFields (text body : List ℕ) (room : ℕ) (places : List FieldPlace) (count : ℕ) : Type 0 where
  pub count_is : count ≡ min room (length (ended body))
  pub fields : map (field_at text) (take count places) ≡ map piece_field (take room (ended body))

-- and this is the body of the text
pub record ListsThose (text : List ℕ) (room : ℕ) (places : List FieldPlace) (count : ℕ) : Type 0 where
  pub digits : List ℕ
  pub body : List ℕ
  pub spells : text ≡ framed digits body
  pub lists : ListsFields text body room places count
