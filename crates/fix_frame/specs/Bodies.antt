-- The body of a message, read once: what a clause sees of it, and when the message is a frame.
use Rattle.std.specs.Prelude.{◌≡◌, ◌↔◌, ◌+◌, ◌≤◌, ℕ, List, [], ◌∷◌, length, take}
use Rattle.fix_frame.specs.Grammar.{Field, IsField, IsFrame, BeginsWithType, head, fields_of, most_in}
use Rattle.fix_frame.specs.Stream.{IsLength}
use Rattle.fix_frame.specs.Runs.{IsRun}
use Rattle.fix_frame.specs.declared.body.Body.{Body}

-- the bytes that aren't read yet
abbrev pub bytes_left : Body → List ℕ
bytes_left body = body.rest.now

-- the fields that they spell, if they are a run of fields
abbrev pub fields_in : Body → List Field
fields_in body = fields_of (bytes_left body)

-- the field is the first one, and what is left stands behind it
pub record TakesOff (old new : Body) (field : Field) : Type 0 where
  pub right : IsField field
  pub fields : fields_in old ≡ field ∷ fields_in new
  pub run : IsRun (bytes_left old) ↔ IsRun (bytes_left new)
  pub fewer : length (bytes_left new) + 4 ≤ length (bytes_left old)

-- no field is the first one, and so the bytes are no run of fields, or none are left
pub record EndsBody (old new : Body) : Type 0 where
  pub stays : new ≡ old
  pub over : IsRun (bytes_left old) → bytes_left old ≡ []

-- these bytes are the body of a message, which is a frame where they are a run of fields, MsgType first
pub record OpensTo (bytes rest : List ℕ) : Type 0 where
  pub least : 5 ≤ length rest
  pub few : length rest ≤ most_in
  pub fields : (fields : List Field) → IsFrame most_in bytes fields → IsRun rest × (fields_of rest ≡ fields)
  pub frame : IsRun rest → BeginsWithType (fields_of rest) → IsFrame most_in bytes (fields_of rest)

-- a head stands at the front, and the body begins there and is to have so many bytes
pub record IsHeaded (bytes : List ℕ) (body n : ℕ) : Type 0 where
  pub length_is : IsLength n
  pub headed : take body bytes ≡ head n
  pub starts : body ≡ length (head n)
