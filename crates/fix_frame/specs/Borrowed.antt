-- What a clause sees of a frame, and of the iterator over its fields.
use Rattle.std.specs.Prelude.{List}
use Rattle.fix_frame.specs.Grammar.{Field, fields_of}
use Rattle.fix_frame.specs.declared.field.Fields.{Fields}
use Rattle.fix_frame.specs.declared.frame.Frame.{Frame}

-- the fields that an iterator has left
abbrev pub fields_left : Fields → List Field
fields_left fields = fields_of fields.rest.now

-- the fields of a frame's body, MsgType first
abbrev pub frame_fields : Frame → List Field
frame_fields frame = fields_of frame.body.now
