-- The text of an output as words: one for MsgType and the body's length, one for SendingTime, then eight bytes a word, big-endian, the last one
-- filled up with zeros.
use Rattle.std.specs.Prelude.{ℕ, zero, suc, ◌+◌, ◌*◌, ◌/◌, ◌<◌, ◌≤◌, List, [], ◌∷◌, ◌++◌, length, slice_index_or}
use Rattle.std.specs.Int.{from_be_bytes}
use mir.Syntax.{w64}
use Rattle.venue_model.specs.declared.outputs.OutputType.{OutputType}
use Rattle.venue_model.specs.declared.outputs.OutputType.TheVariants.{ExecutionReport, OrderCancelReject, Reject}
use Rattle.venue_model.specs.Texts.{Text}
use Rattle.ring_words.specs.Raw.{eight}

abbrev pub output_type_number : OutputType → ℕ
output_type_number ExecutionReport = 0
output_type_number OrderCancelReject = 1
output_type_number Reject = 2

-- the first n words of the bytes
abbrev pub eights : List ℕ → ℕ → List ℕ
eights bs zero = []
eights bs (suc n) = eights bs n ++ from_be_bytes w64 (eight bs n) ∷ []

abbrev pub text_head : Text → ℕ
text_head t = output_type_number t.msg_type + 4 * length t.body

-- at most 42 words
abbrev pub text_words : Text → List ℕ
text_words t = text_head t ∷ t.sending_time ∷ eights t.body ((length t.body + 7) / 8)

-- what the words keep
pub record IsPackableText (t : Text) : Type 0 where
  pub most : length t.body ≤ 320
  pub bytes : (i : ℕ) → slice_index_or t.body i 0 < 256
