-- What the reading of one message answers, and which words it loads.
use Rattle.std.specs.Prelude.{◌≡◌, ℕ, zero, suc, List, [], ◌∷◌, ◌++◌, length, take}
use Rattle.venue_model.specs.History.{Message}
use Rattle.ring_words.specs.declared.view.Load.{Load}
use Rattle.ring_words.specs.declared.view.Person.{Person}
use Rattle.ring_words.specs.Places.{in_row}
use Rattle.ring_words.specs.Log.{IsEntry}
use Rattle.ring_words.specs.Raw.{raw_word}
use Rattle.ring_words.specs.Seats.{load_of}
use Rattle.ring_words.specs.declared.heads.Raw.{Raw}

-- the message may stand in the log, and the answer names its gateway and length
pub record IsMessageHead (e : Message) (answer : Raw) : Type 0 where
  pub entry : IsEntry e
  pub gateway : answer.gateway ≡ e.gateway
  pub len : answer.len ≡ length e.bytes

-- the answer names the message's gateway and length, and the buffer begins with its bytes
pub record ReadsMessage (e : Message) (answer : Raw) (buf : List ℕ) : Type 0 where
  pub head : IsMessageHead e answer
  pub bytes : take answer.len buf ≡ e.bytes

-- one load for each of the first k raw words of the message e, in the row of s of a ring of n rows: the value is that word
abbrev pub word_loads : ℕ → ℕ → Message → ℕ → List Load
word_loads n s e zero = []
word_loads n s e (suc k) = word_loads n s e k ++ load_of (in_row n s (suc k)) (raw_word e k) ∷ []

-- the person loaded these words, and nothing else changed
abbrev pub after_loads : ℕ → Person → ℕ → Message → ℕ → Person
after_loads n v s e k = record v { loads = v.loads ++ word_loads n s e k }
