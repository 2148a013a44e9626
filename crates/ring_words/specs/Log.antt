-- The log: what stands at each input sequence, and what follows of it for gateways and stages.
use Rattle.std.specs.Prelude.{◌≡◌, ℕ, suc, ◌<◌, List, [], ◌∷◌, ◌==◌, cond, slice_index_or, if◌then◌else◌, nat_lt}
use mathlib.Core.Option.{Option, none, some}
use lib.ListN.{get_elem?}
use Rattle.venue_model.specs.History.{Message, IsMessage}
use Rattle.ring_words.specs.declared.view.Sent.{Sent}
use Rattle.ring_words.specs.Slots.{Slots}

-- a message, as bytes
pub record IsEntry (e : Message) : Type 0 where
  pub message : IsMessage e
  pub bytes : (i : ℕ) → slice_index_or e.bytes i 0 < 256

-- A sequence is nobody's, or was in the history at the start, or is claimed by a gateway, or was published
pub data Status : Type 0 where
  unclaimed : Status
  old : Message → Status
  claimed : ℕ → Status
  sent : Message → Status

-- the log: what stands at each sequence, and the history that is kept, which is its beginning; and the reports of the output ring
pub record Log : Type 0 where
  pub status : ℕ → Status
  pub history : List Message
  pub slots : Slots

-- the entry that stands there
abbrev pub entry_of : Status → Option Message
entry_of unclaimed = none
entry_of (old e) = some e
entry_of (claimed k) = none
entry_of (sent e) = some e

-- the entry that this gateway published there, if it did
abbrev pub sends_of : ℕ → Status → List Message
sends_of k unclaimed = []
sends_of k (old e) = []
sends_of k (claimed j) = []
sends_of k (sent e) = cond (e.gateway == k) (e ∷ []) []

-- how many claims this gateway has there
abbrev pub claims_of : ℕ → Status → ℕ
claims_of k unclaimed = 0
claims_of k (old e) = 0
claims_of k (claimed j) = cond (j == k) 1 0
claims_of k (sent e) = 0

-- all that these publications have at the sequence s
abbrev pub sent_at : ℕ → List Sent → List Message
sent_at s [] = []
sent_at s (p ∷ ps) = cond (p.sequence == s) (p.entry ∷ sent_at s ps) (sent_at s ps)

-- how often s stands in the list
abbrev pub times_in : ℕ → List ℕ → ℕ
times_in s [] = 0
times_in s (c ∷ cs) = cond (c == s) (suc (times_in s cs)) (times_in s cs)

-- the list without s
abbrev pub without : ℕ → List ℕ → List ℕ
without s [] = []
without s (c ∷ cs) = cond (c == s) (without s cs) (c ∷ without s cs)

-- the message that stands there, if it is of this gateway
abbrev pub of_gateway : ℕ → Option Message → List Message
of_gateway k none = []
of_gateway k (some e) = cond (e.gateway == k) (e ∷ []) []

-- what this gateway published at s, by a log that begins with so many entries of the history at the start
abbrev pub published_at : ℕ → ℕ → List Message → ℕ → List Message
published_at start k log s = if nat_lt s start then [] else of_gateway k (get_elem? log s)

-- the history is a beginning of the log
abbrev pub IsFront : (ℕ → Status) → List Message → Type 0
IsFront status h = (s : ℕ) (e : Message) → get_elem? h s ≡ some e → entry_of (status s) ≡ some e
