-- What a look for new entries may find: which availability words it loads, with which values, and what the person knows behind it.
use Rattle.std.specs.Prelude.{◌≡◌, ◌≢◌, ◌⊎◌, ℕ, zero, suc, ◌+◌, ◌<◌, ◌≤◌, List, [], ◌∷◌, ◌++◌, length}
use mathlib.Core.Option.{some}
use lib.ListN.{get_elem?}
use Rattle.venue_model.specs.History.{Message}
use Rattle.ring_words.specs.declared.view.Load.{Load}
use Rattle.ring_words.specs.declared.view.Person.{Person}
use Rattle.ring_words.specs.Places.{unmarshalled, journalled, in_row}
use Rattle.ring_words.specs.Log.{IsEntry}
use Rattle.ring_words.specs.Seats.{load_of, looked, knowing}
use Rattle.ring_words.specs.Steps.{lesser_of}

-- one load for each of the k sequences s, s + 1, .. in a ring of n rows: its availability word showed the sequence, as the sequence plus 1
abbrev pub fresh_loads : ℕ → ℕ → ℕ → List Load
fresh_loads n s zero = []
fresh_loads n s (suc k) = fresh_loads n s k ++ load_of (in_row n (s + k) 0) (suc (s + k)) ∷ []

-- each of these messages may stand in the log
abbrev pub AreEntries : List Message → Type 0
AreEntries h = (i : ℕ) (e : Message) → get_elem? h i ≡ some e → IsEntry e

-- the person knows these entries more, for one load each that showed it
abbrev pub grown_by : ℕ → Person → List Message → Person
grown_by n v rest = record v { seen = v.seen ++ rest; loads = v.loads ++ fresh_loads n (length v.seen) (length rest) }

-- Some entries more are known, and the look ended there: a whole ring behind the own word is known, so that no row behind it can be published;
-- or it isn't, and the next availability word was loaded too and didn't show its sequence.
abbrev pub Shown : ℕ → Person → Person → Type 0
Shown n v w = (rest : List Message) × AreEntries rest
    × (((v.sequence + n ≤ length w.seen) × (w ≡ grown_by n v rest))
    ⊎ ((length w.seen < v.sequence + n) × ((x : ℕ) × (x ≢ suc (length w.seen)) × (w ≡ looked (grown_by n v rest) (in_row n (length w.seen) 0) x))))

-- unmarshalled was loaded, then journalled, and as many entries are known as the lesser of both says
abbrev pub BehindBoth : Person → Person → Type 0
BehindBoth v w = (u j : ℕ) × ((rest : List Message) × (w ≡ knowing (looked (looked v unmarshalled u) journalled j) rest) × (length w.seen ≡ lesser_of u j))
