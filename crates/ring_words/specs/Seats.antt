-- The person of a seat in use, and what its own steps make of it.
use Rattle.std.specs.Prelude.{Option, None, Some, ◌≡◌, ◌⊎◌, ℕ, suc, ◌<◌, ◌≤◌, List, [], ◌∷◌, ◌++◌, ◌==◌, cond, length, take, drop, slice_index_or}
use Rattle.venue_model.specs.History.{Message}
use Rattle.ring_words.specs.declared.view.Role.{Role}
use Rattle.ring_words.specs.declared.view.Role.TheVariants.{Process, Unmarshal, Journal}
use Rattle.ring_words.specs.declared.view.Sent.{Sent}
use Rattle.ring_words.specs.declared.view.Load.{Load}
use Rattle.ring_words.specs.declared.report.PlacedOutput.{PlacedOutput}
use Rattle.ring_words.specs.declared.view.Person.{Person}
use Rattle.ring_words.specs.declared.view.View.{View}
use Rattle.ring_words.specs.Places.{taken}
use Rattle.ring_words.specs.Log.{without}
use Rattle.ring_words.specs.Rule.{newcomer}

-- the first of these persons; where there is none, a processor that knows nothing
abbrev pub first_person : List Person → Person
first_person [] = newcomer Process [] 0
first_person (p ∷ ps) = p

abbrev pub load_of : ℕ → ℕ → Load
load_of k x = record { place = k; value = x }

abbrev pub sent_of : ℕ → Message → Sent
sent_of s e = record { sequence = s; entry = e }

-- it loaded x at the place k
abbrev pub looked : Person → ℕ → ℕ → Person
looked p k x = record p { loads = p.loads ++ load_of k x ∷ [] }

-- it made these loads
abbrev pub loading : Person → List Load → Person
loading p ls = record p { loads = p.loads ++ ls }

-- it claimed s
abbrev pub with_claim : Person → ℕ → Person
with_claim p s = record p { claims = s ∷ p.claims }

-- it stored x as word i of the row of s: what it stored from there on counts no more
abbrev pub stored : Person → ℕ → ℕ → ℕ → Person
stored p s i x = record p { row = record { sequence = s; words = take i p.row.words ++ x ∷ [] } }

-- the words that it stored so far in the row of s are these
abbrev pub wrote : Person → ℕ → List ℕ → Person
wrote p s ws = record p { row = record { sequence = s; words = ws } }

-- it published e at s
abbrev pub marked : Person → ℕ → Message → Person
marked p s e = record p { mine = p.mine ++ sent_of s e ∷ []; claims = without s p.claims; row = record { sequence = s; words = [] } }

-- it knows one entry more
abbrev pub saw : Person → Message → Person
saw p e = record p { seen = p.seen ++ e ∷ [] }

-- it knows these entries more
abbrev pub knowing : Person → List Message → Person
knowing p rest = record p { seen = p.seen ++ rest }

-- the value that was loaded last of the word at k; d if none was
abbrev pub last_from : ℕ → ℕ → List Load → ℕ
last_from k d [] = d
last_from k d (l ∷ ls) = last_from k (cond (l.place == k) l.value d) ls

-- the same, where there may be none
abbrev pub last_load : ℕ → Option ℕ → List Load → Option ℕ
last_load k d [] = d
last_load k d (l ∷ ls) = last_load k (cond (l.place == k) (Some l.value) d) ls

-- these are the values that the loads found last of the taken words of gateways 1 to 8
abbrev pub AreTaken : List (Option ℕ) → List Load → Type 0
AreTaken values ls = (length values ≡ 8) × ((k : ℕ) → k < 8 → slice_index_or values k None ≡ last_load (taken (suc k)) None ls)

-- none of them is above this number
abbrev pub AreUpTo : ℕ → List (Option ℕ) → Type 0
AreUpTo most values = (k value : ℕ) → k < 8 → slice_index_or values k None ≡ Some value → value ≤ most

-- as where none was loaded
abbrev pub no_values : List (Option ℕ)
no_values = None ∷ None ∷ None ∷ None ∷ None ∷ None ∷ None ∷ None ∷ []

-- a stage that reads what gateways published
abbrev pub IsReader : Role → Type 0
IsReader r = (r ≡ Unmarshal) ⊎ (r ≡ Journal)

-- it has this report out, or none
abbrev pub with_out : Person → Option PlacedOutput → Person
with_out p out = record p { out = out }

-- it loaded the word at k twice, as x
abbrev pub looked_twice : Person → ℕ → ℕ → Person
looked_twice p k x = looked (looked p k x) k x

-- its own word became x
abbrev pub moved : Person → ℕ → Person
moved p x = record p { sequence = x }

module _ {L : Type 0} where
  abbrev pub person : View L → Person
  person v = first_person v.people

  -- a seat in use has one person
  abbrev pub IsAlone : View L → Type 0
  IsAlone v = v.people ≡ person v ∷ []

  -- the view of a seat whose one person is now q
  abbrev pub alone : View L → Person → View L
  alone v q = record v { people = q ∷ [] }

  -- the first person gets a seat of its own, and the others stay
  abbrev pub others_stay : View L → View L
  others_stay v = record v { people = drop 1 v.people }

  abbrev pub apart : View L → View L
  apart v = alone v (person v)

  -- the persons of both seats
  abbrev pub together : View L → View L → View L
  together v w = record v { people = v.people ++ w.people }

  -- what is left of a seat that was taken in
  abbrev pub nobody : View L
  nobody = record { logic = None; base = []; people = [] }
