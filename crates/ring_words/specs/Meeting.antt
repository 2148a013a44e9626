-- What two gateways learn when they meet, and a gateway that meets the journaller.
use Rattle.std.specs.Prelude.{◌≡◌, ◌⊎◌, ℕ, ◌≤◌, List, [], ◌∷◌, ◌++◌, length, take, drop, if◌then◌else◌, nat_le}
use mathlib.Core.Option.{some}
use lib.ListN.{get_elem?}
use Rattle.atomic_table.specs.Table.{State, Step}
use Rattle.venue_model.specs.History.{Message}
use Rattle.ring_words.specs.declared.view.Person.{Person}
use Rattle.ring_words.specs.declared.view.Role.TheVariants.{Journal, Gateway}
use Rattle.ring_words.specs.declared.view.View.{View}
use Rattle.ring_words.specs.Places.{processed}
use Rattle.ring_words.specs.Log.{sent_at}
use Rattle.ring_words.specs.Seats.{load_of}
use Rattle.ring_words.specs.Steps.{Seated, IsLegal}

-- of two histories the one that isn't shorter
abbrev pub longer : List Message → List Message → List Message
longer h g = if nat_le (length h) (length g) then g else h

-- the person loaded r of processed, and knows this history
abbrev pub met : Person → ℕ → List Message → Person
met p r h = record p { seen = h; loads = p.loads ++ load_of processed r ∷ [] }

-- of two gateways' histories one begins the other, which is legal for both, and no sequence was published by both
pub record AreMet (start : ℕ) (p q : Person) : Type 0 where
  pub one : p.seen ≡ take (length p.seen) (longer p.seen q.seen)
  pub other : q.seen ≡ take (length q.seen) (longer p.seen q.seen)
  pub apart : (s : ℕ) → (sent_at s p.mine ≡ []) ⊎ (sent_at s q.mine ≡ [])
  pub legal_one : IsLegal start p (longer p.seen q.seen)
  pub legal_other : IsLegal start q (longer p.seen q.seen)

-- what the gateway p has seen begins what the journaller q has handed on
abbrev pub HasSeenJournalled : Person → Person → Type 0
HasSeenJournalled p q = p.seen ≡ take (length p.seen) (take q.sequence q.seen)

-- what the gateway p knows begins what the journaller q has released, and that is legal for it
pub record MeetsJournal (start : ℕ) (p q : Person) : Type 0 where
  pub begins : p.seen ≡ take (length p.seen) (take q.sequence q.seen)
  pub legal : IsLegal start p (take q.sequence q.seen)

-- one of the persons in the views of all seats
abbrev pub IsPresent : {S L : Type 0} → State S (View L) → Person → Type 0
IsPresent s p = (id j : ℕ) × (v : View _) × (get_elem? s.views id ≡ some v) × (get_elem? v.people j ≡ some p)

module _ {S L : Type 0} where
  -- a load of processed by the seat of two gateways
  abbrev pub sees_meeting : Step S → Seated S L → ℕ → Seated S L → Type 0
  sees_meeting st m r after = (p q : Person) (j k : ℕ) → m.0.people ≡ p ∷ q ∷ [] → p.role ≡ Gateway j → q.role ≡ Gateway k
      → (after ≡ (record m.0 { people = met p r (longer p.seen q.seen) ∷ met q r (longer p.seen q.seen) ∷ [] }, m.1)) × AreMet (length m.0.base) p q

  -- a load of processed by the seat of a gateway and the journaller
  abbrev pub sees_journal : Step S → Seated S L → ℕ → Seated S L → Type 0
  sees_journal st m r after = (p q : Person) (j : ℕ) → m.0.people ≡ p ∷ q ∷ [] → p.role ≡ Gateway j → q.role ≡ Journal → q.sequence ≤ length q.seen
      → (after ≡ (record m.0 { people = met p r (take q.sequence q.seen) ∷ met q r q.seen ∷ [] }, m.1)) × MeetsJournal (length m.0.base) p q

module _ {L : Type 0} where
  -- no person of this view, which has the logic and the history at the start
  abbrev pub nobody_else : View L → View L
  nobody_else v = record v { people = [] }

  -- the first person of two, and the second
  abbrev pub first_alone : View L → View L
  first_alone v = record v { people = take 1 v.people }

  abbrev pub second_alone : View L → View L
  second_alone v = record v { people = drop 1 v.people }
