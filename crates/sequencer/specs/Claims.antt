-- What a try to claim a sequence says: of the seat before and after, in a ring of n rows.
use Rattle.std.specs.Prelude.{⊤, Option, None, Some, ◌≡◌, ◌⊎◌, ℕ, ◌+◌, ◌^◌, ◌<◌, ◌≤◌, List, [], ◌∷◌, length}
use Rattle.ring_words.specs.declared.view.Load.{Load}
use Rattle.ring_words.specs.declared.view.Person.{Person}
use Rattle.ring_words.specs.Places.{claim, processed}
use Rattle.ring_words.specs.Seats.{load_of, looked, loading, with_claim, last_load}
use Rattle.ring_words.specs.At.{At, Steps}
use Rattle.ring_words.specs.Steps.{ClaimsUpTo}
use Rattle.sequencer.specs.declared.claim.ClaimRefusal.{ClaimRefusal}
use Rattle.sequencer.specs.declared.claim.ClaimRefusal.TheVariants.{Full, Contended, Exhausted}

-- it loaded s as the claim word, then p as the processed word
abbrev pub loaded_both : Person → ℕ → ℕ → Person
loaded_both q s p = looked (looked q claim s) processed p

-- the processed value that these loads found last, if any did
abbrev pub last_processed : List Load → Option ℕ
last_processed ls = last_load processed None ls

-- that value leaves no room for s in n rows, or there is none
abbrev pub ShowsFull : ℕ → Option ℕ → ℕ → Type 0
ShowsFull n None s = ⊤
ShowsFull n (Some p) s = p + n ≤ s

-- The processed value that decides on a claim of s is p. It is the last that was loaded before, and then no word is loaded for it; or that one
-- leaves no room, or there was none, and then the processed word was loaded, as p
abbrev pub SeesRoom : ℕ → Option ℕ → ℕ → ℕ → List Load → Type 0
SeesRoom n last s p ls = ((last ≡ Some p) × (ls ≡ [])) ⊎ (ShowsFull n last s × (ls ≡ load_of processed p ∷ []))

module _ {L : Type 0} where
  -- The seat claimed s. The claim word was s; then the processed value seen was some p that leaves room for s in n rows; then the claim word
  -- still was s. Sequences are left; all that the gateway knows lies below s, and no claim value that it had loaded before lies above
  abbrev pub Claimed : ℕ → At L → ℕ → At L → Type 0
  Claimed n v s w = (p : ℕ) × ((ls : List Load) × SeesRoom n (last_processed v.who.loads) s p ls
      × Steps v (with_claim (looked (loading (looked v.who claim s) ls) claim s) s) w
      × (s < p + n) × (s < 2 ^ 48) × (length v.who.seen ≤ s) × ClaimsUpTo v.who s)

  -- The seat claimed nothing, and only loaded.
  -- Full: the claim word was s, then the processed word was p, and the n rows from p on were claimed.
  -- Contended: there was room for s, but then the claim word was t, above s.
  -- Exhausted: the claim word was 2 ^ 48
  abbrev pub Refused : ℕ → At L → ClaimRefusal → At L → Type 0
  Refused n v Full w = (s p : ℕ) × Steps v (loaded_both v.who s p) w × (s ≡ p + n) × (s < 2 ^ 48)
  Refused n v Contended w = (s p t : ℕ) × ((ls : List Load) × SeesRoom n (last_processed v.who.loads) s p ls
      × Steps v (looked (loading (looked v.who claim s) ls) claim t) w × (s < p + n) × (s < 2 ^ 48) × (s < t))
  Refused n v Exhausted w = Steps v (looked v.who claim (2 ^ 48)) w
