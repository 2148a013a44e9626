-- A claim by the processed value that was loaded last, or by one that is loaded for it.
use Rattle.std.proofs.Common.{None, ◌≡◌, ℕ, ◌≤◌, List, [], ◌∷◌, ap, subst, ◌∙◌, arith}
use Rattle.venue_model.specs.ListLaws.{at_longer}
use Rattle.ring_words.specs.declared.view.Load.{Load}
use Rattle.ring_words.specs.declared.view.Person.{Person}
use Rattle.ring_words.specs.Places.{claim, processed}
use Rattle.ring_words.specs.Seats.{load_of, looked, loading, with_claim}
use Rattle.ring_words.specs.SeatLaws.{last_stays, claim_just_loaded}
use Rattle.ring_words.specs.At.{At, Steps, seated}
use Rattle.ring_words.specs.Steps.{ClaimsUpTo}
use Rattle.sequencer.specs.Claims.{loaded_both, last_processed, SeesRoom}

-- a bound on the claim values loaded is one on those loaded before the last loads
claims_earlier : (p : Person) (ls : List Load) (x : ℕ) → ClaimsUpTo (loading p ls) x → ClaimsUpTo p x
claims_earlier p ls x most i l there = most i l (at_longer p.loads ls i l there)

-- the claim word was loaded, as s
module _ {L : Type 0} (n : ℕ) (v a b : At L) (s : ℕ) (first : Steps v (looked v.who claim s) a) where
  -- that leaves the processed value that was loaded last
  pub same_room : (p : ℕ) (ls : List Load) → SeesRoom n (last_processed a.who.loads) s p ls
      → SeesRoom n (last_processed v.who.loads) s p ls
  same_room p ls = subst (λ last. SeesRoom n last s p ls)
      (ap (λ (z : At L). last_processed z.who.loads) first
      ∙ last_stays processed claim None s v.who.loads (λ (e : claim ≡ processed). omega arith))

  -- a bound on the claim values loaded is one on s
  pub claim_below : (x : ℕ) → ClaimsUpTo a.who x → s ≤ x
  claim_below x most = claim_just_loaded v.who s x (subst (λ (z : At L). ClaimsUpTo z.who x) first most)

  -- then the processed word was loaded, as p
  pub both_loaded : (p : ℕ) → Steps a (looked a.who processed p) b → Steps v (loaded_both v.who s p) b
  both_loaded p second = second ∙ ap (λ (z : At L). seated z (looked z.who processed p)) first

  -- or these words were loaded
  module _ (ls : List Load) (more : Steps a (loading a.who ls) b) (w : At L) where
    pub claim_below_then : (x : ℕ) → ClaimsUpTo b.who x → s ≤ x
    claim_below_then x most = claim_below x
        (claims_earlier a.who ls x (subst (λ (z : At L). ClaimsUpTo z.who x) more most))

    -- and on all that were loaded before
    pub claims_before_then : (x : ℕ) → ClaimsUpTo b.who x → ClaimsUpTo v.who x
    claims_before_then x most = claims_earlier v.who (load_of claim s ∷ []) x
        (subst (λ (z : At L). ClaimsUpTo z.who x) first
        (claims_earlier a.who ls x (subst (λ (z : At L). ClaimsUpTo z.who x) more most)))

    -- and then s was claimed
    pub claimed_then : Steps b (with_claim (looked b.who claim s) s) w
        → Steps v (with_claim (looked (loading (looked v.who claim s) ls) claim s) s) w
    claimed_then last = last ∙ ap (λ (z : At L). seated z (with_claim (looked z.who claim s) s)) more
        ∙ ap (λ (z : At L). seated z (with_claim (looked (loading z.who ls) claim s) s)) first

    -- or wasn't
    pub looked_then : (t : ℕ) → Steps b (looked b.who claim t) w
        → Steps v (looked (loading (looked v.who claim s) ls) claim t) w
    looked_then t last = last ∙ ap (λ (z : At L). seated z (looked z.who claim t)) more
        ∙ ap (λ (z : At L). seated z (looked (loading z.who ls) claim t)) first
