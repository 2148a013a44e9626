-- The seats of the gateways, one after the other.
use Rattle.std.proofs.Common.{◌≡◌, ℕ, ◌+◌, List, [], ◌∷◌, ◌++◌, length, ⊎_elim, sym, subst, ◌∙◌, arith}
use Rattle.venue_model.specs.ListLaws.{at_end}
use Rattle.ring_words.specs.declared.view.Role.TheVariants.{Gateway}
use Rattle.ring_words.specs.Rule.{newcomer}
use Rattle.ring_words.specs.At.{Opened, At, at}
use Rattle.ring_words.specs.Crew.{AreNewGateways}

module _ {L : Type 0} (rings : Opened L) where
  pub new_more : (seats : List (At L)) (s : At L) (k : ℕ) → AreNewGateways rings seats → length seats + 1 ≡ k
      → s ≡ at rings (newcomer (Gateway k) rings.base rings.base_outputs) → AreNewGateways rings (seats ++ s ∷ [])
  new_more seats s k were is new i t there = ⊎_elim (λ was. were i t was)
      (λ (last : (i ≡ length seats) × (s ≡ t)). let at_i : i ≡ length seats = last.0 in
      let same : k ≡ i + 1 = omega arith in
      subst (λ (j : ℕ). t ≡ at rings (newcomer (Gateway j) rings.base rings.base_outputs)) same (sym last.1 ∙ new))
      (at_end seats s t i there)
