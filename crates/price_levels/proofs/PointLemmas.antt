-- From orders, neighbours and ends of levels to the points of their rings.
use Rattle.std.proofs.Common.{◌≡◌, ℕ, inl, inr, Option, Some, None, ap, sym, ◌∙◌}
use Rattle.std.specs.Prelude.{◌≢◌, MatchOption}
use Rattle.venue_model.specs.declared.orders.Order.{Order}
use Rattle.price_levels.specs.declared.keys.Key.{Key}
use Rattle.price_levels.specs.Keys.{key_of}
use Rattle.price_levels.specs.Arena.{Point, At, End, leads_to, end_to, point_by}
use Rattle.price_levels.proofs.KeyLemmas.{decide_point}
use Rattle.price_levels.proofs.Rings.{Moves, Sets}
use Rattle.price_levels.proofs.RingLaws.{Stands}

-- where an order leads by its neighbour
pub leads : (x : Option Order) (o : Order) (neighbour : Option ℕ) (p : ℕ) (k : Key) → x ≡ Some o → key_of o ≡ k →
    leads_to x neighbour p ≡ end_to neighbour k
leads x o None p k is key = ap (λ y. leads_to y None p) is ∙ ap End key
leads x o (Some q) p k is key = ap (λ y. leads_to y (Some q) p) is

-- The neighbour on one side of the point that a neighbour or an end of the level gives, is another now, or else the
-- outmost
-- one of the level.
pub record Turns (order : ℕ → Option Order) (link link' : ℕ → Option ℕ) (outmost outmost' : Key → Option ℕ) (p : ℕ)
    (k : Key)
    (from new : Option ℕ) : Type 0 where
  pub at_from : MatchOption from (outmost' k ≡ new) (λ q. (q ≢ p)
      × (Stands order q k × ((link' q ≡ new) × (outmost' k ≡ outmost k))))
  pub links : (q : ℕ) → q ≢ p → from ≢ Some q → link' q ≡ link q
  pub ends : (j : Key) → j ≢ k → outmost' j ≡ outmost j

module _ (order order' : ℕ → Option Order) (link link' : ℕ → Option ℕ) (outmost outmost' : Key → Option ℕ) (p : ℕ)
    (k : Key)
    (w : Option Order) (orders : Sets order order' p w) where
  abbrev old : Point → Point
  old = point_by order link outmost

  abbrev new : Point → Point
  new = point_by order' link' outmost'

  at-from : (from to : Option ℕ) → Turns order link link' outmost outmost' p k from to
      → new (end_to from k) ≡ end_to to k
  at-from None to turns = ap (λ x. end_to x k) turns.at_from
  at-from (Some q) to turns =
      let from = turns.at_from in
      leads (order' q) from.1.0.order (link' q) q k (orders.others q from.0 ∙ from.1.0.is) from.1.0.key
      ∙ ap (λ x. end_to x k) from.1.1.0

  elsewhere : (from to : Option ℕ) → Turns order link link' outmost outmost' p k from to → (x : Point) → x ≢ At p
      → x ≢ end_to from k →
      new x ≡ old x
  elsewhere from to turns (At q) not_p not_from =
      let other : q ≢ p = λ is. not_p (ap At is) in
      let not_it : from ≢ Some q = λ is. not_from (sym (ap (λ x. end_to x k) is)) in
      ap (λ x. leads_to x (link' q) q) (orders.others q other)
      ∙ ap (λ x. leads_to (order q) x q) (turns.links q other not_it)
  elsewhere from to turns (End j) not_p not_from = elim (decide_point (End j) (End k)) [
    | inr other ↦ ap (λ x. end_to x j) (turns.ends j (λ is. other (ap End is)))
    | inl same ↦ let is : j ≡ k = cc in
        elim from as (λ f. MatchOption f (outmost' k ≡ to) (λ q. (q ≢ p) × (Stands order q k ×
        ((link' q ≡ to) × (outmost' k ≡ outmost k)))) →
        (End j ≢ end_to f k) → new (End j) ≡ old (End j)) [
          | None ↦ λ at away. absurd (away same)
          | Some q ↦ λ at away. ap (λ i. end_to (outmost' i) i) is ∙ ap (λ x. end_to x k) at.1.1.1
              ∙ sym (ap (λ i. end_to (outmost i) i) is)
        ] turns.at_from not_from
  ]

  pub moves : (from to : Option ℕ) (to_p : Point) → Turns order link link' outmost outmost' p k from to
      → leads_to w (link' p) p ≡ to_p →
      Moves old new (At p) (end_to from k) to_p (end_to to k)
  moves from to to_p turns leads_p = record {
    at_m = ap (λ x. leads_to x (link' p) p) orders.here ∙ leads_p;
    at_a = at-from from to turns;
    others = elsewhere from to turns;
  }
