-- What the processor knows behind its two loads: as much as the lesser of the two words says.
use Rattle.std.proofs.Common.{◌≡◌, ℕ, ◌≤◌, List, ◌++◌, ◌⊎◌, inl, inr, ⊎_elim, Bool, true, false, cond, leb, length}
use Rattle.std.proofs.Common.{refl, ap, sym, subst, ◌∙◌, arith}
use Rattle.venue_model.specs.History.{Message}
use Rattle.ring_words.specs.Places.{unmarshalled, journalled}
use Rattle.ring_words.specs.Seats.{looked, knowing, last_from}
use Rattle.ring_words.specs.At.{At, seated}
use Rattle.ring_words.specs.Steps.{lesser_of, Reaches}
use Rattle.ring_words.specs.SeatLaws.{last_loaded, not_reached}
use Rattle.barrier.specs.Availability.{BehindBoth}

one_of_two : (a b : ℕ) → (lesser_of a b ≡ a) ⊎ (lesser_of a b ≡ b)
one_of_two a b = by_case (leb a b) where
  by_case : (c : Bool) → (cond c a b ≡ a) ⊎ (cond c a b ≡ b)
  by_case true = inl refl
  by_case false = inr refl

known_behind : (seen rest : List Message) (u j : ℕ) → length seen ≤ u → length seen ≤ j
    → Reaches (lesser_of u j) seen rest → length (seen ++ rest) ≡ lesser_of u j
known_behind seen rest u j below_u below_j (inr more) = more.1
known_behind seen rest u j below_u below_j (inl near) = let y : ℕ = lesser_of u j in
    let le : y ≤ length seen = near.0 in
    let same = not_reached y seen rest (inl near) le in
    let up : length seen ≤ y = ⊎_elim (λ (e : lesser_of u j ≡ u). let e' : y ≡ u = e in omega arith)
    (λ (e : lesser_of u j ≡ j). let e' : y ≡ j = e in omega arith) (one_of_two u j) in
    omega arith

module _ {L : Type 0} where
  pub behind : (v m w : At L) (u j : ℕ) (rest : List Message) → m ≡ seated v (looked v.who unmarshalled u)
      → length v.who.seen ≤ u → length m.who.seen ≤ j
      → Reaches (lesser_of (last_from unmarshalled 0 m.who.loads) j) m.who.seen rest
      → w ≡ seated m (knowing (looked m.who journalled j) rest) → BehindBoth v.who w.who
  behind v m w u j rest is below_u = subst (λ (z : At L). length z.who.seen ≤ j
      → Reaches (lesser_of (last_from unmarshalled 0 z.who.loads) j) z.who.seen rest
      → w ≡ seated z (knowing (looked z.who journalled j) rest) → BehindBoth v.who w.who) (sym is)
      (λ below_j reaches w_is. (
        u,
        j,
        (
          rest,
          ap (λ (s : At _). s.who) w_is,
          ap (λ (z : At L). length z.who.seen) w_is ∙ known_behind v.who.seen rest u j below_u below_j
              (subst (λ (a : ℕ). Reaches (lesser_of a j) v.who.seen rest) (last_loaded unmarshalled 0 u v.who.loads)
              reaches),
        ),
      ))
