-- The first order of a level by its place.
use Rattle.std.proofs.Common.{◌≡◌, ℕ, zero, suc, ◌<◌, ◌≤◌, true, false, List, [], ◌∷◌, length, get_or, Some, None, refl}
use Rattle.std.proofs.Common.{ap, sym, ◌∙◌, arith}
use Rattle.std.specs.Prelude.{if◌then◌else◌}
use Rattle.venue_model.specs.declared.orders.Side.{Side}
use Rattle.price_levels.specs.declared.keys.Level.{Level}
use Rattle.price_levels.specs.Arena.{of_side, head_of, first_in}

module _ (symbol : List ℕ) (side : Side) where
  pub first-none : (levels : List Level) (at : ℕ) → length levels ≤ at → first_in symbol side levels at ≡ None
  first-none [] at beyond = refl
  first-none (l ∷ levels) zero beyond = absurd (omega (arith, beyond))
  first-none (l ∷ levels) (suc at) beyond = first-none levels at (omega (arith, beyond))

  pub first-here : (levels : List Level) (at : ℕ) (l : Level) → at < length levels → l ≡ get_or levels at l →
      of_side symbol side l.key ≡ true → first_in symbol side levels at ≡ Some (head_of l)
  first-here [] at l within is of = absurd (omega (arith, within))
  first-here (m ∷ levels) zero l within is of =
      ap (λ (x : Level). if of_side symbol side x.key then Some (head_of x) else None) (sym is)
      ∙ ap (λ t. if t then Some (head_of l) else None) of
  first-here (m ∷ levels) (suc at) l within is of = first-here levels at l (omega (arith, within)) is of

  pub first-other : (levels : List Level) (at : ℕ) (l : Level) → at < length levels → l ≡ get_or levels at l →
      of_side symbol side l.key ≡ false → first_in symbol side levels at ≡ None
  first-other [] at l within is of = absurd (omega (arith, within))
  first-other (m ∷ levels) zero l within is of =
      ap (λ (x : Level). if of_side symbol side x.key then Some (head_of x) else None) (sym is)
      ∙ ap (λ t. if t then Some (head_of l) else None) of
  first-other (m ∷ levels) (suc at) l within is of = first-other levels at l (omega (arith, within)) is of
