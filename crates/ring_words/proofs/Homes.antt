-- The slots of the output ring are taken out and brought back.
use Rattle.std.proofs.Common.{◌≡◌, ◌≢◌, ℕ, ◌%◌, ◌<◌, List, length-set, set, refl, ap, sym, ◌∙◌, arith}
use Rattle.std.specs.Prelude.{Option, None, Some}
use Rattle.std.proofs.lemmas.Option.{same_Some}
use mathlib.Core.Option.{Option as Maybe, none, some}
use mathlib.Core.Logic.{dite}
use native.Mathlib.Decide.{ℕ_discrete}
use lib.ListN.{get_elem?}
use Rattle.atomic_table.proofs.Lists.{set_here, set_else}
use Rattle.ring_words.specs.declared.report.PlacedOutput.{PlacedOutput}
use Rattle.ring_words.specs.Slots.{Boxed, Slots, IsRowOf, Filled}
use Rattle.ring_words.proofs.Puts.{put, put_here, put_else}

-- nobody's slot is the row of one
pub no_row : (m : ℕ) (out : Option PlacedOutput) (j : ℕ) → out ≡ None → ¬ (IsRowOf m out j)
no_row m out j none_out (f, is, at) = let none_is : None ≡ Some f = sym none_out ∙ is in cc

-- a report that is out has one row
one_row : (m : ℕ) (out : Option PlacedOutput) (f : PlacedOutput) (i j : ℕ) → out ≡ Some f → f.place % m ≡ j → i ≢ j
    → ¬ (IsRowOf m out i)
one_row m out f i j is at ne (g, is_g, at_g) =
    ne (sym at_g ∙ ap (λ (z : PlacedOutput). z.place % m) (same_Some g f (sym is_g ∙ is)) ∙ at)

module _ (m : ℕ) (slots : Slots) (homes : List (Maybe Boxed)) (r : Filled m slots homes) where
  -- a slot is taken out
  taken_out : (slots' : Slots) (j : ℕ) → slots'.reports ≡ slots.reports
      → ((i : ℕ) → ¬ (IsRowOf m slots'.filling i) → ¬ (IsRowOf m slots'.reading i)
      → (i ≢ j) × (¬ (IsRowOf m slots.filling i)) × (¬ (IsRowOf m slots.reading i)))
      → Filled m slots' (set homes j none)
  taken_out slots' j same left = record {
    wide = length-set homes j none ∙ r.wide;
    home = λ i low a b. (let o = left i a b in let h = r.home i low o.1 o.2 in
        (h.0, set_else homes j i none o.0 ∙ h.1, ap (λ (x : ℕ → Maybe PlacedOutput). x i) same ∙ h.2));
  }

  -- a slot comes back
  brought_back : (slots' : Slots) (j : ℕ) (b : Boxed) → j < m → slots'.reports j ≡ some b.value
      → ((i : ℕ) → i ≢ j → slots'.reports i ≡ slots.reports i)
      → ((i : ℕ) → i ≢ j → ¬ (IsRowOf m slots'.filling i) → ¬ (IsRowOf m slots'.reading i)
      → (¬ (IsRowOf m slots.filling i)) × (¬ (IsRowOf m slots.reading i)))
      → Filled m slots' (set homes j (some b))
  brought_back slots' j b low now stays left = record {
    wide = length-set homes j (some b) ∙ r.wide;
    home = λ i few a c. dite (ℕ_discrete i j)
        (λ here. (
          b,
          ap (λ (k : ℕ). get_elem? (set homes j (some b)) k) here
              ∙ set_here homes j (some b) (let wide = r.wide in omega arith),
          ap slots'.reports here ∙ now,
        ))
        (λ ne. (let o = left i ne a c in let h = r.home i few o.0 o.1 in
        (h.0, set_else homes j i (some b) ne ∙ h.1, stays i ne ∙ h.2)));
  }

  -- the processor takes out that of the report that it puts
  pub filling_taken : (f : PlacedOutput) (j : ℕ) → f.place % m ≡ j → slots.filling ≡ None
      → Filled m (record slots { filling = Some f }) (set homes j none)
  filling_taken f j at none_out = taken_out (record slots { filling = Some f }) j refl
      (λ i a b. ((λ e. a (f, refl, at ∙ sym e)), no_row m slots.filling i none_out, b))

  -- and brings it back with the report
  pub filling_given : (f : PlacedOutput) (b : Boxed) (j : ℕ) → f.place % m ≡ j → j < m → slots.filling ≡ Some f
      → Filled m (record { reports = put slots.reports j (some b.value); filling = None; reading = slots.reading })
      (set homes j (some b))
  filling_given f b j at low is =
      brought_back (record { reports = put slots.reports j (some b.value); filling = None; reading = slots.reading }) j
      b low
      (put_here slots.reports j (some b.value)) (λ i ne. put_else slots.reports j i (some b.value) ne)
      (λ i ne a c. (one_row m slots.filling f i j is at ne, c))

  -- the marshaller takes out that of a report that it copies
  pub reading_taken : (f : PlacedOutput) (j : ℕ) → f.place % m ≡ j → slots.reading ≡ None
      → Filled m (record slots { reading = Some f }) (set homes j none)
  reading_taken f j at none_out = taken_out (record slots { reading = Some f }) j refl
      (λ i a b. ((λ e. b (f, refl, at ∙ sym e)), a, no_row m slots.reading i none_out))

  -- and brings it back as it was
  pub reading_given : (b : Boxed) (j : ℕ) → b.value.place % m ≡ j → j < m → slots.reading ≡ Some b.value
      → slots.reports j ≡ some b.value
      → Filled m (record slots { reading = None }) (set homes j (some b))
  reading_given b j at low is stands = brought_back (record slots { reading = None }) j b low stands (λ _ _. refl)
      (λ i ne a c. (a, one_row m slots.reading b.value i j is at ne))
