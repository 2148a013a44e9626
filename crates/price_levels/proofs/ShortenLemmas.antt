-- A level that is written over, as the lists of levels have it.
use Rattle.std.proofs.Common.{◌≡◌, ℕ, ◌-◌, ◌<◌, List, [], ◌∷◌, ◌++◌, length, get_or, take, drop, Option, Some, None, ap}
use Rattle.std.proofs.Common.{sym, ◌∙◌, add-one}
use Rattle.std.specs.Prelude.{slice_set}
use Rattle.std.proofs.lemmas.List.{set_split, get_or_default}
use Rattle.price_levels.specs.declared.keys.Level.{Level}
use Rattle.price_levels.specs.Arena.{level_without, levels_with}

pub set-with : (levels : List Level) (at : ℕ) (m : Level) → at < length levels
    → slice_set levels at m ≡ levels_with levels at (m ∷ [])
set-with levels at m within = set_split levels at m within
    ∙ ap (λ n. take at levels ++ m ∷ drop n levels) (sym (add-one at))

-- both were read at one place
pub read-once : (levels : List Level) (at : ℕ) (l m : Level) → at < length levels → l ≡ get_or levels at l
    → m ≡ get_or levels at m → m ≡ l
read-once levels at l m within l_is m_is = m_is ∙ get_or_default levels at m l within ∙ sym l_is

module _ (levels : List Level) (at : ℕ) (l m : Level) (prev next : Option ℕ) (quantity left orders : ℕ)
    (within : at < length levels) (l_is : l ≡ get_or levels at l) (m_is : m ≡ get_or levels at m)
    (left_is : left ≡ m.left - quantity) (orders_is : orders ≡ m.orders - 1) where
  -- what was read, with these ends, is the level with these ends
  as-read : (first last : Level → ℕ) → slice_set levels at (record {
    key = m.key;
    first = first m;
    last = last m;
    left = left;
    orders = orders;
  }) ≡ levels_with levels at (record {
    key = l.key;
    first = first l;
    last = last l;
    left = l.left - quantity;
    orders = l.orders - 1;
  } ∷ [])
  as-read first last =
      set-with levels at (record { key = m.key; first = first m; last = last m; left = left; orders = orders }) within
      ∙ ap (λ x. levels_with levels at (record {
        key = m.key;
        first = first m;
        last = last m;
        left = x;
        orders = orders;
      } ∷ [])) left_is
      ∙ ap (λ x. levels_with levels at (record {
        key = m.key;
        first = first m;
        last = last m;
        left = m.left - quantity;
        orders = x;
      } ∷ [])) orders_is
      ∙ ap (λ (x : Level). levels_with levels at (record {
        key = x.key;
        first = first x;
        last = last x;
        left = x.left - quantity;
        orders = x.orders - 1;
      } ∷ [])) (read-once levels at l m within l_is m_is)

  between : (p n : Option ℕ) → prev ≡ p → next ≡ n
      → levels_with levels at (level_without l p n quantity)
      ≡ levels_with levels at (level_without l prev next quantity)
  between p n prev_is next_is = sym (ap (λ x. levels_with levels at (level_without l x next quantity)) prev_is
      ∙ ap (λ x. levels_with levels at (level_without l p x quantity)) next_is)

  pub first-gone : (first : ℕ) → prev ≡ None → next ≡ Some first →
      slice_set levels at (record { key = m.key; first = first; last = m.last; left = left; orders = orders })
      ≡ levels_with levels at (level_without l prev next quantity)
  first-gone first p n = as-read (λ x. first) (λ x. x.last) ∙ between None (Some first) p n

  pub last-gone : (last : ℕ) → prev ≡ Some last → next ≡ None →
      slice_set levels at (record { key = m.key; first = m.first; last = last; left = left; orders = orders })
      ≡ levels_with levels at (level_without l prev next quantity)
  last-gone last p n = as-read (λ x. x.first) (λ x. last) ∙ between (Some last) None p n

  pub inner-gone : (before behind : ℕ) → prev ≡ Some before → next ≡ Some behind →
      slice_set levels at (record { key = m.key; first = m.first; last = m.last; left = left; orders = orders })
      ≡ levels_with levels at (level_without l prev next quantity)
  inner-gone before behind p n = as-read (λ x. x.first) (λ x. x.last) ∙ between (Some before) (Some behind) p n
