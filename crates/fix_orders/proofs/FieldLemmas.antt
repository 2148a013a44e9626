-- The fields of a message by tag.
use Rattle.std.proofs.Common.{◌≡◌, ℕ, Bool, true, false, ◌||◌, ◌==◌, cond, List, [], ◌∷◌, refl}
use Rattle.fix_frame.specs.Grammar.{Field}
use Rattle.fix_orders.specs.Reading.{tags, is_among, value_at}

-- where no field has a tag, it has no value
value_at_by : (value other : List ℕ) (among same : Bool) → (among ≡ false → other ≡ []) → (same || among) ≡ false
    → cond same value other ≡ []
value_at_by value other among true rest none = cc
value_at_by value other among false rest none = rest none

pub value_at_none : (tag : ℕ) (fields : List Field) → is_among (tags fields) tag ≡ false → value_at tag fields ≡ []
value_at_none tag [] none = refl
value_at_none tag (f ∷ fields) none =
    value_at_by f.value (value_at tag fields) (is_among (tags fields) tag) (f.tag == tag) (value_at_none tag fields)
    none
