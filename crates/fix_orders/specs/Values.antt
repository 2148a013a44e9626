-- Private: the values of an order message by tag, as they are kept while its fields are read.
use Rattle.std.specs.Prelude.{ℕ, Bool, true, false, ◌&&◌, ◌==◌, if◌then◌else◌, List, [], ◌∷◌, map, slice_index_or}
use Rattle.fix_orders.specs.declared.tables.OrderTag.{OrderTag}
use Rattle.fix_orders.specs.declared.values.Values.{Values}
use Rattle.fix_orders.specs.OrderTags.{tag_place}

-- no byte
abbrev pub is_nothing : List ℕ → Bool
is_nothing [] = true
is_nothing (b ∷ bytes) = false

-- the value of a tag
abbrev pub value_in : Values → OrderTag → List ℕ
value_in values tag = slice_index_or (map (λ value. value.now) values.by_tag) (tag_place tag) []

-- the values after one more of a tag: the first one stays
abbrev pub with_value : (OrderTag → List ℕ) → OrderTag → List ℕ → OrderTag → List ℕ
with_value values tag value t = if is_nothing (values tag) && tag_place t == tag_place tag then value else values t
