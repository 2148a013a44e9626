-- What is found of fields, one field more.
use Rattle.std.proofs.Common.{◌≡◌, ℕ, ◌<◌, Bool, true, false, cond, not, ◌&&◌, ◌||◌, ◌==◌, List, [], ◌∷◌, ◌++◌, length}
use Rattle.std.proofs.Common.{Option, Some, None, sym, ap, ◌∙◌, refl, arith, append_assoc, append-nil}
use Rattle.std.specs.List.{AllByRecursion, filter}
use Rattle.std.proofs.lemmas.Bool.Decides.{nat_tests}
use Rattle.std.proofs.lemmas.List.{map-append}
use Rattle.std.proofs.lemmas.List.Elements.{filter-append}
use Rattle.std.proofs.lemmas.List.Folds.{list_any-append}
use denote.Enum.Bare.{sameb}
use Rattle.fix_frame.specs.Grammar.{Field, IsField}
use Rattle.fix_orders.specs.declared.tables.Table.{Table}
use Rattle.fix_orders.specs.declared.tables.Need.TheVariants.{Required, Optional, Undefined}
use Rattle.fix_orders.specs.declared.tables.OrderTag.{OrderTag}
use Rattle.fix_orders.specs.declared.tables.OrderTag.TheVariants.{ClOrdId, OrderQty, OrdType, OrigClOrdId, Price, Side}
use Rattle.fix_orders.specs.declared.tables.OrderTag.TheVariants.{Symbol, TimeInForce, TransactTime}
use Rattle.fix_orders.specs.declared.formats.JudgedValue.TheVariants.{Right, WrongFormat, OutOfRange}
use Rattle.fix_orders.specs.contracts.tables.Need.{the_type as need_type}
use Rattle.fix_orders.specs.contracts.formats.JudgedValue.{the_type as judged_type}
use Rattle.fix_orders.specs.Formats.{Format, has_format, is_in_range}
use Rattle.fix_orders.specs.OrderTags.{tag_number, tag_place, need_of}
use Rattle.fix_orders.specs.Judging.{judged_value}
use Rattle.fix_orders.specs.Reading.{tags, is_among, is_defined, required, optional, value_at, lesser, least}
use Rattle.fix_orders.specs.Values.{is_nothing}
use Rattle.fix_orders.specs.Findings.{outside, lesser_if, again}
use Rattle.fix_orders.specs.Text.{field}
use Rattle.fix_orders.proofs.FieldLemmas.{value_at_none}

-- the least of numbers and one more
two_lesser : (m n : ℕ) (found : Option ℕ) → Some (lesser m (Some (lesser n found))) ≡ Some
    (lesser n (Some (lesser m found)))
two_lesser m n None = ap Some (omega arith)
two_lesser m n (Some k) = ap Some (omega arith)

pub least_push : (ns : List ℕ) (n : ℕ) → least (ns ++ n ∷ []) ≡ Some (lesser n (least ns))
least_push [] n = refl
least_push (m ∷ ns) n = ap (λ found. Some (lesser m found)) (least_push ns n) ∙ two_lesser m n (least ns)

pub least_push_if : (ns : List ℕ) (n : ℕ) (b : Bool) → least (ns ++ cond b (n ∷ []) []) ≡ lesser_if b n (least ns)
least_push_if ns n true = least_push ns n
least_push_if ns n false = ap least (append-nil ns)

-- the tags of fields and one more
pub tags_push : (fields : List Field) (f : Field) → tags (fields ++ f ∷ []) ≡ tags fields ++ f.tag ∷ []
tags_push fields f = map-append (λ (g : Field). g.tag) fields (f ∷ [])

tags_if : (fields : List Field) (f : Field) (b : Bool)
    → tags (fields ++ cond b (f ∷ []) []) ≡ tags fields ++ cond b (f.tag ∷ []) []
tags_if fields f true = tags_push fields f
tags_if fields f false = ap tags (append-nil fields) ∙ sym (append-nil (tags fields))

-- the least tag of wrong fields and one more field
pub wrong_push : (p : Field → Bool) (fields : List Field) (f : Field)
    → least (tags (filter p (fields ++ f ∷ []))) ≡ lesser_if (p f) f.tag (least (tags (filter p fields)))
wrong_push p fields f =
    ap (λ fs. least (tags fs)) (filter-append p fields (f ∷ []))
    ∙ ap least (tags_if (filter p fields) f (p f)) ∙ least_push_if (tags (filter p fields)) f.tag (p f)

-- the tags that stand again, and one more tag
again_by : (b : Bool) (t : ℕ) (xs ys : List ℕ) → cond b (t ∷ (xs ++ ys)) (xs ++ ys) ≡ cond b (t ∷ xs) xs ++ ys
again_by true t xs ys = refl
again_by false t xs ys = refl

again_push : (seen ts : List ℕ) (t : ℕ) → again seen (ts ++ t ∷ []) ≡ again seen ts ++ cond (is_among (seen ++ ts) t)
    (t ∷ []) []
again_push seen [] t = ap (λ all. cond (is_among all t) (t ∷ []) []) (sym (append-nil seen))
again_push seen (u ∷ ts) t =
    ap (λ more. cond (is_among seen u) (u ∷ more) more)
    (again_push (seen ++ u ∷ []) ts t ∙ ap (λ all. again (seen ++ u ∷ []) ts ++ cond (is_among all t) (t ∷ []) [])
    (append_assoc seen (u ∷ []) ts))
    ∙ again_by (is_among seen u) u (again (seen ++ u ∷ []) ts) (cond (is_among (seen ++ u ∷ ts) t) (t ∷ []) [])

pub repeated_push : (fields : List Field) (f : Field) → least (again outside (tags (fields ++ f ∷ [])))
    ≡ lesser_if (is_among (outside ++ tags fields) f.tag) f.tag (least (again outside (tags fields)))
repeated_push fields f =
    ap (λ ts. least (again outside ts)) (tags_push fields f) ∙ ap least (again_push outside (tags fields) f.tag)
    ∙ least_push_if (again outside (tags fields)) f.tag (is_among (outside ++ tags fields) f.tag)

-- the value of a tag, and one more field
value_push_by : (among same : Bool) (value other more : List ℕ)
    → cond same value (cond among other more) ≡ cond (same || among) (cond same value other) more
value_push_by among true value other more = refl
value_push_by among false value other more = refl

pub value_push : (tag : ℕ) (fields : List Field) (f : Field)
    → value_at tag (fields ++ f ∷ []) ≡ cond (is_among (tags fields) tag) (value_at tag fields)
    (cond (f.tag == tag) f.value [])
value_push tag [] f = refl
value_push tag (g ∷ fields) f =
    ap (λ rest. cond (g.tag == tag) g.value rest) (value_push tag fields f)
    ∙ value_push_by (is_among (tags fields) tag) (g.tag == tag) g.value (value_at tag fields)
    (cond (f.tag == tag) f.value [])

-- a tag has a value where a field has the tag
something : (value : List ℕ) → 0 < length value → is_nothing value ≡ false
something [] some = absurd (omega arith)
something (b ∷ value) some = refl

valued_by : (among same : Bool) (value other : List ℕ) → is_nothing value ≡ false → is_nothing other ≡ not among
    → is_nothing (cond same value other) ≡ not (same || among)
valued_by among true value other some rest = some
valued_by among false value other some rest = rest

pub valued : (tag : ℕ) (fields : List Field) → AllByRecursion IsField fields
    → is_nothing (value_at tag fields) ≡ not (is_among (tags fields) tag)
valued tag [] each = refl
valued tag (f ∷ fields) each =
    valued_by (is_among (tags fields) tag) (f.tag == tag) f.value (value_at tag fields)
    (something f.value each.0.valued) (valued tag fields each.1)

not_twice : (b : Bool) → not (not b) ≡ b
not_twice true = refl
not_twice false = refl

pub has_value : (tag : ℕ) (fields : List Field) → AllByRecursion IsField fields
    → not (is_nothing (value_at tag fields)) ≡ is_among (tags fields) tag
has_value tag fields each = ap not (valued tag fields each) ∙ not_twice (is_among (tags fields) tag)

-- an order tag stands nowhere outside
pub not_outside : (tag : OrderTag) → is_among outside (tag_number tag) ≡ false
not_outside ClOrdId = refl
not_outside OrderQty = refl
not_outside OrdType = refl
not_outside OrigClOrdId = refl
not_outside Price = refl
not_outside Side = refl
not_outside Symbol = refl
not_outside TimeInForce = refl
not_outside TransactTime = refl

seen_order : (tag : OrderTag) (ts : List ℕ) → is_among (outside ++ ts) (tag_number tag) ≡ is_among ts (tag_number tag)
seen_order tag ts =
    list_any-append (λ t. t == tag_number tag) outside ts
    ∙ ap (λ b. b || is_among ts (tag_number tag)) (not_outside tag)

-- so it was seen where it has a value
pub seen_value : (tag : OrderTag) (fields : List Field) → AllByRecursion IsField fields
    → is_among (outside ++ tags fields) (tag_number tag) ≡ not (is_nothing (value_at (tag_number tag) fields))
seen_value tag fields each = seen_order tag (tags fields) ∙ sym (has_value (tag_number tag) fields each)

-- a tag has one place and one number
abbrev place_at : ℕ → ℕ
place_at n = cond (n == 11) 0 (cond (n == 38) 1
    (cond (n == 40) 2 (cond (n == 41) 3 (cond (n == 44) 4 (cond (n == 54) 5 (cond (n == 55) 6 (cond (n == 59) 7 8)))))))

abbrev number_at : ℕ → ℕ
number_at i = cond (i == 0) 11 (cond (i == 1) 38
    (cond (i == 2) 40 (cond (i == 3) 41 (cond (i == 4) 44
    (cond (i == 5) 54 (cond (i == 6) 55 (cond (i == 7) 59 60)))))))

placed : (tag : OrderTag) → (place_at (tag_number tag) ≡ tag_place tag) × (number_at (tag_place tag) ≡ tag_number tag)
placed ClOrdId = (refl, refl)
placed OrderQty = (refl, refl)
placed OrdType = (refl, refl)
placed OrigClOrdId = (refl, refl)
placed Price = (refl, refl)
placed Side = (refl, refl)
placed Symbol = (refl, refl)
placed TimeInForce = (refl, refl)
placed TransactTime = (refl, refl)

same_test : (a b c d : ℕ) (r : Bool) → (c == d) ≡ r → (a ≡ b → c ≡ d) → (c ≡ d → a ≡ b) → (a == b) ≡ r
same_test a b c d true is to from = let e : a ≡ b = from (grind (arith, nat_tests)) in grind (arith, nat_tests)
same_test a b c d false is to from = let no : a ≡ b → ⊥ = λ e. let e' = to e in grind (arith, nat_tests) in
    grind (arith, nat_tests)

pub same_place : (t tag : OrderTag) → (tag_place t == tag_place tag) ≡ (tag_number tag == tag_number t)
same_place t tag =
    same_test (tag_place t) (tag_place tag) (tag_number tag) (tag_number t) (tag_number tag == tag_number t) refl
    (λ e. sym (placed tag).1 ∙ ap number_at (sym e) ∙ (placed t).1)
    (λ e. sym (placed t).0 ∙ ap place_at (sym e) ∙ (placed tag).0)

-- the value that is kept is that of the first field
keep_by : (nothing among same : Bool) (value old : List ℕ) → (same ≡ true → nothing ≡ not among)
    → (among ≡ false → old ≡ [])
    → cond (nothing && same) value old ≡ cond among old (cond same value [])
keep_by true true true value old known none = let no = known refl in cc
keep_by true true false value old known none = refl
keep_by true false true value old known none = refl
keep_by true false false value old known none = none refl
keep_by false true true value old known none = refl
keep_by false true false value old known none = refl
keep_by false false true value old known none = let no = known refl in cc
keep_by false false false value old known none = none refl

pub kept_value : (t tag : OrderTag) (fields : List Field) (value : List ℕ) → AllByRecursion IsField fields
    → cond (is_nothing (value_at (tag_number tag) fields) && (tag_place t == tag_place tag)) value
    (value_at (tag_number t) fields)
    ≡ value_at (tag_number t) (fields ++ field (tag_number tag) value ∷ [])
kept_value t tag fields value each =
    ap (λ same. cond (is_nothing (value_at (tag_number tag) fields) && same) value (value_at (tag_number t) fields))
    (same_place t tag)
    ∙ keep_by (is_nothing (value_at (tag_number tag) fields)) (is_among (tags fields) (tag_number t))
    (tag_number tag == tag_number t) value (value_at (tag_number t) fields)
    (λ same. let e : tag_number tag ≡ tag_number t = grind (arith, nat_tests) in
    ap (λ n. is_nothing (value_at n fields)) e ∙ valued (tag_number t) fields each)
    (value_at_none (tag_number t) fields)
    ∙ sym (value_push (tag_number t) fields (field (tag_number tag) value))

-- what the code's tests say
undefined_by : (required optional : Bool) → sameb need_type (cond required Required (cond optional Optional Undefined))
    Undefined ≡ not (required || optional)
undefined_by true optional = refl
undefined_by false true = refl
undefined_by false false = refl

defined_is : (table : Table) (tag : OrderTag)
    → is_defined table (tag_number tag) ≡ (is_among (required table) (tag_number tag) || is_among (optional table)
    (tag_number tag))
defined_is table tag =
    list_any-append (λ t. t == tag_number tag) (outside ++ required table) (optional table)
    ∙ ap (λ b. b || is_among (optional table) (tag_number tag)) (seen_order tag (required table))

pub undefined_is : (table : Table) (tag : OrderTag)
    → sameb need_type (need_of table tag) Undefined ≡ not (is_defined table (tag_number tag))
undefined_is table tag =
    undefined_by (is_among (required table) (tag_number tag)) (is_among (optional table) (tag_number tag))
    ∙ ap not (sym (defined_is table tag))

ill_formed_by : (format range : Bool) → sameb judged_type (cond format (cond range Right OutOfRange) WrongFormat)
    WrongFormat ≡ not format
ill_formed_by true true = refl
ill_formed_by true false = refl
ill_formed_by false range = refl

pub ill_formed_is : (f : Format) (value : List ℕ)
    → sameb judged_type (judged_value f value) WrongFormat ≡ not (has_format f value)
ill_formed_is f value = ill_formed_by (has_format f value) (is_in_range f value)

out_of_range_by : (format range : Bool) → sameb judged_type (cond format (cond range Right OutOfRange) WrongFormat)
    OutOfRange ≡ (format && not range)
out_of_range_by true true = refl
out_of_range_by true false = refl
out_of_range_by false range = refl

pub out_of_range_is : (f : Format) (value : List ℕ)
    → sameb judged_type (judged_value f value) OutOfRange ≡ (has_format f value && not (is_in_range f value))
out_of_range_is f value = out_of_range_by (has_format f value) (is_in_range f value)

-- a tag that counts by a test
pub counted : (result found : Option ℕ) (b wrong : Bool) (n tag : ℕ) → result ≡ lesser_if b n found → b ≡ wrong
    → n ≡ tag
    → result ≡ lesser_if wrong tag found
counted result found b wrong n tag is b_is n_is = is ∙ ap (λ r. lesser_if r n found) b_is
    ∙ ap (λ m. lesser_if wrong m found) n_is

pub uncounted : (found : Option ℕ) (wrong : Bool) (tag : ℕ) → wrong ≡ false → found ≡ lesser_if wrong tag found
uncounted found wrong tag not_wrong = ap (λ r. lesser_if r tag found) (sym not_wrong)
