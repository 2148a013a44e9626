-- What is found of fields, step by step as they are read.
use Rattle.std.proofs.Common.{◌≡◌, ℕ, ◌+◌, ◌<◌, Bool, true, false, cond, not, ◌&&◌, ◌==◌, List, [], ◌∷◌, ◌++◌}
use Rattle.std.proofs.Common.{length, map, take, get_or, sym, ap, subst, ◌∙◌, refl, arith, append_assoc, append-nil}
use Rattle.std.proofs.Common.{length-append}
use Rattle.std.specs.List.{filter}
use Rattle.std.proofs.lemmas.List.{map-append, length-map}
use Rattle.std.proofs.lemmas.List.Elements.{filter-append, filter_more}
use Rattle.std.proofs.lemmas.List.Filters.{length-filter_both}
use denote.Enum.Bare.{sameb}
use Rattle.fix_frame.specs.Grammar.{Field, IsField, fields_of}
use Rattle.fix_frame.specs.Runs.{IsRun}
use Rattle.fix_frame.specs.Bodies.{bytes_left, fields_in, TakesOff, EndsBody}
use Rattle.fix_frame.specs.declared.body.Body.{Body}
use Rattle.fix_frame.proofs.FieldsOf.{fields_of-nil, nothing_is_run}
use Rattle.fix_orders.specs.declared.tables.Table.{Table}
use Rattle.fix_orders.specs.declared.tables.Table.TheVariants.{LimitOrder, MarketOrder, CancelRequest, ReplaceRequest}
use Rattle.venue_model.specs.declared.commands.SessionRejectReason.TheVariants.{TagNotDefined, ValueIncorrect}
use Rattle.venue_model.specs.declared.commands.SessionRejectReason.TheVariants.{IncorrectFormat}
use Rattle.fix_orders.specs.declared.fields.OrderFields.{OrderFields}
use Rattle.fix_orders.specs.declared.formats.JudgedValue.{JudgedValue}
use Rattle.fix_orders.specs.declared.formats.JudgedValue.TheVariants.{Right, WrongFormat, OutOfRange}
use Rattle.fix_orders.specs.declared.tables.Need.TheVariants.{Undefined}
use Rattle.fix_orders.specs.declared.values.Values.{Values}
use Rattle.fix_orders.specs.declared.tables.OrderTag.{OrderTag}
use Rattle.fix_orders.specs.declared.tables.OrderTag.TheVariants.{ClOrdId, OrderQty, OrdType, OrigClOrdId, Price, Side}
use Rattle.fix_orders.specs.declared.tables.OrderTag.TheVariants.{Symbol, TimeInForce, TransactTime}
use Rattle.fix_orders.specs.contracts.formats.JudgedValue.{the_type as judged_type}
use Rattle.fix_orders.specs.contracts.tables.Need.{the_type as need_type}
use Rattle.fix_orders.specs.Formats.{format_of, has_format, is_in_range}
use Rattle.fix_orders.specs.Formats.Format.{any}
use Rattle.fix_orders.specs.Judging.{judged_value}
use Rattle.fix_orders.specs.OrderTags.{tag_number, tag_place, need_of, order_numbers}
use Rattle.fix_orders.specs.Reading.{tags, is_among, is_defined, is_wrong, required, missing_tags, value_at, least}
use Rattle.fix_orders.specs.Values.{value_in, with_value, is_nothing}
use Rattle.fix_orders.specs.Findings.{IsFound, IsReading, is_other, is_missing, missing_among, outside, lesser_if}
use Rattle.fix_orders.specs.Text.{field}
use Rattle.fix_orders.specs.ExactLaws.{all_push}
use Rattle.fix_orders.proofs.FieldLemmas.{value_at_none}
use Rattle.fix_orders.proofs.FindingLemmas.{tags_push, wrong_push, repeated_push, value_push, kept_value, least_push_if}
use Rattle.fix_orders.proofs.FindingLemmas.{valued, seen_value, undefined_is, ill_formed_is, out_of_range_is}

-- the tags that no table has, and one more tag
others_push : (fields : List Field) (f : Field) (b : Bool) → is_other f.tag ≡ b
    → filter is_other (tags (fields ++ f ∷ [])) ≡ filter is_other (tags fields) ++ cond b (f.tag ∷ []) []
others_push fields f b is =
    ap (filter is_other) (tags_push fields f) ∙ filter-append is_other (tags fields) (f.tag ∷ [])
    ∙ ap (λ r. filter is_other (tags fields) ++ cond r (f.tag ∷ []) []) is

not_other : (tag : OrderTag) → is_other (tag_number tag) ≡ false
not_other ClOrdId = refl
not_other OrderQty = refl
not_other OrdType = refl
not_other OrigClOrdId = refl
not_other Price = refl
not_other Side = refl
not_other Symbol = refl
not_other TimeInForce = refl
not_other TransactTime = refl

-- an order tag
pub record TakesValue (table : Table) (tag : OrderTag) (value : List ℕ) (old new : OrderFields) : Type 0 where
  pub values : (t : OrderTag) → value_in new.values t ≡ with_value (value_in old.values) tag value t
  pub others : new.others ≡ old.others
  pub repeated : new.repeated ≡ lesser_if (not (is_nothing (value_in old.values tag))) (tag_number tag) old.repeated
  pub undefined : new.undefined ≡ lesser_if (sameb need_type (need_of table tag) Undefined) (tag_number tag)
      old.undefined
  pub ill_formed : new.ill_formed
      ≡ lesser_if (sameb judged_type (judged_value (format_of table (tag_number tag)) value) WrongFormat)
      (tag_number tag) old.ill_formed
  pub out_of_range : new.out_of_range ≡ lesser_if
      (sameb judged_type (judged_value (format_of table (tag_number tag)) value) OutOfRange) (tag_number tag) old.out_of_range

-- another tag
pub record TakesElse (table : Table) (fields : List Field) (tag : ℕ) (old new : OrderFields) : Type 0 where
  pub values : new.values ≡ old.values
  pub others : new.others.items ≡ old.others.items ++ cond (is_other tag) (tag ∷ []) []
  pub repeated : new.repeated ≡ lesser_if (is_among (outside ++ tags fields) tag) tag old.repeated
  pub undefined : new.undefined ≡ lesser_if (not (is_defined table tag)) tag old.undefined
  pub ill_formed : new.ill_formed ≡ old.ill_formed
  pub out_of_range : new.out_of_range ≡ old.out_of_range

value_stays : (among : Bool) (value : List ℕ) → (among ≡ false → value ≡ []) → cond among value [] ≡ value
value_stays true value none = refl
value_stays false value none = sym (none refl)

module _ (table : Table) (fields : List Field) (old new : OrderFields) (found : IsFound table fields old) where
  pub found_value : (tag : OrderTag) (value : List ℕ) → IsField (field (tag_number tag) value)
      → TakesValue table tag value old new
      → IsFound table (fields ++ field (tag_number tag) value ∷ []) new
  found_value tag value is takes =
      let n = tag_number tag in
      let f = field n value in record {
        each = all_push fields f found.each is;
        values = λ t.
            takes.values t ∙ ap (λ v. cond (is_nothing v && (tag_place t == tag_place tag)) value
            (value_in old.values t))
            (found.values tag)
            ∙ ap (λ v. cond (is_nothing (value_at n fields) && (tag_place t == tag_place tag)) value v) (found.values t)
            ∙ kept_value t tag fields value found.each;
        others =
            ap (λ o. o.items) takes.others ∙ found.others ∙ sym (append-nil _)
            ∙ sym (others_push fields f false (not_other tag));
        repeated =
            takes.repeated ∙ ap (λ v. lesser_if (not (is_nothing v)) n old.repeated) (found.values tag)
            ∙ ap (λ b. lesser_if b n old.repeated) (sym (seen_value tag fields found.each))
            ∙ ap (lesser_if (is_among (outside ++ tags fields) n) n) found.repeated ∙ sym (repeated_push fields f);
        undefined =
            takes.undefined ∙ ap (λ b. lesser_if b n old.undefined) (undefined_is table tag)
            ∙ ap (lesser_if _ n) found.undefined
            ∙ sym (wrong_push (is_wrong TagNotDefined table fields) fields f);
        ill_formed =
            takes.ill_formed ∙ ap (λ b. lesser_if b n old.ill_formed) (ill_formed_is (format_of table n) value)
            ∙ ap (lesser_if _ n) found.ill_formed
            ∙ sym (wrong_push (is_wrong IncorrectFormat table fields) fields f);
        out_of_range =
            takes.out_of_range ∙ ap (λ b. lesser_if b n old.out_of_range) (out_of_range_is (format_of table n) value)
            ∙ ap (lesser_if _ n) found.out_of_range
            ∙ sym (wrong_push (is_wrong ValueIncorrect table fields) fields f);
      }

  -- a tag that no order tag is, with any format
  pub found_else : (tag : ℕ) (value : List ℕ) → IsField (field tag value)
      → ((t : OrderTag) → (tag == tag_number t) ≡ false)
      → format_of table tag ≡ any → TakesElse table fields tag old new → IsFound table (fields ++ field tag value ∷ []) new
  found_else tag value is apart free takes =
      let f = field tag value in record {
        each = all_push fields f found.each is;
        values = λ t.
            ap (λ v. value_in v t) takes.values ∙ found.values t
            ∙ sym (value_push (tag_number t) fields f
            ∙ ap (λ b. cond (is_among (tags fields) (tag_number t)) (value_at (tag_number t) fields)
            (cond b value [])) (apart t)
            ∙ value_stays (is_among (tags fields) (tag_number t)) (value_at (tag_number t) fields)
            (value_at_none (tag_number t) fields));
        others =
            takes.others ∙ ap (λ items. items ++ cond (is_other tag) (tag ∷ []) []) found.others
            ∙ sym (others_push fields f (is_other tag) refl);
        repeated =
            takes.repeated ∙ ap (lesser_if (is_among (outside ++ tags fields) tag) tag) found.repeated
            ∙ sym (repeated_push fields f);
        undefined =
            takes.undefined ∙ ap (lesser_if _ tag) found.undefined
            ∙ sym (wrong_push (is_wrong TagNotDefined table fields) fields f);
        ill_formed =
            takes.ill_formed ∙ found.ill_formed
            ∙ sym (wrong_push (is_wrong IncorrectFormat table fields) fields f
            ∙ ap (λ k. lesser_if (not (has_format k value)) tag
            (least (tags (filter (is_wrong IncorrectFormat table fields) fields)))) free);
        out_of_range =
            takes.out_of_range ∙ found.out_of_range
            ∙ sym (wrong_push (is_wrong ValueIncorrect table fields) fields f
            ∙ ap (λ k. lesser_if (has_format k value && not (is_in_range k value)) tag
            (least (tags (filter (is_wrong ValueIncorrect table fields) fields)))) free);
      }

-- reading on
pub reading_room : (table : Table) (f : Field) (rest more all : Body) (found : OrderFields)
    → IsReading table rest all found → TakesOff rest more f → length found.others.items < 74
reading_room table f rest more all found reading takes =
    let kept = length-filter_both is_other (λ tag. not (is_other tag)) (λ tag. refl) (tags reading.front) in
    let same : length (tags reading.front) ≡ length reading.front = length-map reading.front (λ (g : Field). g.tag) in
    omega (arith, ap length reading.found_in.others, kept, same, reading.few, takes.fewer)

pub reading_next : (table : Table) (f : Field) (rest more all : Body) (old new : OrderFields)
    → IsReading table rest all old → TakesOff rest more f
    → ((fields : List Field) → IsFound table fields old → IsFound table (fields ++ f ∷ []) new)
    → IsReading table more all new
reading_next table f rest more all old new reading off takes = record {
  front = reading.front ++ f ∷ [];
  found_in = takes reading.front reading.found_in;
  whole = reading.whole ∙ ap (λ fields. reading.front ++ fields) off.fields
      ∙ sym (append_assoc reading.front (f ∷ []) (fields_in more));
  run = (λ r. off.run.0 (reading.run.0 r), λ r. reading.run.1 (off.run.1 r));
  few = omega (arith, length-append reading.front (f ∷ []), reading.few, off.fewer);
}

-- at the end nothing is left of a run
pub reading_done : (table : Table) (rest all : Body) (found : OrderFields) → IsReading table rest all found
    → bytes_left rest ≡ [] → IsRun (bytes_left all) × IsFound table (fields_in all) found
reading_done table rest all found reading over = (
  reading.run.1 (subst IsRun (sym over) nothing_is_run),
  subst (λ fields. IsFound table fields found)
      (sym (append-nil reading.front)
      ∙ ap (λ fields. reading.front ++ fields) (sym (ap fields_of over ∙ fields_of-nil)) ∙ sym reading.whole)
      reading.found_in,
)

-- and where something is, it was none
pub reading_broken : (table : Table) (rest left all : Body) (found : OrderFields) → IsReading table rest all found
    → EndsBody rest left → (bytes_left left ≡ [] → ⊥) → IsRun (bytes_left all) → ⊥
reading_broken table rest left all found reading ends some run =
    some (ap bytes_left ends.stays ∙ ends.over (reading.run.0 run))

numbers_if : (ts : List OrderTag) (t : OrderTag) (b : Bool)
    → map tag_number (ts ++ cond b (t ∷ []) []) ≡ map tag_number ts ++ cond b (tag_number t ∷ []) []
numbers_if ts t true = map-append tag_number ts (t ∷ [])
numbers_if ts t false = ap (map tag_number) (append-nil ts) ∙ sym (append-nil (map tag_number ts))

-- the required tags that have no value, one tag more
pub missing_more : (table : Table) (values : Values) (some : List OrderTag) (i : ℕ) (d : OrderTag) → i < length some
    → least (missing_among table values (take (i + 1) some))
    ≡ lesser_if (is_missing table values (get_or some i d)) (tag_number (get_or some i d))
    (least (missing_among table values (take i some)))
missing_more table values some i d within =
    ap (λ ts. least (map tag_number ts)) (filter_more (is_missing table values) some i d within)
    ∙ ap least (numbers_if (filter (is_missing table values) (take i some)) (get_or some i d)
    (is_missing table values (get_or some i d)))
    ∙ least_push_if (missing_among table values (take i some)) (tag_number (get_or some i d))
    (is_missing table values (get_or some i d))

-- all of them
numbers_by : (t : OrderTag) (b : Bool) (ts : List OrderTag) (ns : List ℕ) → map tag_number ts ≡ ns
    → map tag_number (cond b (t ∷ ts) ts) ≡ cond b (tag_number t ∷ ns) ns
numbers_by t true ts ns same = ap (λ rest. tag_number t ∷ rest) same
numbers_by t false ts ns same = same

numbers_kept : (p : OrderTag → Bool) (q : ℕ → Bool) → ((t : OrderTag) → p t ≡ q (tag_number t)) → (ts : List OrderTag)
    → map tag_number (filter p ts) ≡ filter q (map tag_number ts)
numbers_kept p q same [] = refl
numbers_kept p q same (t ∷ ts) =
    numbers_by t (p t) (filter p ts) (filter q (map tag_number ts)) (numbers_kept p q same ts)
    ∙ ap (λ b. cond b (tag_number t ∷ filter q (map tag_number ts)) (filter q (map tag_number ts))) (same t)

abbrev lacks : Table → List Field → ℕ → Bool
lacks table fields n = is_among (required table) n && not (is_among (tags fields) n)

lacking : (table : Table) (fields : List Field)
    → filter (lacks table fields) order_numbers ≡ missing_tags table fields
lacking LimitOrder fields = refl
lacking MarketOrder fields = refl
lacking CancelRequest fields = refl
lacking ReplaceRequest fields = refl

pub missing_is : (table : Table) (fields : List Field) (found : OrderFields) (some : List OrderTag)
    → IsFound table fields found
    → map tag_number some ≡ order_numbers → missing_among table found.values some ≡ missing_tags table fields
missing_is table fields found some finds all =
    numbers_kept (is_missing table found.values) (lacks table fields)
    (λ t. ap (λ b. is_among (required table) (tag_number t) && b)
    (ap is_nothing (finds.values t) ∙ valued (tag_number t) fields finds.each)) some
    ∙ ap (filter (lacks table fields)) all ∙ lacking table fields

-- what is right is neither of another format nor out of range
pub right_alone : (j : JudgedValue) → sameb judged_type j Right ≡ true
    → (sameb judged_type j WrongFormat ≡ false) × (sameb judged_type j OutOfRange ≡ false)
right_alone Right is = (refl, refl)
right_alone WrongFormat is = cc
right_alone OutOfRange is = cc
