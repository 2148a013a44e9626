-- What holds of a message without a fault.
use Rattle.std.proofs.Common.{◌≡◌, ℕ, ◌<◌, Bool, true, false, cond, not, ◌&&◌, ◌||◌, nat_lt, nat_le, ◌==◌, List, [], ◌∷◌, length, Option, Some, None, IsTrue, sym, ap, ◌∙◌, refl, arith, ◌+◌, drop, get_or, drop-cons, add-one}
use Rattle.std.specs.List.{filter}
use Rattle.std.proofs.lemmas.Bool.{and_parts}
use Rattle.std.proofs.lemmas.Bool.Decides.{nat_tests}
use Rattle.fix_frame.specs.Grammar.{Field}
use Rattle.fix_orders.specs.declared.tables.Table.{Table}
use Rattle.fix_orders.specs.declared.tables.Table.TheVariants.{LimitOrder, MarketOrder, CancelRequest, ReplaceRequest}
use Rattle.venue_model.specs.Spelling.{IsSpelling}
use Rattle.venue_model.specs.declared.commands.SessionRejectReason.{SessionRejectReason}
use Rattle.venue_model.specs.declared.commands.SessionRejectReason.TheVariants.{RequiredTagMissing, TagNotDefined, ValueIncorrect, IncorrectFormat, TagAppearsMoreThanOnce}
use Rattle.fix_orders.specs.Formats.{Format, format_of, has_format, is_in_range, is_number, is_short, is_symbol, value_of}
use Rattle.fix_orders.specs.Formats.Format.{number_to, byte_of, symbol, time, any}
use Rattle.fix_orders.specs.Reading.{tags, is_among, value_at, required, is_wrong, faulty_tags, least, or_next, first_fault, classes}
use Rattle.fix_orders.specs.declared.tables.Need.TheVariants.{Required}
use Rattle.fix_orders.specs.declared.tables.OrderTag.TheVariants as tags_of
use Rattle.fix_orders.specs.OrderTags.{need_of}
use Rattle.fix_orders.specs.Findings.{least_in, fault_in}
use Rattle.fix_orders.specs.Text.{field}
use Rattle.fix_orders.specs.declared.fields.Fault.{Fault}

-- no number is the least of none alone
least_none : (ns : List ℕ) → least ns ≡ None → ns ≡ []
least_none [] e = refl
least_none (n ∷ ns) e = cc

-- nothing comes of a reason and of what follows
or_next_none : (r : SessionRejectReason) (found : Option ℕ) (next : Option Fault) → or_next r found next ≡ None
    → (found ≡ None) × (next ≡ None)
or_next_none r None next e = (refl, e)
or_next_none r (Some tag) next e = cc

-- without a fault no reason has a tag
first_none : (r : SessionRejectReason) (rs : List SessionRejectReason) (table : Table) (fields : List Field)
    → first_fault (r ∷ rs) table fields ≡ None → (faulty_tags r table fields ≡ []) × (first_fault rs table fields ≡ None)
first_none r rs table fields e =
    let both = or_next_none r (least (faulty_tags r table fields)) (first_fault rs table fields) e in (least_none _ both.0, both.1)

-- where nothing passes a test, its first element doesn't, and nothing of the rest
none_kept : {X : Type 0} (x : X) (xs : List X) (b : Bool) → cond b (x ∷ xs) xs ≡ [] → (b ≡ false) × (xs ≡ [])
none_kept x xs true e = cc
none_kept x xs false e = (refl, e)

-- no number among some passes a test that none of them passes
none_among_by : (p : ℕ → Bool) (m n : ℕ) (among same : Bool) → (m == n) ≡ same → p m ≡ false
    → (among ≡ true → p n ≡ false) → (same || among) ≡ true → p n ≡ false
none_among_by p m n among true same first rest here = let e : m ≡ n = grind (arith, nat_tests) in rw e at first
none_among_by p m n among false same first rest here = rest here

none_among : (p : ℕ → Bool) (ns : List ℕ) (n : ℕ) → filter p ns ≡ [] → is_among ns n ≡ true → p n ≡ false
none_among p [] n none among = cc
none_among p (m ∷ ns) n none among =
    let kept = none_kept m (filter p ns) (p m) none in
    none_among_by p m n (is_among ns n) (m == n) refl kept.0 (none_among p ns n kept.1) among

-- the value of a tag fails a test that no field passes
none_at_by : (p : Field → Bool) (f : Field) (tag : ℕ) (value : List ℕ) (among same : Bool) → (f.tag == tag) ≡ same
    → p f ≡ false
    → (among ≡ true → p (field tag value) ≡ false) → (same || among) ≡ true
    → p (field tag (cond same f.value value)) ≡ false
none_at_by p f tag value among true same first rest here =
    let e : f.tag ≡ tag = grind (arith, nat_tests) in rw (← e) first
none_at_by p f tag value among false same first rest here = rest here

none_at : (p : Field → Bool) (fields : List Field) (tag : ℕ) → filter p fields ≡ []
    → is_among (tags fields) tag ≡ true → p (field tag (value_at tag fields)) ≡ false
none_at p [] tag none among = cc
none_at p (f ∷ fields) tag none among =
    let kept = none_kept f (filter p fields) (p f) none in
    none_at_by p f tag (value_at tag fields) (is_among (tags fields) tag) (f.tag == tag) refl kept.0 (none_at p fields tag kept.1) among

tags_none : (fields : List Field) → tags fields ≡ [] → fields ≡ []
tags_none [] e = refl
tags_none (f ∷ fields) e = cc

not_false : (b : Bool) → not b ≡ false → b ≡ true
not_false true e = refl
not_false false e = cc

and_not_false : (a b : Bool) → a ≡ true → (a && not b) ≡ false → b ≡ true
and_not_false true b is e = not_false b e
and_not_false false b is e = cc

-- in a message without a fault the value of a required tag is of its format and in its range
pub record IsRightValue (table : Table) (tag : ℕ) (value : List ℕ) : Type 0 where
  pub format : IsTrue (has_format (format_of table tag) value)
  pub range : IsTrue (is_in_range (format_of table tag) value)

pub right_value : (table : Table) (fields : List Field) (tag : ℕ) → first_fault classes table fields ≡ None
    → IsTrue (is_among (required table) tag)
    → IsRightValue table tag (value_at tag fields)
right_value table fields tag none needed =
    let repeated = first_none TagAppearsMoreThanOnce (drop 1 classes) table fields none in
    let undefined = first_none TagNotDefined (drop 2 classes) table fields repeated.1 in
    let missing = first_none RequiredTagMissing (drop 3 classes) table fields undefined.1 in
    let format = first_none IncorrectFormat (drop 4 classes) table fields missing.1 in
    let range = first_none ValueIncorrect (drop 5 classes) table fields format.1 in
    let there = not_false _ (none_among (λ t. not (is_among (tags fields) t)) (required table) tag missing.0 needed) in
    let right = not_false _ (none_at (is_wrong IncorrectFormat table fields) fields tag (tags_none _ format.0) there) in
    record {
      format = right;
      range = and_not_false _ _ right (none_at (is_wrong ValueIncorrect table fields) fields tag (tags_none _ range.0) there);
    }

-- the value of a short number
pub short_number : (f : Format) (value : List ℕ) → IsTrue (is_short f) → IsTrue (has_format f value)
    → IsTrue (is_in_range f value)
    → IsTrue (is_number value) × (value_of value < 1000000000000000000)
short_number (number_to most) value short format range = (format, grind (arith, nat_tests))
short_number (byte_of bytes) value short format range = cc
short_number symbol value short format range = cc
short_number time value short format range = cc
short_number any value short format range = cc

-- going over the reasons: where one has a tag it is the fault, else the next ones decide
fault_step : (i : ℕ) (d : SessionRejectReason) (table : Table) (fields : List Field) → i < length classes
    → fault_in (drop i classes) table fields
    ≡ or_next (get_or classes i d) (least_in (get_or classes i d) table fields)
    (fault_in (drop (i + 1) classes) table fields)
fault_step i d table fields within =
    ap (λ rs. fault_in rs table fields) (drop-cons classes i d within)
    ∙ ap (λ k. or_next (get_or classes i d) (least_in (get_or classes i d) table fields)
    (fault_in (drop k classes) table fields)) (sym (add-one i))

pub fault_found : (i : ℕ) (d : SessionRejectReason) (table : Table) (fields : List Field) (tag : ℕ)
    → i < length classes → least_in (get_or classes i d) table fields ≡ Some tag
    → fault_in (drop i classes) table fields ≡ Some (record { reason = get_or classes i d; tag = tag })
fault_found i d table fields tag within found =
    fault_step i d table fields within
    ∙ ap (λ t. or_next (get_or classes i d) t (fault_in (drop (i + 1) classes) table fields)) found

pub fault_later : (i : ℕ) (d : SessionRejectReason) (table : Table) (fields : List Field) → i < length classes
    → least_in (get_or classes i d) table fields ≡ None
    → fault_in (drop i classes) table fields ≡ fault_in (drop (i + 1) classes) table fields
fault_later i d table fields within none =
    fault_step i d table fields within
    ∙ ap (λ t. or_next (get_or classes i d) t (fault_in (drop (i + 1) classes) table fields)) none

-- a symbol is spelled as one
pub spelling : (value : List ℕ) → IsTrue (is_symbol value) → IsSpelling value
spelling value is =
    let parts = and_parts _ _ is in
    let long = and_parts (nat_lt 0 (length value)) (nat_le (length value) 8) parts.0 in
    record { some = grind (arith, nat_tests, long.0); most = grind (arith, nat_tests, long.1); each = parts.1 }

-- every table requires Symbol
pub symbol_needed : (table : Table) → need_of table tags_of.Symbol ≡ Required
symbol_needed LimitOrder = refl
symbol_needed MarketOrder = refl
symbol_needed CancelRequest = refl
symbol_needed ReplaceRequest = refl
