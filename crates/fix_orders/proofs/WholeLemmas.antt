-- The whole message: a header, and the fields behind it that were read.
use Rattle.std.proofs.Common.{◌≡◌, ℕ, Bool, true, false, cond, ◌&&◌, ◌||◌, nat_lt, ◌==◌, List, [], ◌∷◌, ◌++◌}
use Rattle.std.proofs.Common.{Some, None, IsTrue, sym, ap, subst, ◌∙◌, refl, arith}
use Rattle.std.specs.List.{filter}
use Rattle.std.proofs.lemmas.Bool.{and_parts}
use Rattle.std.proofs.lemmas.Bool.Decides.{nat_tests}
use Rattle.std.proofs.lemmas.List.Folds.{list_any-append}
use Rattle.std.proofs.lemmas.Map.Views.{any-filter_same}
use mathlib.Core.Path.{fun_ext}
use Rattle.fix_frame.specs.Grammar.{Field, BeginsWithType}
use Rattle.venue_model.specs.declared.commands.Command.{Command}
use Rattle.venue_model.specs.declared.commands.Command.TheVariants.{New, Cancel, Replace}
use Rattle.venue_model.specs.declared.commands.NewOrderSingle.{NewOrderSingle}
use Rattle.venue_model.specs.declared.commands.OrdType.{OrdType as OrdTypeAsked}
use Rattle.venue_model.specs.declared.commands.OrdType.TheVariants.{Market, Limit}
use Rattle.venue_model.specs.declared.commands.RefMsgType.{RefMsgType}
use Rattle.fix_orders.specs.declared.tables.Table.{Table}
use Rattle.fix_orders.specs.declared.tables.Table.TheVariants.{LimitOrder, MarketOrder, CancelRequest, ReplaceRequest}
use Rattle.venue_model.specs.declared.commands.SessionRejectReason.{SessionRejectReason}
use Rattle.venue_model.specs.declared.commands.SessionRejectReason.TheVariants.{RequiredTagMissing, TagNotDefined}
use Rattle.venue_model.specs.declared.commands.SessionRejectReason.TheVariants.{ValueIncorrect, IncorrectFormat}
use Rattle.venue_model.specs.declared.commands.SessionRejectReason.TheVariants.{TagAppearsMoreThanOnce}
use Rattle.fix_orders.specs.declared.fields.OrderFields.{OrderFields}
use Rattle.fix_orders.specs.declared.tables.Need.TheVariants.{Required, Optional, Undefined}
use Rattle.fix_orders.specs.declared.tables.OrderTag.{OrderTag}
use Rattle.fix_orders.specs.declared.tables.OrderTag.TheVariants.{ClOrdId, OrderQty, OrdType, OrigClOrdId, Price, Side}
use Rattle.fix_orders.specs.declared.tables.OrderTag.TheVariants.{Symbol, TimeInForce, TransactTime}
use Rattle.fix_orders.specs.declared.values.Values.{Values}
use Rattle.fix_orders.specs.Asking.{AreRight, asked_in}
use Rattle.fix_orders.specs.Findings.{IsFound, outside, again, least_in, fault_in}
use Rattle.fix_orders.specs.Formats.{value_of, format_of, has_format, is_in_range}
use Rattle.fix_orders.specs.Header.{Header, is_header, header_of}
use Rattle.fix_orders.specs.OrderTags.{tag_number}
use Rattle.fix_orders.specs.Reading.{header_tags, tags, is_among, required, optional, value_at, faulty_tags, least}
use Rattle.fix_orders.specs.Reading.{or_next, table_of, first_fault, classes, asked, side_of, time_in_force_of}
use Rattle.fix_orders.specs.Text.{field}
use Rattle.fix_orders.specs.Values.{value_in}
use Rattle.fix_orders.proofs.AgainLemmas.{same_least, count, count-append, among_counted, again_among}
use Rattle.fix_orders.specs.FaultLaws.{right_value}
use Rattle.fix_orders.proofs.TagLemmas.{among_all}

-- a header's fields with these values, and others behind them
abbrev pub headed_by : List ℕ → List ℕ → List ℕ → List ℕ → List ℕ → List Field → List Field
headed_by a b c d e rest = field 35 a ∷ field 49 b ∷ field 56 c ∷ field 34 d ∷ field 52 e ∷ rest

-- the fields begin with a header, behind which these stand
abbrev pub HasHeader : List Field → List Field → Type 0
HasHeader fields rest =
    (a : List ℕ) × (b : List ℕ) × (c : List ℕ) × (d : List ℕ) × (e : List ℕ) × (fields ≡ headed_by a b c d e rest)

field_is : (f : Field) (n : ℕ) → (f.tag == n) ≡ true → f ≡ field n f.value
field_is f n same = let e : f.tag ≡ n = grind (arith, nat_tests) in ap (λ t. field t f.value) e

header_fields : (a b c d e : Field) (rest : List Field) → is_header a b c d e ≡ true
    → HasHeader (a ∷ b ∷ c ∷ d ∷ e ∷ rest) rest
header_fields a b c d e rest is =
    let timed = and_parts _ _ is in
    let numbered = and_parts _ _ timed.0 in
    let fifth = and_parts _ (e.tag == 52) numbered.0 in
    let fourth = and_parts _ (d.tag == 34) fifth.0 in
    let third = and_parts _ (c.tag == 56) fourth.0 in
    let second = and_parts (a.tag == 35) (b.tag == 49) third.0 in (
      a.value,
      b.value,
      c.value,
      d.value,
      e.value,
      ap (λ f. f ∷ b ∷ c ∷ d ∷ e ∷ rest) (field_is a 35 second.0)
          ∙ ap (λ f. field 35 a.value ∷ f ∷ c ∷ d ∷ e ∷ rest) (field_is b 49 second.1)
          ∙ ap (λ f. field 35 a.value ∷ field 49 b.value ∷ f ∷ d ∷ e ∷ rest) (field_is c 56 third.1)
          ∙ ap (λ f. field 35 a.value ∷ field 49 b.value ∷ field 56 c.value ∷ f ∷ e ∷ rest) (field_is d 34 fourth.1)
          ∙ ap (λ f. field 35 a.value ∷ field 49 b.value ∷ field 56 c.value ∷ field 34 d.value ∷ f ∷ rest)
          (field_is e 52 fifth.1),
    )

header_by : (found : Bool) (h g : Header) → cond found (Some h) None ≡ Some g → (found ≡ true) × (h ≡ g)
header_by true h g e = (refl, cc)
header_by false h g e = cc

pub has_header : (fields : List Field) (h : Header) → header_of fields ≡ Some h → HasHeader fields h.rest
has_header [] h found = cc
has_header (a ∷ []) h found = cc
has_header (a ∷ b ∷ []) h found = cc
has_header (a ∷ b ∷ c ∷ []) h found = cc
has_header (a ∷ b ∷ c ∷ d ∷ []) h found = cc
has_header (a ∷ b ∷ c ∷ d ∷ e ∷ rest) h found =
    let by = header_by (is_header a b c d e) _ h found in
    subst (HasHeader (a ∷ b ∷ c ∷ d ∷ e ∷ rest)) (ap (λ (g : Header). g.rest) by.1) (header_fields a b c d e rest by.0)

-- tags of the header that stand again stand behind it
once_outside : (x : ℕ) → is_among header_tags x ≡ true → count x outside ≡ 1
once_outside x there = among_all (λ n. count n outside ≡ 1) header_tags x (refl, (refl, (refl, (refl, (refl, tt)))))
    there

behind_by : (head among twice : Bool) → (head ≡ true → twice ≡ true → among ≡ true)
    → (among && twice) ≡ (twice && (head || among))
behind_by true true true known = refl
behind_by true true false known = refl
behind_by true false true known = let there = known refl refl in cc
behind_by true false false known = refl
behind_by false true true known = refl
behind_by false true false known = refl
behind_by false false true known = refl
behind_by false false false known = refl

stands_behind : (us : List ℕ) (x : ℕ) → is_among header_tags x ≡ true → nat_lt 1 (count x (outside ++ us)) ≡ true
    → is_among us x ≡ true
stands_behind us x head twice =
    let once = once_outside x head in
    let all = count-append x outside us in
    let some : nat_lt 0 (count x us) ≡ true = grind (arith, nat_tests) in
    among_counted x us ∙ some

tags_kept_by : (t : ℕ) (f : Field) (b : Bool) (fs : List Field) (ns : List ℕ) → tags fs ≡ ns
    → tags (cond b (f ∷ fs) fs) ≡ cond b (f.tag ∷ ns) ns
tags_kept_by t f true fs ns same = ap (λ rest. f.tag ∷ rest) same
tags_kept_by t f false fs ns same = same

tags_kept : (p : ℕ → Bool) (fs : List Field) → tags (filter (λ f. p f.tag) fs) ≡ filter p (tags fs)
tags_kept p [] = refl
tags_kept p (f ∷ fs) = tags_kept_by 0 f (p f.tag) (filter (λ g. p g.tag) fs) (filter p (tags fs)) (tags_kept p fs)

same_count : (all : List ℕ) (k x : ℕ) → (k == x) ≡ true → nat_lt 1 (count k all) ≡ nat_lt 1 (count x all)
same_count all k x same = let e : k ≡ x = grind (arith, nat_tests) in ap (λ n. nat_lt 1 (count n all)) e

missing_whole : (table : Table) (a b c d e : List ℕ) (rest : List Field)
    → least_in RequiredTagMissing table rest ≡ least (faulty_tags RequiredTagMissing table (headed_by a b c d e rest))
missing_whole LimitOrder a b c d e rest = refl
missing_whole MarketOrder a b c d e rest = refl
missing_whole CancelRequest a b c d e rest = refl
missing_whole ReplaceRequest a b c d e rest = refl

module _ (table : Table) (a b c d e : List ℕ) (rest : List Field) where
  repeated_whole : least_in TagAppearsMoreThanOnce table rest ≡ least
      (faulty_tags TagAppearsMoreThanOnce table (headed_by a b c d e rest))
  repeated_whole =
      let all = outside ++ tags rest in
      let twice = λ (n : ℕ). nat_lt 1 (count n all) in
      same_least (again outside (tags rest)) (tags (filter (λ f. twice f.tag) (headed_by a b c d e rest)))
      (λ x. again_among outside (tags rest) x
      ∙ behind_by (is_among header_tags x) (is_among (tags rest) x) (twice x) (stands_behind (tags rest) x)
      ∙ sym (ap (λ ns. is_among ns x) (tags_kept twice (headed_by a b c d e rest))
      ∙ any-filter_same (λ n. n == x) twice (twice x) (λ k same. same_count all k x same)
      (tags (headed_by a b c d e rest))
      ∙ ap (λ among. twice x && among) (list_any-append (λ n. n == x) header_tags (tags rest))))

  -- for each reason the header's fields are right
  least_whole : (r : SessionRejectReason) → least_in r table rest ≡ least (faulty_tags r table (headed_by a b c d e rest))
  least_whole TagAppearsMoreThanOnce = repeated_whole
  least_whole TagNotDefined = refl
  least_whole RequiredTagMissing = missing_whole table a b c d e rest
  least_whole IncorrectFormat = refl
  least_whole ValueIncorrect = refl

  faults_whole : (rs : List SessionRejectReason)
      → fault_in rs table rest ≡ first_fault rs table (headed_by a b c d e rest)
  faults_whole [] = refl
  faults_whole (r ∷ rs) =
      ap (λ found. or_next r found (fault_in rs table rest)) (least_whole r)
      ∙ ap (or_next r (least (faulty_tags r table (headed_by a b c d e rest)))) (faults_whole rs)

  value_whole : (t : OrderTag) → value_at (tag_number t) (headed_by a b c d e rest) ≡ value_at (tag_number t) rest
  value_whole ClOrdId = refl
  value_whole OrderQty = refl
  value_whole OrdType = refl
  value_whole OrigClOrdId = refl
  value_whole Price = refl
  value_whole Side = refl
  value_whole Symbol = refl
  value_whole TimeInForce = refl
  value_whole TransactTime = refl

-- the fault of the fields that were read is that of the message
pub fault_whole : (table : Table) (fields rest : List Field) → HasHeader fields rest
    → fault_in classes table rest ≡ first_fault classes table fields
fault_whole table fields rest (a, b, c, d, e, is) = faults_whole table a b c d e rest classes
    ∙ ap (first_fault classes table) (sym is)

-- and so are the values
pub values_whole : (table : Table) (fields rest : List Field) (found : OrderFields) → HasHeader fields rest
    → IsFound table rest found
    → (t : OrderTag) → value_in found.values t ≡ value_at (tag_number t) fields
values_whole table fields rest found (a, b, c, d, e, is) finds t =
    finds.values t ∙ sym (value_whole table a b c d e rest t) ∙ ap (value_at (tag_number t)) (sym is)

needed_by : (needed allowed : Bool) → cond needed Required (cond allowed Optional Undefined) ≡ Required → needed ≡ true
needed_by true allowed is = refl
needed_by false true is = cc
needed_by false false is = cc

-- without a fault each required value is right
pub values_right : (table : Table) (fields : List Field) (values : Values)
    → ((t : OrderTag) → value_in values t ≡ value_at (tag_number t) fields)
    → first_fault classes table fields ≡ None → AreRight table values
values_right table fields values are none = record {
  format = λ t needed.
      subst (λ v. IsTrue (has_format (format_of table (tag_number t)) v)) (sym (are t))
      (right_value table fields (tag_number t) none
      (needed_by (is_among (required table) (tag_number t)) (is_among (optional table) (tag_number t)) needed)).format;
  range = λ t needed.
      subst (λ v. IsTrue (is_in_range (format_of table (tag_number t)) v)) (sym (are t))
      (right_value table fields (tag_number t) none
      (needed_by (is_among (required table) (tag_number t)) (is_among (optional table) (tag_number t)) needed)).range;
}

-- the table that a message is read by is that of the fields that were read
pub table_whole : (market : Bool) (kind : RefMsgType) (fields rest : List Field) → HasHeader fields rest
    → table_of market kind rest ≡ table_of market kind fields
table_whole market kind fields rest (a, b, c, d, e, is) = ap (table_of market kind) (sym is)

-- what they ask is what the message asks
abbrev order_by : OrdTypeAsked → (OrderTag → List ℕ) → NewOrderSingle
order_by ord_type v = record {
  cl_ord_id = value_of (v ClOrdId);
  symbol = v Symbol;
  side = side_of (v Side);
  ord_type = ord_type;
  quantity = value_of (v OrderQty);
  time_in_force = time_in_force_of (v TimeInForce);
}

abbrev asked_by : Table → ℕ → (OrderTag → List ℕ) → Command
asked_by LimitOrder time v = New time (order_by (Limit (value_of (v Price))) v)
asked_by MarketOrder time v = New time (order_by Market v)
asked_by CancelRequest time v = Cancel time (record {
  cl_ord_id = value_of (v ClOrdId);
  orig_cl_ord_id = value_of (v OrigClOrdId);
  symbol = v Symbol;
  side = side_of (v Side);
})
asked_by ReplaceRequest time v = Replace time (record {
  cl_ord_id = value_of (v ClOrdId);
  orig_cl_ord_id = value_of (v OrigClOrdId);
  symbol = v Symbol;
  side = side_of (v Side);
  price = value_of (v Price);
  quantity = value_of (v OrderQty);
  time_in_force = time_in_force_of (v TimeInForce);
})

asked_values : (table : Table) (time : ℕ) (values : Values)
    → asked_in table time values ≡ asked_by table time (value_in values)
asked_values LimitOrder time values = refl
asked_values MarketOrder time values = refl
asked_values CancelRequest time values = refl
asked_values ReplaceRequest time values = refl

asked_fields : (table : Table) (time : ℕ) (fields : List Field)
    → asked_by table time (λ t. value_at (tag_number t) fields) ≡ asked table time fields
asked_fields LimitOrder time fields = refl
asked_fields MarketOrder time fields = refl
asked_fields CancelRequest time fields = refl
asked_fields ReplaceRequest time fields = refl

pub asked_whole : (table : Table) (time : ℕ) (fields : List Field) (values : Values)
    → ((t : OrderTag) → value_in values t ≡ value_at (tag_number t) fields)
    → asked_in table time values ≡ asked table time fields
asked_whole table time fields values are =
    asked_values table time values ∙ ap (asked_by table time) (fun_ext are) ∙ asked_fields table time fields

-- no more fields than those of the message

-- so MsgType stands first
pub has_type : (fields rest : List Field) → HasHeader fields rest → BeginsWithType fields
has_type fields rest (a, b, c, d, e, is) = subst BeginsWithType (sym is) refl
