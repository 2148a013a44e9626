-- Private: what is found of the fields of an order message behind its header, when they are read from the first to the
-- last.
use Rattle.std.specs.Prelude.{◌≡◌, ◌↔◌, ◌+◌, ◌*◌, ◌≤◌, length, ℕ, Bool, not, ◌&&◌, if◌then◌else◌, List, [], ◌∷◌, ◌++◌, map, filter, Option, Some, None}
use Rattle.std.specs.List.{AllByRecursion}
use Rattle.fix_frame.specs.Grammar.{Field, IsField, most_in}
use Rattle.fix_frame.specs.Runs.{IsRun}
use Rattle.fix_frame.specs.Bodies.{bytes_left, fields_in}
use Rattle.fix_frame.specs.declared.body.Body.{Body}
use Rattle.venue_model.specs.declared.commands.SessionRejectReason.{SessionRejectReason}
use Rattle.venue_model.specs.declared.commands.SessionRejectReason.TheVariants.{RequiredTagMissing, TagNotDefined, ValueIncorrect, IncorrectFormat, TagAppearsMoreThanOnce}
use Rattle.venue_model.specs.declared.commands.RefMsgType.{RefMsgType}
use Rattle.fix_orders.specs.declared.fields.Fault.{Fault}
use Rattle.fix_orders.specs.declared.fields.OrderFields.{OrderFields}
use Rattle.fix_orders.specs.declared.tables.Table.{Table}
use Rattle.fix_orders.specs.declared.tables.OrderTag.{OrderTag}
use Rattle.fix_orders.specs.declared.values.Values.{Values}
use Rattle.fix_orders.specs.OrderTags.{tag_number, order_numbers}
use Rattle.fix_orders.specs.Reading.{frame_tags, header_tags, required, tags, is_among, value_at, faulty_tags, lesser, least, or_next, table_of}
use Rattle.fix_orders.specs.Values.{value_in, is_nothing}

-- the tags that stand outside of these fields, each once
abbrev pub outside : List ℕ
outside = frame_tags ++ header_tags

-- no type of order message has the tag
abbrev pub is_other : ℕ → Bool
is_other tag = not (is_among (outside ++ order_numbers) tag)

-- a tag that is wrong counts
abbrev pub lesser_if : Bool → ℕ → Option ℕ → Option ℕ
lesser_if wrong tag found = if wrong then Some (lesser tag found) else found

-- the tags that stand once more, behind some that were seen
abbrev pub again : List ℕ → List ℕ → List ℕ
again seen [] = []
again seen (tag ∷ more) =
    if is_among seen tag then tag ∷ again (seen ++ tag ∷ []) more else again (seen ++ tag ∷ []) more

-- the least tag at fault for a reason among these fields
abbrev pub least_in : SessionRejectReason → Table → List Field → Option ℕ
least_in TagAppearsMoreThanOnce table fields = least (again outside (tags fields))
least_in TagNotDefined table fields = least (faulty_tags TagNotDefined table fields)
least_in RequiredTagMissing table fields = least (faulty_tags RequiredTagMissing table fields)
least_in IncorrectFormat table fields = least (faulty_tags IncorrectFormat table fields)
least_in ValueIncorrect table fields = least (faulty_tags ValueIncorrect table fields)

-- a table requires the tag, and it has no value
abbrev pub is_missing : Table → Values → OrderTag → Bool
is_missing table values tag = is_among (required table) (tag_number tag) && is_nothing (value_in values tag)

-- the numbers of the missing ones among some tags
abbrev pub missing_among : Table → Values → List OrderTag → List ℕ
missing_among table values some = map tag_number (filter (is_missing table values) some)

-- this is what is found of these fields
pub record IsFound (table : Table) (fields : List Field) (found : OrderFields) : Type 0 where
  pub each : AllByRecursion IsField fields
  pub values : (tag : OrderTag) → value_in found.values tag ≡ value_at (tag_number tag) fields
  pub others : found.others.items ≡ filter is_other (tags fields)
  pub repeated : found.repeated ≡ least_in TagAppearsMoreThanOnce table fields
  pub undefined : found.undefined ≡ least_in TagNotDefined table fields
  pub ill_formed : found.ill_formed ≡ least_in IncorrectFormat table fields
  pub out_of_range : found.out_of_range ≡ least_in ValueIncorrect table fields

-- the first of some reasons for which one of these fields is wrong, and its least tag
abbrev pub fault_in : List SessionRejectReason → Table → List Field → Option Fault
fault_in [] table fields = None
fault_in (r ∷ rs) table fields = or_next r (least_in r table fields) (fault_in rs table fields)

-- this is what is found of the fields of a body in front of what is left of it, and there is room for those that may follow
pub record IsReading (table : Table) (rest all : Body) (found : OrderFields) : Type 0 where
  pub front : List Field
  pub found_in : IsFound table front found
  pub whole : fields_in all ≡ front ++ fields_in rest
  pub run : IsRun (bytes_left all) ↔ IsRun (bytes_left rest)
  pub few : 4 * length front + length (bytes_left rest) ≤ most_in

-- the bytes of a body are a run of fields, which were read by this table, and this is what is found of them
pub record IsReadBy (market : Bool) (type : RefMsgType) (body : Body) (found : Table × OrderFields) : Type 0 where
  pub run : IsRun (bytes_left body)
  pub table : found.0 ≡ table_of market type (fields_in body)
  pub found_in : IsFound found.0 (fields_in body) found.1
