-- A command as the words that the unmarshaller stores in its row. Word 0, the head, has what is small, from its lowest bit on:
--
--     new, cancel, replace:   kind 3 bits, gateway 4, side 1, TimeInForce 2, quantity 20, price 20 (0 where there is none)
--     malformed:              kind 3 bits, gateway 4, reason 3, type of the message 2, tag 32
--     void:                   kind 3 bits, gateway 4
--
-- A whole word each has what isn't small:
--
--     1 new          SendingTime, ClOrdID, Symbol
--     2 cancel       SendingTime, ClOrdID, OrigClOrdID, Symbol
--     3 replace      SendingTime, ClOrdID, OrigClOrdID, Symbol
--     4 malformed    SendingTime, MsgSeqNum
--     0 void
use Rattle.std.specs.Prelude.{⊤, ℕ, ◌+◌, ◌*◌, ◌^◌, ◌<◌, List, [], ◌∷◌}
use Rattle.std.specs.Int.{from_be_bytes}
use mir.Syntax.{w64}
use Rattle.venue_model.specs.declared.commands.Command.{Command}
use Rattle.venue_model.specs.declared.commands.Command.TheVariants.{New, Cancel, Replace, Malformed, Void}
use Rattle.venue_model.specs.declared.commands.TimeInForce.{TimeInForce}
use Rattle.venue_model.specs.declared.commands.TimeInForce.TheVariants.{Day, ImmediateOrCancel, FillOrKill}
use Rattle.venue_model.specs.declared.commands.OrdType.{OrdType}
use Rattle.venue_model.specs.declared.commands.OrdType.TheVariants.{Market, Limit}
use Rattle.venue_model.specs.declared.commands.SessionRejectReason.{SessionRejectReason}
use Rattle.venue_model.specs.declared.commands.SessionRejectReason.TheVariants.{RequiredTagMissing, TagNotDefined, ValueIncorrect, IncorrectFormat, TagAppearsMoreThanOnce}
use Rattle.venue_model.specs.declared.commands.RefMsgType.{RefMsgType}
use Rattle.venue_model.specs.declared.commands.RefMsgType.TheVariants.{NewOrderSingle, OrderCancelRequest, OrderCancelReplaceRequest}
use Rattle.venue_model.specs.declared.orders.Side.{Side}
use Rattle.venue_model.specs.declared.orders.Side.TheVariants.{Buy, Sell}
use Rattle.venue_model.specs.Spelling.{IsSpelling, padded}
use Rattle.venue_model.specs.Step.{IsCommand}

abbrev pub side_number : Side → ℕ
side_number Buy = 0
side_number Sell = 1

abbrev pub time_in_force_number : TimeInForce → ℕ
time_in_force_number Day = 0
time_in_force_number ImmediateOrCancel = 1
time_in_force_number FillOrKill = 2

-- the price, 0 where there is none
abbrev pub price_number : OrdType → ℕ
price_number Market = 0
price_number (Limit price) = price

abbrev pub reason_number : SessionRejectReason → ℕ
reason_number RequiredTagMissing = 0
reason_number TagNotDefined = 1
reason_number ValueIncorrect = 2
reason_number IncorrectFormat = 3
reason_number TagAppearsMoreThanOnce = 4

abbrev pub type_number : RefMsgType → ℕ
type_number NewOrderSingle = 0
type_number OrderCancelRequest = 1
type_number OrderCancelReplaceRequest = 2

abbrev pub kind_number : Command → ℕ
kind_number Void = 0
kind_number (New time order) = 1
kind_number (Cancel time request) = 2
kind_number (Replace time request) = 3
kind_number (Malformed time fault) = 4

-- the fields of an order or a request that stand in the head
abbrev pub packed_fields : Side → TimeInForce → ℕ → ℕ → ℕ
packed_fields side time_in_force quantity price =
    128 * side_number side + 256 * time_in_force_number time_in_force + 1024 * quantity + 1073741824 * price

-- the fields of a fault that stand in the head
abbrev pub fault_fields : SessionRejectReason → RefMsgType → ℕ → ℕ
fault_fields reason ref_type tag = 128 * reason_number reason + 1024 * type_number ref_type + 4096 * tag

abbrev pub head_fields : Command → ℕ
head_fields (New time order) = packed_fields order.side order.time_in_force order.quantity (price_number order.ord_type)
head_fields (Cancel time request) = packed_fields request.side Day 0 0
head_fields (Replace time request) = packed_fields request.side request.time_in_force request.quantity request.price
head_fields (Malformed time fault) = fault_fields fault.reason fault.ref_type fault.tag
head_fields Void = 0

-- word 0 of a command that came through this gateway
abbrev pub head_word : ℕ → Command → ℕ
head_word gateway c = kind_number c + 8 * gateway + head_fields c

-- the bytes of a symbol, big-endian, zeros behind them: no byte of a symbol is 0, so the word has its length too
unfoldable pub symbol_word : List ℕ → ℕ
symbol_word name = from_be_bytes w64 (padded name)

-- the words behind the head
abbrev pub more_words : Command → List ℕ
more_words (New time order) = time ∷ order.cl_ord_id ∷ symbol_word order.symbol ∷ []
more_words (Cancel time request) = time ∷ request.cl_ord_id ∷ request.orig_cl_ord_id ∷ symbol_word request.symbol ∷ []
more_words (Replace time request) = time ∷ request.cl_ord_id ∷ request.orig_cl_ord_id ∷ symbol_word request.symbol ∷ []
more_words (Malformed time fault) = time ∷ fault.ref_seq ∷ []
more_words Void = []

-- all words of a command that came through this gateway
abbrev pub command_words : ℕ → Command → List ℕ
command_words gateway c = head_word gateway c ∷ more_words c

-- its symbol is spelled as one, and its tag and MsgSeqNum are numbers of 32 bits
abbrev pub FieldsFit : Command → Type 0
FieldsFit (New time order) = IsSpelling order.symbol
FieldsFit (Cancel time request) = IsSpelling request.symbol
FieldsFit (Replace time request) = IsSpelling request.symbol
FieldsFit (Malformed time fault) = (fault.tag < 2 ^ 32) × (fault.ref_seq < 2 ^ 32)
FieldsFit Void = ⊤

-- what the words keep: the number of a gateway, and a command as messages are read
pub record IsPackable (number : ℕ) (c : Command) : Type 0 where
  pub gateway : number < 16
  pub numbers : IsCommand c
  pub fields : FieldsFit c
