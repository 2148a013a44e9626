-- What an output says to its client.
use Rattle.std.specs.Prelude.{ℕ, List}
use Rattle.venue_model.specs.declared.outputs.OutputType.{OutputType}
use Rattle.venue_model.specs.declared.outputs.OutputType.TheVariants.{ExecutionReport, OrderCancelReject, Reject}
use Rattle.venue_model.specs.declared.outputs.Report.{Report}
use Rattle.venue_model.specs.declared.outputs.Report.TheVariants.{Exec, CancelReject, SessionReject}

-- MsgType (35) of a report
abbrev pub msg_type_of : Report → OutputType
msg_type_of (Exec report) = ExecutionReport
msg_type_of (CancelReject reject) = OrderCancelReject
msg_type_of (SessionReject fault) = Reject

-- MsgType (35), SendingTime (52) as the number of its 14 digits, and the bytes of the body behind the header
pub record Text : Type 0 where
  pub msg_type : OutputType
  pub sending_time : ℕ
  pub body : List ℕ
