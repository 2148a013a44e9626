-- The numbers of the reasons: SessionRejectReason (373) of FIX 4.4.
use Rattle.std.specs.Prelude.{ℕ}
use Rattle.edge_frames.specs.declared.reason.RejectReason.{RejectReason}
use Rattle.edge_frames.specs.declared.reason.RejectReason.TheVariants.{InvalidTag, NoValue, OutOfRange, BadFormat}
use Rattle.edge_frames.specs.declared.reason.RejectReason.TheVariants.{TooMany}

abbrev pub reject_number : RejectReason → ℕ
reject_number InvalidTag = 0
reject_number NoValue = 4
reject_number OutOfRange = 5
reject_number BadFormat = 6
reject_number TooMany = 99
