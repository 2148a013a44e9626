-- A text that came through the output ring in bytes says what the output says in fields.
use Rattle.std.proofs.Common.{ℕ, List, ap, sym}
use Rattle.fix_orders.specs.Formats.{time_text}
use Rattle.fix_orders.specs.Text.{msg_type_code, text, text_bytes}
use Rattle.venue_model.specs.declared.outputs.Output.{Output}
use Rattle.book.specs.Laws.{TellsFields}
use Rattle.barrier.specs.declared.taken.Head.{Head}
use Rattle.barrier.specs.Taking as taking
use Rattle.gateway.specs.Ledgers.{CarriesSaid}

-- head and body say the output
pub carried : (head : Head) (body : List ℕ) (o : Output) (place : ℕ) → TellsFields o
    → taking.Carries head body (text_bytes o place)
    → CarriesSaid head body (text o place)
carried head body o place fields read = record {
  type = ap msg_type_code (sym read.head_is.kind);
  time = ap time_text (sym read.head_is.time);
  bytes = sym read.body;
  fields = fields place;
  most = read.most;
}
