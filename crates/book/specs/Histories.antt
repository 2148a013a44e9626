-- What a history of entries comes to, by one book of one thread: what its entries ask, its state, and all its outputs.
use Rattle.std.specs.Prelude.{ℕ, nat_le, List}
use Rattle.venue_model.specs.History.{History, Message}
use Rattle.venue_model.specs.declared.commands.Command.{Command}
use Rattle.venue_model.specs.declared.outputs.Output.{Output}
use Rattle.venue_model.specs.Requests.{Limits, State}
use Rattle.venue_model.specs.Step.{Request, requests, state, outputs}
use Rattle.fix_orders.specs.Reading.{reads}

-- the command of the entry at this sequence, for a venue with these limits: that of its message's bytes; market orders are
-- read from the cut on
abbrev pub reads_at : Limits → ℕ → Message → Command
reads_at limits sequence m = reads (nat_le limits.cut sequence) m.bytes

-- what the entry at this sequence asks
abbrev pub request_at : Limits → ℕ → Message → Request
request_at limits sequence m = record { gateway = m.gateway; command = reads_at limits sequence m }

-- what these entries ask
abbrev pub requests_of : Limits → History → List Request
requests_of limits h = requests (reads_at limits) h

-- the book's state after them
abbrev pub state_of : Limits → History → State
state_of limits h = state limits.symbols (requests_of limits h)

-- all their outputs
abbrev pub outputs_of : Limits → History → List Output
outputs_of limits h = outputs limits.symbols (requests_of limits h)
