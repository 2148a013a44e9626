-- What the venue does with commands, one after another: its state and its outputs.
use Rattle.std.specs.Prelude.{⊤, ℕ, ◌+◌, ◌≤◌, List, [], ◌∷◌, ◌++◌, replicate}
use Rattle.venue_model.specs.History.{Message}
use Rattle.venue_model.specs.declared.commands.Command.{Command}
use Rattle.venue_model.specs.declared.commands.Command.TheVariants.{New, Cancel, Replace, Malformed, Void}
use Rattle.venue_model.specs.declared.commands.OrdType.{OrdType}
use Rattle.venue_model.specs.declared.commands.OrdType.TheVariants.{Market, Limit}
use Rattle.venue_model.specs.declared.outputs.Cause.{Cause}
use Rattle.venue_model.specs.declared.outputs.Output.{Output}
use Rattle.venue_model.specs.Requests.{State, Stepped, Symbols, on_new, on_cancel, on_replace, on_malformed}

-- ClOrdID, and prices and quantities, as they are read out of messages (docs/PROFILE.md, "Formats")
abbrev pub IsName : ℕ → Type 0
IsName n = (1 ≤ n) × (n ≤ 999999999999999)

abbrev pub IsAmount : ℕ → Type 0
IsAmount n = (1 ≤ n) × (n ≤ 1000000)

-- the price of an order, where it has one
abbrev pub IsPriced : OrdType → Type 0
IsPriced Market = ⊤
IsPriced (Limit price) = IsAmount price

-- the numbers of a command are in these ranges
abbrev pub IsCommand : Command → Type 0
IsCommand (New time order) = IsName order.cl_ord_id × IsPriced order.ord_type × IsAmount order.quantity
IsCommand (Cancel time request) = IsName request.cl_ord_id × IsName request.orig_cl_ord_id
IsCommand (Replace time request) =
    IsName request.cl_ord_id × IsName request.orig_cl_ord_id × IsAmount request.price × IsAmount request.quantity
IsCommand (Malformed time fault) = ⊤
IsCommand Void = ⊤

-- a command and the gateway that it came through
pub record Request : Type 0 where
  pub gateway : ℕ
  pub command : Command

abbrev pub cause : ℕ → ℕ → ℕ → Cause
cause gateway sequence time = record { gateway = gateway; sequence = sequence; sending_time = time }

-- what the command at this sequence makes of a state, and its outputs
abbrev pub obey : Symbols → State → ℕ → ℕ → Command → Stepped
obey symbols s sequence gateway (New time order) = on_new symbols s (cause gateway sequence time) order
obey symbols s sequence gateway (Cancel time request) = on_cancel s (cause gateway sequence time) request
obey symbols s sequence gateway (Replace time request) = on_replace s (cause gateway sequence time) request
obey symbols s sequence gateway (Malformed time fault) = on_malformed s (cause gateway sequence time) fault
obey symbols s sequence gateway Void = record { state = s; outputs = [] }

abbrev pub step : Symbols → State → ℕ → Request → Stepped
step symbols s sequence r = obey symbols s sequence r.gateway r.command

-- no orders, nothing accepted
abbrev pub empty : State
empty = record { orders = []; greatest = replicate 8 0 }

-- the state after some commands, the first of which has this sequence
abbrev pub state_from : Symbols → ℕ → State → List Request → State
state_from symbols sequence s [] = s
state_from symbols sequence s (r ∷ rs) = state_from symbols (sequence + 1) (step symbols s sequence r).state rs

-- their outputs
abbrev pub outputs_from : Symbols → ℕ → State → List Request → List Output
outputs_from symbols sequence s [] = []
outputs_from symbols sequence s (r ∷ rs) =
    (step symbols s sequence r).outputs ++ outputs_from symbols (sequence + 1) (step symbols s sequence r).state rs

-- the state after a whole history of commands
abbrev pub state : Symbols → List Request → State
state symbols rs = state_from symbols 0 empty rs

-- the outputs of a whole history of commands: output number p stands at place p, from 0
abbrev pub outputs : Symbols → List Request → List Output
outputs symbols rs = outputs_from symbols 0 empty rs

-- the commands that the messages of a history are read as, the first of which has this sequence
abbrev pub requests_from : (ℕ → Message → Command) → ℕ → List Message → List Request
requests_from reads sequence [] = []
requests_from reads sequence (m ∷ ms) =
    (record { gateway = m.gateway; command = reads sequence m }) ∷ requests_from reads (sequence + 1) ms

-- the commands of a history
abbrev pub requests : (ℕ → Message → Command) → List Message → List Request
requests reads history = requests_from reads 0 history
