-- The text of a report, for those who read it at a terminal.
use Rattle.std.specs.Prelude.{ℕ, ◌+◌, ◌==◌, if◌then◌else◌, List, [], ◌∷◌, ◌++◌, codes, length, map}
use Rattle.std.specs.List.{flat_map}
use Rattle.std.specs.Fmt.{decimal}
use Rattle.fix_frame.specs.Grammar.{Field, print_fields}
use Rattle.fix_orders.specs.Text.{Said, field, side_code, text}
use Rattle.venue_model.specs.History.{History}
use Rattle.venue_model.specs.declared.orders.Order.{Order}
use Rattle.venue_model.specs.declared.outputs.Output.{Output}
use Rattle.venue_model.specs.Orders.{leaves}
use Rattle.venue_model.specs.Requests.{Symbols, Limits, State}
use Rattle.book.specs.Listing.{listing}
use Rattle.replay.specs.declared.recovered.Recovered.{Recovered}
use Rattle.book.specs.Histories.{outputs_of}

abbrev pub newline : List ℕ
newline = 10 ∷ []

-- side, price and what is left of an order
abbrev pub order_terms : Order → List ℕ
order_terms o = codes " " ++ side_code o.side ++ codes " " ++ decimal o.price ++ codes " " ++ decimal (leaves o)

-- its OrderID, client and ClOrdID
abbrev pub order_names : Order → List ℕ
order_names o = codes " " ++ decimal o.id ++ codes " C" ++ decimal o.client ++ codes " " ++ decimal o.cl_ord_id ++ newline

-- a resting order, each part behind a blank
abbrev pub order_line : Order → List ℕ
order_line o = o.symbol ++ order_terms o ++ order_names o

-- a bar stands for the byte SOH
abbrev pub bar : ℕ → ℕ
bar byte = if byte == 1 then 124 else byte

-- MsgType (35), SendingTime (52) and the body of the output at this place of the list of all outputs
abbrev pub said_fields : Said → List Field
said_fields said = field 35 said.kind ∷ field 52 said.time ∷ said.body

abbrev pub output_line : Output → ℕ → List ℕ
output_line output place = map bar (print_fields (said_fields (text output place))) ++ newline

-- the line of an output to this client; an output to another has none
abbrev pub line_to : ℕ → ℕ → Output → List ℕ
line_to client place o = if o.to == client then output_line o place else []

-- the lines of the outputs to this client, of outputs that begin at this place
abbrev pub client_lines : ℕ → ℕ → List Output → List ℕ
client_lines client place [] = []
client_lines client place (o ∷ os) = line_to client place o ++ client_lines client (place + 1) os

-- the last line: how many commands and outputs there are in all
abbrev pub counts_line : ℕ → ℕ → List ℕ
counts_line commands outputs = codes "commands " ++ decimal commands ++ codes " outputs " ++ decimal outputs ++ newline

-- the report of the outputs to a client, of a history and a venue with these limits
abbrev pub client_text : Limits → History → ℕ → List ℕ
client_text limits h client =
    client_lines client 0 (outputs_of limits h) ++ counts_line (length h) (length (outputs_of limits h))

-- the lines of the resting orders, and these counts
abbrev pub orders_text : Symbols → State → ℕ → ℕ → List ℕ
orders_text symbols s commands outputs = flat_map order_line (listing symbols s.orders) ++ counts_line commands outputs

-- the report of the book, of what a journal comes to from its newest snapshot on
abbrev pub book_text : Recovered → List ℕ
book_text r = orders_text r.book.limits.symbols r.book.state r.commands (r.told + length r.outputs.items)
