-- What the calls that do a command ask of one another, and what each has done.
use Rattle.std.specs.Prelude.{◌≡◌, ℕ, ◌+◌, ◌*◌, ◌^◌, ◌<◌, ◌≤◌, true, false, List, ◌++◌, length, Some, Vec}
use Rattle.std.specs.Vec.{vec_len, vec_capacity}
use Rattle.venue_model.specs.declared.orders.Order.{Order}
use Rattle.venue_model.specs.declared.commands.OrderCancelReplaceRequest.{OrderCancelReplaceRequest}
use Rattle.venue_model.specs.declared.commands.TimeInForce.{TimeInForce}
use Rattle.venue_model.specs.declared.commands.TimeInForce.TheVariants.{FillOrKill}
use Rattle.venue_model.specs.declared.outputs.Output.{Output}
use Rattle.venue_model.specs.Orders.{leaves}
use Rattle.venue_model.specs.Match.{can_fill}
use Rattle.venue_model.specs.Requests.{State, is_day, most_resting, greatest_of, named, replace_fits}
use Rattle.book.specs.Books.{Book, StandsInBook}
use Rattle.book.specs.Reads.{filled_by, IsMatched}
use Rattle.book.specs.Standing.{InRange, IsBookList, Below}

-- Orders can be matched: they are the book's list, there is room for two reports of each and for one output more, and
-- the count of reads is far from its end.
pub record CanMatch {Z : Type 0} (orders : List Order) (out : Vec Output Z) (count : ℕ) : Type 0 where
  pub standing : IsBookList orders
  pub room : vec_len out + 2 * length orders < vec_capacity out
  pub reads : count < 2 ^ 32

-- An order may come in on these terms: it is in its ranges, something is left of it, and all others came before it. A
-- day order has a price, and a place.
pub record MayComeIn (terms : TimeInForce) (incoming : Order) (orders : List Order) : Type 0 where
  pub in_range : InRange incoming
  pub some : 0 < leaves incoming
  pub behind : Below incoming.stamp orders
  pub place : is_day terms ≡ true → length orders < most_resting
  pub limit : is_day terms ≡ true → incoming.is_market ≡ false

-- Of the book's list these orders are left: they stand as all did, are no more, and none came later than they.
pub record AreLeft (left old new : List Order) : Type 0 where
  pub orders : new ≡ left
  pub standing : IsBookList new
  pub below : (sequence : ℕ) → Below sequence old → Below sequence new
  pub no_longer : length new ≤ length old

-- these outputs are told behind the former ones, and the room stays
pub record AddsOutputs {Z : Type 0} (outputs : List Output) (old new : Vec Output Z) : Type 0 where
  pub items : new.items ≡ old.items ++ outputs
  pub room : vec_capacity new ≡ vec_capacity old

-- a match on these terms has read the orders that it filled, and one more at most; where the order is killed, none
pub record MatchReads (terms : TimeInForce) (incoming : Order) (orders : List Order) (before now : ℕ) : Type 0 where
  pub matched : IsMatched (filled_by terms incoming orders) before now
  pub killed : terms ≡ FillOrKill → can_fill incoming orders ≡ false → now ≡ before

-- A command comes next: through one of the eight gateways, at a sequence that the journal can have, behind all orders.
pub record ComesNext (gateway sequence : ℕ) (orders : List Order) : Type 0 where
  pub from : 1 ≤ gateway
  pub to : gateway ≤ 8
  pub counted : sequence < 2 ^ 48
  pub behind : Below sequence orders

-- one of the eight clients may take this name: it is above the client's greatest
pub record IsNewName (s : State) (client name : ℕ) : Type 0 where
  pub from : 1 ≤ client
  pub to : client ≤ 8
  pub later : greatest_of s client < name

-- A replace can be done: it names this order of the client's and fits it, under a new name, and what it asks for is in
-- range.
pub record CanReplace (book : Book) (client : ℕ) (r : OrderCancelReplaceRequest) (o : Order) : Type 0 where
  pub order : named book.state client r.orig_cl_ord_id ≡ Some o
  pub stands : StandsInBook book client o
  pub fits : replace_fits r o ≡ true
  pub name : IsNewName book.state client r.cl_ord_id
  pub price : r.price ≤ 1000000
  pub quantity : r.quantity ≤ 1000000

-- the book is in this state, whose orders all came before this sequence, and nothing else has changed
pub record ComesTo (state : State) (sequence : ℕ) (old new : Book) : Type 0 where
  pub book : new ≡ record old { state = state }
  pub below : Below sequence new.state.orders
