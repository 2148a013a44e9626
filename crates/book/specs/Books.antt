-- The book as contracts see it, and what stands in it at any time.
use Rattle.std.specs.Prelude.{◌≡◌, ⊤, ℕ, ◌+◌, ◌-◌, ◌≤◌, true, false, List, [], ◌∷◌, length, slice_index, Some}
use Rattle.std.specs.List.{AllByRecursion, list_any}
use Rattle.std.specs.Str.{bytes_eq}
use Rattle.venue_model.specs.declared.orders.Order.{Order}
use Rattle.venue_model.specs.declared.commands.OrderCancelReplaceRequest.{OrderCancelReplaceRequest}
use Rattle.venue_model.specs.Requests.{Limits, Symbols, State, is_named, named, others, replace_fits, keeps_place}
use Rattle.venue_model.specs.Step.{Request, step}
use Rattle.book.specs.Standing.{Rests, IsBookList, Below}
use Rattle.book.specs.Reads.{ReadsFew}
pub use Rattle.book.specs.Standing.{NoneNamed}

-- the venue's limits, the state, and how many resting orders the last command read
pub record Book : Type 0 where
  pub limits : Limits
  pub state : State
  pub reads : ℕ

-- no two orders of one client have one ClOrdID
abbrev pub NamedApart : List Order → Type 0
NamedApart [] = ⊤
NamedApart (o ∷ os) = AllByRecursion (λ x. is_named o.client o.cl_ord_id x ≡ false) os × NamedApart os

-- an order of one of the eight clients, in a symbol of the venue, under a name not above the client's greatest
pub record Belongs (symbols : Symbols) (greatest : List ℕ) (o : Order) : Type 0 where
  pub from : 1 ≤ o.client
  pub to : o.client ≤ 8
  pub name : o.cl_ord_id ≤ slice_index greatest (o.client - 1)
  pub symbol : list_any (bytes_eq o.symbol) symbols ≡ true

-- what stands in the book
pub record IsBook (symbols : Symbols) (orders : List Order) (greatest : List ℕ) : Type 0 where
  pub standing : IsBookList orders
  pub apart : NamedApart orders
  pub each : AllByRecursion (Belongs symbols greatest) orders
  pub clients : length greatest ≡ 8

-- an order of this client that stands in the book
pub record StandsInBook (book : Book) (client : ℕ) (o : Order) : Type 0 where
  pub rests : Rests o
  pub belongs : Belongs book.limits.symbols book.state.greatest o
  pub its_client : o.client ≡ client

-- a replace that fits an order amends it where it stands
pub record StaysInPlace (r : OrderCancelReplaceRequest) (o : Order) : Type 0 where
  pub fits : replace_fits r o ≡ true
  pub keeps : keeps_place r o ≡ true

-- the client's order of this name has left the book
pub record TakesOut (client name : ℕ) (old new : Book) (o : Order) : Type 0 where
  pub order : named old.state client name ≡ Some o
  pub book : new ≡ record old { state = record old.state { orders = others old.state client name } }

-- What the request at this sequence asks is done in the book, whose orders all came before the next sequence, and few of
-- them were read.
pub record FollowsRequest (old new : Book) (sequence : ℕ) (request : Request) : Type 0 where
  pub limits : new.limits ≡ old.limits
  pub state : new.state ≡ (step old.limits.symbols old.state sequence request).state
  pub below : Below (sequence + 1) new.state.orders
  pub reads : ReadsFew old.limits.symbols old.state sequence request new.reads
