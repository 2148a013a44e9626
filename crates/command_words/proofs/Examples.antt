-- The words of two commands, by the table of the layout.
use Rattle.std.specs.Prelude.{◌≡◌, [], ◌∷◌, refl}
use Rattle.venue_model.specs.declared.commands.Command.TheVariants.{New, Malformed}
use Rattle.venue_model.specs.declared.commands.OrdType.TheVariants.{Market, Limit}
use Rattle.venue_model.specs.declared.commands.TimeInForce.TheVariants.{FillOrKill}
use Rattle.venue_model.specs.declared.commands.SessionRejectReason.TheVariants.{TagAppearsMoreThanOnce}
use Rattle.venue_model.specs.declared.commands.RefMsgType.TheVariants.{OrderCancelReplaceRequest}
use Rattle.venue_model.specs.declared.orders.Side.TheVariants.{Sell}
use Rattle.command_words.specs.Packing.{symbol_word, command_words}

-- a new order
new_example : command_words 3 (New 20240102030405 (record {
  cl_ord_id = 7;
  symbol = 65 ∷ 66 ∷ [];
  side = Sell;
  ord_type = Limit 12;
  quantity = 100;
  time_in_force = FillOrKill;
}))
    ≡ 12885004953 ∷ 20240102030405 ∷ 7 ∷ 4702320960928219136 ∷ []
unfolding symbol_word
new_example = refl

-- a market order: no price
market_example : command_words 3 (New 20240102030405 (record {
  cl_ord_id = 7;
  symbol = 65 ∷ 66 ∷ [];
  side = Sell;
  ord_type = Market;
  quantity = 100;
  time_in_force = FillOrKill;
}))
    ≡ 103065 ∷ 20240102030405 ∷ 7 ∷ 4702320960928219136 ∷ []
unfolding symbol_word
market_example = refl

-- a message that is rejected
malformed_example : command_words 8 (Malformed 20240102030405 (record {
  reason = TagAppearsMoreThanOnce;
  tag = 99999;
  ref_seq = 6;
  ref_type = OrderCancelReplaceRequest;
}))
    ≡ 409598532 ∷ 20240102030405 ∷ 6 ∷ []
malformed_example = refl
