-- The fields are read by the table of their type, or once more by that of market orders.
use Rattle.std.proofs.Common.{◌≡◌, Bool, ◌&&◌, ap, sym, ◌∙◌}
use Rattle.std.proofs.lemmas.Bool.{and_from}
use Rattle.fix_frame.specs.Bodies.{fields_in}
use Rattle.fix_orders.specs.declared.tables.OrderTag.TheVariants.{OrdType}
use Rattle.fix_orders.specs.Reading.{value_at, asks_market, table_for}
use Rattle.fix_orders.proofs.DecodeLemmas.{not_second, not_first}
use Rattle.fix_orders.proofs.command.read_fields.Goals as goal
use Rattle.fix_orders.proofs.command.read_fields.Goals.{then-asks_market-via-then-asks_market}
use Rattle.fix_orders.proofs.command.read_fields.Goals.{then-asks_market-via-else-asks_market+then-not-market}
use Rattle.fix_orders.proofs.command.read_fields.Goals.{then-asks_market-via-else-asks_market+else-not-market+then-not-ask_market}

pub returns-then-asks_market : goal.returns-then-asks_market
returns-then-asks_market c =
    let (run, found) = c.in_ok-found.ensures in
    let asks : Bool = asks_market (value_at 40 (fields_in c.args.body)) in
    let is : c.loop-found.asks_market ≡ (c.args.market && asks) = elim c.then-asks_market.branch [
      | then-asks_market-via-then-asks_market w ↦
          w.if-asks_market.true ∙ sym (c.loop-found.invariant w.if-asks_market.true)
      | then-asks_market-via-else-asks_market+then-not-market w ↦
          w.if-asks_market.false ∙ sym (not_first c.args.market asks w.if-not-market.true)
      | then-asks_market-via-else-asks_market+else-not-market+then-not-ask_market w ↦
          w.if-asks_market.false ∙ sym (not_second c.args.market asks
          (ap asks_market (sym (found.values OrdType)) ∙ sym w.ask_market.ensures ∙ w.if-not-ask_market.true))
    ] in
    record { run = run; table = c.of-table.ensures ∙ ap (table_for c.args.kind) is; found_in = found }

pub loop-found-preserved : goal.loop-found-preserved
loop-found-preserved c = λ _.
    and_from c.args.market _ c.if-not-market.false
    (ap asks_market (sym (c.in_ok-found.ensures.1.values OrdType)) ∙ sym c.ask_market.ensures ∙ c.if-not-ask_market.false)
