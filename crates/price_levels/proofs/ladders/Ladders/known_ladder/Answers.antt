-- The home that stands there is the symbol's.
use Rattle.std.proofs.Common.{ap, sym, length, ◌∙◌}
use Rattle.std.proofs.lemmas.Bool.{ltb-true}
use Rattle.std.proofs.lemmas.Slice.Eq.{bytes_eq-Decides}
use Rattle.venue_model.specs.declared.orders.Side.TheVariants.{Buy, Sell}
use Rattle.price_levels.specs.Ladders.{Laddered, IsHomeOf}
use Rattle.price_levels.proofs.LadderSearches.{home-known, at-home}
use Rattle.price_levels.proofs.ladders.Ladders.known_ladder.Goals.{After-is}
use Rattle.price_levels.proofs.ladders.Ladders.known_ladder.Goals as goal

known : (c : After-is) → IsHomeOf c.self.inside.fences.items c.in_ok-home.home.now
known c = home-known c.self.inside.fences.items c.self.inside.homes.items c.deref.result.now c.args.at
    c.in_ok-home.home.now c.deref.ensures.value
    (ltb-true c.args.at (length c.deref.result.now) (sym c.in_ok-home.ensures.lookup.0)) c.in_ok-home.ensures.lookup.1
    c.self.invariant.known

pub returns-in-Buy : goal.returns-in-Buy
returns-in-Buy c =
    let home = c.in_ok-home.home.now in
    at-home c.self.inside.fences.items c.args.self.now.fences home.buys home.symbol c.args.symbol.now Buy c.args.side
    (ap (λ (l : Laddered). l.fences) c.self.view_is)
    ((bytes_eq-Decides home.symbol c.args.symbol.now).0 (sym c.is.ensures ∙ c.if-not-is.false))
    (sym c.in-Buy.is) (known (goal.at.returns-in-Buy c).After-is).buys

pub returns-in-Sell : goal.returns-in-Sell
returns-in-Sell c =
    let home = c.in_ok-home.home.now in
    at-home c.self.inside.fences.items c.args.self.now.fences home.sells home.symbol c.args.symbol.now Sell c.args.side
    (ap (λ (l : Laddered). l.fences) c.self.view_is)
    ((bytes_eq-Decides home.symbol c.args.symbol.now).0 (sym c.is.ensures ∙ c.if-not-is.false))
    (sym c.in-Sell.is) (known (goal.at.returns-in-Sell c).After-is).sells
