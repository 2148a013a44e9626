-- The best order of the other side is priced, and isn't crossed, or there is none.
use Rattle.std.proofs.Common.{sym, ◌∙◌}
use Rattle.std.proofs.lemmas.Bool.{not-true}
use Rattle.book.proofs.Fillings.{fills-none-of, fills-unread}
use Rattle.book.proofs.resting.RestingOrders.none_crossed.Goals as goal

pub returns-in-Some : goal.returns-in-Some
returns-in-Some c = λ far.
    (fills-unread c.args.incoming.now (record { kept = c.self.invariant; list = c.self.view_is })
    c.opposite-side.ensures c.in-Some.ensures (sym c.meets.ensures ∙ not-true c.meets.result far)).none

pub returns-in-None : goal.returns-in-None
returns-in-None c = λ none.
    (fills-none-of c.self.inside.levels c.args.self.now c.args.incoming.now c.opposite-side.result c.self.view_is
    c.opposite-side.ensures c.in-None.ensures).none
