-- The name and the zeros behind it keep a symbol.
use Rattle.venue_model.proofs.SymbolLemmas.{keeps_name}
use Rattle.venue_model.proofs.symbol.Symbol.of_name.Goals as goal

pub invariant_of-result : goal.invariant_of-result
invariant_of-result c = rw c.copy_from_slice.ensures.after (keeps_name c.args.name.now c.requires)
