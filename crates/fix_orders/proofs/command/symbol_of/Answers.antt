use Rattle.std.proofs.Common.{subst, sym}
use Rattle.venue_model.specs.Spelling.{IsSpelling}
use Rattle.fix_orders.specs.declared.tables.OrderTag.TheVariants.{Symbol}
use Rattle.fix_orders.specs.FaultLaws.{spelling, symbol_needed}
use Rattle.fix_orders.proofs.command.symbol_of.Goals as goal

pub of_name-requires : goal.of_name-requires
of_name-requires c =
    subst IsSpelling (sym c.get.ensures) (spelling _ (c.requires.format Symbol (symbol_needed c.args.table)))
