use Rattle.barrier.proofs.Behind.{behind}
use Rattle.barrier.proofs.availability.commands_available.Goals as goal

pub returns-clause-behind : goal.returns-clause-behind
returns-clause-behind g c = let first = c.load_unmarshalled.ensures in let second = c.load_journalled.ensures in
    behind c.args.seat.now _ _ c.load_unmarshalled.result c.load_journalled.result second.found.0 first.step first.seen
    second.seen second.found.1 second.found.2
