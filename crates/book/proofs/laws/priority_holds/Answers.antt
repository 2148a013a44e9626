use Rattle.book.proofs.LawPriority.{priority, behind-waits}
use Rattle.book.proofs.laws.priority_holds.Goals as goal

pub returns-clause-first : goal.returns-clause-first
returns-clause-first c incoming orders o x are = priority incoming orders o x are.rests are.crossed are.crossed_too
    are.leads

pub returns-clause-behind : goal.returns-clause-behind
returns-clause-behind c incoming orders o x are = behind-waits incoming orders o x are.rests are.symbol are.side
    are.leads
