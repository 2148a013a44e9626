use Rattle.book.proofs.LawAnswers.{answers-first}
use Rattle.book.proofs.laws.each_command_is_answered_first.Goals as goal

pub returns : goal.returns
returns c = λ symbols s sequence r asks. answers-first symbols s sequence r.gateway r.command asks
