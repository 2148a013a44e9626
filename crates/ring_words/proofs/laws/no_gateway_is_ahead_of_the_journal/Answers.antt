use Rattle.ring_words.proofs.Meetings.{not_ahead}
use Rattle.ring_words.proofs.laws.no_gateway_is_ahead_of_the_journal.Goals as goal

pub returns : goal.returns
returns g c terms s p q k rule there_p there_q gateway journal within =
    not_ahead terms s p q k rule there_p there_q gateway journal within
