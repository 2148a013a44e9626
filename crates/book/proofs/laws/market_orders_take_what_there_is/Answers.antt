use Rattle.book.proofs.LawMarket.{market-crosses, not-day, rests-priced, market-has-room}
use Rattle.book.proofs.laws.market_orders_take_what_there_is.Goals as goal

pub returns-clause-crosses : goal.returns-clause-crosses
returns-clause-crosses c = market-crosses

pub returns-clause-terms : goal.returns-clause-terms
returns-clause-terms c = not-day

pub returns-clause-rests : goal.returns-clause-rests
returns-clause-rests c = rests-priced

pub returns-clause-room : goal.returns-clause-room
returns-clause-room c = market-has-room
