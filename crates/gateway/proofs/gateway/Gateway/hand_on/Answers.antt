-- An output is handed on, or passed over.
use Rattle.std.proofs.Common.{ap, refl, sym, ◌∙◌, is_some, ◌+◌}
use Rattle.gateway.specs.Gateways.{front}
use Rattle.gateway.specs.Seats.{ledger_of}
use Rattle.gateway.proofs.HandLemmas.{hands-said, hands-unsaid, hands-other}
use Rattle.gateway.proofs.HearLemmas.{is_free}
use Rattle.gateway.proofs.gateway.Gateway.hand_on.Goals as goal

pub returns-in-Mine-clause-hands_on : goal.returns-in-Mine-clause-hands_on
returns-in-Mine-clause-hands_on g c = let ledger = ledger_of g.row.N in
    let took = c.in-Mine.ensures.tells in let carries = took.1 in let old = front c.self.inside in
    let new = front (record c.self.inside { session = c.say.new.self }) in
    let is_open = is_free c.self.inside.session.closing
    (ap is_some (sym c.closing.ensures.value) ∙ sym c.is_some.ensures ∙ c.if-is_some.false) in
    let kind = carries.type ∙ sym c.msg_type_code.ensures.value in let said = c.say.ensures.new took.0
    (record { kind = kind; time_is = carries.time; body_is = carries.bytes; fields = carries.fields }) in
    rw (← c.self.view_is) (hands-said old new (ledger c.self.inside.seat) (ledger c.take.new.seat) took.0 took.3 (cc)
    is_open said refl took.2 took.4)

pub say-requires-clause-fields : goal.say-requires-clause-fields
say-requires-clause-fields g c = let carries = c.in-Mine.ensures.tells.1 in
    (c.in-Mine.ensures.tells.0.body, carries.fields, carries.bytes)

pub returns-in-Mine-2-clause-hands_on : goal.returns-in-Mine-2-clause-hands_on
returns-in-Mine-2-clause-hands_on g c = let ledger = ledger_of g.row.N in
    let took = c.in-Mine.ensures.tells in let old = front c.self.inside in
    let new = front (record c.self.inside { passed = c.self.inside.passed + 1 }) in
    rw (← c.self.view_is) (hands-unsaid old new (ledger c.self.inside.seat) (ledger c.take.new.seat) took.0 took.3 (cc)
    refl took.2 took.4)

pub returns-in-Passed-clause-hands_on : goal.returns-in-Passed-clause-hands_on
returns-in-Passed-clause-hands_on g c = let ledger = ledger_of g.row.N in
    let old = front c.self.inside in let took = c.in-Passed.ensures.tells in
    rw (← c.self.view_is)
    (hands-other old (ledger c.self.inside.seat) (ledger c.take.new.seat) took.1 took.0 took.2)
