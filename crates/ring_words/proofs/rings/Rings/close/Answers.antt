-- All seats came together, so the words at the end are what the seats say.
use Rattle.std.proofs.Common.{rules, ◌≡◌, List, subst}
use Rattle.ring_words.specs.declared.view.Person.{Person}
use Rattle.ring_words.specs.Terms.{terms_of}
use Rattle.ring_words.specs.At.{Opened}
use Rattle.ring_words.specs.Gathered.{GathersPersons}
use Rattle.ring_words.specs.Ending.{Ended}
use Rattle.ring_words.proofs.Logs.{read_same}
use Rattle.ring_words.proofs.Endings.{all_ends}
use Rattle.ring_words.proofs.rings.Rings.close.Given as given
use Rattle.ring_words.proofs.rings.Rings.close.Goals.{After-word-2}
use Rattle.ring_words.proofs.rings.Rings.close.Goals as goal

-- what the summary says
says : (g : given.Over) (c : After-word-2 g) → (c.word.result ≡ c.args.seats.process.who.sequence)
    × (c.word-2.result ≡ c.args.seats.process.who.row.sequence)
    × Ended (g.L.Logic.outputs c.args.self.logic) c.args.self.base c.args.seats
    (record { commands = c.word.result; outputs = c.word-2.result })
says g c = let key = c.self.inside.table.shared.key in let seats = c.args.seats in
    let final = c.close_with-closed.ensures.values.2 in let all = c.gather-all.result in
    let stages = c.gather_stages-stages.ensures in let logic = g.L.Logic in
    let gathered = subst (λ (ps : List Person). GathersPersons seats.gateways.items ps all.me.0) stages.all
    c.gather-all.ensures.all in
    let ends = all_ends (terms_of logic.reads logic.outputs logic.text logic.nothing logic.grows key) final.0 final.1.0
    all.id all.me.0 final.1.1 seats gathered (λ i s there. (c.requires.seats.gateways i s there).1) c.requires.spent
    (search rules) stages.roles.0 stages.roles.1 stages.released
    (record { commands = c.word.result; outputs = c.word-2.result })
    (read_same _ _ 0 c.word.result final.2 c.word.ensures)
    (read_same _ _ 104 c.word-2.result final.2 c.word-2.ensures) in
    let log = subst (λ (r : Opened g.row.L.Denot). Ended (g.L.Logic.outputs r.logic) r.base seats
    (record { commands = c.word.result; outputs = c.word-2.result })) c.self.view_is ends.2 in (ends.0, ends.1, log)

pub returns-clause-commands : goal.returns-clause-commands
returns-clause-commands g c = (says g (goal.at.returns-clause-commands g c).After-word-2).0

pub returns-clause-outputs : goal.returns-clause-outputs
returns-clause-outputs g c = (says g (goal.at.returns-clause-outputs g c).After-word-2).1

pub returns-clause-log : goal.returns-clause-log
returns-clause-log g c = (says g (goal.at.returns-clause-log g c).After-word-2).2
