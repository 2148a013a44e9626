-- Each port tells what it told, but for whether it is open, and is open once it was come to.
use Rattle.std.proofs.Common.{◌≡◌, true, ◌∙◌, arith, ap, length}
use Rattle.venue_model.specs.ListLaws.{within}
use Rattle.venue.specs.Headline.{in_box}
use Rattle.venue.proofs.PortLemmas.{map-set, same_length, written, told_back, one_more_set}
use Rattle.wires.specs.Ports.{unopened}
use Rattle.venue.proofs.members.open_ports.Goals as goal

pub loop-port-preserved : goal.loop-port-preserved
loop-port-preserved g c = let tells = in_box g.X.Port.tells in (
  map-set (λ x. unopened (tells x)) _ _ _ c.port-item.result c.open_port.ensures.tells ∙ c.loop-port.invariant.0,
  one_more_set (λ x. (tells x).is_open ≡ true) _ _ _ c.in_ok-open_port.ensures.opened c.loop-port.invariant.1,
)

pub returns-in_err-open_port-clause-ports : goal.returns-in_err-open_port-clause-ports
returns-in_err-open_port-clause-ports g c =
    let tells = in_box g.X.Port.tells in let ok = c.args.ports.now.ok.0 in
    told_back (λ x. unopened (tells x)) _ _ _ _ (omega (arith, ok)) c.deref_mut-port-items.ensures.value
    (same_length c.loop-port.port-items _ _ ∙ c.loop-port.auto.port-items)
    (map-set (λ x. unopened (tells x)) _ _ _ c.port-item.result c.open_port.ensures.tells ∙ c.loop-port.invariant.0)

pub returns-clause-ports : goal.returns-clause-ports
returns-clause-ports g c =
    let tells = in_box g.X.Port.tells in let ok = c.args.ports.now.ok.0 in
    told_back (λ x. unopened (tells x)) _ _ _ _ (omega (arith, ok)) c.deref_mut-port-items.ensures.value
    c.loop-port.auto.port-items c.loop-port.invariant.0

pub returns-clause-opened : goal.returns-clause-opened
returns-clause-opened g c = λ i x there.
    let ports = c.args.ports.now in let ok = ports.ok.0 in let end = c.loop-port-test.false in
    let same = c.loop-port.auto.port-items in let first = ap length c.deref_mut-port-items.ensures.value in
    let all = written c.loop-port.port-items ports.items ports.len (omega (arith, ok)) (same ∙ first) in
    let in_items = rw all at there in let near = within c.loop-port.port-items i x in_items in
    c.loop-port.invariant.1 i x (omega (arith, near, same, end)) in_items
