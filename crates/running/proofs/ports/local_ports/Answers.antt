-- Behind the ports so far stands the next one.
use Rattle.std.proofs.Common.{◌≡◌, ◌+◌, ℕ, ⊎_elim, None, false, Box, ap, subst, sym, ◌∙◌, arith}
use Rattle.std.specs.Global.{Global}
use mathlib.Core.Option.{some}
use lib.ListN.{get_elem?}
use Rattle.venue_model.specs.ListLaws.{at_end}
use Rattle.wires.specs.SocketPorts.{told_reception}
use Rattle.wires.specs.TcpPorts.{told_local}
use Rattle.running.proofs.ports.local_ports.Goals as goal

pub loop-at-preserved : goal.loop-at-preserved
loop-at-preserved g c =
    let before = c.loop-at.ports in let port = c.in_ok-new.field-0 in let all = c.in_ok-push.ensures.items in
    let long = before.ok.0 in let count = c.loop-at.invariant.count in let more = c.in_ok-push.ensures.len in record {
      ports = λ i x there. ⊎_elim (λ inside. c.loop-at.invariant.ports i x inside)
          (λ end. let place : c.loop-at.at ≡ i = let at = end.0 in omega (arith, at, long, count) in
          ap (λ (b : Box _ Global). told_reception told_local b.value) (sym end.1)
          ∙ ap (told_reception told_local) c.in_ok-new.ensures.ok ∙ c.local_port.ensures
          ∙ ap (λ (k : ℕ).
          record { number = c.args.first + k; is_open = false; came = None; gone = None; out = false }) place)
          (at_end before.items port x i (subst (λ l. get_elem? l i ≡ some x) all there));
      count = omega (arith, more, count);
    }
