-- Each write takes a front of what is left.
use Rattle.std.proofs.Common.{drop, ap, sym, ◌∙◌}
use Rattle.gateway.specs.Standing.{Standing}
use Rattle.gateway.proofs.FlushLemmas.{flushed-more}
use Rattle.gateway.proofs.gateway.flush.Goals as goal

pub bytes-preserved : goal.bytes-preserved
bytes-preserved g c =
    let tells = g.W.Wire.tells in
    let so_far = c.bytes.invariant in
    let old = c.args.session.now in
    let mid = c.bytes.session in
    let rest = ap (λ (s : Standing). s.outgoing) c.sent.ensures in
    let more = flushed-more old.outgoing so_far.0 mid.outgoing c.unsent-in-bytes.result.now c.sent.new.self.outgoing
    c.in-Put.count
    (tells c.args.wire.now) (tells c.bytes.wire) (tells c.try_write.new.self)
    so_far.1 so_far.2 c.unsent-in-bytes.ensures c.in-Put.ensures.2 rest in (
      more.0,
      more.1,
      more.2,
      c.sent.ensures ∙ ap (λ (s : Standing). record s { outgoing = drop c.in-Put.count mid.outgoing }) so_far.3
          ∙ ap (λ o. record old { outgoing = o }) (sym rest),
    )
