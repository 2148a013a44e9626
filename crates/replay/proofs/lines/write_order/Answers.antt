use Rattle.replay.proofs.LineLemmas.{appends_both, then_written}
use Rattle.replay.proofs.lines.write_order.Goals as goal

pub returns : goal.returns
returns g c = rw (← c.as_bytes.ensures.value)
    (then_written _ _ _ _ _ c.write_names.result
    (appends_both _ _ _ _ _ c.in_ok-write_all.ensures.bytes c.in_ok-write_terms.ensures) c.write_names.ensures)
