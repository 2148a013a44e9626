use Rattle.std.proofs.Common.{rules, ◌≡◌, ◌++◌, codes, string_bytes, length, ap, sym, ◌∙◌, arith, length-append}
use Rattle.venue.proofs.stop.StopFile+SystemNames+R.beside.Goals as goal

-- it has five bytes more
pub returns-clause-other : goal.returns-clause-other
returns-clause-other g c same =
    let journal = c.args.journal.now in
    let named : string_bytes c.in_ok-path.path ≡ journal ++ codes ".stop" = search rules in
    let longer = ap length (sym same ∙ named) ∙ length-append journal (codes ".stop") in
    omega (arith, longer)
