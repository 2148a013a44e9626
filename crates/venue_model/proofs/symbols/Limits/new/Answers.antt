-- Each name joins those in front of it; where one can't, the names are no venue's symbols.
use Rattle.std.proofs.Common.{Global, string_bytes, arith}
use Rattle.std.proofs.lemmas.Result.{err_from_is_err_and}
use Rattle.venue_model.proofs.TableLemmas.{names-push, each_joins, spellings-push, differ-push}
use Rattle.venue_model.proofs.symbols.Limits.new.Goals as goal

pub returns-in_err-add-clause-bad : goal.returns-in_err-add-clause-bad
returns-in_err-add-clause-bad c is_bad all =
    let p = err_from_is_err_and c.from_residual-in_err-add.result c.from_residual-in_err-add.ensures.1 in
    c.in_err-add.ensures.bad (cc (p.1, p.2, is_bad))
    (each_joins (string_bytes {Z = Global}) c.args.names.now c.loop-name.name-index c.name-item.result c.name-item.is
    (omega arith)
    all c.loop-name.symbols.keys c.as_bytes.result.now c.loop-name.invariant.names c.as_bytes.ensures.value)

pub loop-name-preserved : goal.loop-name-preserved
loop-name-preserved c = record {
  names =
      let more = names-push (string_bytes {Z = Global}) c.args.names.now c.loop-name.name-index c.name-item.result
      c.name-item.is (omega arith) in
      cc (more, c.in_ok-add.ensures.added, c.loop-name.invariant.names, c.as_bytes.ensures.value);
  each = rw c.in_ok-add.ensures.added
      (spellings-push c.loop-name.symbols.keys c.as_bytes.result.now c.loop-name.invariant.each
      c.in_ok-add.ensures.can.spelling);
  differ = rw c.in_ok-add.ensures.added
      (differ-push c.loop-name.symbols.keys c.as_bytes.result.now c.loop-name.invariant.differ
      c.in_ok-add.ensures.can.new);
}
