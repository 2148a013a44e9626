-- The insert tells whether the name was new.
use Rattle.std.proofs.Common.{true≢false, sym, ◌∙◌}
use Rattle.venue_model.proofs.TableLemmas.{new_name, old_name}
use Rattle.venue_model.proofs.symbols.add.Goals as goal

pub returns-in-Ok-true-clause-can : goal.returns-in-Ok-true-clause-can
returns-in-Ok-true-clause-can c = record {
  spelling = c.in-Some.ensures.1;
  new = new_name c.in-Some.symbol c.args.name.now c.args.symbols.now.keys c.in-Some.ensures.0
      (sym c.in-Ok-true.field-0-test ∙ c.in-Ok-true.ensures.added);
}

pub returns-in-Ok-false-clause-bad : goal.returns-in-Ok-false-clause-bad
returns-in-Ok-false-clause-bad c same joins =
    let old = old_name c.in-Some.symbol c.args.name.now c.args.symbols.now.keys c.in-Some.ensures.0
    (sym c.in-Ok-false.field-0-test ∙ c.in-Ok-false.ensures.added) in
    true≢false (sym old ∙ joins.new)
