use Rattle.std.proofs.Common.{rules}
use Rattle.std.proofs.lemmas.Slice.{overwrites}
use Rattle.fix_orders.proofs.put.put_bytes.Goals as goal

pub returns : goal.returns
returns c = record {
  written = search (rules, overwrites);
  behind = search (rules, overwrites);
  long = search rules;
}
