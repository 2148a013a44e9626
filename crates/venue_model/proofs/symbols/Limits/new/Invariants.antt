-- the table has the names so far
use Rattle.std.proofs.Common.{◌≡◌, map, string_bytes, take, true}
use Rattle.std.specs.List.{AllByRecursion}
use Rattle.venue_model.specs.Spelling.{IsSpelling, all_differ}
use Rattle.venue_model.proofs.symbols.Limits.new.Given as goal

abbrev pub invariant-loop-name : goal.invariant-loop-name
invariant-loop-name l = record {
  names : l.symbols.keys ≡ map string_bytes (take l.name-index l.names);
  each : AllByRecursion IsSpelling l.symbols.keys;
  differ : all_differ l.symbols.keys ≡ true;
}
