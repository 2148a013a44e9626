-- The table compares symbols as their names are compared.
use Rattle.std.proofs.Common.{ap, ◌∙◌}
use Rattle.std.specs.List.{list_any}
use Rattle.std.specs.Str.{bytes_eq}
use Rattle.venue_model.specs.Requests.{Limits}
use Rattle.venue_model.proofs.TableLemmas.{any_symbol_eq}
use Rattle.venue_model.proofs.symbols.Limits.has.Goals as goal

pub returns : goal.returns
returns c =
    c.contains.ensures
    ∙ any_symbol_eq c.args.symbol.now c.self.inside.symbols.keys
    ∙ ap (λ (l : Limits). list_any (bytes_eq c.args.symbol.now) l.symbols) c.self.view_is
