-- The bytes tell the names.
use Rattle.std.proofs.Common.{take, ap, ◌∙◌}
use Rattle.std.specs.Str.{bytes_eq}
use Rattle.venue_model.proofs.NameBytes.{bytes-tell}
use Rattle.venue_model.proofs.symbol.Symbol.is.Goals as goal

pub returns : goal.returns
returns c =
    c.eq.ensures
    ∙ bytes-tell c.self.inside.bytes c.other.inside.bytes c.self.inside.len c.other.inside.len c.self.invariant
    c.other.invariant
    ∙ ap (λ name. bytes_eq name (take c.other.inside.len c.other.inside.bytes)) c.self.view_is
    ∙ ap (bytes_eq c.args.self.now) c.other.view_is
