-- Where there is no place, the number is the length of the table.
use Rattle.std.proofs.Common.{◌≤◌, ap, sym, subst, ◌∙◌, length}
use Rattle.std.specs.Option.{unwrap_or}
use Rattle.std.specs.Str.{bytes_eq}
use Rattle.book.proofs.GroupLemmas.{place-or-length, number-within}
use Rattle.book.proofs.listing.number_of.Goals as goal

pub returns-clause-value : goal.returns-clause-value
returns-clause-value c =
    c.unwrap_or.ensures
    ∙ ap (λ p. unwrap_or p (length c.args.symbols.now)) c.place_of.ensures
    ∙ place-or-length c.args.symbols.now (bytes_eq c.args.symbol.now)

pub returns-clause-within : goal.returns-clause-within
returns-clause-within c =
    subst (λ n. n ≤ length c.args.symbols.now) (sym (returns-clause-value c))
    (number-within c.args.symbols.now c.args.symbol.now)
