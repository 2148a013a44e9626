use Rattle.std.proofs.Common.{◌≡◌, ap, arith}
use Rattle.std.specs.Str.{bytes_eq}
use Rattle.std.proofs.lemmas.List.Folds.{list_any_at}
use Rattle.std.proofs.lemmas.Slice.Eq.{bytes_eq-Decides}
use Rattle.book.specs.declared.snapshot.row.Row.{Row}
use Rattle.book.specs.Next.{symbol_number}
use Rattle.book.proofs.GroupLemmas.{number-below, number-is}
use Rattle.book.proofs.snapshot.row.Row.order.Goals as goal

pub returns-in_err-symbol-clause-none : goal.returns-in_err-symbol-clause-none
returns-in_err-symbol-clause-none c = rw c.from_residual.ensures (λ o known e.
    let number = number-below c.args.symbols.now o.symbol known in
    let its = ap (λ (r : Row). r.symbol) e in
    let beyond = c.in_err-symbol.ensures.lookup.3 in
    omega (arith, number, its, beyond))

pub returns-clause-row : goal.returns-clause-row
returns-clause-row c =
    let symbol = c.in_ok-symbol.field-0.now in
    let there = c.in_ok-symbol.ensures.lookup.3 in
    let number : symbol_number c.args.symbols.now symbol ≡ c.args.self.now.symbol =
    number-is c.args.symbols.now c.requires.differ c.args.self.now.symbol symbol there.0 (there.1 symbol) in
    λ i. record c.args.self.now { symbol = number i; side = c.in_ok-side.ensures.some i }

pub returns-clause-known : goal.returns-clause-known
returns-clause-known c =
    let symbol = c.in_ok-symbol.field-0.now in
    let there = c.in_ok-symbol.ensures.lookup.3 in
    list_any_at (bytes_eq symbol) c.args.symbols.now c.args.self.now.symbol symbol there.0
    ((bytes_eq-Decides symbol _).1 (there.1 symbol))
