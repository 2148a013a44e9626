use Rattle.std.proofs.Common.{rules, ◌∙◌, arith}
use Rattle.std.proofs.lemmas.Nat.{be_bytes_4}
use Rattle.std.proofs.lemmas.List.{take_all}
use Rattle.book.specs.Rows.{number_bytes}
use Rattle.book.proofs.snapshot.numbers.four.Goals as goal

pub returns-in-Some : goal.returns-in-Some
unfolding number_bytes
returns-in-Some c =
    let all = c.in-Some.ensures.cases.same ∙ take_all 4 c.args.bytes.now (omega arith) in
    be_bytes_4 c.args.bytes.now _ c.requires (search rules) (rw all at c.from_be_bytes.ensures)
