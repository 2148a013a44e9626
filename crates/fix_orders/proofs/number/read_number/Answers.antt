use Rattle.std.proofs.Common.{ap, sym, ◌∙◌, min}
use Rattle.fix_orders.specs.declared.number.TheConstants.{MOST}
use Rattle.fix_orders.proofs.NumberLemmas.{capped, digit_is, value_more, digits_more}
use Rattle.fix_orders.proofs.number.read_number.Goals as goal

pub loop-byte-preserved : goal.loop-byte-preserved
loop-byte-preserved c =
    let is = sym c.is_digit.ensures ∙ c.if-not-is_digit.false in
    record {
      digits = digits_more _ _ c.loop-byte-test.true c.loop-byte.invariant.digits is;
      so_far =
          c.min-number.ensures ∙ capped _ _ _ _ c.loop-byte.invariant.so_far (digit_is _ is)
          ∙ ap (λ v. min v MOST) (sym (value_more _ _ c.loop-byte-test.true));
    }
