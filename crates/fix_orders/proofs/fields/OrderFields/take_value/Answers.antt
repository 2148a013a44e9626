-- A right value changes no tag at fault; else each is the lesser of the one before and this one, where it is wrong.
use Rattle.std.proofs.Common.{◌∙◌, sym, refl}
use Rattle.fix_orders.proofs.FindingLemmas.{counted, uncounted}
use Rattle.fix_orders.proofs.FoundLemmas.{found_value, right_alone}
use Rattle.fix_orders.proofs.fields.OrderFields.take_value.Goals as goal

pub returns-then-not-is_undefined : goal.returns-then-not-is_undefined
returns-then-not-is_undefined c = λ fields found.
    let right = right_alone _ (rw (c.eq.ensures, c.judge-judged.ensures, c.format_of.ensures.value) at c.if-eq.true) in
    found_value _ fields _ _ found c.args.tag c.args.value.now c.requires (record {
      values = c.keep.ensures;
      others = refl;
      repeated = uncounted _ _ _ (sym c.has-is_repeated.ensures ∙ c.if-not-is_repeated.true);
      undefined = uncounted _ _ _ (rw (c.eq-is_undefined.ensures, c.need.ensures) at c.if-not-is_undefined.true);
      ill_formed = uncounted _ _ _ right.0;
      out_of_range = uncounted _ _ _ right.1;
    })

pub returns : goal.returns
returns c = λ fields found.
    let n = c.number-number.ensures in let judged = c.judge-judged.ensures in let format = c.format_of.ensures.value in
    found_value _ fields _ _ found c.args.tag c.args.value.now c.requires (record {
      values = c.keep.ensures;
      others = refl;
      repeated = counted _ _ _ _ _ _ c.lesser_if-self.ensures c.has-is_repeated.ensures n;
      undefined = counted _ _ _ _ _ _ c.lesser_if-self-2.ensures (rw c.need.ensures at c.eq-is_undefined.ensures) n;
      ill_formed = counted _ _ _ _ _ _ c.lesser_if-self-3.ensures (rw (judged, format) at c.eq-2.ensures) n;
      out_of_range = counted _ _ _ _ _ _ c.lesser_if-self-4.ensures (rw (judged, format) at c.eq-3.ensures) n;
    })
