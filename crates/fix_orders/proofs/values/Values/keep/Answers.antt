use Rattle.std.proofs.Common.{cond, ◌&&◌, ◌==◌, ap, sym, ◌∙◌, arith}
use Rattle.fix_orders.specs.OrderTags.{tag_place}
use Rattle.fix_orders.specs.Values.{value_in, is_nothing}
use Rattle.fix_orders.proofs.ValueLemmas.{set_value, not_not}
use Rattle.fix_orders.proofs.values.Values.keep.Goals as goal

pub returns-then-not-has : goal.returns-then-not-has
returns-then-not-has c = λ t.
    rw c.place.ensures.value
    (set_value (λ value. value.now) c.args.self.now.by_tag (tag_place c.args.tag) (tag_place t) c.args.value
    (omega arith)
    ∙ ap (λ b. cond (b && (tag_place t == tag_place c.args.tag)) c.args.value.now (value_in c.args.self.now t))
    (sym (not_not (is_nothing (value_in c.args.self.now c.args.tag)) c.if-not-has.ensures)))
