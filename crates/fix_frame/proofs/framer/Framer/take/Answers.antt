-- The bytes are taken, and the stage behind them is judged.
use Rattle.std.proofs.Common.{List, ℕ, ◌++◌, take, sym, ap, ◌∙◌, refl, subst, arith}
use Rattle.std.proofs.lemmas.List.{length-take}
use Rattle.fix_frame.specs.Cuts.{all_but_last}
use Rattle.fix_frame.specs.Stream.{BeginsNoFrame, IsWrong}
use Rattle.fix_frame.specs.Framing.{Framing}
use Rattle.fix_frame.specs.Stages.{IsUnderWay, IsLive}
use Rattle.fix_frame.proofs.FeedLemmas.{front_taken, front_wrong}
use Rattle.fix_frame.proofs.LiveLemmas.{ready}
use Rattle.fix_frame.proofs.framer.Framer.take.Goals as goal

pub started-begun-requires : goal.started-begun-requires
started-begun-requires c = let right = ap (λ (v : Framing). v.fault) c.self.view_is ∙ c.requires.right in
    let none = subst (λ (v : Framing). BeginsNoFrame v.held) (sym c.self.view_is) c.requires.partial in
    ready c.self.inside.stage c.self.inside.bytes.items c.self.invariant.0 right none

pub unwrap-requires : goal.unwrap-requires
unwrap-requires c = let few = length-take c.stride-stage.result.1 c.args.more.now in
    let len = c.as_slice.ensures.len in let was = c.started-begun.ensures.room in
    c.extend_from_slice.ensures.succeeds (omega (arith, c.stride-stage.ensures.room, len, few, was, c.self.invariant.1))

pub returns-in-Ok-clause-ok : goal.returns-in-Ok-clause-ok
returns-in-Ok-clause-ok c = let items = rw c.unwrap.ensures at c.extend_from_slice.ensures.items in
    front_taken c.started-begun.new.bytes.items c.args.more.now c.extend_from_slice.new.self.items
    c.stride-stage.result.1 c.stride-stage.ensures.some c.stride-stage.ensures.within items c.in-Ok.next
    c.args.self.now _ (sym (c.started-begun.ensures.held ∙ ap (λ (v : Framing). v.held) c.self.view_is))
    (subst (IsLive c.in-Ok.next) c.as_slice-2.ensures.value c.in-Ok.ensures) refl

pub returns-in-Err-clause-wrong : goal.returns-in-Err-clause-wrong
returns-in-Err-clause-wrong c = let items = rw c.unwrap.ensures at c.extend_from_slice.ensures.items in
    let held = c.started-begun.ensures.held ∙ ap (λ (v : Framing). v.held) c.self.view_is in
    let more = c.args.more.now in
    let under = subst (λ (k : List ℕ). IsUnderWay c.stride-stage.result.0
    (all_but_last (k ++ take c.stride-stage.result.1 more)))
    (c.as_slice.ensures.value ∙ held) c.stride-stage.ensures.under_way in
    front_wrong c.args.self.now.held more c.extend_from_slice.new.self.items c.stride-stage.result.1
    c.stride-stage.ensures.some c.stride-stage.ensures.within
    (items ∙ ap (λ (k : List ℕ). k ++ take c.stride-stage.result.1 more) held)
    c.stride-stage.result.0 c.in-Err.fault under
    (subst (λ (k : List ℕ). IsWrong k c.in-Err.fault) c.as_slice-2.ensures.value c.in-Err.ensures)
