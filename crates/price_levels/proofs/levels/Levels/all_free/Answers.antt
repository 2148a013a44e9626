-- All places are free, and there are no levels.
use Rattle.std.proofs.Common.{◌≡◌, arith, ap, sym, ◌∙◌, subst}
use Rattle.price_levels.specs.Arena.{places_of, IsLevels}
use Rattle.price_levels.proofs.EmptyLemmas.{first-none, first-more, empty, empty-places, AreFirst}
use Rattle.price_levels.proofs.NamedLadders.{none-named}
use Rattle.price_levels.proofs.levels.Levels.all_free.Goals as goal

pub loop-place-init : goal.loop-place-init
loop-place-init c = (first-none c.in_ok-free.free.items c.in_ok-free.ensures.items, c.in_ok-free.ensures.capacity)

pub push_reserved-requires : goal.push_reserved-requires
push_reserved-requires c =
    let long = c.loop-place.invariant.0.long in
    omega (arith, long, c.loop-place.invariant.1, c.loop-place-test.true, c.loop-place.free.ok.0)

pub loop-place-preserved : goal.loop-place-preserved
loop-place-preserved c =
    let capacity = c.push_reserved.ensures.capacity in (
      first-more c.loop-place.free.items c.push_reserved.new.self.items c.loop-place.place c.push_reserved.ensures.items
          c.loop-place.invariant.0,
      omega (arith, capacity, c.loop-place.invariant.1),
    )

pub returns : goal.returns
returns c = ap places_of (c.in_ok-nodes.ensures.items_if_clones_equal (λ y e. e)) ∙ empty-places c.args.cap

pub invariant_of-result : goal.invariant_of-result
invariant_of-result c =
    let n = c.args.cap in
    let items = c.in_ok-nodes.ensures.items_if_clones_equal (λ y e. e) in
    let at_end : c.loop-place.place ≡ n = omega (arith, c.loop-place-test.false, c.loop-place.auto.place-end) in
    let first = subst (λ m. AreFirst c.loop-place.free.items m) at_end c.loop-place.invariant.0 in
    let long = c.in_ok-nodes.ensures.len in (
      subst (λ ls. IsLevels c.in_ok-nodes.nodes.items c.loop-place.free.items ls) (sym c.in_ok-ladders.ensures.0)
          (empty c.in_ok-nodes.nodes.items c.loop-place.free.items n items c.requires.quantities first),
      omega (arith, long, c.in_ok-nodes.nodes.ok.0, c.loop-place.invariant.1),
      (let room = c.in_ok-ladders.ensures.1 in omega (arith, long, c.in_ok-nodes.nodes.ok.0, room)),
      none-named c.in_ok-ladders.ladders.fences c.in_ok-nodes.nodes.items n items,
    )
