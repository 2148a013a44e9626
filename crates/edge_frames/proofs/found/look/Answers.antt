-- What stands at the front of what is left is passed over, waited for, or comes first.
use Rattle.std.proofs.Common.{◌≡◌, ℕ, length, drop, subst, arith}
use Rattle.std.proofs.lemmas.List.{take_rest}
use Rattle.edge_frames.specs.Stream.{IsPassed}
use Rattle.edge_frames.specs.Looks.{StandsInFront}
use Rattle.edge_frames.specs.declared.front.Front.TheVariants.{Comes}
use Rattle.edge_frames.proofs.FrontLemmas.{passed_more, comes_first, none_comes}
use Rattle.edge_frames.proofs.found.look.Goals as goal

pub loop-passed-preserved : goal.loop-passed-preserved
loop-passed-preserved c =
    let bytes = c.args.bytes.now in
    let at = c.loop-passed.passed in
    let room : length c.loop-passed.places ≡ length c.args.places.now = omega (arith, c.loop-passed.auto.places) in
    let front = rw (take_rest bytes at) at c.in-Nothing.ensures.front in
    record {
      within = omega (arith, c.loop-passed-test.true);
      passed = passed_more c.args.longest (length c.args.places.now) bytes at c.loop-passed-test.true
          c.loop-passed.invariant.passed
          (subst (λ (k : ℕ). IsPassed c.args.longest k (drop at bytes)) room front);
    }

pub returns-in-More-clause-finds : goal.returns-in-More-clause-finds
returns-in-More-clause-finds c =
    let front = rw (take_rest c.args.bytes.now c.loop-passed.passed) at c.in-More.ensures.front in
    none_comes c.args.longest (length c.args.places.now) c.args.bytes.now c.loop-passed.passed
    c.loop-passed.invariant.within c.loop-passed.invariant.passed front

pub returns-in-Comes-clause-finds : goal.returns-in-Comes-clause-finds
returns-in-Comes-clause-finds c =
    let bytes = c.args.bytes.now in
    let at = c.loop-passed.passed in
    let m = c.in-Comes.message in
    let room : length c.loop-passed.places ≡ length c.args.places.now = omega (arith, c.loop-passed.auto.places) in
    let front = rw (take_rest bytes at) at c.in-Comes.ensures.front in
    comes_first c.args.longest (length c.args.places.now) bytes at m c.loop-passed.invariant.within
    c.loop-passed.invariant.passed
    (subst (λ (k : ℕ). StandsInFront c.args.longest k (drop at bytes) (Comes m)) room front)
