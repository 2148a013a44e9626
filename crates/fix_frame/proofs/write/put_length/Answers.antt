-- Leading zeros are left out.
use Rattle.std.proofs.Common.{sym, ap, ◌∙◌, subst, take, drop, List, ℕ, arith}
use Rattle.fix_frame.specs.Writing.{PutsBytes}
use Rattle.fix_frame.proofs.NumberLemmas.{decimal_one, decimal_two, decimal_three}
use Rattle.fix_frame.proofs.write.put_length.Goals as goal

pub returns-then-count-lt10 : goal.returns-then-count-lt10
returns-then-count-lt10 c =
    let digits = ap (λ (ds : List ℕ). take 1 (drop 2 ds)) c.three_digits-digits.ensures ∙
    sym (decimal_one c.args.count (omega arith)) in
    subst (λ bytes. PutsBytes c.args.out.now c.put.new.out c.args.at bytes c.put.result) digits c.put.ensures

pub returns-then-count-lt100 : goal.returns-then-count-lt100
returns-then-count-lt100 c =
    let digits = ap (λ (ds : List ℕ). take 2 (drop 1 ds)) c.three_digits-digits.ensures ∙
    sym (decimal_two c.args.count (omega arith) (omega arith)) in
    subst (λ bytes. PutsBytes c.args.out.now c.put-then-count-lt100.new.out c.args.at bytes
    c.put-then-count-lt100.result)
    digits c.put-then-count-lt100.ensures

pub returns : goal.returns
returns c =
    let digits = c.three_digits-digits.ensures ∙ sym (decimal_three c.args.count (omega arith) (omega arith)) in
    subst (λ bytes. PutsBytes c.args.out.now c.put-2.new.out c.args.at bytes c.put-2.result) digits c.put-2.ensures
