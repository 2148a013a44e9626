-- The bytes stand there, and nothing behind them is changed.
use Rattle.std.proofs.Common.{ap, ◌∙◌, ◌++◌, ◌+◌, ◌-◌, take, length, refl, arith}
use Rattle.std.proofs.lemmas.Slice.{take-put_mid, drop-put_mid}
use Rattle.fix_frame.proofs.write.put.Goals as goal

pub returns : goal.returns
returns c =
    let out = c.args.out.now in
    let at = c.args.at in
    let behind = at + length c.args.bytes.now in
    let copied = c.copy_from_slice.ensures.after in
    record {
      behind_is = refl;
      front = take-put_mid at (behind - at) out c.copy_from_slice.new.self behind (omega (
        arith,
        ap length copied,
      )) (omega arith) ∙ ap (λ k. take at out ++ k) copied;
      rest = λ k h. drop-put_mid at (behind - at) out c.copy_from_slice.new.self k (omega arith) (omega arith)
          (omega (arith, ap length copied));
    }
