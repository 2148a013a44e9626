-- Head, body and trailer stand one behind the other.
use Rattle.std.proofs.Common.{ap, ◌∙◌, subst, length, refl, arith}
use Rattle.std.proofs.lemmas.List.{length-take}
use Rattle.fix_frame.specs.Grammar.{frame_of}
use Rattle.fix_frame.specs.Writing.{PutsBytes}
use Rattle.fix_frame.proofs.FrameLemmas.{length-trailer}
use Rattle.fix_frame.proofs.WritingLemmas.{body_small, frame_is}
use Rattle.fix_frame.proofs.write.write_frame.Goals as goal

pub put-headed-requires : goal.put-headed-requires
put-headed-requires c =
    let small = body_small c.args.fields.now c.requires.body in
    omega (arith, small.0, small.1, c.put_length-counted.ensures.behind_is, c.put-begun.ensures.behind_is)

pub put-summed-requires : goal.put-summed-requires
put-summed-requires c =
    let small = body_small c.args.fields.now c.requires.body in
    omega (
      arith,
      small.0,
      small.1,
      c.put-headed.ensures.behind_is,
      c.put_length-counted.ensures.behind_is,
      c.put-begun.ensures.behind_is,
    )

pub trailer_of-trailer-requires : goal.trailer_of-trailer-requires
trailer_of-trailer-requires c =
    let small = body_small c.args.fields.now c.requires.body in
    omega (
      arith,
      small.0,
      small.1,
      length-take c.put-summed.result c.put-summed.new.out,
      c.put-summed.ensures.behind_is,
      c.put-headed.ensures.behind_is,
      c.put_length-counted.ensures.behind_is,
      c.put-begun.ensures.behind_is,
    )

pub put-requires : goal.put-requires
put-requires c =
    let small = body_small c.args.fields.now c.requires.body in
    let seven = ap length c.trailer_of-trailer.ensures ∙
    length-trailer _ in
    omega (
      arith,
      small.0,
      small.1,
      seven,
      c.put-summed.ensures.behind_is,
      c.put-headed.ensures.behind_is,
      c.put_length-counted.ensures.behind_is,
      c.put-begun.ensures.behind_is,
    )

pub returns-clause-written : goal.returns-clause-written
returns-clause-written c =
    let closed = subst (λ bytes. PutsBytes c.put-summed.new.out c.put.new.out c.put-summed.result bytes c.put.result)
    c.trailer_of-trailer.ensures c.put.ensures in
    frame_is _ _ _ _ _ _ _ _ _ _ _ c.put-begun.ensures c.put_length-counted.ensures c.put-headed.ensures
    c.put-summed.ensures _ _ closed refl

pub returns-clause-frame : goal.returns-clause-frame
returns-clause-frame c = λ fs s.
    let closed = subst (λ bytes. PutsBytes c.put-summed.new.out c.put.new.out c.put-summed.result bytes c.put.result)
    c.trailer_of-trailer.ensures c.put.ensures in
    let written = frame_is _ _ _ _ _ _ _ _ _ _ _ c.put-begun.ensures c.put_length-counted.ensures c.put-headed.ensures
    c.put-summed.ensures _ _ closed refl in
    record { body = s.body; spells = written ∙ ap frame_of s.spells }
