use Rattle.std.proofs.Common.{◌≡◌, ◌<◌, ◌∙◌, ℕ, length, ap, arith}
use lib.ListN.{get_elem?}
use Rattle.venue_model.specs.ListLaws.{stands}
use Rattle.ring_words.specs.SeatLaws.{still_at}
use Rattle.stages.proofs.Unmarshalling.{one_more}
use Rattle.stages.proofs.unmarshaller.write_all.Goals as goal

pub loop-sequence-preserved : goal.loop-sequence-preserved
loop-sequence-preserved g c = let v = c.args.seat.now in
    let s : ℕ = c.loop-sequence.sequence in
    let so_far = c.loop-sequence.invariant.2 in
    let test : s < c.args.upto = c.loop-sequence-test.true in
    let known : c.args.upto ≡ length v.who.seen = c.requires.known in
    let stood = stands v.who.seen s (omega arith) in
    let written = c.write.ensures.written stood.0 (ap (λ h. get_elem? h s) so_far.seen ∙ stood.1) in (
      still_at c.args.rings.now c.loop-sequence.seat _ _ c.loop-sequence.invariant.0 c.write.ensures.step,
      omega arith,
      one_more g.row.N c.args.rings.now.logic v c.loop-sequence.seat c.args.next s c.requires.next.0 so_far
          c.write.new.seat stood.0 stood.1 c.write.ensures.step written.0 written.1,
    )
