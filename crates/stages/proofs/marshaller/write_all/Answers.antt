use Rattle.std.proofs.Common.{◌<◌, ◌∙◌, ℕ, ap, arith}
use lib.ListN.{get_elem?}
use Rattle.venue_model.specs.ListLaws.{stands}
use Rattle.ring_words.specs.SeatLaws.{still_at}
use Rattle.book.specs.Histories.{outputs_of}
use Rattle.stages.proofs.Marshalling.{one_more}
use Rattle.stages.proofs.marshaller.write_all.Goals as goal

pub loop-place-preserved : goal.loop-place-preserved
loop-place-preserved g c = let v = c.args.seat.now in
    let s : ℕ = c.loop-place.place in
    let so_far = c.loop-place.invariant.2 in
    let outputs = outputs_of c.args.rings.now.logic in
    let test : s < c.args.upto = c.loop-place-test.true in let known = c.requires.known in
    let stood = stands (outputs v.who.seen) s (omega (arith, test, known)) in
    let written = c.write.ensures.written stood.0 (ap (λ h. get_elem? (outputs h) s) so_far.seen ∙ stood.1) in (
      still_at c.args.rings.now c.loop-place.seat _ _ c.loop-place.invariant.0 c.write.ensures.step,
      omega arith,
      one_more g.row.N g.row.M outputs v c.loop-place.seat c.args.next s c.requires.next.0 so_far c.write.new.seat
          stood.0 stood.1 c.write.ensures.step written.0 written.1,
    )
