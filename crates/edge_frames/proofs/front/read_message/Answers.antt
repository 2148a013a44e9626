-- A garbled message is passed over, and any other comes out with its fields.
use Rattle.std.proofs.Common.{◌∙◌, ◌+◌, length, take, slice_range, ap, sym, arith}
use Rattle.std.proofs.lemmas.List.{length-take-le}
use Rattle.edge_frames.specs.Messages.{framed}
use Rattle.edge_frames.proofs.FrontLemmas.{garbled_passed, comes_out, text_is, body_in_text}
use Rattle.edge_frames.proofs.front.read_message.Goals as goal

pub list-fields-requires : goal.list-fields-requires
list-fields-requires c =
    let s = c.requires.1 in
    let long = length-take-le (c.args.at + c.args.n + 7) c.args.bytes.now s.within in
    record { order = omega arith; within = omega (arith, long); short = omega (arith, long, s.small) }

pub returns-in-Garbled-clause-front : goal.returns-in-Garbled-clause-front
returns-in-Garbled-clause-front c = λ longest s.
    garbled_passed longest c.args.bytes.now c.args.at c.args.n s (length c.args.places.now)
    c.in-Garbled.ensures

pub returns-in_default : goal.returns-in_default
returns-in_default c =
    let s = c.requires.1 in
    record {
      front = λ longest there. (
        there.within,
        comes_out longest c.args.bytes.now c.args.at c.args.n there (length c.args.places.now) c.judge.result
            c.judge.ensures c.in_default.not-Garbled,
      );
      lists = record {
        digits = s.digits;
        body = slice_range (take (c.args.at + c.args.n + 7) c.args.bytes.now) c.args.at (c.args.at + c.args.n);
        spells = text_is c.requires.0 c.args.bytes.now c.args.at c.args.n s ∙
            ap (framed s.digits) (sym (body_in_text c.requires.0 c.args.bytes.now c.args.at c.args.n s));
        lists = c.list-fields.ensures;
      };
    }
