-- Either the bytes are a frame, and then their body is a run of its fields, or they are none.
use Rattle.std.proofs.Common.{sym, refl, ap, ◌∙◌}
use Rattle.fix_orders.specs.Reading.{command_of}
use Rattle.fix_orders.specs.ExactLaws.{reads_none, reads_either}
use Rattle.fix_orders.specs.RangeLaws.{reads_within}
use Rattle.fix_orders.proofs.command.decode.Goals as goal

pub returns-in-Some : goal.returns-in-Some
returns-in-Some c =
    let bytes = c.args.bytes.now in
    let opens = c.in-Some.ensures in
    let frame : (fields : _) → _ → _ = λ fields is.
    let (run, same) = opens.fields fields is in
    c.command_in.ensures.run run ∙ ap (command_of c.args.market) same in
    let none : _ → _ = λ no. c.command_in.ensures.void (λ run typed. no _ (opens.frame run typed)) in
    record {
      value = reads_either c.args.market bytes _ frame none;
      frame = frame;
      none = none;
      range = rw (reads_either c.args.market bytes _ frame none) (reads_within c.args.market bytes);
    }

pub returns-in-None : goal.returns-in-None
returns-in-None c = record {
  value = sym (reads_none c.args.market c.args.bytes.now c.in-None.ensures);
  frame = λ fields frame. absurd (c.in-None.ensures fields frame);
  none = λ none. refl;
  range = tt;
}
