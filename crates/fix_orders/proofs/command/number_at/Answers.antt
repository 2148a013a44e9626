use Rattle.std.proofs.Common.{◌∙◌, ap, arith, length, nat_lt}
use Rattle.std.specs.List.{list_all}
use Rattle.std.proofs.lemmas.Bool.{and_parts}
use Rattle.fix_frame.specs.Ascii.{is_digit}
use Rattle.fix_orders.specs.Formats.{value_of, format_of}
use Rattle.fix_orders.specs.OrderTags.{tag_number}
use Rattle.fix_orders.specs.Values.{value_in}
use Rattle.fix_orders.specs.FaultLaws.{short_number}
use Rattle.fix_orders.proofs.command.number_at.Goals as goal

pub returns : goal.returns
returns c = c.read_digits.ensures ∙ ap value_of c.get.ensures

pub read_digits-requires : goal.read_digits-requires
read_digits-requires c =
    let value = value_in c.args.values.now c.args.tag in
    let number = short_number (format_of c.args.table (tag_number c.args.tag)) value c.requires.number
    (c.requires.right.format c.args.tag c.requires.required)
    (c.requires.right.range c.args.tag c.requires.required) in
    rw c.get.ensures (record {
      each = (and_parts (nat_lt 0 (length value)) (list_all is_digit value) (and_parts _ _ number.0).0).1;
      fits = omega (arith, number.1);
    })
