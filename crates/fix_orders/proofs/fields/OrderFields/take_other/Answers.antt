use Rattle.std.proofs.Common.{◌∙◌, ◌++◌, cond, [], ◌∷◌, not, ap, sym, refl}
use Rattle.fix_orders.specs.Reading.{tags, is_among}
use Rattle.fix_orders.proofs.TagLemmas.{other_is, apart, seen_other}
use Rattle.fix_orders.proofs.FindingLemmas.{counted}
use Rattle.fix_orders.proofs.FoundLemmas.{found_else}
use Rattle.fix_orders.proofs.fields.OrderFields.take_other.Goals as goal

pub returns : goal.returns
returns c = λ table fields value is found.
    let other = other_is c.args.tag c.requires.other in
    let is_apart = apart c.args.tag other.order in
    found_else table fields _ _ found c.args.tag value is is_apart.unequal (is_apart.free table) (record {
      values = refl;
      others = c.push.ensures.items ∙ ap (λ b. c.args.self.now.others.items ++ cond b (c.args.tag ∷ []) [])
          (sym c.requires.other);
      repeated = counted _ c.args.self.now.repeated _ _ c.args.tag _ c.lesser_if-self.ensures
          (c.is_among.ensures ∙ ap (λ items. is_among items c.args.tag) (c.as_slice.ensures.value ∙ found.others)
          ∙ seen_other c.args.tag (tags fields) c.requires.other) refl;
      undefined = counted _ c.args.self.now.undefined _ _ c.args.tag _ c.lesser_if-self-2.ensures
          (ap not (sym (other.undefined table))) refl;
      ill_formed = refl;
      out_of_range = refl;
    })
