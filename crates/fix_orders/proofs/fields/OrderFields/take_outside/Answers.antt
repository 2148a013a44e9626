use Rattle.std.proofs.Common.{◌∙◌, ◌++◌, cond, [], ◌∷◌, not, ap, sym, refl, append-nil}
use Rattle.fix_orders.specs.Findings.{lesser_if}
use Rattle.fix_orders.specs.Reading.{tags}
use Rattle.fix_orders.proofs.TagLemmas.{outside_is, apart, seen_outside}
use Rattle.fix_orders.proofs.FindingLemmas.{counted}
use Rattle.fix_orders.proofs.FoundLemmas.{found_else}
use Rattle.fix_orders.proofs.fields.OrderFields.take_outside.Goals as goal

pub returns : goal.returns
returns c = λ table fields value is found.
    let outer = outside_is c.args.tag c.requires in
    let is_apart = apart c.args.tag outer.order in
    found_else table fields _ _ found c.args.tag value is is_apart.unequal (is_apart.free table) (record {
      values = refl;
      others = sym (append-nil _) ∙ ap (λ b. c.args.self.now.others.items ++ cond b (c.args.tag ∷ []) [])
          (sym outer.other);
      repeated = counted _ c.args.self.now.repeated _ _ c.args.tag _ c.lesser_if-self.ensures
          (sym (seen_outside c.args.tag (tags fields) c.requires)) refl;
      undefined = ap (λ b. lesser_if b c.args.tag c.args.self.now.undefined) (ap not (sym (outer.defined table)));
      ill_formed = refl;
      out_of_range = refl;
    })
