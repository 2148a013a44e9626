-- The two tests are the two facts.
use Rattle.std.proofs.Common.{◌∷◌, [], ◌-◌, length, take, sym}
use Rattle.std.proofs.lemmas.Slice.Eq.{slice_eq-Decides, ends_is}
use Rattle.std.proofs.lemmas.Bool.Decides.{Decides-eqb}
use Rattle.fix_frame.proofs.trailer.is_closed.Goals as goal

pub returns-then-ends_with : goal.returns-then-ends_with
returns-then-ends_with c =
    let body = c.args.body.now in
    let ends = ends_is Decides-eqb body (1 ∷ []) c.ends_with.result c.ends_with.ensures.value in
    let begins = slice_eq-Decides Decides-eqb _ _ _ c.starts_with.ensures.value in (
      (λ r. ((take (length body - 1) body, ends.0 c.if-ends_with.true), sym (begins.0 r))),
      λ closed. begins.1 (sym closed.1),
    )
