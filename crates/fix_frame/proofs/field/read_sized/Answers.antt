-- Where SOH stands behind the value's bytes, the value ends there if none of them is SOH.
use Rattle.std.proofs.Common.{◌≡◌, ◌+◌, ◌<◌, ◌++◌, ◌∷◌, ℕ, List, length, get_or, take, drop, ap, sym, ◌∙◌, subst, arith}
use Rattle.std.proofs.lemmas.List.{take_rest, take-append-drop, drop_more, length-take-le}
use Rattle.std.specs.Fmt.{decimal}
use Rattle.fix_frame.specs.Cuts.{EndsInSoh, BeginsField}
use Rattle.fix_frame.specs.Fields.{sized}
use Rattle.fix_frame.proofs.CutLemmas.{ends_behind, ends_after}
use Rattle.fix_frame.proofs.FieldLemmas.{a_field}
use Rattle.fix_frame.proofs.field.read_sized.Goals as goal

-- the list is cut at a place where SOH stands
cut_there : (xs : List ℕ) (i : ℕ) → i < length xs → get_or xs i 0 ≡ 1 → xs ≡ take i xs ++ 1 ∷ drop (i + 1) xs
cut_there xs i within here =
    sym (take-append-drop i xs) ∙
    ap (λ k. take i xs ++ k) (drop_more xs i 0 within ∙ ap (λ k. k ∷ drop (i + 1) xs) here)

pub returns-clause-ends : goal.returns-clause-ends
returns-clause-ends c =
    let behind = c.in_ok-found.behind.now in
    let size = c.args.size in
    rw (take_rest behind (size + 1))
    (ends_after (take size behind) 1 (drop (size + 1) behind)
    (subst EndsInSoh (cut_there behind size c.if-behind-size.false c.if-behind-size-ne-SOH.false)
    (ends_behind (decimal c.in_ok-found.found) 61 behind (λ e. omega (arith, e))
    (subst EndsInSoh c.in_ok-found.ensures.1 c.requires.ends))))

pub returns-clause-field : goal.returns-clause-field
returns-clause-field c =
    let behind = c.in_ok-found.behind.now in
    let size = c.args.size in
    rw (take_rest behind (size + 1)) (λ lacks.
    subst (λ (tag : ℕ). BeginsField c.args.bytes.now (sized tag (take size behind)) (drop (size + 1) behind))
    c.if-found-tag.false
    (a_field c.args.bytes.now behind c.in_ok-found.found c.in_ok-found.ensures.0 c.in_ok-found.ensures.1
    (take size behind) (drop (size + 1) behind) lacks
    (cut_there behind size c.if-behind-size.false c.if-behind-size-ne-SOH.false)
    (omega (arith, length-take-le size behind, c.if-behind-size.false, c.requires.some))))
