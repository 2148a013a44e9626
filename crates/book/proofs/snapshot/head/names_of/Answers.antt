use Rattle.std.proofs.Common.{◌≡◌, ℕ, zero, suc, ◌+◌, ◌-◌, ◌*◌, ◌<◌, ◌^◌, List, [], ◌∷◌, ◌++◌, take, drop, set, refl}
use Rattle.std.proofs.Common.{ap, sym, ◌∙◌, arith, rules}
use Rattle.std.specs.List.{AllByRecursion, flat_map}
use Rattle.std.proofs.lemmas.List.{flat_map_more}
use Rattle.std.proofs.lemmas.Grind.{take-set_at}
use Rattle.std.proofs.Math.Seq.{take-add}
use Rattle.book.specs.Rows.{number_bytes}
use Rattle.book.proofs.snapshot.head.names_of.Goals as goal

each-set : (P : ℕ → Type 0) (xs : List ℕ) (i n : ℕ) → P n → AllByRecursion P xs → AllByRecursion P (set xs i n)
each-set P [] i n here all = tt
each-set P (x ∷ xs) zero n here all = (here, all.1)
each-set P (x ∷ xs) (suc i) n here all = (all.0, each-set P xs i n here all.1)

pub loop-place-preserved : goal.loop-place-preserved
loop-place-preserved c =
    let place = c.loop-place.place in
    let names = c.loop-place.names in
    let bytes = c.args.bytes.now in
    let width : 8 * place + 8 - 8 * place ≡ 8 = omega arith in
    let eight = c.eight.ensures ∙ ap (λ (n : ℕ). take n (drop (8 * place) bytes)) width in
    let further : 8 * place + 8 ≡ 8 * (place + 1) = omega arith in
    record {
      long = search rules;
      small = each-set (λ n. n < 2 ^ 64) names place c.eight.result c.eight.type_inv c.loop-place.invariant.small;
      so_far = ap (flat_map (number_bytes 8)) (take-set_at names place (place + 1) c.eight.result refl
          (omega (arith, c.loop-place.invariant.long, c.loop-place-test.true)))
          ∙ sym (flat_map_more (number_bytes 8) [] (take place names) c.eight.result)
          ∙ ap (λ l. l ++ number_bytes 8 c.eight.result) c.loop-place.invariant.so_far
          ∙ ap (λ l. take (8 * place) bytes ++ l) eight ∙ sym (take-add (8 * place) 8 bytes)
          ∙ ap (λ (n : ℕ). take n bytes) further;
    }
