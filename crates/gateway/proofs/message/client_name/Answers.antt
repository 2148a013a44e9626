use Rattle.std.proofs.Common.{◌∙◌, ◌+◌, ◌/◌, ◌%◌, [], ◌∷◌, ◌++◌, ap, arith}
use Rattle.gateway.proofs.NameLemmas.{named_by_one, named_by_two, named_by_three}
use Rattle.gateway.proofs.message.client_name.Goals as goal
use Rattle.gateway.proofs.message.client_name.Goals.{then-gateway-ge100, else-gateway-ge100, then-gateway-ge10}
use Rattle.gateway.proofs.message.client_name.Goals.{else-gateway-ge10}

pub returns : goal.returns
returns c =
    let n = c.args.gateway in
    let begun = c.push.ensures.items ∙ ap (λ v. v ++ 67 ∷ []) c.new-name.ensures in
    elim c.if-gateway-ge100.branch [
      | then-gateway-ge100 w ↦ elim c.if-gateway-ge10.branch [
        | then-gateway-ge10 v ↦ named_by_three n _ begun _ _ _ (omega arith) (omega arith)
            w.push-then-gateway-ge100.ensures.items
            (v.push-then-gateway-ge10.ensures.items ∙ ap (λ name. name.items ++ (48 + n / 10 % 10) ∷ []) w.name-is)
            (c.push-2.ensures.items ∙ ap (λ name. name.items ++ (48 + n % 10) ∷ []) v.name-is)
        | else-gateway-ge10 v ↦ absurd (omega arith)
      ]
      | else-gateway-ge100 w ↦ elim c.if-gateway-ge10.branch [
        | then-gateway-ge10 v ↦ named_by_two n _ begun _ _ (omega arith) (omega arith)
            (v.push-then-gateway-ge10.ensures.items ∙ ap (λ name. name.items ++ (48 + n / 10 % 10) ∷ []) w.name-is)
            (c.push-2.ensures.items ∙ ap (λ name. name.items ++ (48 + n % 10) ∷ []) v.name-is)
        | else-gateway-ge10 v ↦ named_by_one n _ begun _ (omega arith)
            (c.push-2.ensures.items ∙ ap (λ name. name.items ++ (48 + n % 10) ∷ []) v.name-is
            ∙ ap (λ name. name.items ++ (48 + n % 10) ∷ []) w.name-is)
      ]
    ]
