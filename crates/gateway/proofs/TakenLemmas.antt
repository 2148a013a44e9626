-- What a gateway has taken: the texts of outputs as their count grows.
use Rattle.std.proofs.Common.{◌≡◌, ◌≢◌, ℕ, suc, ◌+◌, ◌^◌, ◌≤◌, true, false, List, [], ◌∷◌, ◌++◌, length, take}
use Rattle.std.proofs.Common.{drop, ap, sym, ◌∙◌, arith, append-nil, length-drop, add-zero, take-append-drop}
use Rattle.std.specs.Prelude.{◌==◌, if◌then◌else◌}
use Rattle.std.proofs.lemmas.Bool.{eq-eqb, ne_eqb}
use Rattle.std.proofs.lemmas.List.{length-take-le, take-append-le, drop-append-le}
use mathlib.Core.Option.{some}
use lib.ListN.{get_elem?}
use Rattle.fix_orders.specs.Text.{Said, text}
use Rattle.venue_model.specs.History.{Message}
use Rattle.venue_model.specs.Requests.{Limits}
use Rattle.venue_model.specs.declared.outputs.Output.{Output}
use Rattle.venue_model.specs.ListLaws.{within}
use Rattle.venue_model.specs.GrowthLaws.{grows-by, few-told-by}
use Rattle.ring_words.specs.declared.view.Person.{Person}
use Rattle.barrier.specs.Taking.{TakesNext}
use Rattle.book.specs.Histories.{reads_at, outputs_of}
use Rattle.gateway.proofs.Lists.{take_next}
use Rattle.gateway.specs.Seats.{texts_to, taken_by}

-- TEXTS

-- what some outputs say and then others
pub texts-append : (k place : ℕ) (xs ys : List Output) → texts_to k place (xs ++ ys)
    ≡ texts_to k place xs ++ texts_to k (place + length xs) ys
texts-append k place [] ys = ap (λ (n : ℕ). texts_to k n ys) (sym (add-zero place))
texts-append k place (x ∷ xs) ys =
    let number : place + 1 + length xs ≡ place + suc (length xs) = omega arith in
    let behind : List Said = texts_to k (place + suc (length xs)) ys in
    let rest : texts_to k (place + 1) (xs ++ ys) ≡ texts_to k (place + 1) xs ++ behind =
    texts-append k (place + 1) xs ys ∙ ap (λ (n : ℕ). texts_to k (place + 1) xs ++ texts_to k n ys) number in
    elim (x.to == k) as (λ b.
    (if b then text x place ∷ texts_to k (place + 1) (xs ++ ys) else texts_to k (place + 1) (xs ++ ys))
    ≡ (if b then text x place ∷ texts_to k (place + 1) xs else texts_to k (place + 1) xs) ++ behind
    ) [ true ↦ ap (λ l. text x place ∷ l) rest | false ↦ rest ]

-- what one output more says, if it goes to this gateway
abbrev one_text : ℕ → ℕ → Output → List Said
one_text k place o = if o.to == k then text o place ∷ [] else []

-- what is taken behind the outputs at the start when the count goes over one output more
taken-one_more : (k base_outputs : ℕ) (all : List Output) (count : ℕ) (o : Output) → get_elem? all count ≡ some o
    → base_outputs ≤ count →
    texts_to k base_outputs (drop base_outputs (take (suc count) all)) ≡ texts_to k base_outputs (drop base_outputs (take count all))
    ++ one_text k count o
taken-one_more k base_outputs all count o stands from =
    let there = within all count o stands in
    let front = length-take-le count all (omega (arith, there)) in
    let rest : List Output = drop base_outputs (take count all) in
    let behind = length-drop base_outputs (take count all) in
    let long : base_outputs + length rest ≡ count = omega (arith, front, behind) in
    rw (
      take_next all count o stands,
      drop-append-le base_outputs (take count all) (o ∷ []) (omega (arith, front)),
      texts-append,
      long,
    )

-- what an output says that goes to gateway k, and one that goes to another
mine : (k place : ℕ) (o : Output) → o.to ≡ k → one_text k place o ≡ text o place ∷ []
mine k place o is = rw (eq-eqb o.to k is)

others : (k place : ℕ) (o : Output) → o.to ≢ k → one_text k place o ≡ []
others k place o other = rw (ne_eqb o.to k other)

-- TAKING

module _ (k : ℕ) (limits : Limits) (base history : List Message) (p q : Person) (o : Output) (start : ℕ)
    (takes : TakesNext start p history q)
    (next : get_elem? (outputs_of limits history) p.sequence ≡ some o) where
  abbrev base_outputs : ℕ
  base_outputs = length (outputs_of limits base)

  -- the count stays within the outputs of what the gateway has seen
  pub still_within : q.sequence ≤ length (outputs_of limits q.seen)
  still_within =
      let there = within (outputs_of limits history) p.sequence o next in
      let own : q.sequence ≡ suc p.sequence = ap (λ (w : Person). w.sequence) takes.taken in
      let seen : length (outputs_of limits q.seen) ≡ length (outputs_of limits history)
      = ap (λ (w : Person). length (outputs_of limits w.seen)) takes.taken in
      omega (arith, there, own, seen)

  -- and is a small number, since the history is short
  pub still_small : p.sequence + 1 ≤ 2 ^ 62
  still_small =
      let there = within (outputs_of limits history) p.sequence o next in
      let few = takes.few in
      let told = few-told-by (reads_at limits) limits.symbols history in
      omega (arith, there, few, told)

  module _ (from : base_outputs ≤ p.sequence) (to : p.sequence ≤ length (outputs_of limits p.seen)) where
    -- what was taken before stays as the history grows
    stays : texts_to k base_outputs (drop base_outputs (take p.sequence (outputs_of limits history))) ≡ taken_by k limits base p
    stays =
        let rest : List Message = drop (length p.seen) history in
        let grown : history ≡ p.seen ++ rest = sym (take-append-drop (length p.seen) history)
        ∙ ap (λ (h : List Message). h ++ rest) (sym takes.begins) in
        let more = grows-by (reads_at limits) limits.symbols p.seen rest in
        ap (λ (os : List Output). texts_to k base_outputs (drop base_outputs (take p.sequence os)))
        (ap (outputs_of limits) grown ∙ more.1)
        ∙ ap (λ (os : List Output). texts_to k base_outputs (drop base_outputs os))
        (take-append-le p.sequence (outputs_of limits p.seen) more.0 to)

    one_more : taken_by k limits base q ≡ taken_by k limits base p ++ one_text k p.sequence o
    one_more = ap (taken_by k limits base) takes.taken
        ∙ (rw stays at (taken-one_more k base_outputs (outputs_of limits history) p.sequence o next from))

    pub taken_mine : o.to ≡ k → taken_by k limits base q ≡ taken_by k limits base p ++ text o p.sequence ∷ []
    taken_mine is = rw (mine k p.sequence o is) at one_more

    pub taken_other : o.to ≢ k → taken_by k limits base q ≡ taken_by k limits base p
    taken_other other = rw (others k p.sequence o other, append-nil) at one_more
