-- The reports for a member: those of a beginning of the history come first.
use Rattle.std.proofs.Common.{◌≡◌, ℕ, zero, suc, ◌+◌, ◌<◌, ◌≤◌, List, [], ◌∷◌, ◌++◌, length, take}
use Rattle.std.proofs.Common.{drop, refl, ap, sym, ◌∙◌, arith, append_assoc, length-append}
use Rattle.std.proofs.Common.{take-append-drop}
use Rattle.std.proofs.lemmas.List.{length-take-le, drop-append-le}
use mathlib.Core.Option.{some-injective, some-ne-none}
use lib.ListN.{get_elem?}
use Rattle.fix_orders.specs.Text.{Said}
use Rattle.venue_model.specs.History.{History, Message}
use Rattle.venue_model.specs.Requests.{Limits}
use Rattle.venue_model.specs.declared.outputs.Output.{Output}
use Rattle.venue_model.specs.ListLaws.{within}
use Rattle.venue_model.specs.GrowthLaws.{grows-by}
use Rattle.ring_words.specs.Ending.{IsBeginning}
use Rattle.ring_words.specs.declared.view.Person.{Person}
use Rattle.book.specs.Histories.{reads_at, outputs_of}
use Rattle.gateway.specs.Seats.{texts_to, taken_by}
use Rattle.gateway.specs.Visits.{reports_for}
use Rattle.gateway.proofs.TakenLemmas.{texts-append}

-- BEGINNINGS

-- a history is its beginning and what follows
pub begins_with_rest : (h log : List Message) → IsBeginning h log → log ≡ h ++ drop (length h) log
begins_with_rest [] log begins = refl
begins_with_rest (m ∷ h) [] begins = absurd (some-ne-none m (sym (begins 0 m refl)))
begins_with_rest (m ∷ h) (e ∷ log) begins =
    let first : e ≡ m = some-injective e m (begins 0 m refl) in
    let rest = begins_with_rest h log (λ s a there. begins (suc s) a there) in
    λ i. first i ∷ rest i

-- what stands among the first ones stands in the list
stands_first : (l : List Message) (s i : ℕ) → i < s → get_elem? (take s l) i ≡ get_elem? l i
stands_first l zero i lt = absurd (omega arith)
stands_first [] (suc s) i lt = refl
stands_first (x ∷ l) (suc s) zero lt = refl
stands_first (x ∷ l) (suc s) (suc i) lt = stands_first l s i (omega arith)

-- a beginning that is no longer begins the log's first entries too
pub begins_first : (h log : List Message) (s : ℕ) → IsBeginning h log → length h ≤ s → IsBeginning h (take s log)
begins_first h log s begins short i e there = let inside = within h i e there in
    stands_first log s i (omega (arith, inside)) ∙ begins i e there

-- REPORTS

module _ (k : ℕ) (limits : Limits) (base : History) (p : Person) (from : length (outputs_of limits base) ≤ p.sequence)
    (to : p.sequence ≤ length (outputs_of limits p.seen)) where
  abbrev at_start : ℕ
  at_start = length (outputs_of limits base)

  -- what was taken is the first of the reports for the member, in each log that begins with what the gateway has seen
  pub taken_first : (log : History) → IsBeginning p.seen log → (later : List Said)
      × (taken_by k limits base p ++ later ≡ reports_for k limits base log)
  taken_first log begins =
      let more = grows-by (reads_at limits) limits.symbols p.seen (drop (length p.seen) log) in
      let all : List Output = outputs_of limits p.seen in
      let front : List Output = take p.sequence all in
      let behind : List Output = drop p.sequence all ++ more.0 in
      let long = length-take-le p.sequence all to in
      let first : List Output = drop at_start front in
      let outputs : outputs_of limits log ≡ front ++ behind =
      ap (outputs_of limits) (begins_with_rest p.seen log begins) ∙ more.1
      ∙ ap (λ (os : List Output). os ++ more.0) (sym (take-append-drop p.sequence all))
      ∙ append_assoc front (drop p.sequence all) more.0 in (
        texts_to k (at_start + length first) behind,
        sym (rw (outputs, drop-append-le at_start front behind (omega (arith, long)), texts-append)),
      )

  -- they are no more than those
  pub taken_few : (log : History) → IsBeginning p.seen log → length (taken_by k limits base p) ≤ length
      (reports_for k limits base log)
  taken_few log begins =
      let all = taken_first log begins in
      let long : length (taken_by k limits base p ++ all.0) ≡ length (reports_for k limits base log) =
      ap length all.1 in
      let both = length-append (taken_by k limits base p) all.0 in omega (arith, long, both)
