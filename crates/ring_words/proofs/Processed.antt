-- The store of processed keeps the rule: all outputs of the entries below it are published.
use Rattle.std.proofs.Common.{◌≡◌, ℕ, suc, ◌+◌, ◌<◌, ◌≤◌, List, length, take, get_or, set, refl, ap, sym, subst, ◌∙◌}
use Rattle.std.proofs.Common.{arith}
use Rattle.std.proofs.lemmas.List.{take-append-le, take-take}
use mathlib.Core.Option.{none}
use Rattle.std.specs.Prelude.{Some}
use Rattle.std.proofs.lemmas.Option.{same_Some}
use Rattle.atomic_table.specs.Table.{step, keeps, Allows}
use Rattle.venue_model.specs.History.{Message}
use Rattle.ring_words.specs.Slots.{Boxed}
use Rattle.ring_words.specs.declared.view.Role.{Role}
use Rattle.ring_words.specs.declared.view.Role.TheVariants.{Process}
use Rattle.ring_words.specs.Places.{processed, journalled, marshalled, taken, published, first_row, out_row}
use Rattle.ring_words.specs.Places.{word_of_role}
use Rattle.ring_words.specs.Log.{Log}
use Rattle.ring_words.specs.Terms.{Terms, outputs_by}
use Rattle.ring_words.specs.Rule.{IsGateway, Depth, PartOf, Outgoing, words_of, Lawful}
use Rattle.ring_words.specs.Seats.{person, IsAlone, alone, moved}
use Rattle.ring_words.specs.Steps.{Seated, moves_own}
use Rattle.ring_words.proofs.Puts.{word_here, word_else}
use Rattle.ring_words.proofs.Keeps.{mine}
use Rattle.ring_words.proofs.Outputs.{begins, fewer_outputs}
use Rattle.ring_words.proofs.Outgoings.{no_output}
use Rattle.ring_words.proofs.Stores.{own_now}

module _ {L : Type 0} (terms : Terms L) where
  -- more of a history's entries have as many outputs at least
  pub more_outputs : (j k : ℕ) (h : List Message) → j ≤ k
      → length (outputs_by terms (take j h)) ≤ length (outputs_by terms (take k h))
  more_outputs j k h le = subst (λ (l : List Message). length (outputs_by terms l)
      ≤ length (outputs_by terms (take k h))) (take-take j k h le) (fewer_outputs terms j (take k h))

  -- the output ring's part of the rule stays where processed rises to x, and all outputs of the first x entries are
  -- published
  pub outgoing_processed : (w w' : ℕ → ℕ) (log : Log) (x : ℕ) → terms.gateways ≤ 8 → w' processed ≡ x → w processed ≤ x
      → length (outputs_by terms (take x log.history)) ≤ w published
      → w' journalled ≡ w journalled → ((k : ℕ) → marshalled ≤ k → k < first_row → w' k ≡ w k)
      → ((q i : ℕ) → w' (out_row terms.rows terms.output_rows q i) ≡ w (out_row terms.rows terms.output_rows q i))
      → Outgoing terms w log → Outgoing terms w' log
  outgoing_processed w w' log x few here up all kept_is control rows r =
      let m : w' 32 ≡ w 32 = control 32 (omega arith) (omega arith) in
      let p : w' 104 ≡ w 104 = control 104 (omega arith) (omega arith) in
      let taken_stays : (k : ℕ) → IsGateway terms.gateways k → w' (taken k)
      ≡ w (taken k) = λ k g. (let lo : 1 ≤ k = g.0 in let hi : k ≤ terms.gateways = g.1 in
      control (taken k) (omega arith) (omega arith)) in
      record {
        kept = r.kept ∙ sym kept_is;
        front = r.front;
        marshalled_published = (let a : w 32 ≤ w 104 = r.marshalled_published in omega arith);
        taken_marshalled = λ k g. (let e = taken_stays k g in let a : w (taken k) ≤ w 32 = r.taken_marshalled k g in
            omega arith);
        free = λ k g. (let e = taken_stays k g in let a : w 104 ≤ w (taken k) + terms.output_rows = r.free k g in omega arith);
        least = (let is : length (outputs_by terms (take (w' 0) log.history))
            ≡ length (outputs_by terms (take x log.history)) =
            ap (λ (y : ℕ). length (outputs_by terms (take y log.history))) here in
            let a : length (outputs_by terms (take x log.history)) ≤ w 104 = all in omega arith);
        most = (let is : length (outputs_by terms (take (suc (w' 0)) log.history))
            ≡ length (outputs_by terms (take (suc x) log.history)) =
            ap (λ (y : ℕ). length (outputs_by terms (take (suc y) log.history))) here in
            let a : w 104 ≤ length (outputs_by terms (take (suc (w 0)) log.history)) = r.most in
            let low : w 0 ≤ x = up in
            let b = more_outputs (suc (w 0)) (suc x) log.history (omega arith) in
            omega arith);
        addresses = λ k q o g from to at. (let e = taken_stays k g in
            rows q 0 ∙ r.addresses k q o g (omega arith) (omega arith) at);
        reports = λ k q o g from to at. (let e = taken_stays k g in r.reports k q o g (omega arith) (omega arith) at);
        filling = λ f is. (let h = r.filling f is in let a : f.place ≡ w 104 = h.0 in
            let b : w 104 < w 32 + terms.output_rows = h.1 in ((omega arith), (omega arith)));
        reading = λ f is. (let h = r.reading f is in let a : w 32 ≤ f.place = h.1 in let b : f.place < w 104 = h.2 in
            (h.0, (omega arith), (omega arith)));
        texts = λ k q o g from to at i y there. (let e = taken_stays k g in
            rows q (i + 64) ∙ r.texts k q o g (omega arith) (omega arith) at i y there);
        readable = λ k q o g from to at. (let e = taken_stays k g in r.readable k q o g (omega arith) (omega arith) at);
      }

module _ {L : Type 0} (terms : Terms L) where
  -- the processor moves its word to what it knows at most; all outputs of the entries below it are published
  pub stores_processed : (slots id : ℕ) (me : Seated Boxed L) (x : ℕ) (lg : L) → me.0.logic ≡ Some lg → IsAlone me.0
      → (person me.0).role ≡ Process → (person me.0).sequence ≤ x → x ≤ length (person me.0).seen
      → length (terms.outputs lg (take x (person me.0).seen)) ≤ (person me.0).row.sequence
      → Allows (Lawful terms) slots id me processed (λ _. x) (λ _. moves_own (step slots processed x 0 none) me x)
  stores_processed slots id me x lg view_is one role low high all_by s r wide at _ =
      let p = person me.0 in
      let ws = s.words in
      let w = words_of s in
      let w' : ℕ → ℕ = λ (j : ℕ). get_or (set ws 0 x) j 0 in
      let h = r.log.history in
      let own = mine terms s r id me.0 p at one in
      let knows = own.2 in
      let own_is : w 0 ≡ p.sequence = subst (λ (z : Role). w (word_of_role z) ≡ p.sequence) role knows.sequence in
      let deep = subst (λ (z : Role). Depth w z (length p.seen)) role knows.depth in
      let deep_0 : length p.seen ≤ w 16 = deep.0 in
      let deep_1 : length p.seen ≤ w 24 = deep.1 in
      let part = subst (λ (z : Role). PartOf terms.rows terms.output_rows w r.log z p.row) role knows.row in
      let place_is : p.row.sequence ≡ w 104 = part.0 in
      let logic_is : lg ≡ terms.logic = same_Some lg terms.logic (sym view_is ∙ own.0) in
      let all : length (outputs_by terms (take x p.seen)) ≤ p.row.sequence =
      subst (λ (l : L). length (terms.outputs l (take x p.seen)) ≤ p.row.sequence) logic_is all_by in
      let kept_now : length h ≡ w 24 = r.outgoing.kept in
      let longer = begins r.log.status h p.seen r.outgoing.front knows.front (omega arith) in
      let same : take x h ≡ take x p.seen = ap (take x) longer.1 ∙ take-append-le x p.seen longer.0 high in
      let same_long : length (outputs_by terms (take x h))
      ≡ length (outputs_by terms (take x p.seen)) = ap (λ (l : List Message). length (outputs_by terms l)) same in
      let inside : 0 < length ws = (let v = r.wide in omega arith) in
      let here : w' 0 ≡ x = word_here ws 0 x inside in
      let claim_is : w' 8 ≡ w 8 = word_else ws 0 8 x (λ (e : 8 ≡ 0). omega arith) in
      let unmarshalled_is : w' 16 ≡ w 16 = word_else ws 0 16 x (λ (e : 16 ≡ 0). omega arith) in
      let journalled_is : w' 24 ≡ w 24 = word_else ws 0 24 x (λ (e : 24 ≡ 0). omega arith) in
      let order = r.order in
      let third = order.unmarshalled_claimed in
      let fourth = order.journalled_claimed in
      let room = order.room in
      let most = order.most in (
        alone me.0 (moved p x),
        keeps,
        tt,
        own_now terms s r h id me 0 x at one (ap word_of_role role) (omega arith) (λ (e : 0 ≡ 8). omega arith)
            (λ (e : 0 ≡ 104). omega arith) low
            record {
              processed_unmarshalled = omega arith;
              processed_journalled = omega arith;
              unmarshalled_claimed = omega arith;
              journalled_claimed = omega arith;
              room = omega arith;
              most = omega arith;
            }
            (λ t lt. r.logged.done t (subst (λ (y : ℕ). t < y) unmarshalled_is lt))
            (λ t lt. r.logged.kept t (subst (λ (y : ℕ). t < y) journalled_is lt))
            (λ t e is below. r.rows.commands t e is (subst (λ (y : ℕ). t < y) unmarshalled_is below))
            (λ t e is below. r.rows.packable t e is (subst (λ (y : ℕ). t < y) unmarshalled_is below))
            (outgoing_processed terms w w' r.log x r.few here (omega arith) (omega arith) journalled_is
            (λ k from to. word_else ws 0 k x (λ (e : k ≡ 0). omega arith))
            (λ q i. word_else ws 0 (out_row terms.rows terms.output_rows q i) x
            (no_output terms.rows terms.output_rows q i 0 (let n : ℕ = terms.rows in omega arith))) r.outgoing),
        refl,
      )
