-- A gateway loads marshalled, which shows it a history with the next output, and moves its taken word behind that.
use Rattle.std.proofs.Common.{◌≡◌, ◌≢◌, ℕ, suc, ◌+◌, ◌*◌, ◌<◌, ◌≤◌, List, [], ◌++◌, cond, ltb, length, take, get_or}
use Rattle.std.proofs.Common.{set, refl, ap, sym, subst, ◌∙◌, arith, le_refl}
use Rattle.std.proofs.lemmas.Bool.{lt-ltb, le-ltb, cond-true, cond-false}
use Rattle.std.proofs.lemmas.Option.{same_Some}
use mathlib.Core.Option.{none, some}
use mathlib.Core.Logic.{dite}
use native.Mathlib.Decide.{ℕ_discrete, dec_le}
use lib.ListN.{get_elem?}
use Rattle.atomic_table.specs.Table.{step, keeps, Allows}
use Rattle.venue_model.specs.History.{Message}
use Rattle.venue_model.specs.declared.outputs.Output.{Output}
use Rattle.venue_model.specs.ListLaws.{stands}
use Rattle.ring_words.specs.Slots.{Boxed}
use Rattle.ring_words.specs.declared.view.Role.{Role}
use Rattle.ring_words.specs.declared.view.Role.TheVariants.{Gateway}
use Rattle.ring_words.specs.declared.view.Person.{Person}
use Rattle.ring_words.specs.Places.{journalled, marshalled, taken, published, out_row, word_of_role, number_of}
use Rattle.ring_words.specs.Log.{Log, sends_of, of_gateway, published_at, IsFront}
use Rattle.ring_words.specs.Terms.{Terms, outputs_by}
use Rattle.ring_words.specs.Rule.{IsGateway, Depth, Logged, Outgoing, Knows, words_of, Lawful}
use Rattle.ring_words.specs.Seats.{person, IsAlone, alone, looked, knowing, moved}
use Rattle.ring_words.specs.Steps.{Seated, Shows, IsLegal, sees_marshalled, moves_own}
use Rattle.ring_words.proofs.Puts.{word_here, word_else}
use Rattle.ring_words.proofs.Logs.{published_late, knows_looked, knows_knowing}
use Rattle.ring_words.proofs.Keeps.{mine}
use Rattle.ring_words.proofs.Outgoings.{published_kept, still_above, no_output}
use Rattle.ring_words.proofs.Loads.{looks}
use Rattle.ring_words.proofs.Stores.{own_output_now}
use Rattle.ring_words.proofs.Reading.{goes_on_kept, gateway_owns}

module _ {L : Type 0} (terms : Terms L) where
  -- what the log has of a gateway's at a sequence is what a beginning of the log says that it published there
  sends_are : (w : ℕ → ℕ) (log : Log) (h : List Message) (k s : ℕ) → Logged terms w log → IsFront log.status h
      → s < length h → sends_of k (log.status s) ≡ published_at (length terms.base) k h s
  sends_are w log h k s logged front lt = by_place (dec_le (length terms.base) s) where
    by_place : Dec (length terms.base ≤ s) → sends_of k (log.status s)
        ≡ cond (ltb s (length terms.base)) [] (of_gateway k (get_elem? h s))
    by_place (yes late) = let e = stands h s lt in
        ap (sends_of k) (published_late terms w log s e.0 logged (front s e.0 e.1) late) ∙ sym (ap (of_gateway k) e.1)
        ∙ sym (cond-false (ltb s (length terms.base)) [] (of_gateway k (get_elem? h s))
        (le-ltb s (length terms.base) late))
    by_place (no ne) = let early : s < length terms.base = omega arith in let e = stands terms.base s early in
        ap (sends_of k) (logged.based s e.0 e.1)
        ∙ sym (cond-true (ltb s (length terms.base)) [] (of_gateway k (get_elem? h s))
        (lt-ltb s (length terms.base) early))

  -- a beginning of the log is legal for everyone
  pub legal_front : (w : ℕ → ℕ) (log : Log) (p : Person) (h : List Message) → Logged terms w log → Knows terms w log p
      → IsFront log.status h → IsLegal (length terms.base) p h
  legal_front w log p h logged knows front s lt = knows.mine s ∙ sends_are w log h (number_of p.role) s logged front lt

  -- the history that is kept has an output at each place below marshalled
  pub has_output : (w : ℕ → ℕ) (log : Log) (q : ℕ) → Outgoing terms w log → q < w marshalled
      → (o : Output) × (get_elem? (outputs_by terms log.history) q ≡ some o)
  has_output w log q r lt = let a : w marshalled ≤ w published = r.marshalled_published in
      let b = published_kept terms w log r in
      stands (outputs_by terms log.history) q (omega arith)

  -- the output ring's part of the rule stays where a gateway's taken word rises, no higher than marshalled
  outgoing_taken : (w w' : ℕ → ℕ) (log : Log) (k : ℕ) → terms.gateways ≤ 8 → IsGateway terms.gateways k
      → ((j : ℕ) → j ≢ taken k → w' j ≡ w j) → w (taken k) ≤ w' (taken k) → w' (taken k) ≤ w marshalled
      → Outgoing terms w log → Outgoing terms w' log
  outgoing_taken w w' log k few gateway else up most r = record {
    kept = r.kept ∙ sym (else journalled (λ (e : 24 ≡ 32 + 8 * k). omega arith));
    front = r.front;
    marshalled_published = (let a : w 32 ≤ w 104 = r.marshalled_published in omega arith);
    taken_marshalled = λ j g. (let a : w' (taken j) ≤ w 32 = still_low j g in omega arith);
    free = λ j g. (let a : w 104 ≤ w (taken j) + terms.output_rows = r.free j g in let b = rises j in omega arith);
    least = (let is : length (outputs_by terms (take (w' 0) log.history))
        ≡ length (outputs_by terms (take (w 0) log.history)) =
        ap (λ (x : ℕ). length (outputs_by terms (take x log.history))) first in
        let a : length (outputs_by terms (take (w 0) log.history)) ≤ w 104 = r.least in omega arith);
    most = (let is : length (outputs_by terms (take (suc (w' 0)) log.history))
        ≡ length (outputs_by terms (take (suc (w 0)) log.history)) =
        ap (λ (x : ℕ). length (outputs_by terms (take (suc x) log.history))) first in
        let a : w 104 ≤ length (outputs_by terms (take (suc (w 0)) log.history)) = r.most in omega arith);
    addresses = λ j q o g from to at. (let b = rises j in
        rows q 0 ∙ r.addresses j q o g (omega arith) (omega arith) at);
    reports = λ j q o g from to at. (let b = rises j in r.reports j q o g (omega arith) (omega arith) at);
    filling = λ f is. (let h = r.filling f is in let a : f.place ≡ w 104 = h.0 in
        let b : w 104 < w 32 + terms.output_rows = h.1 in ((omega arith), (omega arith)));
    reading = λ f is. (let h = r.reading f is in let a : w 32 ≤ f.place = h.1 in let b : f.place < w 104 = h.2 in
        (h.0, (omega arith), (omega arith)));
    texts = λ j q o g from to at i x there. (let b = rises j in
        rows q (i + 64) ∙ r.texts j q o g (omega arith) (omega arith) at i x there);
    readable = λ j q o g from to at. (let b = rises j in r.readable j q o g (omega arith) (omega arith) at);
  } where
    first : w' 0 ≡ w 0
    first = else 0 (λ (e : 0 ≡ 32 + 8 * k). omega arith)

    third : w' 32 ≡ w 32
    third = let lo : 1 ≤ k = gateway.0 in else 32 (λ (e : 32 ≡ 32 + 8 * k). omega arith)

    last : w' 104 ≡ w 104
    last = let hi : k ≤ terms.gateways = gateway.1 in else 104 (λ (e : 104 ≡ 32 + 8 * k). omega arith)

    rows : (q i : ℕ) → w' (out_row terms.rows terms.output_rows q i) ≡ w (out_row terms.rows terms.output_rows q i)
    rows q i = let hi : k ≤ terms.gateways = gateway.1 in
        let n : ℕ = terms.rows in
        else (out_row terms.rows terms.output_rows q i)
        (no_output terms.rows terms.output_rows q i (taken k) (omega arith))

    rises : (j : ℕ) → w (taken j) ≤ w' (taken j)
    rises j = dite (ℕ_discrete (taken j) (taken k)) (λ e. subst (λ (i : ℕ). w i ≤ w' i) (sym e) up)
        (λ ne. let is = else (taken j) ne in omega arith)

    still_low : (j : ℕ) → IsGateway terms.gateways j → w' (taken j) ≤ w 32
    still_low j g = dite (ℕ_discrete (taken j) (taken k)) (λ e. subst (λ (i : ℕ). w' i ≤ w 32) (sym e) most)
        (λ ne. let is = else (taken j) ne in let le : w (taken j) ≤ w 32 = r.taken_marshalled j g in omega arith)

module _ {L : Type 0} (terms : Terms L) where
  -- where marshalled lies above a gateway's own word there is an output, in a history that is legal for the gateway
  pub loads_marshalled : (slots id k : ℕ) (me : Seated Boxed L) → IsAlone me.0 → (person me.0).role ≡ Gateway k
      → Allows (Lawful terms) slots id me marshalled (λ x. x)
      (sees_marshalled terms.outputs (step slots marshalled 0 0 none) me)
  loads_marshalled slots id k me one role s r wide at _ = let p = person me.0 in
      let w = words_of s in
      let x : ℕ = w marshalled in
      let then = sees_marshalled terms.outputs (step slots marshalled 0 0 none) me in
      let own = mine terms s r id me.0 p at one in
      let knows = own.2 in
      let owns = gateway_owns terms w r.log p k role knows in
      let own_is : w (taken k) ≡ p.sequence = owns.1 in
      let below : w (taken k) ≤ x = r.outgoing.taken_marshalled k owns.0 in
      let after_load = knows_looked terms w r.log p marshalled x (λ _. le_refl x) knows in
      dite (ℕ_discrete x p.sequence)
      (λ (same : x ≡ p.sequence). looks terms s r marshalled id me (looked p marshalled x) then at one refl after_load
      ((omega arith), (λ _. refl), (λ (more : p.sequence < x). absurd (omega arith))))
      (λ (ne : x ≢ p.sequence). let h = r.log.history in let longer = goes_on_kept terms w r.log p k role r.outgoing knows in
      let rest : List Message = longer.0 in let is : h ≡ p.seen ++ rest = longer.1 in
      let front : IsFront r.log.status (p.seen ++ rest) = subst (IsFront r.log.status) is r.outgoing.front in
      let kept : length (p.seen ++ rest) ≤ w journalled = (let a : length h ≡ w journalled = r.outgoing.kept in
      let b : length h ≡ length (p.seen ++ rest) = ap (λ (l : List Message). length l) is in omega arith) in
      looks terms s r marshalled id me (knowing (looked p marshalled x) rest) then at one refl
      (knows_knowing terms w r.log (looked p marshalled x) rest front
      (subst (λ (z : Role). Depth w z (length (p.seen ++ rest))) (sym role) kept) after_load) (
        (omega arith),
        (λ same. absurd (ne same)),
        λ more. (
          rest,
          refl,
          subst (λ (b : List Message). IsLegal (length b) p (p.seen ++ rest)) (sym own.1)
              (legal_front terms w r.log p (p.seen ++ rest) r.logged knows front),
          (let claimed = r.order.journalled_claimed in let most = r.order.most in omega arith),
          λ logic view_is. (let logic_is : terms.logic ≡ logic = same_Some terms.logic logic (sym own.0 ∙ view_is) in
              let found = has_output terms w r.log p.sequence r.outgoing more in (
                found.0,
                subst (λ (l : L). get_elem? (terms.outputs l (p.seen ++ rest)) p.sequence ≡ some found.0) logic_is
                    (subst (λ (b : List Message). get_elem? (outputs_by terms b) p.sequence ≡ some found.0) is found.1),
              )),
        ),
      ))

  -- a gateway moves its taken word behind the next output, which a value of marshalled that it loaded showed
  pub stores_taken : (slots id k : ℕ) (me : Seated Boxed L) (x : ℕ) → IsAlone me.0 → (person me.0).role ≡ Gateway k
      → x ≡ suc (person me.0).sequence → Shows marshalled (person me.0) (person me.0).sequence
      → Allows (Lawful terms) slots id me (taken k) (λ _. x) (λ _. moves_own (step slots (taken k) x 0 none) me x)
  stores_taken slots id k me x one role next shown s r wide at _ =
      let p = person me.0 in
      let ws = s.words in
      let w = words_of s in
      let here : ℕ = taken k in
      let w' : ℕ → ℕ = λ (j : ℕ). get_or (set ws here x) j 0 in
      let knows = (mine terms s r id me.0 p at one).2 in
      let owns = gateway_owns terms w r.log p k role knows in
      let own_is : w here ≡ p.sequence = owns.1 in
      let lo : 1 ≤ k = owns.0.0 in let hi : k ≤ terms.gateways = owns.0.1 in let few = r.few in
      let below : p.sequence < w marshalled = still_above terms w r.log p marshalled p.sequence knows (omega arith) shown in
      let inside : here < length ws = (let v = r.wide in let n : ℕ = terms.rows in let m : ℕ = terms.output_rows in
      omega arith) in
      let stored : w' here ≡ x = word_here ws here x inside in
      let else : (j : ℕ) → j ≢ here → w' j ≡ w j = λ j ne. word_else ws here j x ne in (
        alone me.0 (moved p x),
        keeps,
        tt,
        own_output_now terms s r id me here x at one (ap word_of_role role) (omega arith) (omega arith) (omega arith)
            (outgoing_taken terms w w' r.log k few owns.0 else (omega arith) (omega arith) r.outgoing),
        refl,
      )

  -- the same, at the place that the code found
  pub stores_taken_at : (slots id k : ℕ) (me : Seated Boxed L) (place x : ℕ) → place ≡ taken k → IsAlone me.0
      → (person me.0).role ≡ Gateway k → x ≡ suc (person me.0).sequence → Shows marshalled (person me.0) (person me.0).sequence
      → Allows (Lawful terms) slots id me place (λ _. x) (λ _. moves_own (step slots place x 0 none) me x)
  stores_taken_at slots id k me place x is one role next shown =
      subst (λ (j : ℕ). Allows (Lawful terms) slots id me j (λ _. x) (λ _. moves_own (step slots j x 0 none) me x))
      (sym is) (stores_taken slots id k me x one role next shown)
