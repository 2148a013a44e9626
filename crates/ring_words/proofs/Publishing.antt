-- The store of published keeps the rule: the next output stands whole in its row, and it is one of the entries
-- processed or of the next one.
use Rattle.std.proofs.Common.{◌≡◌, ◌≢◌, ℕ, suc, ◌+◌, ◌*◌, ◌%◌, ◌<◌, ◌≤◌, List, [], ◌∷◌, length, length-set, mod-lt}
use Rattle.std.proofs.Common.{take, drop, get_or, set, refl, ap, sym, subst, ◌∙◌, arith, take-append-drop}
use mathlib.Core.Option.{none, some, some-injective, some-ne-none}
use mathlib.Core.Logic.{dite}
use native.Mathlib.Decide.{ℕ_discrete}
use lib.ListN.{get_elem?}
use Rattle.std.specs.Prelude.{None, Some}
use Rattle.std.proofs.lemmas.Option.{same_Some}
use Rattle.atomic_table.specs.Table.{step, gives, put_back, Allows}
use Rattle.venue_model.specs.History.{Message}
use Rattle.venue_model.specs.declared.outputs.Output.{Output}
use Rattle.venue_model.specs.ListLaws.{within}
use Rattle.ring_words.specs.Slots.{Boxed, Slots, report_of, OutOf}
use Rattle.ring_words.specs.declared.view.Role.{Role}
use Rattle.ring_words.specs.declared.view.Role.TheVariants.{Process, Unmarshal, Journal, Marshal, Gateway}
use Rattle.ring_words.specs.Places.{processed, journalled, marshalled, taken, published, first_row, in_row, out_row}
use Rattle.ring_words.specs.Places.{word_of_role}
use Rattle.ring_words.specs.Log.{Log}
use Rattle.ring_words.specs.declared.report.PlacedOutput.{PlacedOutput}
use Rattle.ring_words.specs.declared.view.Person.{Person}
use Rattle.ring_words.specs.Terms.{Terms, outputs_by}
use Rattle.ring_words.specs.Rule.{IsGateway, IsRole, Depth, PartOf, Outgoing, words_of, at_place, Lawful}
use Rattle.ring_words.specs.Seats.{person, IsAlone, alone, wrote, with_out}
use Rattle.ring_words.specs.Steps.{Seated, HasOutputRoom, publishes}
use Rattle.ring_words.proofs.Windows.{no_control, one_window}
use Rattle.ring_words.proofs.Puts.{put, put_here, put_else, word_here, word_else}
use Rattle.ring_words.proofs.Homes.{filling_given}
use Rattle.ring_words.proofs.Logs.{knows_on, knows_risen, knows_out, others_out}
use Rattle.ring_words.proofs.Keeps.{mine, after}
use Rattle.ring_words.proofs.Outputs.{begins, take_longer, output_stays}
use Rattle.ring_words.proofs.Outgoings.{no_output}
use Rattle.ring_words.proofs.Stays.{all_rows, ordered_stays, logged_stays, rows_stay, logged_out, rows_out}
use Rattle.ring_words.proofs.Stores.{risen}
use Rattle.ring_words.proofs.Putting.{at_published, has_room, another_row}

-- published is no role's own word
pub not_published : (g : ℕ) (role : Role) → g ≤ 8 → IsRole g role → word_of_role role ≢ published
not_published g Process few h e = omega arith
not_published g Unmarshal few h e = omega arith
not_published g Journal few h e = omega arith
not_published g Marshal few h e = omega arith
not_published g (Gateway k) few h e = let is : 32 + 8 * k ≡ 104 = e in let most : k ≤ g = h.1 in omega arith

-- this report stands for the row, and the processor has nothing out
abbrev pub published_slots : Slots → ℕ → PlacedOutput → Slots
published_slots slots j x = record { reports = put slots.reports j (some x); filling = None; reading = slots.reading }

module _ {L : Type 0} (terms : Terms L) where
  -- the output ring's part of the rule stays where published rises by one: the address of the output at its place,
  -- which is one of the entries processed
  -- or of the next one, stands in its row, its report now stands for the row, and every gateway has passed that row
  pub outgoing_published : (w w' : ℕ → ℕ) (log : Log) (o : Output) → terms.gateways ≤ 8
      → w' published ≡ suc (w published) → ((k : ℕ) → k < published → w' k ≡ w k)
      → ((q i : ℕ) → w' (out_row terms.rows terms.output_rows q i) ≡ w (out_row terms.rows terms.output_rows q i))
      → ((k : ℕ) → IsGateway terms.gateways k → w published < w (taken k) + terms.output_rows)
      → get_elem? (outputs_by terms (take (suc (w processed)) log.history)) (w published) ≡ some o
      → w (out_row terms.rows terms.output_rows (w published) 0) ≡ o.to → (x : PlacedOutput)
      → x ≡ report_of o (w published) → w published < w marshalled + terms.output_rows
      → Outgoing terms w log → Outgoing terms w'
      (record log { slots = published_slots log.slots (w published % terms.output_rows) x })
  outgoing_published w w' log o few next control rows room at address x x_is behind r =
      let h = log.history in
      let zero_is : w' 0 ≡ w 0 = control 0 (omega arith) in
      let m : w' 32 ≡ w 32 = control 32 (omega arith) in
      let taken_stays : (k : ℕ) → IsGateway terms.gateways k → w' (taken k)
      ≡ w (taken k) = λ k g. (let hi : k ≤ terms.gateways = g.1 in control (taken k) (omega arith)) in
      let below : w 32 ≤ w 104 = r.marshalled_published in
      let whole : get_elem? (outputs_by terms h) (w 104) ≡ some o =
      subst (λ (l : List Message). get_elem? (outputs_by terms l) (w 104) ≡ some o) (take-append-drop (suc (w 0)) h)
      (output_stays terms (take (suc (w 0)) h) (drop (suc (w 0)) h) (w 104) o at) in
      let is_it : (q : ℕ) (d : Output) → q ≡ w 104 → get_elem? (outputs_by terms h) q ≡ some d → o ≡ d =
      λ q d here there. some-injective o d
      (sym whole ∙ subst (λ (j : ℕ). get_elem? (outputs_by terms h) j ≡ some d) here there) in
      record {
        kept = r.kept ∙ sym (control journalled (omega arith));
        front = r.front;
        marshalled_published = omega arith;
        taken_marshalled = λ k g. (let e = taken_stays k g in let a : w (taken k) ≤ w 32 = r.taken_marshalled k g in
            omega arith);
        free = λ k g. (let e = taken_stays k g in let a : w 104 < w (taken k) + terms.output_rows = room k g in omega arith);
        least = (let is : length (outputs_by terms (take (w' 0) h))
            ≡ length (outputs_by terms (take (w 0) h)) = ap (λ (y : ℕ). length (outputs_by terms (take y h)))
            zero_is in
            let a : length (outputs_by terms (take (w 0) h)) ≤ w 104 = r.least in omega arith);
        most = (let is : length (outputs_by terms (take (suc (w' 0)) h))
            ≡ length (outputs_by terms (take (suc (w 0)) h)) =
            ap (λ (y : ℕ). length (outputs_by terms (take (suc y) h))) zero_is in
            let a = within (outputs_by terms (take (suc (w 0)) h)) (w 104) o at in omega arith);
        addresses = λ k q d g from to there. (let e = taken_stays k g in rows q 0 ∙ dite (ℕ_discrete q (w 104))
            (λ here. ap (λ (j : ℕ). w (out_row terms.rows terms.output_rows j 0)) here ∙ address
            ∙ ap (λ (z : Output). z.to) (is_it q d here there))
            (λ ne. r.addresses k q d g (omega arith) (omega arith) there));
        reports = λ k q d g from to there. (let e = taken_stays k g in
            let a : w 104 < w (taken k) + terms.output_rows = room k g in
            let b : w (taken k) ≤ w 32 = r.taken_marshalled k g in dite (ℕ_discrete q (w 104))
            (λ here. ap (λ (j : ℕ). put log.slots.reports (w 104 % terms.output_rows) (some x) (j % terms.output_rows))
            here ∙ put_here log.slots.reports (w 104 % terms.output_rows) (some x)
            ∙ ap some (x_is ∙ ap (λ (z : Output). report_of z (w 104)) (is_it q d here there)
            ∙ ap (report_of d) (sym here)))
            (λ ne. put_else log.slots.reports (w 104 % terms.output_rows) (q % terms.output_rows) (some x)
            (λ same. ne (one_window (w (taken k)) q (w 104) terms.output_rows (omega arith) (omega arith) (omega arith)
            a same)) ∙ r.reports k q d g (omega arith) (omega arith) there));
        filling = λ f is. absurd (let none_is : None ≡ Some f = is in cc);
        reading = λ f is. (let h = r.reading f is in let lo : w 32 ≤ f.place = h.1 in let hi : f.place < w 104 = h.2 in (
          put_else log.slots.reports (w 104 % terms.output_rows) (f.place % terms.output_rows) (some x)
              (another_row terms w f.place below behind lo hi) ∙ h.0,
          (omega arith),
          (omega arith),
        ));
        texts = λ k q d g from to there i y word. (let e = taken_stays k g in
            rows q (i + 64) ∙ r.texts k q d g (omega arith) (omega arith) there i y word);
        readable = λ k q d g from to there. (let e = taken_stays k g in r.readable k q d g (omega arith) (omega arith) there);
      }

module _ {L : Type 0} (terms : Terms L) where
  -- the processor publishes the next output, whose address it stored, and brings the slot of its row back with its
  -- report
  pub stores_published : (slots id : ℕ) (me : Seated Boxed L) (x : ℕ) (lg : L) (o : Output) (f : PlacedOutput)
      (b : Boxed) → me.0.logic ≡ Some lg → IsAlone me.0 → (person me.0).role ≡ Process
      → x ≡ suc (person me.0).row.sequence
      → HasOutputRoom terms.gateways terms.output_rows (person me.0) (person me.0).row.sequence
      → get_elem? (terms.outputs lg (take (suc (person me.0).sequence) (person me.0).seen)) (person me.0).row.sequence
      ≡ some o → (person me.0).row.words ≡ o.to ∷ []
      → (person me.0).out ≡ Some f → f.place ≡ (person me.0).row.sequence
      → me.1 ≡ ((person me.0).row.sequence % terms.output_rows, b) ∷ []
      → b.value ≡ report_of o (person me.0).row.sequence
      → Allows (Lawful terms) slots id me published (λ _. x) (λ _. publishes (step slots published x 0 none) me x)
  stores_published slots id me x lg o f b view_is one role next room at_by whole out_is place_f carried b_is s r wide at
      _ =
      let p = person me.0 in let n : ℕ = terms.rows in let m : ℕ = terms.output_rows in let h = r.log.history in
      let ws = s.words in let w = words_of s in let ws' = set ws 104 x in let w' : ℕ → ℕ = λ (j : ℕ). get_or ws' j 0 in
      let own = mine terms s r id me.0 p at one in
      let knows = own.2 in
      let own_is : w 0 ≡ p.sequence = subst (λ (z : Role). w (word_of_role z) ≡ p.sequence) role knows.sequence in
      let deep = subst (λ (z : Role). Depth w z (length p.seen)) role knows.depth in
      let deep_1 : length p.seen ≤ w 24 = deep.1 in
      let part = at_published terms s r id me at one role in let place_is : p.row.sequence ≡ w 104 = part.0 in
      let logic_is : lg ≡ terms.logic = same_Some lg terms.logic (sym view_is ∙ own.0) in
      let inside : 104 < length ws = (let v = r.wide in omega arith) in
      let here : w' 104 ≡ x = word_here ws 104 x inside in
      let else : (k : ℕ) → k ≢ 104 → w' k ≡ w k = λ k ne. word_else ws 104 k x ne in
      let same : (t i : ℕ) → w' (in_row n t i) ≡ w (in_row n t i) =
      λ t i. else (in_row n t i) (no_control n t i 104 (omega arith)) in
      let same_out : (q i : ℕ) → w' (out_row n m q i) ≡ w (out_row n m q i) =
      λ q i. else (out_row n m q i) (no_output n m q i 104 (omega arith)) in
      let rises : (j : ℕ) → j < first_row → w j ≤ w' j = λ j _. risen ws 104 x j inside
      (let up : w 104 ≤ x = omega arith in up) in
      let kept_now : length h ≡ w 24 = r.outgoing.kept in
      let longer = begins r.log.status h p.seen r.outgoing.front knows.front (omega arith) in
      let more = take_longer (suc p.sequence) p.seen longer.0 in
      let first : get_elem? (outputs_by terms (take (suc p.sequence) p.seen)) p.row.sequence
      ≡ some o = subst (λ (l : L). get_elem? (terms.outputs l (take (suc p.sequence) p.seen)) p.row.sequence ≡ some o)
      logic_is at_by in
      let grown : get_elem? (outputs_by terms (take (suc p.sequence) h)) p.row.sequence
      ≡ some o = subst (λ (l : List Message). get_elem? (outputs_by terms l) p.row.sequence ≡ some o)
      (sym (ap (take (suc p.sequence)) longer.1 ∙ more.1))
      (output_stays terms (take (suc p.sequence) p.seen) more.0 p.row.sequence o first) in
      let in_history : get_elem? (outputs_by terms (take (suc (w 0)) h)) (w 104)
      ≡ some o = subst (λ (k : ℕ). get_elem? (outputs_by terms (take (suc k) h)) (w 104) ≡ some o) (sym own_is)
      (subst (λ (q : ℕ). get_elem? (outputs_by terms (take (suc p.sequence) h)) q ≡ some o) place_is grown) in
      let address : w (out_row n m (w 104) 0) ≡ o.to = ap (λ (q : ℕ). w (out_row n m q 0)) (sym place_is)
      ∙ (part.1 0 o.to (ap (λ (l : List ℕ). get_elem? l 0) whole)).1 in
      let filling_is : r.log.slots.filling
      ≡ Some f = sym (subst (λ (z : Role). OutOf r.log.slots z p.out) role knows.out) ∙ out_is in
      let behind = (r.outgoing.filling f filling_is).1 in
      let slots' : Slots = published_slots r.log.slots (w 104 % m) b.value in
      let row_is : p.row.sequence % m ≡ w 104 % m = ap (λ (q : ℕ). q % m) place_is in
      let input : (c : ℕ) → c < marshalled → w' c ≡ w c = λ c low. else c (λ (e : c ≡ 104). omega arith) in (
        alone me.0 (with_out (at_place p x) None),
        gives,
        tt,
        subst (λ (c : List (ℕ × Boxed)). Lawful terms record {
          words = ws';
          homes = put_back s.homes c;
          views = set s.views id (alone me.0 (with_out (at_place p x) None));
        })
            (sym (carried ∙ ap (λ (j : ℕ). (j, b) ∷ []) row_is))
            (after terms s r ws' id me.0 p (with_out (at_place p x) None) at one refl (length-set ws 104 x)
            (record r.log { slots = slots' })
            (ordered_stays terms w w' r.log input r.order)
            (logged_out terms w' r.log slots' (logged_stays terms w w' r.log input r.logged))
            (rows_out terms w' r.log slots'
            (rows_stay terms w w' r.log input r.logged (all_rows terms w w' r.log (λ t i _. same t i)) r.rows))
            (outgoing_published terms w w' r.log o r.few (here ∙ next ∙ ap suc place_is)
            (λ k low. else k (λ (e : k ≡ 104). let lt : k < 104 = low in omega arith)) same_out
            (λ k g. (let lt = has_room terms s r id me p.row.sequence at one room k g in omega arith)) in_history
            address b.value (b_is ∙ ap (report_of o) place_is) behind r.outgoing)
            (set s.homes (w 104 % m) (some b))
            (filling_given m r.log.slots s.homes r.filled f b (w 104 % m) (ap (λ (q : ℕ). q % m) (place_f ∙ place_is))
            (mod-lt (w 104) r.some_output_row) filling_is)
            (knows_out terms w' r.log slots' (at_place p x) None
            (subst (λ (z : Role). OutOf slots' z None) (sym role) refl)
            (knows_on terms w r.log w' p p.sequence (at_place p x).row rises
            (else (word_of_role p.role) (not_published terms.gateways p.role r.few knows.role) ∙ knows.sequence)
            (subst (λ (z : Role). PartOf n m w' r.log z (at_place p x).row) (sym role)
            (sym here, λ i y there. absurd (some-ne-none y (sym there))))
            (λ is. absurd (let z : 0 ≡ 16 = ap word_of_role (sym role ∙ is) in omega arith))
            (λ is. absurd (let z : 0 ≡ 32 = ap word_of_role (sym role ∙ is) in omega arith)) knows))
            (λ d other known. knows_out terms w' r.log slots' d d.out
            (others_out r.log.slots slots' d.role d.out
            (λ is. absurd (other (ap word_of_role is ∙ sym (ap word_of_role role)))) (λ _. refl) known.out)
            (knows_risen terms w r.log w' d d.sequence rises same same_out
            (λ (is : d.role ≡ Process). absurd (other (ap word_of_role is ∙ sym (ap word_of_role role))))
            (else (word_of_role d.role) (not_published terms.gateways d.role r.few known.role) ∙ known.sequence) known))),
        refl,
      )

  -- the same, where the code's numbers of output rows and gateways are the key's
  pub stores_published_in : (m g : ℕ) → terms.output_rows ≡ m → terms.gateways ≡ g
      → (slots id : ℕ) (me : Seated Boxed L) (x : ℕ) (lg : L) (o : Output) (f : PlacedOutput) (b : Boxed)
      → me.0.logic ≡ Some lg → IsAlone me.0
      → (person me.0).role ≡ Process → x ≡ suc (person me.0).row.sequence
      → HasOutputRoom g m (person me.0) (person me.0).row.sequence
      → get_elem? (terms.outputs lg (take (suc (person me.0).sequence) (person me.0).seen)) (person me.0).row.sequence
      ≡ some o → (person me.0).row.words ≡ o.to ∷ []
      → (person me.0).out ≡ Some f → f.place ≡ (person me.0).row.sequence
      → me.1 ≡ ((person me.0).row.sequence % m, b) ∷ [] → b.value ≡ report_of o (person me.0).row.sequence
      → Allows (Lawful terms) slots id me published (λ _. x) (λ _. publishes (step slots published x 0 none) me x)
  stores_published_in m g is many slots id me x lg o f b view_is one role next room at_by whole out_is place_f carried
      b_is =
      stores_published slots id me x lg o f b view_is one role next
      (subst (λ (j : ℕ). HasOutputRoom j terms.output_rows (person me.0) (person me.0).row.sequence) (sym many)
      (subst (λ (j : ℕ). HasOutputRoom g j (person me.0) (person me.0).row.sequence) (sym is) room))
      at_by whole out_is place_f (carried ∙ ap (λ (j : ℕ). ((person me.0).row.sequence % j, b) ∷ []) (sym is)) b_is

  -- the same behind the store of the address and the exchange: the slot of the row is out, with the report
  pub publishes_put : (m g : ℕ) → terms.output_rows ≡ m → terms.gateways ≡ g
      → (slots id : ℕ) (me me' : Seated Boxed L) (x : ℕ) (lg : L) (o : Output) (f : PlacedOutput) (b : Boxed)
      → me.0.logic ≡ Some lg
      → (person me.0).role ≡ Process → x ≡ suc (person me.0).row.sequence
      → HasOutputRoom g m (person me.0) (person me.0).row.sequence
      → get_elem? (terms.outputs lg (take (suc (person me.0).sequence) (person me.0).seen)) (person me.0).row.sequence
      ≡ some o → f.place ≡ (person me.0).row.sequence → b.value ≡ report_of o (person me.0).row.sequence
      → me' ≡ (
        alone me.0 (with_out (wrote (person me.0) (person me.0).row.sequence (o.to ∷ [])) (Some f)),
        ((person me.0).row.sequence % m, b) ∷ [],
      )
      → Allows (Lawful terms) slots id me' published (λ _. x) (λ _. publishes (step slots published x 0 none) me' x)
  publishes_put m g is many slots id me me' x lg o f b view_is role next room at_by place_f b_is me_is = let p =
      person me.0 in
      let q : Person = with_out (wrote p p.row.sequence (o.to ∷ [])) (Some f) in
      subst (λ (z : Seated Boxed L). Allows (Lawful terms) slots id z published (λ _. x)
      (λ _. publishes (step slots published x 0 none) z x)) (sym me_is)
      (stores_published_in m g is many slots id (alone me.0 q, (p.row.sequence % m, b) ∷ []) x lg o f b view_is refl
      role next room at_by refl refl place_f refl b_is)
