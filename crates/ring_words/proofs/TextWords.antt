-- A store of a text word keeps the rule: the marshaller alone writes there, and no text that may be read lies there.
use Rattle.std.proofs.Common.{◌≡◌, ◌≢◌, ℕ, ◌+◌, ◌%◌, ◌<◌, ◌≤◌, length, get_or, set, ap, sym, subst, ◌∙◌, arith, le_refl}
use mathlib.Core.Option.{none, some}
use lib.ListN.{get_elem?}
use Rattle.atomic_table.specs.Table.{State, step, keeps, Allows}
use Rattle.ring_words.specs.Slots.{Boxed}
use Rattle.ring_words.specs.declared.view.Role.{Role}
use Rattle.ring_words.specs.declared.view.Role.TheVariants.{Marshal}
use Rattle.ring_words.specs.declared.view.View.{View}
use Rattle.ring_words.specs.Places.{marshalled, taken, published, in_row, out_row, word_of_role}
use Rattle.ring_words.specs.Terms.{Terms}
use Rattle.ring_words.specs.Rule.{IsGateway, PartOf, words_of, Lawful}
use Rattle.ring_words.specs.Seats.{person, IsAlone, alone, stored}
use Rattle.ring_words.specs.Steps.{Seated, GoesOnRow, Shows, MayWriteText, stores_text}
use Rattle.ring_words.proofs.Windows.{one_window}
use Rattle.ring_words.proofs.Puts.{word_here}
use Rattle.ring_words.proofs.WrittenTexts.{texts_on, texts_below}
use Rattle.ring_words.proofs.Keeps.{mine}
use Rattle.ring_words.proofs.Outgoings.{still_above, no_output}
use Rattle.ring_words.proofs.OutputRows.{same_out_row, out_row_inside}
use Rattle.ring_words.proofs.RowWords.{row_apart, output_else}
use Rattle.ring_words.proofs.Stays.{all_rows, one_word_more, word_stored}

module _ {L : Type 0} (terms : Terms L) where
  -- the rule holds after a text word is stored in the row of an output that is published and not released
  pub text_stored_now : (s : State Boxed (View L)) (r : Lawful terms s) (id a i x : ℕ) (me : Seated Boxed L)
      → get_elem? s.views id ≡ some me.0 → IsAlone me.0 → (person me.0).role ≡ Marshal
      → (person me.0).sequence ≤ a → a < words_of s published → i < 64 → GoesOnRow (person me.0).row a i
      → MayWriteText (terms.outputs terms.logic) (terms.text terms.logic) (person me.0) a
      → Lawful terms record {
        words = set s.words (out_row terms.rows terms.output_rows a (i + 64)) x;
        homes = s.homes;
        views = set s.views id (alone me.0 (stored (person me.0) a i x));
      }
  text_stored_now s r id a i x me at one role from ready small goes_on may =
      let p = person me.0 in
      let n : ℕ = terms.rows in
      let m : ℕ = terms.output_rows in
      let ws = s.words in
      let w = words_of s in
      let here : ℕ = out_row n m a (i + 64) in
      let w' : ℕ → ℕ = λ (j : ℕ). get_or (set ws here x) j 0 in
      let low : i + 64 < 128 = omega arith in
      let knows = (mine terms s r id me.0 p at one).2 in let out = r.outgoing in
      let own_is : w marshalled ≡ p.sequence = subst (λ (z : Role). w (word_of_role z) ≡ p.sequence) role knows.sequence in
      let inside : here < length ws = subst (λ (y : ℕ). here < y) (sym r.wide)
      (out_row_inside n m a (i + 64) r.some_output_row low) in
      let rows : (t j : ℕ) → j < 64 → w' (in_row n t j) ≡ w (in_row n t j) =
      λ t j few. row_apart ws n m a (i + 64) t j x r.some_row few in
      let stays : (q j : ℕ) → j < 128 → (q % m ≡ a % m → j ≢ i + 64)
      → w' (out_row n m q j) ≡ w (out_row n m q j) = λ q j few. output_else ws n m q a j (i + 64) x few low in
      let outputs : (q j : ℕ) → j < 64 → w' (out_row n m q j)
      ≡ w (out_row n m q j) = λ q j few. stays q j (omega arith) (λ _. (λ (e : j ≡ i + 64). omega arith)) in
      word_stored terms s r id here a i x me at one (λ c few. no_output n m a (i + 64) c (omega arith))
      (all_rows terms w w' r.log rows)
      record {
        addresses = λ k q g lo hi. outputs q 0 (omega arith);
        texts = λ k q g lo hi j few. (let free : w 104 ≤ w (taken k) + m = out.free k g in
            let ready' : a < w 104 = ready in
            let b : w (taken k) ≤ w 32 = out.taken_marshalled k g in let c : w 32 ≤ w 104 = out.marshalled_published in
            stays q (j + 64) (omega arith)
            (λ same. absurd (let one_place : q ≡ a = one_window (w (taken k)) q a m (omega arith) (omega arith)
            (omega arith) (omega arith) same in omega arith)));
      }
      (subst (λ (z : Role). PartOf n m w' r.log z (stored p a i x).row) (sym role)
      (one_word_more (λ (j y : ℕ). (j < 64) × (w' (out_row n m a (j + 64)) ≡ y)) p.row a i x goes_on
      (λ j y lt on there. (let h = subst (λ (z : Role). PartOf n m w r.log z p.row) role knows.row j y there in (
        h.0,
        stays a (j + 64) (let few = h.0 in omega arith) (λ _. (λ (e : j + 64 ≡ i + 64). omega arith))
            ∙ ap (λ (t : ℕ). w (out_row n m t (j + 64))) (sym on) ∙ h.1,
      )))
      (small, word_here ws here x inside)))
      (λ is. absurd (let z : 32 ≡ 16 = ap word_of_role (sym role ∙ is) in omega arith))
      (λ _. (let below = texts_below terms w p (subst (λ (z : Role). PartOf n m w r.log z p.row) role knows.row)
      (knows.written_texts role) a may in
      texts_on terms w w' p.seen p.sequence p.sequence a (le_refl p.sequence)
      (λ q j lo hi few. (let ready' : a < w 104 = ready in
      let first : IsGateway terms.gateways 1 = ((omega arith), r.some_gateway) in
      let free : w 104 ≤ w (taken 1) + m = out.free 1 first in
      let behind : w (taken 1) ≤ w 32 = out.taken_marshalled 1 first in
      stays q (j + 64) (omega arith)
      (λ same. absurd (let one_place : q ≡ a = one_window p.sequence q a m lo (omega arith) (omega arith) (omega arith)
      same in omega arith))))
      below))
      (λ o other. record {
        raw = λ t j q o_is few t_is. (t_is, rows t (j + 1) (omega arith));
        commands = λ t j o_is few. rows t (j + 48) (omega arith);
        outputs = λ q j o_is few. outputs q j (omega arith);
        texts = λ q j o_is few. absurd (other (ap word_of_role o_is ∙ sym (ap word_of_role role)));
      })

  -- the marshaller stores the next word of the text of an output that is published and not released
  pub writes_text : (slots id a i x : ℕ) (me : Seated Boxed L) → IsAlone me.0 → (person me.0).role ≡ Marshal
      → (person me.0).sequence ≤ a → Shows published (person me.0) a → i < 64 → GoesOnRow (person me.0).row a i
      → MayWriteText (terms.outputs terms.logic) (terms.text terms.logic) (person me.0) a
      → Allows (Lawful terms) slots id me (out_row terms.rows terms.output_rows a (i + 64)) (λ _. x)
      (λ _. stores_text terms.rows terms.output_rows
      (step slots (out_row terms.rows terms.output_rows a (i + 64)) x 0 none) me x)
  writes_text slots id a i x me one role from to small goes_on may s r wide at _ =
      let p = person me.0 in
      let w = words_of s in
      let knows = (mine terms s r id me.0 p at one).2 in
      let out = r.outgoing in
      let own_is : w marshalled ≡ p.sequence = subst (λ (z : Role). w (word_of_role z) ≡ p.sequence) role knows.sequence in
      let first : IsGateway terms.gateways 1 = ((omega arith), r.some_gateway) in
      let free = out.free 1 first in
      let behind = out.taken_marshalled 1 first in
      let ready = still_above terms w r.log p published a knows (omega arith) to in (
        alone me.0 (stored p a i x),
        keeps,
        tt,
        text_stored_now s r id a i x me at one role from ready small goes_on may,
        λ q j from_q to_q low place_is. (
            let both = same_out_row terms.rows terms.output_rows a q (i + 64) (j + 64)
            (let g : i + 64 < 128 = omega arith in g) (let g : j + 64 < 128 = omega arith in g) place_is in
            let ready_q = still_above terms w r.log p published q knows (omega arith) to_q in
            let eq : a ≡ q = one_window p.sequence a q terms.output_rows from from_q (omega arith) (omega arith) both.0 in
            let same_word : i + 64 ≡ j + 64 = both.1 in let word_is : i ≡ j = omega arith in
            ap (λ (z : ℕ). (alone me.0 (stored p z i x), me.1)) eq
            ∙ ap (λ (z : ℕ). (alone me.0 (stored p q z x), me.1)) word_is),
      )

  -- the same, where the code's sizes are the key's
  pub writes_text_in : (n m : ℕ) → terms.rows ≡ n → terms.output_rows ≡ m
      → (slots id a i x : ℕ) (me : Seated Boxed L) (place : ℕ) → IsAlone me.0 → (person me.0).role ≡ Marshal
      → (person me.0).sequence ≤ a → Shows published (person me.0) a
      → i < 64 → GoesOnRow (person me.0).row a i → MayWriteText (terms.outputs terms.logic) (terms.text terms.logic)
      (person me.0) a → place ≡ out_row n m a (i + 64) → Allows (Lawful terms) slots id me place (λ _. x)
      (λ _. stores_text n m (step slots place x 0 none) me x)
  writes_text_in n m rows output_rows slots id a i x me place one role from to small goes_on may place_is =
      subst (λ (y : ℕ). Allows (Lawful terms) slots id me y (λ _. x)
      (λ _. stores_text n m (step slots y x 0 none) me x)) (sym place_is)
      (subst (λ (k : ℕ). Allows (Lawful terms) slots id me (out_row n k a (i + 64)) (λ _. x)
      (λ _. stores_text n k (step slots (out_row n k a (i + 64)) x 0 none) me x)) output_rows
      (subst (λ (k : ℕ). Allows (Lawful terms) slots id me (out_row k terms.output_rows a (i + 64)) (λ _. x)
      (λ _. stores_text k terms.output_rows (step slots (out_row k terms.output_rows a (i + 64)) x 0 none) me x))
      rows
      (writes_text slots id a i x me one role from to small goes_on may)))
