-- A store of a command word keeps the rule: the unmarshaller alone writes there, and no command that may be read lies
-- there.
use Rattle.std.proofs.Common.{◌≡◌, ◌≢◌, ℕ, ◌+◌, ◌-◌, ◌%◌, ◌<◌, ◌≤◌, length, get_or, set, ap, sym, subst, ◌∙◌, arith}
use Rattle.std.proofs.Common.{le_refl}
use mathlib.Core.Option.{none, some}
use lib.ListN.{get_elem?}
use Rattle.atomic_table.specs.Table.{State, step, keeps, Allows}
use Rattle.venue_model.specs.ListLaws.{within}
use Rattle.ring_words.specs.Slots.{Boxed}
use Rattle.ring_words.specs.declared.view.Role.{Role}
use Rattle.ring_words.specs.declared.view.Role.TheVariants.{Unmarshal}
use Rattle.ring_words.specs.declared.view.View.{View}
use Rattle.ring_words.specs.Places.{claim, unmarshalled, in_row, out_row, word_of_role}
use Rattle.ring_words.specs.Terms.{Terms, commands_of, command_by}
use Rattle.ring_words.specs.Rule.{PartOf, words_of, Lawful}
use Rattle.ring_words.specs.Seats.{person, IsAlone, alone, stored}
use Rattle.ring_words.specs.Steps.{Seated, GoesOnRow, MayWrite, stores_command}
use Rattle.ring_words.proofs.Windows.{same_row, one_window, row_inside, no_control}
use Rattle.ring_words.proofs.Puts.{word_here, word_else}
use Rattle.ring_words.proofs.Written.{written_on, written_below}
use Rattle.ring_words.proofs.Logs.{short_words, reaches}
use Rattle.ring_words.proofs.Keeps.{mine}
use Rattle.ring_words.proofs.Outgoings.{all_outputs}
use Rattle.ring_words.proofs.RowWords.{row_else, output_apart}
use Rattle.ring_words.proofs.Stays.{one_word_more, word_stored}

module _ {L : Type 0} (terms : Terms L) where
  stored_now : (s : State Boxed (View L)) (r : Lawful terms s) (id a i x : ℕ) (me : Seated Boxed L)
      → get_elem? s.views id ≡ some me.0 → IsAlone me.0 → (person me.0).role ≡ Unmarshal
      → (person me.0).sequence ≤ a → a < length (person me.0).seen → i < 16 → GoesOnRow (person me.0).row a i
      → MayWrite (terms.reads terms.logic) (person me.0) a
      → Lawful terms record {
        words = set s.words (in_row terms.rows a (i + 48)) x;
        homes = s.homes;
        views = set s.views id (alone me.0 (stored (person me.0) a i x));
      }
  stored_now s r id a i x me at one role from known small goes_on may =
      let p = person me.0 in
      let n : ℕ = terms.rows in
      let m : ℕ = terms.output_rows in
      let ws = s.words in
      let w = words_of s in
      let here : ℕ = in_row n a (i + 48) in
      let w' : ℕ → ℕ = λ (j : ℕ). get_or (set ws here x) j 0 in
      let low : i + 48 < 64 = omega arith in
      let knows = (mine terms s r id me.0 p at one).2 in
      let own_is : w unmarshalled ≡ p.sequence = subst (λ (z : Role). w (word_of_role z) ≡ p.sequence) role knows.sequence in
      let inside : here < length ws = subst (λ (y : ℕ). here < y) (sym r.wide)
      (row_inside n m a (i + 48) r.some_row low) in
      let stays : (t j : ℕ) → j < 64 → (t % n ≡ a % n → j ≢ i + 48)
      → w' (in_row n t j) ≡ w (in_row n t j) = λ t j few. row_else ws n t a j (i + 48) x few low in
      let outside : (q j : ℕ) → w' (out_row n m q j) ≡ w (out_row n m q j) =
      λ q j. output_apart ws n m a (i + 48) q j x r.some_row low in
      let raw_stays : (t j : ℕ) → j < 48 → w' (in_row n t j)
      ≡ w (in_row n t j) = λ t j few. stays t j (omega arith) (λ _. (λ (e : j ≡ i + 48). omega arith)) in
      let unmarshalled_is : w' unmarshalled ≡ w unmarshalled =
      word_else ws here 16 x (λ e. no_control n a (i + 48) 16 (omega arith) (sym e)) in
      let reach = reaches terms w r.log p.seen r.logged knows.front in
      let first = r.order.processed_unmarshalled in
      let room = r.order.room in
      word_stored terms s r id here a i x me at one (no_control n a (i + 48))
      record {
        marks = λ t. raw_stays t 0 (omega arith);
        raw = λ t e is late j few. raw_stays t (j + 1) (omega arith);
        commands = λ t e is below late j few. stays t (j + 48) (omega arith)
            (λ same. absurd (let under : t < w unmarshalled = subst (λ (z : ℕ). t < z) unmarshalled_is below in
            let one_sequence : t ≡ a = one_window (w claim - n) t a n (omega arith) (omega arith) (omega arith)
            (omega arith) same in
            omega arith));
      }
      (all_outputs terms w w' outside)
      (subst (λ (z : Role). PartOf n m w' r.log z (stored p a i x).row) (sym role)
      (one_word_more (λ (j y : ℕ). (j < 16) × (w' (in_row n a (j + 48)) ≡ y)) p.row a i x goes_on
      (λ j y lt on there. (let h = subst (λ (z : Role). PartOf n m w r.log z p.row) role knows.row j y there in (
        h.0,
        stays a (j + 48) (let few = h.0 in omega arith) (λ _. (λ (e : j + 48 ≡ i + 48). omega arith))
            ∙ ap (λ (t : ℕ). w (in_row n t (j + 48))) (sym on) ∙ h.1,
      )))
      (small, word_here ws here x inside)))
      (λ _. (let below = written_below terms w p (subst (λ (z : Role). PartOf n m w r.log z p.row) role knows.row)
      (knows.written role) a may (omega arith) in
      written_on terms w w' p.seen p.sequence p.sequence a (le_refl p.sequence)
      (λ t j y e lo hi there. (let size = short_words e.gateway (command_by terms t e) in
      let few = within (commands_of terms t e) j y there in
      stays t (j + 48) (omega arith)
      (λ same. absurd (let one_sequence : t ≡ a = one_window p.sequence t a n lo from (omega arith) (omega arith) same in
      omega arith))))
      below))
      (λ is. absurd (let z : 16 ≡ 32 = ap word_of_role (sym role ∙ is) in omega arith))
      (λ o other. record {
        raw = λ t j q o_is few t_is. (t_is, raw_stays t (j + 1) (omega arith));
        commands = λ t j o_is few. absurd (other (ap word_of_role o_is ∙ sym (ap word_of_role role)));
        outputs = λ q j _ _. outside q j;
        texts = λ q j _ _. outside q (j + 64);
      })

  -- the unmarshaller stores the next word of the command of a sequence that it knows and hasn't released
  pub writes_command : (slots id a i x : ℕ) (me : Seated Boxed L) → IsAlone me.0 → (person me.0).role ≡ Unmarshal
      → (person me.0).sequence ≤ a → a < length (person me.0).seen → i < 16 → GoesOnRow (person me.0).row a i
      → MayWrite (terms.reads terms.logic) (person me.0) a
      → Allows (Lawful terms) slots id me (in_row terms.rows a (i + 48)) (λ _. x)
      (λ _. stores_command terms.rows (step slots (in_row terms.rows a (i + 48)) x 0 none) me x)
  writes_command slots id a i x me one role from known small goes_on may s r wide at _ =
      let p = person me.0 in let w = words_of s in let knows = (mine terms s r id me.0 p at one).2 in
      let own_is : w unmarshalled ≡ p.sequence = subst (λ (z : Role). w (word_of_role z) ≡ p.sequence) role knows.sequence in
      let reach = reaches terms w r.log p.seen r.logged knows.front in
      let order = r.order in
      let first = order.processed_unmarshalled in
      let room = order.room in (
        alone me.0 (stored p a i x),
        keeps,
        tt,
        stored_now s r id a i x me at one role from known small goes_on may,
        λ t j from_t known_t low place_is. (
            let both = same_row terms.rows a t (i + 48) (j + 48) (let g : i + 48 < 64 = omega arith in g)
            (let g : j + 48 < 64 = omega arith in g) place_is in
            let eq : a ≡ t = one_window p.sequence a t terms.rows from from_t (omega arith) (omega arith) both.0 in
            let same_word : i + 48 ≡ j + 48 = both.1 in let word_is : i ≡ j = omega arith in
            ap (λ (z : ℕ). (alone me.0 (stored p z i x), me.1)) eq
            ∙ ap (λ (z : ℕ). (alone me.0 (stored p t z x), me.1)) word_is),
      )

  pub writes_command_in : (n : ℕ) → terms.rows ≡ n → (slots id a i x : ℕ) (me : Seated Boxed L) (place : ℕ)
      → IsAlone me.0 → (person me.0).role ≡ Unmarshal → (person me.0).sequence ≤ a → a < length (person me.0).seen → i < 16
      → GoesOnRow (person me.0).row a i → MayWrite (terms.reads terms.logic) (person me.0) a
      → place ≡ in_row n a (i + 48) → Allows (Lawful terms) slots id me place (λ _. x)
      (λ _. stores_command n (step slots place x 0 none) me x)
  writes_command_in n is slots id a i x me place one role from known small goes_on may place_is =
      subst (λ (y : ℕ). Allows (Lawful terms) slots id me y (λ _. x)
      (λ _. stores_command n (step slots y x 0 none) me x)) (sym place_is)
      (subst (λ (j : ℕ). Allows (Lawful terms) slots id me (in_row j a (i + 48)) (λ _. x)
      (λ _. stores_command j (step slots (in_row j a (i + 48)) x 0 none) me x)) is
      (writes_command slots id a i x me one role from known small goes_on may))
