-- The processor's loads of taken words, and its store of an output's address in a row that every gateway has passed,
-- keep the rule.
use Rattle.std.proofs.Common.{◌≡◌, ◌≢◌, ℕ, zero, suc, ◌+◌, ◌*◌, ◌%◌, ◌<◌, ◌≤◌, [], ◌∷◌, length, length-set, get_or, set}
use Rattle.std.proofs.Common.{refl, ap, sym, subst, ◌∙◌, arith, le_refl, mod-lt}
use Rattle.std.specs.Prelude.{None, Some}
use Rattle.std.proofs.lemmas.Option.{same_Some}
use mathlib.Core.Option.{none, some, some-injective, some-ne-none}
use lib.ListN.{get_elem?}
use Rattle.atomic_table.specs.Table.{State, step, takes, Allows}
use Rattle.venue_model.specs.declared.outputs.Output.{Output}
use Rattle.ring_words.specs.Slots.{Boxed, Slots, report_of, OutOf}
use Rattle.ring_words.specs.declared.report.PlacedOutput.{PlacedOutput}
use Rattle.ring_words.specs.declared.view.Role.{Role}
use Rattle.ring_words.specs.declared.view.Role.TheVariants.{Process}
use Rattle.ring_words.specs.declared.view.Person.{Person}
use Rattle.ring_words.specs.declared.view.View.{View}
use Rattle.ring_words.specs.Places.{processed, journalled, marshalled, taken, published, first_row, in_row, out_row}
use Rattle.ring_words.specs.Places.{word_of_role}
use Rattle.ring_words.specs.Terms.{Terms}
use Rattle.ring_words.specs.Rule.{IsGateway, PartOf, words_of, Lawful}
use Rattle.ring_words.specs.Seats.{person, IsAlone, alone, looked, wrote, with_out}
use Rattle.ring_words.specs.Steps.{Seated, HasOutputRoom, sees_taken, puts_address}
use Rattle.ring_words.proofs.Windows.{one_window}
use Rattle.ring_words.proofs.Puts.{word_here, word_else}
use Rattle.ring_words.proofs.Homes.{no_row, filling_taken}
use Rattle.ring_words.proofs.Logs.{knows_looked, knows_on, knows_out, others_out}
use Rattle.ring_words.proofs.Keeps.{mine, after}
use Rattle.ring_words.proofs.Outgoings.{no_output, outgoing_stays, outgoing_out}
use Rattle.ring_words.proofs.OutputRows.{out_row_inside}
use Rattle.ring_words.proofs.RowWords.{row_apart, output_else}
use Rattle.ring_words.proofs.Stays.{place_low, ordered_stays, logged_stays, rows_stay, logged_out, rows_out, all_rows}
use Rattle.ring_words.proofs.Stays.{others_know}
use Rattle.ring_words.proofs.Loads.{looks}

-- of a list of one word what holds of that word holds of all
first_word : (F : ℕ → ℕ → Type 0) (x j y : ℕ) → F 0 x → get_elem? (x ∷ []) j ≡ some y → F j y
first_word F x zero y here is = subst (F 0) (some-injective x y is) here
first_word F x (suc j) y here is = absurd (some-ne-none y (sym is))

module _ {L : Type 0} (terms : Terms L) where
  -- the processor's place at the output ring is published, and the words stored so far stand in its row
  pub at_published : (s : State Boxed (View L)) (r : Lawful terms s) (id : ℕ) (me : Seated Boxed L)
      → get_elem? s.views id ≡ some me.0 → IsAlone me.0 → (person me.0).role ≡ Process
      → PartOf terms.rows terms.output_rows (words_of s) r.log Process (person me.0).row
  at_published s r id me at one role =
      subst (λ (z : Role). PartOf terms.rows terms.output_rows (words_of s) r.log z (person me.0).row) role
      (mine terms s r id me.0 (person me.0) at one).2.row

  -- what the taken values that were loaded leave room for, the taken words do
  pub has_room : (s : State Boxed (View L)) (r : Lawful terms s) (id : ℕ) (me : Seated Boxed L) (q : ℕ)
      → get_elem? s.views id ≡ some me.0 → IsAlone me.0 → HasOutputRoom terms.gateways terms.output_rows (person me.0) q
      → (k : ℕ) → IsGateway terms.gateways k → q < words_of s (taken k) + terms.output_rows
  has_room s r id me q at one room k g = let p = person me.0 in
      let w = words_of s in
      let few = r.few in
      let hi : k ≤ terms.gateways = g.1 in
      let found = room k g in
      let l = found.1.0 in
      let there = found.1.1 in
      let is = found.1.2 in
      let left : q < l.value + terms.output_rows = found.1.3 in
      let low : l.value ≤ w (taken k) = subst (λ (j : ℕ). l.value ≤ w j) is
      ((mine terms s r id me.0 p at one).2.loads found.0 l there
      (let j : ℕ = l.place in let j_is : j ≡ 32 + 8 * k = is in omega arith)) in
      omega arith

  -- a load of a gateway's taken word: not more outputs are taken than are published, and at most so many fewer as there
  -- are rows
  pub loads_taken : (slots id k : ℕ) (me : Seated Boxed L) → IsAlone me.0 → (person me.0).role ≡ Process
      → IsGateway terms.gateways k
      → Allows (Lawful terms) slots id me (taken k) (λ x. x)
      (sees_taken terms.output_rows (step slots (taken k) 0 0 none) me)
  loads_taken slots id k me one role g s r wide at _ = let p = person me.0 in
      let w = words_of s in
      let x : ℕ = w (taken k) in
      let knows = (mine terms s r id me.0 p at one).2 in
      let place_is : p.row.sequence ≡ w published = (at_published s r id me at one role).0 in
      let low : x ≤ w marshalled = r.outgoing.taken_marshalled k g in
      let high : w marshalled ≤ w published = r.outgoing.marshalled_published in
      let near : w published ≤ x + terms.output_rows = r.outgoing.free k g in
      looks terms s r (taken k) id me (looked p (taken k) x)
      (sees_taken terms.output_rows (step slots (taken k) 0 0 none) me) at one refl
      (knows_looked terms w r.log p (taken k) x (λ _. le_refl x) knows)
      (refl, (omega arith), (omega arith))

  -- the same, where the code's numbers of output rows and gateways are the key's
  pub loads_taken_in : (m g : ℕ) → terms.output_rows ≡ m → terms.gateways ≡ g
      → (slots id k : ℕ) (me : Seated Boxed L) (place : ℕ) → IsAlone me.0 → (person me.0).role ≡ Process → IsGateway g k
      → place ≡ taken k
      → Allows (Lawful terms) slots id me place (λ x. x) (sees_taken m (step slots place 0 0 none) me)
  loads_taken_in m g is many slots id k me place one role one_of place_is =
      subst (λ (y : ℕ). Allows (Lawful terms) slots id me y (λ x. x) (sees_taken m (step slots y 0 0 none) me))
      (sym place_is)
      (subst (λ (j : ℕ). Allows (Lawful terms) slots id me (taken k) (λ x. x)
      (sees_taken j (step slots (taken k) 0 0 none) me)) is
      (loads_taken slots id k me one role (subst (λ (j : ℕ). IsGateway j k) (sym many) one_of)))

  -- in rows that have room behind marshalled, an output that isn't marshalled doesn't lie in the row of the next place
  pub another_row : (w : ℕ → ℕ) (q : ℕ) → w marshalled ≤ w published → w published < w marshalled + terms.output_rows
      → w marshalled ≤ q → q < w published
      → q % terms.output_rows ≢ w published % terms.output_rows
  another_row w q order room from to same = let one_place : q
      ≡ w published = one_window (w marshalled) q (w published) terms.output_rows from order (omega arith) room same in
      omega arith

  -- the rule holds after the store of the address of the next output in its row, which every gateway has passed, and
  -- whose slot is taken out
  put_now : (s : State Boxed (View L)) (r : Lawful terms s) (id x : ℕ) (me : Seated Boxed L) (f : PlacedOutput)
      → get_elem? s.views id ≡ some me.0 → IsAlone me.0 → (person me.0).role ≡ Process
      → (person me.0).out ≡ None → f.place ≡ (person me.0).row.sequence
      → HasOutputRoom terms.gateways terms.output_rows (person me.0) (person me.0).row.sequence
      → ((b : Boxed) × (get_elem? s.homes ((person me.0).row.sequence % terms.output_rows) ≡ some (some b)))
      × Lawful terms record {
        words = set s.words (out_row terms.rows terms.output_rows (person me.0).row.sequence 0) x;
        homes = set s.homes ((person me.0).row.sequence % terms.output_rows) none;
        views = set s.views id (alone me.0
            (with_out (wrote (person me.0) (person me.0).row.sequence (x ∷ [])) (Some f)));
      }
  put_now s r id x me f at one role none_out place room =
      let p = person me.0 in
      let n : ℕ = terms.rows in
      let m : ℕ = terms.output_rows in
      let a : ℕ = p.row.sequence in
      let ws = s.words in
      let w = words_of s in
      let here : ℕ = out_row n m a 0 in
      let w' : ℕ → ℕ = λ (j : ℕ). get_or (set ws here x) j 0 in
      let q : Person = wrote p a (x ∷ []) in
      let knows = (mine terms s r id me.0 p at one).2 in
      let part = at_published s r id me at one role in let place_is : a ≡ w published = part.0 in
      let slots : Slots = record r.log.slots { filling = Some f } in
      let home : r.log.slots.filling ≡ None = sym (subst (λ (z : Role). OutOf r.log.slots z p.out) role knows.out)
      ∙ none_out in
      let first : IsGateway terms.gateways 1 = ((omega arith), r.some_gateway) in
      let left : a < w (taken 1) + m = has_room s r id me a at one room 1 first in
      let behind : w (taken 1) ≤ w marshalled = r.outgoing.taken_marshalled 1 first in
      let order : w marshalled ≤ w published = r.outgoing.marshalled_published in
      let free : w published < w marshalled + m = omega arith in
      let inside : here < length ws = subst (λ (y : ℕ). here < y) (sym r.wide)
      (out_row_inside n m a 0 r.some_output_row (omega arith)) in
      let outside : (c : ℕ) → c < first_row → here ≢ c = λ c few. no_output n m a 0 c (omega arith) in
      let control : (c : ℕ) → c < first_row → w' c ≡ w c =
      λ c low. word_else ws here c x (λ e. outside c low (sym e)) in
      let input : (c : ℕ) → c < marshalled → w' c ≡ w c = λ c low. control c (omega arith) in
      let rows : (t j : ℕ) → j < 64 → w' (in_row n t j) ≡ w (in_row n t j) =
      λ t j few. row_apart ws n m a 0 t j x r.some_row few in
      let stays : (q j : ℕ) → j < 128 → (q % m ≡ a % m → j ≢ 0)
      → w' (out_row n m q j) ≡ w (out_row n m q j) = λ q j few. output_else ws n m q a j 0 x few (omega arith) in
      let texts : (q j : ℕ) → j < 64 → w' (out_row n m q (j + 64))
      ≡ w (out_row n m q (j + 64)) = λ q j few. stays q (j + 64) (omega arith)
      (λ _. (λ (e : j + 64 ≡ 0). omega arith)) in
      let read : (k q : ℕ) → IsGateway terms.gateways k → w (taken k) ≤ q → q < w published → q % m ≢ a % m =
      λ k q g from to same. (let left : a < w (taken k) + m = has_room s r id me a at one room k g in
      let one_place : q ≡ a = one_window (w (taken k)) q a m from (omega arith) (omega arith) left same in
      omega arith) in
      let out = r.outgoing in
      let there = r.filled.home (a % m) (mod-lt a r.some_output_row) (no_row m r.log.slots.filling (a % m) home)
      (λ h. (let is = out.reading h.0 h.1 in another_row w h.0.place order free is.1 is.2
      (h.2 ∙ ap (λ (z : ℕ). z % m) place_is))) in (
        (there.0, there.1),
        after terms s r (set ws here x) id me.0 p (with_out q (Some f)) at one refl (length-set ws here x)
            (record r.log { slots = slots })
            (ordered_stays terms w w' r.log input r.order)
            (logged_out terms w' r.log slots (logged_stays terms w w' r.log input r.logged))
            (rows_out terms w' r.log slots
            (rows_stay terms w w' r.log input r.logged (all_rows terms w w' r.log rows) r.rows))
            (outgoing_out terms w' r.log slots refl
            (λ g is. (let same : f ≡ g = same_Some f g is in let a_is : f.place ≡ a = place in
            let g_is : f.place ≡ g.place = ap (λ (z : PlacedOutput). z.place) same in
            let m_is : w' 32 ≡ w 32 = control 32 (omega arith) in
            let p_is : w' 104 ≡ w 104 = control 104 (omega arith) in
            ((omega arith), (omega arith))))
            (λ g is. (let h = out.reading g is in let m_is : w' 32 ≡ w 32 = control 32 (omega arith) in
            let p_is : w' 104 ≡ w 104 = control 104 (omega arith) in
            let lo : w 32 ≤ g.place = h.1 in let hi : g.place < w 104 = h.2 in (h.0, (omega arith), (omega arith))))
            (outgoing_stays terms w w' r.log r.log r.few refl refl out.front (control processed (omega arith))
            (control journalled (omega arith)) (λ c _ low. control c low)
            record {
              addresses = λ k q g from to. stays q 0 (omega arith) (λ same. absurd (read k q g from to same));
              texts = λ k q g from to j few. texts q j few;
            }
            out))
            (set s.homes (a % m) none)
            (filling_taken m r.log.slots s.homes r.filled f (a % m) (ap (λ (z : ℕ). z % m) place) home)
            (knows_out terms w' r.log slots q (Some f) (subst (λ (z : Role). OutOf slots z (Some f)) (sym role) refl)
            (knows_on terms w r.log w' p p.sequence q.row
            (λ c low. subst (λ (y : ℕ). w c ≤ y) (sym (control c low)) (le_refl (w c)))
            (control (word_of_role p.role) (place_low terms.gateways p.role r.few knows.role) ∙ knows.sequence)
            (subst (λ (z : Role). PartOf n m w' r.log z q.row) (sym role) (
              place_is ∙ sym (control published (omega arith)),
              λ j y in_it. first_word (λ (i z : ℕ). (i < 1) × (w' (out_row n m a i) ≡ z)) x j y
                  ((omega arith), word_here ws here x inside) in_it,
            ))
            (λ is. absurd (let z : 0 ≡ 16 = ap word_of_role (sym role ∙ is) in omega arith))
            (λ is. absurd (let z : 0 ≡ 32 = ap word_of_role (sym role ∙ is) in omega arith))
            knows))
            (λ o other known. knows_out terms w' r.log slots o o.out
            (others_out r.log.slots slots o.role o.out
            (λ is. absurd (other (ap word_of_role is ∙ sym (ap word_of_role role)))) (λ _. refl) known.out)
            (others_know terms w w' r.log r.log o r.few refl (λ _ _ e. e) (λ _. refl) (λ _. refl) control
            record {
              raw = λ t j k o_is few t_is. (t_is, rows t (j + 1) (omega arith));
              commands = λ t j o_is few. rows t (j + 48) (omega arith);
              outputs = λ q j o_is few. absurd (other (ap word_of_role o_is ∙ sym (ap word_of_role role)));
              texts = λ q j o_is few. texts q j few;
            }
            known)),
      )

  -- the processor stores the address of the next output in its row, which every gateway has passed
  pub puts_output : (slots id x : ℕ) (me : Seated Boxed L) (o : Output) → IsAlone me.0 → (person me.0).role ≡ Process
      → (person me.0).out ≡ None
      → HasOutputRoom terms.gateways terms.output_rows (person me.0) (person me.0).row.sequence
      → Allows (Lawful terms) slots id me (out_row terms.rows terms.output_rows (person me.0).row.sequence 0) (λ _. x)
      (λ _. puts_address terms.rows terms.output_rows
      (step slots (out_row terms.rows terms.output_rows (person me.0).row.sequence 0) x 0 none) me x)
  puts_output slots id x me o one role none_out room s r wide at _ = let p = person me.0 in
      let a : ℕ = p.row.sequence in
      let f : PlacedOutput = report_of o a in
      let now = put_now s r id x me f at one role none_out refl room in (
        alone me.0 (with_out (wrote p a (x ∷ [])) (Some f)),
        takes (a % terms.output_rows) now.0.0,
        now.0.1,
        now.1,
        λ _. (f, (now.0.0, refl, refl)),
      )

  -- the same, where the code's numbers of rows, output rows and gateways are the key's
  pub puts_output_in : (n m g : ℕ) → terms.rows ≡ n → terms.output_rows ≡ m → terms.gateways ≡ g
      → (slots id x : ℕ) (me : Seated Boxed L) (o : Output) (place : ℕ) → IsAlone me.0 → (person me.0).role ≡ Process
      → (person me.0).out ≡ None → HasOutputRoom g m (person me.0) (person me.0).row.sequence
      → place ≡ out_row n m (person me.0).row.sequence 0
      → Allows (Lawful terms) slots id me place (λ _. x) (λ _. puts_address n m (step slots place x 0 none) me x)
  puts_output_in n m g is out_is many slots id x me o place one role none_out room place_is = let a : ℕ =
      (person me.0).row.sequence in
      subst (λ (y : ℕ). Allows (Lawful terms) slots id me y (λ _. x)
      (λ _. puts_address n m (step slots y x 0 none) me x)) (sym place_is)
      (subst (λ (j : ℕ). Allows (Lawful terms) slots id me (out_row j m a 0) (λ _. x)
      (λ _. puts_address j m (step slots (out_row j m a 0) x 0 none) me x)) is
      (subst (λ (j : ℕ). Allows (Lawful terms) slots id me (out_row terms.rows j a 0) (λ _. x)
      (λ _. puts_address terms.rows j (step slots (out_row terms.rows j a 0) x 0 none) me x)) out_is
      (puts_output slots id x me o one role none_out
      (subst (λ (j : ℕ). HasOutputRoom j terms.output_rows (person me.0) a) (sym many)
      (subst (λ (j : ℕ). HasOutputRoom g j (person me.0) a) (sym out_is) room)))))
