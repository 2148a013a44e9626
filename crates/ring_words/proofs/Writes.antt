-- A store in a row that is claimed keeps the rule: no other row in use has the word, and no published one that may be
-- read.
use Rattle.std.proofs.Common.{◌≡◌, ◌≢◌, ℕ, ◌+◌, ◌-◌, ◌%◌, ◌<◌, ◌≤◌, eqb, length, get_or, set, ap, sym, subst, ◌∙◌}
use Rattle.std.proofs.Common.{arith}
use Rattle.std.proofs.lemmas.Bool.{ne_eqb, cond-false}
use mathlib.Core.Option.{none, some, some-ne-none}
use mathlib.Core.Logic.{dite}
use native.Mathlib.Decide.{ℕ_discrete, dec_le}
use lib.ListN.{get_elem?}
use Rattle.atomic_table.specs.Table.{State, step, keeps, Allows}
use Rattle.ring_words.specs.Slots.{Boxed}
use Rattle.ring_words.specs.declared.view.Role.{Role}
use Rattle.ring_words.specs.declared.view.Role.TheVariants.{Gateway}
use Rattle.ring_words.specs.declared.view.View.{View}
use Rattle.ring_words.specs.Places.{processed, claim, taken, in_row, out_row, word_of_role, number_of}
use Rattle.ring_words.specs.Log.{Status, unclaimed, old, claimed, sent, Log, entry_of, claims_of, times_in}
use Rattle.ring_words.specs.Terms.{Terms}
use Rattle.ring_words.specs.Rule.{Ordered, Logged, PartOf, words_of, Lawful}
use Rattle.ring_words.specs.Seats.{person, IsAlone, alone, stored}
use Rattle.ring_words.specs.Steps.{Seated, GoesOnRow, stores_raw}
use Rattle.ring_words.proofs.Written.{writes_rows}
use Rattle.ring_words.proofs.Windows.{same_row, one_window, row_inside, no_control}
use Rattle.ring_words.proofs.Puts.{word_here}
use Rattle.ring_words.proofs.Keeps.{mine}
use Rattle.ring_words.proofs.Outgoings.{all_outputs}
use Rattle.ring_words.proofs.RowWords.{row_else, output_apart}
use Rattle.ring_words.proofs.Stays.{one_word_more, word_stored}
use Rattle.ring_words.proofs.Claims.{claimed_not_sent, sent_not_unclaimed, claimed_by, not_claimed}

-- who has a claim on s: the log says so
pub claim_is : (x : Status) (k : ℕ) → 0 < claims_of k x → x ≡ claimed k
claim_is unclaimed k h = absurd (omega arith)
claim_is (old e) k h = absurd (omega arith)
claim_is (claimed j) k h = dite (ℕ_discrete j k) (λ e. ap claimed e)
    (λ ne. let none_left : 0 < 0 = subst (λ (y : ℕ). 0 < y) (cond-false (eqb j k) 1 0 (ne_eqb j k ne)) h in
    absurd (omega arith))
claim_is (sent e) k h = absurd (omega arith)

-- from its claim until it is processed a sequence is in use
abbrev pub InUse : (ℕ → ℕ) → ℕ → Type 0
InUse w s = (w processed ≤ s) × (s < w claim)

module _ {L : Type 0} (terms : Terms L) (w : ℕ → ℕ) (log : Log) (order : Ordered terms w) (logged : Logged terms w log)
  where
    -- a claimed sequence is in use
    pub in_use : (s k : ℕ) → log.status s ≡ claimed k → InUse w s
    in_use s k is = (not_done (dec_le (w processed) s), not_ahead (dec_le (w claim) s)) where
      not_done : Dec (w processed ≤ s) → w processed ≤ s
      not_done (yes le) = le
      not_done (no gt) = let before = order.processed_unmarshalled in
          let e = logged.done s (omega arith) in
          absurd (some-ne-none e.0 (sym (subst (λ (x : Status). entry_of x ≡ some e.0) is e.1)))

      not_ahead : Dec (w claim ≤ s) → s < w claim
      not_ahead (yes le) = absurd (not_claimed k (sym is ∙ logged.ahead s le))
      not_ahead (no gt) = omega arith

    pub below_claim : (t : ℕ) → log.status t ≢ unclaimed → t < w claim
    below_claim t there = by_case (dec_le (w claim) t) where
      by_case : Dec (w claim ≤ t) → t < w claim
      by_case (yes le) = absurd (there (logged.ahead t le))
      by_case (no gt) = omega arith

    -- a claimed sequence and another of its row that may still be read, or that is in use, are one
    pub one_row : (s t k : ℕ) → log.status s ≡ claimed k → log.status t ≢ unclaimed → w claim ≤ t + terms.rows
        → t % terms.rows ≡ s % terms.rows → t ≡ s
    one_row s t k is there late same = let use_s = in_use s k is in
        let a = use_s.0 in
        let b = use_s.1 in
        let c = below_claim t there in
        let room = order.room in
        one_window (w claim - terms.rows) t s terms.rows (omega arith) (omega arith) (omega arith) (omega arith) same

module _ {L : Type 0} (terms : Terms L) where
  stored_now : (s : State Boxed (View L)) (r : Lawful terms s) (id k a i x : ℕ) (me : Seated Boxed L)
      → get_elem? s.views id ≡ some me.0 → IsAlone me.0 → (person me.0).role ≡ Gateway k
      → r.log.status a ≡ claimed k → i < 41 → GoesOnRow (person me.0).row a i
      → Lawful terms record {
        words = set s.words (in_row terms.rows a (i + 1)) x;
        homes = s.homes;
        views = set s.views id (alone me.0 (stored (person me.0) a i x));
      }
  stored_now s r id k a i x me at one role is small goes_on =
      let p = person me.0 in
      let n : ℕ = terms.rows in
      let m : ℕ = terms.output_rows in
      let ws = s.words in
      let w = words_of s in
      let here : ℕ = in_row n a (i + 1) in
      let w' : ℕ → ℕ = λ (j : ℕ). get_or (set ws here x) j 0 in
      let low : i + 1 < 64 = omega arith in
      let knows = (mine terms s r id me.0 p at one).2 in
      let inside : here < length ws = subst (λ (y : ℕ). here < y) (sym r.wide)
      (row_inside n m a (i + 1) r.some_row low) in
      let stays : (t j : ℕ) → j < 64 → (t % n ≡ a % n → j ≢ i + 1)
      → w' (in_row n t j) ≡ w (in_row n t j) = λ t j few. row_else ws n t a j (i + 1) x few low in
      let outside : (q j : ℕ) → w' (out_row n m q j) ≡ w (out_row n m q j) =
      λ q j. output_apart ws n m a (i + 1) q j x r.some_row low in
      word_stored terms s r id here a i x me at one (no_control n a (i + 1))
      record {
        marks = λ t. stays t 0 (omega arith) (λ _. (λ (e : 0 ≡ i + 1). omega arith));
        raw = λ t e sent_is late j few. stays t (j + 1) (omega arith)
            (λ same. absurd (claimed_not_sent k e (sym is ∙ ap r.log.status (
            sym (one_row terms w r.log r.order r.logged a t k is
            (λ (z : r.log.status t ≡ unclaimed). sent_not_unclaimed e (sym sent_is ∙ z)) late same)) ∙ sent_is)));
        commands = λ t e sent_is below late j few. stays t (j + 48) (omega arith)
            (λ _. (λ (z : j + 48 ≡ i + 1). omega arith));
      }
      (all_outputs terms w w' outside)
      (subst (λ (z : Role). PartOf n m w' r.log z (stored p a i x).row) (sym role)
      (one_word_more (λ (j y : ℕ). (j < 41) × (r.log.status a ≡ claimed k) × (w' (in_row n a (j + 1)) ≡ y)) p.row a i x
      goes_on
      (λ j y lt on there. (let h = subst (λ (z : Role). PartOf n m w r.log z p.row) role knows.row j y there in (
        h.0,
        is,
        stays a (j + 1) (let few = h.0 in omega arith) (λ _. (λ (e : j + 1 ≡ i + 1). omega arith))
            ∙ ap (λ (t : ℕ). w (in_row n t (j + 1))) (sym on) ∙ h.2,
      )))
      (small, is, word_here ws here x inside)))
      (λ unmarshals. absurd (let z : 0 ≡ 1 = ap writes_rows (sym role ∙ unmarshals) in omega arith))
      (λ marshals. absurd (let z : 0 ≡ 1 = ap writes_rows (sym role ∙ marshals) in omega arith))
      (λ o apart_from. record {
        raw = λ t j q o_is few t_is. (
          t_is,
          stays t (j + 1) (omega arith) (λ same. absurd (
              let use_t = in_use terms w r.log r.order r.logged t q t_is in
              let t_late = use_t.0 in
              let room = r.order.room in
              let eq : t ≡ a = one_row terms w r.log r.order r.logged a t k is
              (λ (z : r.log.status t ≡ unclaimed). not_claimed q (sym t_is ∙ z)) (omega arith) same in
              apart_from (ap word_of_role o_is ∙ ap taken (claimed_by q k (sym t_is ∙ ap r.log.status eq ∙ is))
              ∙ sym (ap word_of_role role)))),
        );
        commands = λ t j _ few. stays t (j + 48) (omega arith) (λ _. (λ (z : j + 48 ≡ i + 1). omega arith));
        outputs = λ q j _ _. outside q j;
        texts = λ q j _ _. outside q (j + 64);
      })

  -- a gateway stores the next raw word of a row that it claimed
  pub writes_raw : (slots id k a i x : ℕ) (me : Seated Boxed L) → IsAlone me.0 → (person me.0).role ≡ Gateway k
      → 0 < times_in a (person me.0).claims → i < 41 → GoesOnRow (person me.0).row a i
      → Allows (Lawful terms) slots id me (in_row terms.rows a (i + 1)) (λ _. x)
      (λ _. stores_raw terms.rows (step slots (in_row terms.rows a (i + 1)) x 0 none) me x)
  writes_raw slots id k a i x me one role mine_is small goes_on s r wide at _ =
      let p = person me.0 in let w = words_of s in let knows = (mine terms s r id me.0 p at one).2 in
      let who : number_of p.role ≡ k = ap number_of role in
      let is_claimed : (t : ℕ) → 0 < times_in t p.claims → r.log.status t
      ≡ claimed k = λ t some_claim. claim_is (r.log.status t) k
      (subst (λ (y : ℕ). 0 < y) (knows.claims t ∙ ap (λ (j : ℕ). claims_of j (r.log.status t)) who) some_claim) in
      let is = is_claimed a mine_is in (
        alone me.0 (stored p a i x),
        keeps,
        tt,
        stored_now s r id k a i x me at one role is small goes_on,
        λ t j some_claim low place_is. (
            let both = same_row terms.rows a t (i + 1) (j + 1) (let g : i + 1 < 64 = omega arith in g)
            (let g : j + 1 < 64 = omega arith in g) place_is in
            let t_is = is_claimed t some_claim in
            let use_t = in_use terms w r.log r.order r.logged t k t_is in
            let t_late = use_t.0 in
            let room = r.order.room in
            let eq : t ≡ a = one_row terms w r.log r.order r.logged a t k is
            (λ (z : r.log.status t ≡ unclaimed). not_claimed k (sym t_is ∙ z)) (omega arith) (sym both.0) in
            let same_word : i + 1 ≡ j + 1 = both.1 in let word_is : i ≡ j = omega arith in
            ap (λ (z : ℕ). (alone me.0 (stored p z i x), me.1)) (sym eq)
            ∙ ap (λ (z : ℕ). (alone me.0 (stored p t z x), me.1)) word_is),
      )

  pub writes_raw_in : (n : ℕ) → terms.rows ≡ n → (slots id k a i x : ℕ) (me : Seated Boxed L) (place : ℕ) → IsAlone me.0
      → (person me.0).role ≡ Gateway k → 0 < times_in a (person me.0).claims → i < 41 → GoesOnRow (person me.0).row a i
      → place ≡ in_row n a (i + 1) → Allows (Lawful terms) slots id me place (λ _. x)
      (λ _. stores_raw n (step slots place x 0 none) me x)
  writes_raw_in n is slots id k a i x me place one role mine_is small goes_on place_is =
      subst (λ (y : ℕ). Allows (Lawful terms) slots id me y (λ _. x) (λ _. stores_raw n (step slots y x 0 none) me x))
      (sym place_is)
      (subst (λ (j : ℕ). Allows (Lawful terms) slots id me (in_row j a (i + 1)) (λ _. x)
      (λ _. stores_raw j (step slots (in_row j a (i + 1)) x 0 none) me x)) is
      (writes_raw slots id k a i x me one role mine_is small goes_on))
