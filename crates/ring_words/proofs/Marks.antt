-- A store of availability keeps the rule: the sequence is published, whole.
use Rattle.std.proofs.Common.{◌≡◌, ◌≢◌, ℕ, zero, suc, ◌+◌, ◌*◌, ◌%◌, ◌<◌, ◌≤◌, Bool, true, false, List, [], ◌∷◌, ◌++◌}
use Rattle.std.proofs.Common.{cond, eqb, length, length-set, get_or, set, refl, ap, sym, subst, ◌∙◌, arith, le_refl}
use Rattle.std.proofs.lemmas.Bool.{eq-eqb, ne_eqb, cond-true, cond-false}
use Rattle.std.proofs.lemmas.List.{append-nil}
use mathlib.Core.Option.{none, some, some-ne-none}
use mathlib.Core.Logic.{dite}
use native.Mathlib.Decide.{ℕ_discrete}
use lib.ListN.{get_elem?}
use Rattle.atomic_table.specs.Table.{State, step, keeps, Allows}
use Rattle.venue_model.specs.History.{Message}
use Rattle.venue_model.specs.ListLaws.{stands, within, read_at}
use Rattle.ring_words.specs.Slots.{Boxed}
use Rattle.ring_words.specs.declared.view.Role.{Role}
use Rattle.ring_words.specs.declared.view.Role.TheVariants.{Gateway}
use Rattle.ring_words.specs.declared.view.Sent.{Sent}
use Rattle.ring_words.specs.declared.view.View.{View}
use Rattle.ring_words.specs.Places.{processed, claim, unmarshalled, journalled, taken, first_row, in_row, out_row}
use Rattle.ring_words.specs.Places.{word_of_role, number_of}
use Rattle.ring_words.specs.Log.{IsEntry, Status, unclaimed, old, claimed, sent, Log, entry_of, sends_of, claims_of}
use Rattle.ring_words.specs.Log.{sent_at, times_in, without}
use Rattle.ring_words.specs.Raw.{raw_count, raw_word, SpellsMessage}
use Rattle.command_words.specs.Packing.{IsPackable}
use Rattle.ring_words.specs.Terms.{Terms, commands_of, command_by}
use Rattle.ring_words.specs.Rule.{IsGateway, IsRole, PartOf, words_of, Lawful}
use Rattle.ring_words.specs.Seats.{person, IsAlone, alone, sent_of, marked}
use Rattle.ring_words.specs.Steps.{Seated, marks_sent}
use Rattle.ring_words.proofs.Written.{writes_rows}
use Rattle.ring_words.proofs.Windows.{row_inside, no_control}
use Rattle.ring_words.proofs.Puts.{put, put_here, put_else, by_put, word_here, word_else}
use Rattle.ring_words.proofs.Logs.{short_words, depth_risen}
use Rattle.ring_words.proofs.Keeps.{mine, after}
use Rattle.ring_words.proofs.Outgoings.{all_outputs, outgoing_stays}
use Rattle.ring_words.proofs.RowWords.{row_else, output_apart}
use Rattle.ring_words.proofs.Stays.{place_low, few_words, ordered_stays, others_know}
use Rattle.ring_words.proofs.Claims.{other_number, claimed_not_old, claimed_not_sent, sent_not_unclaimed, claimed_by}
use Rattle.ring_words.proofs.Claims.{not_claimed}
use Rattle.ring_words.proofs.Writes.{claim_is, one_row}
use Rattle.ring_words.proofs.Raws.{spelled_once}

sent_not_old : (e d : Message) → sent e ≢ old d
sent_not_old e d is = let z : zero ≡ suc zero = cc in omega arith

sent_not_claimed : (e : Message) (k : ℕ) → sent e ≢ claimed k
sent_not_claimed e k is = claimed_not_sent k e (sym is)

sent_is : (e d : Message) → sent e ≡ sent d → e ≡ d
sent_is e d is = cc

-- a publication more
sent_at_end : (s : ℕ) (l : List Sent) (x : Sent) → sent_at s (l ++ x ∷ [])
    ≡ sent_at s l ++ cond (eqb x.sequence s) (x.entry ∷ []) []
sent_at_end s [] x = refl
sent_at_end s (y ∷ l) x = by_case (eqb y.sequence s) (sent_at_end s l x) where
  by_case : (b : Bool) → sent_at s (l ++ x ∷ []) ≡ sent_at s l ++ cond (eqb x.sequence s) (x.entry ∷ []) []
      → cond b (y.entry ∷ sent_at s (l ++ x ∷ [])) (sent_at s (l ++ x ∷ []))
      ≡ cond b (y.entry ∷ sent_at s l) (sent_at s l) ++ cond (eqb x.sequence s) (x.entry ∷ []) []
  by_case true h = ap (λ (t : List Message). y.entry ∷ t) h
  by_case false h = h

-- a claim is spent
times_spent : (s : ℕ) (l : List ℕ) → times_in s (without s l) ≡ 0
times_spent s [] = refl
times_spent s (c ∷ l) = dite (ℕ_discrete c s)
    (λ e. ap (times_in s) (cond-true (eqb c s) (without s l) (c ∷ without s l) (eq-eqb c s e)) ∙ times_spent s l)
    (λ ne. ap (times_in s) (cond-false (eqb c s) (without s l) (c ∷ without s l) (ne_eqb c s ne))
    ∙ cond-false (eqb c s) (suc (times_in s (without s l))) (times_in s (without s l)) (ne_eqb c s ne)
    ∙ times_spent s l)

times_left : (s t : ℕ) (l : List ℕ) → t ≢ s → times_in t (without s l) ≡ times_in t l
times_left s t [] ne = refl
times_left s t (c ∷ l) ne = dite (ℕ_discrete c s)
    (λ e. ap (times_in t) (cond-true (eqb c s) (without s l) (c ∷ without s l) (eq-eqb c s e)) ∙ times_left s t l ne
    ∙ sym (cond-false (eqb c t) (suc (times_in t l)) (times_in t l) (ne_eqb c t (λ z. ne (sym z ∙ e)))))
    (λ other. ap (times_in t) (cond-false (eqb c s) (without s l) (c ∷ without s l) (ne_eqb c s other))
    ∙ ap (λ (y : ℕ). cond (eqb c t) (suc y) y) (times_left s t l ne))

module _ {L : Type 0} (terms : Terms L) where
  marked_now : (s : State Boxed (View L)) (r : Lawful terms s) (id k a : ℕ) (e : Message) (me : Seated Boxed L)
      → get_elem? s.views id ≡ some me.0 → IsAlone me.0 → (person me.0).role ≡ Gateway k
      → r.log.status a ≡ claimed k → (person me.0).row.sequence ≡ a → SpellsMessage (person me.0).row.words e
      → IsEntry e → e.gateway ≡ k
      → Lawful terms record {
        words = set s.words (in_row terms.rows a 0) (suc a);
        homes = s.homes;
        views = set s.views id (alone me.0 (marked (person me.0) a e));
      }
  marked_now s r id k a e me at one role is on_row spelled valid own_gateway =
      let p = person me.0 in
      let ws = s.words in
      let w = words_of s in
      let here : ℕ = in_row terms.rows a 0 in
      let ws' = set ws here (suc a) in
      let w' : ℕ → ℕ = λ (j : ℕ). get_or ws' j 0 in
      let knows = (mine terms s r id me.0 p at one).2 in
      let status : ℕ → Status = r.log.status in
      let status' : ℕ → Status = put status a (sent e) in
      let log' : Log = record r.log { status = status' } in
      let gateway : IsGateway terms.gateways k = subst (IsRole terms.gateways) role knows.role in
      let inside : here < length ws = subst (λ (y : ℕ). here < y) (sym r.wide)
      (row_inside terms.rows terms.output_rows a 0 r.some_row (let g : 0 < 64 = omega arith in g)) in
      let control : (c : ℕ) → c < first_row → w' c ≡ w c =
      λ c low. word_else ws here c (suc a) (λ z. no_control terms.rows a 0 c low (sym z)) in
      let stays : (t j : ℕ) → j < 64 → (t % terms.rows ≡ a % terms.rows → j ≢ 0)
      → w' (in_row terms.rows t j) ≡ w (in_row terms.rows t j) =
      λ t j low. row_else ws terms.rows t a j 0 (suc a) low (omega arith) in
      let outside : (q j : ℕ) → w' (out_row terms.rows terms.output_rows q j)
      ≡ w (out_row terms.rows terms.output_rows q j) =
      λ q j. output_apart ws terms.rows terms.output_rows a 0 q j (suc a) r.some_row (omega arith) in
      let beyond : (t j : ℕ) → j < 41 → w' (in_row terms.rows t (j + 1))
      ≡ w (in_row terms.rows t (j + 1)) = λ t j low. stays t (j + 1) (omega arith)
      (λ _. (λ (z : j + 1 ≡ 0). omega arith)) in
      let claim_is' : w' claim ≡ w claim = control claim (omega arith) in
      let zero_is : w' processed ≡ w processed = control processed (omega arith) in
      let unmarshalled_is : w' unmarshalled ≡ w unmarshalled = control unmarshalled (omega arith) in
      let journalled_is : w' journalled ≡ w journalled = control journalled (omega arith) in
      let order = r.order in let start = r.logged.start in
      let entries : (t : ℕ) (d : Message) → entry_of (status t) ≡ some d
      → entry_of (status' t) ≡ some d = λ t d. by_put status a t (sent e)
      (λ (x : Status). entry_of (status t) ≡ some d → entry_of x ≡ some d)
      (λ here_is there. absurd (some-ne-none d
      (sym (subst (λ (x : Status). entry_of x ≡ some d) (ap status here_is ∙ is) there)))) (λ _ there. there) in
      let not_done : (t : ℕ) → t ≡ a → t < w unmarshalled → ⊥ = λ t here_is below. let there = r.logged.done t below in
      some-ne-none there.0 (sym (subst (λ (x : Status). entry_of x ≡ some there.0) (ap status here_is ∙ is) there.1)) in
      let stays_sent : (t : ℕ) (d : Message) → status t ≡ sent d
      → status' t ≡ sent d = λ t d there. put_else status a t (sent e)
      (λ here_is. sent_not_claimed d k (sym there ∙ ap status here_is ∙ is)) ∙ there in
      let num : number_of p.role ≡ k = ap number_of role in
      let word_is : (j : ℕ) → j < raw_count e → w (in_row terms.rows a (j + 1)) ≡ raw_word e j = λ j few. (
      let there = stands p.row.words j (subst (λ (y : ℕ). j < y) (sym spelled.long) few) in
      let h = subst (λ (z : Role). PartOf terms.rows terms.output_rows w r.log z p.row) role knows.row j there.0
      there.1 in
      ap (λ (t : ℕ). w (in_row terms.rows t (j + 1))) (sym on_row) ∙ h.2 ∙ read_at p.row.words j there.0 there.1
      ∙ spelled.each j few) in
      after terms s r ws' id me.0 p (marked p a e) at one refl (length-set ws here (suc a)) log'
      (ordered_stays terms w w' r.log (λ c low. control c (omega arith)) order)
      record {
        start = omega arith;
        based = λ t d there. put_else status a t (sent e)
            (λ here_is. claimed_not_old k d (sym is ∙ ap status (sym here_is) ∙ r.logged.based t d there))
            ∙ r.logged.based t d there;
        older = λ t d. by_put status a t (sent e) (λ (x : Status). x ≡ old d → t < length terms.base)
            (λ _ z. absurd (sent_not_old e d z)) (λ _ z. r.logged.older t d z);
        ahead = λ t le. (let free = r.logged.ahead t (subst (λ (y : ℕ). y ≤ t) claim_is' le) in
            put_else status a t (sent e) (λ here_is. not_claimed k (sym is ∙ ap status (sym here_is) ∙ free)) ∙ free);
        somebodys = λ t lt. by_put status a t (sent e) (λ (x : Status). x ≢ unclaimed) (λ _. sent_not_unclaimed e)
            (λ _. r.logged.somebodys t (subst (λ (y : ℕ). t < y) claim_is' lt));
        holder = λ t j. by_put status a t (sent e) (λ (x : Status). x ≡ claimed j → IsGateway terms.gateways j)
            (λ _ z. absurd (sent_not_claimed e j z)) (λ _ z. r.logged.holder t j z);
        sender = λ t d. by_put status a t (sent e) (λ (x : Status). x ≡ sent d
            → IsEntry d × IsGateway terms.gateways d.gateway)
            (λ _ z. subst (λ (y : Message). IsEntry y × IsGateway terms.gateways y.gateway) (sent_is e d z)
            (valid, subst (IsGateway terms.gateways) (sym own_gateway) gateway)) (λ _ z. r.logged.sender t d z);
        done = λ t lt. (let d = r.logged.done t (subst (λ (y : ℕ). t < y) unmarshalled_is lt) in
            (d.0, entries t d.0 d.1));
        kept = λ t lt. (let d = r.logged.kept t (subst (λ (y : ℕ). t < y) journalled_is lt) in
            (d.0, entries t d.0 d.1));
      }
      record {
        marks = λ t y eq. dite (ℕ_discrete (t % terms.rows) (a % terms.rows))
            (λ same. (let y_is : a ≡ y =
            (let q : suc y ≡ suc a = sym eq ∙ ap (λ (z : ℕ). w' (128 + 64 * z + 0)) same
            ∙ word_here ws here (suc a) inside in omega arith) in (
              ap (λ (z : ℕ). z % terms.rows) (sym y_is) ∙ sym same,
              (e, ap status' (sym y_is) ∙ put_here status a (sent e)),
            )))
            (λ other. (let found = r.rows.marks t y
            (sym (stays t 0 (omega arith) (λ same. absurd (other same))) ∙ eq) in
            (found.0, (found.1.0, stays_sent y found.1.0 found.1.1))));
        shown = λ t d. by_put status a t (sent e) (λ (x : Status). x ≡ sent d → w' claim ≤ t + terms.rows
            → w' (in_row terms.rows t 0) ≡ suc t)
            (λ here_is _ _. ap (λ (z : ℕ). w' (in_row terms.rows z 0)) here_is ∙ word_here ws here (suc a) inside
            ∙ ap suc (sym here_is))
            (λ ne z le. (let late : w claim ≤ t + terms.rows = subst (λ (y : ℕ). y ≤ t + terms.rows) claim_is' le in
            stays t 0 (omega arith) (λ same. absurd
            (ne (one_row terms w r.log order r.logged a t k is
            (λ (u : status t ≡ unclaimed). sent_not_unclaimed d (sym z ∙ u)) late same)))
            ∙ r.rows.shown t d z late));
        raw = λ t d. by_put status a t (sent e) (λ (x : Status). x ≡ sent d → w' claim ≤ t + terms.rows → (j : ℕ)
            → j < raw_count d → w' (in_row terms.rows t (j + 1)) ≡ raw_word d j)
            (λ here_is z le j few. (let same_entry : e ≡ d = sent_is e d z in
            let few_e : j < raw_count e = subst (λ (x : Message). j < raw_count x) (sym same_entry) few in
            let bound = few_words e valid in
            beyond t j (omega arith) ∙ ap (λ (x : ℕ). w (in_row terms.rows x (j + 1))) here_is ∙ word_is j few_e
            ∙ ap (λ (x : Message). raw_word x j) same_entry))
            (λ _ z le j few. (let bound = few_words d (r.logged.sender t d z).0 in
            beyond t j (omega arith) ∙ r.rows.raw t d z (subst (λ (y : ℕ). y ≤ t + terms.rows) claim_is' le) j
            few));
        packable = λ t d. by_put status a t (sent e) (λ (x : Status). x ≡ sent d → t < w' unmarshalled
            → IsPackable d.gateway (command_by terms t d))
            (λ here_is _ below. absurd (not_done t here_is (subst (λ (z : ℕ). t < z) unmarshalled_is below)))
            (λ _ z below. r.rows.packable t d z (subst (λ (q : ℕ). t < q) unmarshalled_is below));
        commands = λ t d. by_put status a t (sent e) (λ (x : Status). x ≡ sent d → t < w' unmarshalled
            → w' claim ≤ t + terms.rows → (i y : ℕ) → get_elem? (commands_of terms t d) i ≡ some y
            → w' (in_row terms.rows t (i + 48)) ≡ y)
            (λ here_is _ below. absurd (not_done t here_is (subst (λ (z : ℕ). t < z) unmarshalled_is below)))
            (λ _ z below le i y there. (let size = short_words d.gateway (command_by terms t d) in
            let few = within (commands_of terms t d) i y there in
            stays t (i + 48) (omega arith) (λ _. (λ (q : i + 48 ≡ 0). omega arith))
            ∙ r.rows.commands t d z (subst (λ (q : ℕ). t < q) unmarshalled_is below)
            (subst (λ (q : ℕ). q ≤ t + terms.rows) claim_is' le) i y there));
      }
      (outgoing_stays terms w w' r.log log' r.few refl refl (λ t d there. entries t d (r.outgoing.front t d there))
      zero_is journalled_is (λ c _ low. control c low) (all_outputs terms w w' outside) r.outgoing)
      s.homes r.filled
      record {
        role = knows.role;
        front = λ t d there. entries t d (knows.front t d there);
        depth = depth_risen w w' (λ c low. subst (λ (y : ℕ). w c ≤ y) (sym (control c low)) (le_refl (w c))) p.role
            (length p.seen) knows.depth;
        sequence = control (word_of_role p.role) (place_low terms.gateways p.role r.few knows.role) ∙ knows.sequence;
        mine = λ t. sent_at_end t p.mine (sent_of a e) ∙ by_put status a t (sent e)
            (λ (x : Status). sent_at t p.mine ++ cond (eqb a t) (e ∷ []) [] ≡ sends_of (number_of p.role) x)
            (λ here_is. ap (λ (l : List Message). l ++ cond (eqb a t) (e ∷ []) [])
            (knows.mine t ∙ ap (sends_of (number_of p.role)) (ap status here_is ∙ is))
            ∙ cond-true (eqb a t) (e ∷ []) [] (eq-eqb a t (sym here_is))
            ∙ sym (cond-true (eqb e.gateway (number_of p.role)) (e ∷ []) []
            (eq-eqb e.gateway (number_of p.role) (own_gateway ∙ sym num))))
            (λ ne. ap (λ (l : List Message). sent_at t p.mine ++ l)
            (cond-false (eqb a t) (e ∷ []) [] (ne_eqb a t (λ z. ne (sym z)))) ∙ append-nil (sent_at t p.mine)
            ∙ knows.mine t);
        claims = λ t. by_put status a t (sent e) (λ (x : Status). times_in t (without a p.claims)
            ≡ claims_of (number_of p.role) x)
            (λ here_is. ap (λ (z : ℕ). times_in z (without a p.claims)) here_is ∙ times_spent a p.claims)
            (λ ne. times_left a t p.claims ne ∙ knows.claims t);
        loads = λ j l there low. subst (λ (y : ℕ). l.value ≤ y) (sym (control l.place low)) (knows.loads j l there low);
        row = subst (λ (z : Role). PartOf terms.rows terms.output_rows w' log' z record { sequence = a; words = [] })
            (sym role) (λ j y there. absurd (some-ne-none y (sym there)));
        written = λ is_unmarshaller. absurd (let z : 0 ≡ 1 = ap writes_rows (sym role ∙ is_unmarshaller) in
            omega arith);
        written_texts = λ is_marshaller. absurd (let z : 0 ≡ 1 = ap writes_rows (sym role ∙ is_marshaller) in
            omega arith);
        out = knows.out;
      }
      (λ o apart_from kn. let differs : number_of o.role ≢ k =
      other_number o.role k gateway.0 (λ z. apart_from (z ∙ sym (ap word_of_role role))) in
      others_know terms w w' r.log log' o r.few refl entries
      (λ t. by_put status a t (sent e) (λ (x : Status). sends_of (number_of o.role) (status t)
      ≡ sends_of (number_of o.role) x)
      (λ here_is. ap (sends_of (number_of o.role)) (ap status here_is ∙ is)
      ∙ sym (cond-false (eqb e.gateway (number_of o.role)) (e ∷ []) []
      (ne_eqb e.gateway (number_of o.role) (λ z. differs (sym z ∙ own_gateway))))) (λ _. refl))
      (λ t. by_put status a t (sent e) (λ (x : Status). claims_of (number_of o.role) (status t)
      ≡ claims_of (number_of o.role) x)
      (λ here_is. ap (claims_of (number_of o.role)) (ap status here_is ∙ is)
      ∙ cond-false (eqb k (number_of o.role)) 1 0 (ne_eqb k (number_of o.role) (λ z. differs (sym z)))) (λ _. refl))
      control
      record {
        raw = λ t j q o_is low t_is. (
          put_else status a t (sent e)
              (λ here_is. apart_from (ap word_of_role o_is ∙ ap taken
              (claimed_by q k (sym t_is ∙ ap status here_is ∙ is)) ∙ sym (ap word_of_role role))) ∙ t_is,
          beyond t j low,
        );
        commands = λ t j _ low. stays t (j + 48) (omega arith) (λ _. (λ (z : j + 48 ≡ 0). omega arith));
        outputs = λ q j _ _. outside q j;
        texts = λ q j _ _. outside q (j + 64);
      } kn)

  -- a gateway publishes what it stored in a row that it claimed
  pub marks_row : (slots id k a : ℕ) (e : Message) (me : Seated Boxed L) → IsAlone me.0 → (person me.0).role ≡ Gateway k
      → 0 < times_in a (person me.0).claims → (person me.0).row.sequence ≡ a → SpellsMessage (person me.0).row.words e
      → IsEntry e → e.gateway ≡ k
      → Allows (Lawful terms) slots id me (in_row terms.rows a 0) (λ _. suc a)
      (λ _. marks_sent (step slots (in_row terms.rows a 0) (suc a) 0 none) me (suc a))
  marks_row slots id k a e me one role some_claim on_row spelled valid own_gateway s r wide at _ =
      let p = person me.0 in let knows = (mine terms s r id me.0 p at one).2 in
      let is : r.log.status a ≡ claimed k = claim_is (r.log.status a) k
      (subst (λ (y : ℕ). 0 < y) (knows.claims a ∙ ap (λ (j : ℕ). claims_of j (r.log.status a)) (ap number_of role))
      some_claim) in (
        alone me.0 (marked p a e),
        keeps,
        tt,
        marked_now s r id k a e me at one role is on_row spelled valid own_gateway,
        λ t d next spelled' valid'. (let same : a ≡ t = omega arith in
            ap (λ (z : ℕ). (alone me.0 (marked p z e), me.1)) same
            ∙ ap (λ (z : Message). (alone me.0 (marked p t z), me.1))
            (spelled_once p.row.words e d valid valid' spelled spelled')),
      )

  pub marks_row_in : (n : ℕ) → terms.rows ≡ n → (slots id k a x : ℕ) (e : Message) (me : Seated Boxed L) (place : ℕ)
      → IsAlone me.0 → (person me.0).role ≡ Gateway k → 0 < times_in a (person me.0).claims
      → (person me.0).row.sequence ≡ a
      → SpellsMessage (person me.0).row.words e → IsEntry e → e.gateway ≡ k → place ≡ in_row n a 0 → x ≡ suc a
      → Allows (Lawful terms) slots id me place (λ _. x) (λ _. marks_sent (step slots place x 0 none) me x)
  marks_row_in n is slots id k a x e me place one role some_claim on_row spelled valid own_gateway place_is next =
      subst (λ (y : ℕ × ℕ). Allows (Lawful terms) slots id me y.0 (λ _. y.1)
      (λ _. marks_sent (step slots y.0 y.1 0 none) me y.1))
      (λ i. (sym (place_is ∙ ap (λ (j : ℕ). in_row j a 0) (sym is)) i, sym next i))
      (marks_row slots id k a e me one role some_claim on_row spelled valid own_gateway)
