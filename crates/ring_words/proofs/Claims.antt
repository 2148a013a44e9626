-- A compare-exchange of claim keeps the rule: the sequence found is claimed, or nothing changes.
use Rattle.std.proofs.Common.{◌≡◌, ◌≢◌, ℕ, zero, suc, ◌+◌, ◌*◌, ◌^◌, ◌<◌, ◌≤◌, List, ◌∷◌, eqb, length, length-set}
use Rattle.std.proofs.Common.{get_or, set, refl, ap, sym, subst, ◌∙◌, arith, le_refl}
use Rattle.std.proofs.lemmas.Bool.{eq-eqb, ne_eqb, cond-true, cond-false}
use mathlib.Core.Option.{none, some, some-ne-none}
use prog.Atomic.{either}
use lib.ListN.{get_elem?}
use Rattle.atomic_table.specs.Table.{State, step, keeps, Allows}
use Rattle.atomic_table.proofs.Lists.{exchanged}
use Rattle.venue_model.specs.History.{Message}
use Rattle.venue_model.specs.ListLaws.{within}
use Rattle.ring_words.specs.Slots.{Boxed}
use Rattle.ring_words.specs.declared.view.Role.{Role}
use Rattle.ring_words.specs.declared.view.Role.TheVariants.{Process, Unmarshal, Journal, Marshal, Gateway}
use Rattle.ring_words.specs.declared.view.Person.{Person}
use Rattle.ring_words.specs.declared.view.View.{View}
use Rattle.ring_words.specs.Places.{processed, claim, unmarshalled, journalled, taken, published, first_row, in_row}
use Rattle.ring_words.specs.Places.{out_row, word_of_role, number_of}
use Rattle.ring_words.specs.Log.{IsEntry, Status, unclaimed, old, claimed, sent, Log, entry_of, sends_of, claims_of}
use Rattle.ring_words.specs.Log.{sent_at, times_in}
use Rattle.ring_words.specs.Raw.{raw_count, raw_word}
use Rattle.command_words.specs.Packing.{IsPackable}
use Rattle.ring_words.specs.Terms.{Terms, commands_of, command_by}
use Rattle.ring_words.specs.Rule.{IsGateway, IsRole, PartOf, Knows, words_of, Lawful}
use Rattle.ring_words.specs.Seats.{person, IsAlone, alone, looked, with_claim}
use Rattle.ring_words.specs.Steps.{Seated, ClaimsUpTo, HasRoom, claims_next}
use Rattle.ring_words.proofs.Windows.{no_control}
use Rattle.ring_words.proofs.Puts.{put, put_else, by_put, word_here, word_else}
use Rattle.ring_words.proofs.Written.{written_on}
use Rattle.ring_words.proofs.WrittenTexts.{texts_on}
use Rattle.ring_words.proofs.Logs.{depth_risen, knows_looked}
use Rattle.ring_words.proofs.Keeps.{mine, after}
use Rattle.ring_words.proofs.Outgoings.{all_outputs, outgoing_stays, no_output}
use Rattle.ring_words.proofs.Stores.{risen}
use Rattle.ring_words.proofs.Loads.{Goes, looks}

-- the number of another person is not that of a gateway
pub other_number : (role : Role) (k : ℕ) → 1 ≤ k → word_of_role role ≢ taken k → number_of role ≢ k
other_number Process k lo ne e = omega arith
other_number Unmarshal k lo ne e = omega arith
other_number Journal k lo ne e = omega arith
other_number Marshal k lo ne e = omega arith
other_number (Gateway j) k lo ne e = ne (ap taken e)

-- nobody owns claim
not_claim : (role : Role) → word_of_role role ≢ claim
not_claim Process e = omega arith
not_claim Unmarshal e = omega arith
not_claim Journal e = omega arith
not_claim Marshal e = omega arith
not_claim (Gateway k) e = let e' : 32 + 8 * k ≡ 8 = e in omega arith

-- an entry stands where nothing did: that can't be
pub nothing_there : (x : Status) (e : Message) → x ≡ unclaimed → entry_of x ≡ some e → ⊥
nothing_there x e is at = some-ne-none e (sym (subst (λ (y : Status). entry_of y ≡ some e) is at))

pub not_claimed : (k : ℕ) → claimed k ≢ unclaimed
not_claimed k e = let z : zero ≡ suc zero = cc in omega arith

pub claimed_not_old : (k : ℕ) (e : Message) → claimed k ≢ old e
claimed_not_old k e is = let z : zero ≡ suc zero = cc in omega arith

pub claimed_not_sent : (k : ℕ) (e : Message) → claimed k ≢ sent e
claimed_not_sent k e is = let z : zero ≡ suc zero = cc in omega arith

pub sent_not_unclaimed : (e : Message) → sent e ≢ unclaimed
sent_not_unclaimed e is = let z : zero ≡ suc zero = cc in omega arith

pub claimed_by : (j k : ℕ) → claimed j ≡ claimed k → j ≡ k
claimed_by j k e = cc

-- what is known stays where a sequence of nobody's is claimed by another gateway, no control word falls and no row word
-- changes
knows_claimed : {L : Type 0} (terms : Terms L) (w w' : ℕ → ℕ) (log : Log) (a k : ℕ) (p : Person)
    → log.status a ≡ unclaimed → ((i : ℕ) → i < first_row → w i ≤ w' i)
    → ((s i : ℕ) → w' (in_row terms.rows s i) ≡ w (in_row terms.rows s i))
    → ((q i : ℕ) → w' (out_row terms.rows terms.output_rows q i) ≡ w (out_row terms.rows terms.output_rows q i))
    → w' published ≡ w published → w' (word_of_role p.role) ≡ w (word_of_role p.role) → (claims' : List ℕ)
    → ((s : ℕ) → times_in s claims' ≡ claims_of (number_of p.role) (put log.status a (claimed k) s))
    → Knows terms w log p → Knows terms w' (record log { status = put log.status a (claimed k) })
    (record p { claims = claims' })
knows_claimed terms w w' log a k p free risen same outside published_is is claims' counted r = record {
  role = r.role;
  front = λ s e at. by_put log.status a s (claimed k) (λ (x : Status). entry_of x ≡ some e)
      (λ here. absurd (nothing_there (log.status s) e (ap log.status here ∙ free) (r.front s e at)))
      (λ _. r.front s e at);
  depth = depth_risen w w' risen p.role (length p.seen) r.depth;
  sequence = is ∙ r.sequence;
  mine = λ s. by_put log.status a s (claimed k) (λ (x : Status). sent_at s p.mine ≡ sends_of (number_of p.role) x)
      (λ here. r.mine s ∙ ap (sends_of (number_of p.role)) (ap log.status here ∙ free)) (λ _. r.mine s);
  claims = counted;
  loads = λ i l at low. (let x = r.loads i l at low in let y = risen l.place low in omega arith);
  row = part_stays p.role r.row;
  written = λ is_unmarshaller. written_on terms w w' p.seen p.sequence p.sequence p.row.sequence (le_refl p.sequence)
      (λ s i x e lo hi at. same s (i + 48)) (r.written is_unmarshaller);
  written_texts = λ is_marshaller. texts_on terms w w' p.seen p.sequence p.sequence p.row.sequence (le_refl p.sequence)
      (λ q i lo hi few. outside q (i + 64)) (r.written_texts is_marshaller);
  out = r.out;
} where
  part_stays : (role : Role) → PartOf terms.rows terms.output_rows w log role p.row
      → PartOf terms.rows terms.output_rows w' (record log { status = put log.status a (claimed k) }) role p.row
  part_stays Process h = (
    h.0 ∙ sym published_is,
    λ i x at. let t = h.1 i x at in
        (t.0, outside p.row.sequence i ∙ t.1),
  )
  part_stays Unmarshal h = λ i x at. let t = h i x at in (t.0, same p.row.sequence (i + 48) ∙ t.1)
  part_stays Journal h = tt
  part_stays Marshal h = λ i x at. let t = h i x at in (t.0, outside p.row.sequence (i + 64) ∙ t.1)
  part_stays (Gateway j) h = λ i x at. let t = h i x at in (
    t.0,
    by_put log.status a p.row.sequence (claimed k) (λ (y : Status). y ≡ claimed j)
        (λ here. absurd (not_claimed j (sym t.1 ∙ ap log.status here ∙ free))) (λ _. t.1),
    same p.row.sequence (i + 1) ∙ t.2,
  )

module _ {L : Type 0} (terms : Terms L) where
  -- claim goes from a to a + 1, and gateway k has a
  claimed_now : (s : State Boxed (View L)) (r : Lawful terms s) (id k : ℕ) (me : Seated Boxed L)
      → get_elem? s.views id ≡ some me.0 → IsAlone me.0 → (person me.0).role ≡ Gateway k
      → HasRoom terms.rows (person me.0) (words_of s claim) → words_of s claim < 2 ^ 48
      → Lawful terms record {
        words = set s.words claim (words_of s claim + 1);
        homes = s.homes;
        views = set s.views id (alone me.0
            (with_claim (looked (person me.0) claim (words_of s claim)) (words_of s claim)));
      }
  claimed_now s r id k me at one role room small =
      let p = person me.0 in
      let ws = s.words in
      let w = words_of s in
      let a : ℕ = w claim in
      let ws' = set ws 8 (a + 1) in
      let w' : ℕ → ℕ = λ (i : ℕ). get_or ws' i 0 in
      let knows = (mine terms s r id me.0 p at one).2 in
      let known = knows_looked terms w r.log p claim a (λ _. le_refl a) knows in
      let inside : 8 < length ws = (let v = r.wide in omega arith) in
      let here : w' claim ≡ a + 1 = word_here ws 8 (a + 1) inside in
      let zero_is : w' processed ≡ w processed = word_else ws 8 0 (a + 1) (λ (e : 0 ≡ 8). omega arith) in
      let unmarshalled_is : w' unmarshalled ≡ w unmarshalled =
      word_else ws 8 16 (a + 1) (λ (e : 16 ≡ 8). omega arith) in
      let journalled_is : w' journalled ≡ w journalled = word_else ws 8 24 (a + 1) (λ (e : 24 ≡ 8). omega arith) in
      let same : (t i : ℕ) → w' (in_row terms.rows t i) ≡ w (in_row terms.rows t i) =
      λ t i. word_else ws 8 (in_row terms.rows t i) (a + 1) (no_control terms.rows t i 8 (omega arith)) in
      let outside : (q i : ℕ) → w' (out_row terms.rows terms.output_rows q i)
      ≡ w (out_row terms.rows terms.output_rows q i) =
      λ q i. word_else ws 8 (out_row terms.rows terms.output_rows q i) (a + 1)
      (no_output terms.rows terms.output_rows q i 8 (let n : ℕ = terms.rows in omega arith)) in
      let published_is : w' published ≡ w published = word_else ws 8 104 (a + 1) (λ (e : 104 ≡ 8). omega arith) in
      let rises : (i : ℕ) → i < first_row → w i ≤ w' i = λ i _. risen ws 8 (a + 1) i inside
      (let g : a ≤ a + 1 = omega arith in g) in
      let order = r.order in
      let first = order.processed_unmarshalled in
      let second = order.processed_journalled in
      let third = order.unmarshalled_claimed in
      let fourth = order.journalled_claimed in
      let start = r.logged.start in
      let seen_room : a + 1 ≤ w processed + terms.rows = (let l = room.1.0 in
      let low : l.value ≤ w processed = subst (λ (i : ℕ). l.value ≤ w i) room.1.2
      (knows.loads room.0 l room.1.1 (let i : ℕ = l.place in let i_is : i ≡ 0 = room.1.2 in omega arith)) in
      let lt = room.1.3 in omega arith) in
      let status : ℕ → Status = r.log.status in let free : status a ≡ unclaimed = r.logged.ahead a (le_refl a) in
      let log' : Log = record r.log { status = put status a (claimed k) } in
      let gateway : IsGateway terms.gateways k = subst (IsRole terms.gateways) role knows.role in
      let lo : 1 ≤ k = gateway.0 in
      after terms s r ws' id me.0 p (with_claim (looked p claim a) a) at one refl (length-set ws 8 (a + 1)) log'
      record {
        processed_unmarshalled = omega arith;
        processed_journalled = omega arith;
        unmarshalled_claimed = omega arith;
        journalled_claimed = omega arith;
        room = omega arith;
        most = omega arith;
      }
      record {
        start = omega arith;
        based = λ t e there. (let early = within terms.base t e there in
            put_else status a t (claimed k) (λ (is : t ≡ a). omega arith) ∙ r.logged.based t e there);
        older = λ t e. by_put status a t (claimed k) (λ (x : Status). x ≡ old e → t < length terms.base)
            (λ _ is. absurd (claimed_not_old k e is)) (λ _ is. r.logged.older t e is);
        holder = λ t j. by_put status a t (claimed k) (λ (x : Status). x ≡ claimed j → IsGateway terms.gateways j)
            (λ _ is. subst (IsGateway terms.gateways) (claimed_by k j is) gateway) (λ _ is. r.logged.holder t j is);
        sender = λ t e. by_put status a t (claimed k) (λ (x : Status). x ≡ sent e
            → IsEntry e × IsGateway terms.gateways e.gateway) (λ _ is. absurd (claimed_not_sent k e is))
            (λ _ is. r.logged.sender t e is);
        ahead = λ t le. (let later : a + 1 ≤ t = subst (λ (y : ℕ). y ≤ t) here le in
            put_else status a t (claimed k) (λ (is : t ≡ a). omega arith)
            ∙ r.logged.ahead t (let g : a ≤ t = omega arith in g));
        somebodys = λ t lt. by_put status a t (claimed k) (λ (x : Status). x ≢ unclaimed) (λ _. not_claimed k)
            (λ (ne : t ≢ a). r.logged.somebodys t (let below : t < a + 1 = subst (λ (y : ℕ). t < y) here lt in
            let g : t < a = omega arith in g));
        kept = λ t lt. (let below : t < w journalled = subst (λ (y : ℕ). t < y) journalled_is lt in
            let e = r.logged.kept t below in
            (e.0, ap entry_of (put_else status a t (claimed k) (λ (is : t ≡ a). omega arith)) ∙ e.1));
        done = λ t lt. (let below : t < w unmarshalled = subst (λ (y : ℕ). t < y) unmarshalled_is lt in
            let e = r.logged.done t below in
            (e.0, ap entry_of (put_else status a t (claimed k) (λ (is : t ≡ a). omega arith)) ∙ e.1));
      }
      record {
        marks = λ t y is. (let found = r.rows.marks t y (sym (same t 0) ∙ is) in (
          found.0,
          (
            found.1.0,
            put_else status a y (claimed k)
                (λ (eq : y ≡ a). sent_not_unclaimed found.1.0 (sym found.1.1 ∙ ap status eq ∙ free)) ∙ found.1.1,
          ),
        ));
        shown = λ t e. by_put status a t (claimed k) (λ (x : Status). x ≡ sent e → w' claim ≤ t + terms.rows
            → w' (in_row terms.rows t 0) ≡ suc t)
            (λ _ is. absurd (claimed_not_sent k e is))
            (λ _ is le. same t 0 ∙ r.rows.shown t e is (let reach : a + 1
            ≤ t + terms.rows = subst (λ (y : ℕ). y ≤ t + terms.rows) here le in
            let g : a ≤ t + terms.rows = omega arith in g));
        raw = λ t e. by_put status a t (claimed k) (λ (x : Status). x ≡ sent e → w' claim ≤ t + terms.rows → (i : ℕ)
            → i < raw_count e → w' (in_row terms.rows t (i + 1)) ≡ raw_word e i)
            (λ _ is. absurd (claimed_not_sent k e is))
            (λ _ is le i few. same t (i + 1) ∙ r.rows.raw t e is
            (let reach : a + 1 ≤ t + terms.rows = subst (λ (y : ℕ). y ≤ t + terms.rows) here le in
            let g : a ≤ t + terms.rows = omega arith in g) i few);
        packable = λ t e. by_put status a t (claimed k) (λ (x : Status). x ≡ sent e → t < w' unmarshalled
            → IsPackable e.gateway (command_by terms t e)) (λ _ is. absurd (claimed_not_sent k e is))
            (λ _ is below. r.rows.packable t e is (subst (λ (y : ℕ). t < y) unmarshalled_is below));
        commands = λ t e. by_put status a t (claimed k) (λ (x : Status). x ≡ sent e → t < w' unmarshalled
            → w' claim ≤ t + terms.rows → (i x : ℕ) → get_elem? (commands_of terms t e) i ≡ some x
            → w' (in_row terms.rows t (i + 48)) ≡ x)
            (λ _ is. absurd (claimed_not_sent k e is))
            (λ _ is below le i x there. same t (i + 48) ∙ r.rows.commands t e is
            (subst (λ (y : ℕ). t < y) unmarshalled_is below)
            (let reach : a + 1 ≤ t + terms.rows = subst (λ (y : ℕ). y ≤ t + terms.rows) here le in
            let g : a ≤ t + terms.rows = omega arith in g) i x there);
      }
      (outgoing_stays terms w w' r.log log' r.few refl refl
      (λ t e at. ap entry_of (put_else status a t (claimed k)
      (λ (eq : t ≡ a). nothing_there (status t) e (ap status eq ∙ free) (r.outgoing.front t e at)))
      ∙ r.outgoing.front t e at)
      zero_is journalled_is (λ c from to. word_else ws 8 c (a + 1) (λ (e : c ≡ 8). omega arith))
      (all_outputs terms w w' outside) r.outgoing)
      s.homes r.filled
      (knows_claimed terms w w' r.log a k (looked p claim a) free rises same outside published_is
      (ap (λ (z : Role). w' (word_of_role z)) role ∙ word_else ws 8 (taken k) (a + 1)
      (λ (e : 32 + 8 * k ≡ 8). omega arith) ∙ sym (ap (λ (z : Role). w (word_of_role z)) role))
      (a ∷ p.claims)
      (λ t. by_put status a t (claimed k) (λ (x : Status). times_in t (a ∷ p.claims) ≡ claims_of (number_of p.role) x)
      (λ (is : t ≡ a). cond-true (eqb a t) (suc (times_in t p.claims)) (times_in t p.claims) (eq-eqb a t (sym is))
      ∙ ap suc (knows.claims t ∙ ap (claims_of (number_of p.role)) (ap status is ∙ free))
      ∙ sym (cond-true (eqb k (number_of p.role)) 1 0 (eq-eqb k (number_of p.role) (sym (ap number_of role)))))
      (λ (ne : t ≢ a). cond-false (eqb a t) (suc (times_in t p.claims)) (times_in t p.claims)
      (ne_eqb a t (λ e. ne (sym e))) ∙ knows.claims t))
      known)
      (λ o apart_from kn. knows_claimed terms w w' r.log a k o free rises same outside published_is
      (word_else ws 8 (word_of_role o.role) (a + 1) (not_claim o.role)) o.claims
      (λ t. by_put status a t (claimed k) (λ (x : Status). times_in t o.claims ≡ claims_of (number_of o.role) x)
      (λ (is : t ≡ a). kn.claims t ∙ ap (claims_of (number_of o.role)) (ap status is ∙ free)
      ∙ sym (cond-false (eqb k (number_of o.role)) 1 0
      (ne_eqb k (number_of o.role)
      (λ e. other_number o.role k lo (λ z. apart_from (z ∙ sym (ap word_of_role role))) (sym e)))))
      (λ _. kn.claims t)) kn)

  pub claims_claim : (slots id k : ℕ) (me : Seated Boxed L) (a b : ℕ) → IsAlone me.0 → (person me.0).role ≡ Gateway k
      → b ≡ a + 1 → HasRoom terms.rows (person me.0) a → a < 2 ^ 48
      → Allows (Lawful terms) slots id me claim (λ y. either (eqb y a) b y) (claims_next (step slots claim a b none) me)
  claims_claim slots id k me a b one role next room small s r wide at _ =
      let p = person me.0 in
      let w = words_of s in
      let y : ℕ = w claim in
      let then = claims_next (step slots claim a b none) me in
      let knows = (mine terms s r id me.0 p at one).2 in
      let up : ClaimsUpTo p y = λ i l there is. subst (λ (j : ℕ). l.value ≤ w j) is
      (knows.loads i l there (let j : ℕ = l.place in let j_is : j ≡ 8 = is in omega arith)) in
      exchanged y a b (Goes terms s claim id me then)
      (λ hit. (
        alone me.0 (with_claim (looked p claim y) y),
        keeps,
        tt,
        subst (λ (x : ℕ). Lawful terms record {
          words = set s.words claim x;
          homes = s.homes;
          views = set s.views id (alone me.0 (with_claim (looked p claim y) y));
        })
            (ap (λ (x : ℕ). x + 1) hit ∙ sym next)
            (claimed_now s r id k me at one role (subst (HasRoom terms.rows p) (sym hit) room)
            (subst (λ (x : ℕ). x < 2 ^ 48) (sym hit) small)),
        ((λ _. refl), (λ miss. absurd (miss hit)), up),
      ))
      (λ miss. looks terms s r claim id me (looked p claim y) then at one refl
      (knows_looked terms w r.log p claim y (λ _. le_refl y) knows) ((λ hit. absurd (miss hit)), (λ _. refl), up))

  pub claims_claim_in : (n : ℕ) → terms.rows ≡ n → (slots id k : ℕ) (me : Seated Boxed L) (a b : ℕ) → IsAlone me.0
      → (person me.0).role ≡ Gateway k → b ≡ a + 1 → HasRoom n (person me.0) a → a < 2 ^ 48
      → Allows (Lawful terms) slots id me claim (λ y. either (eqb y a) b y) (claims_next (step slots claim a b none) me)
  claims_claim_in n is slots id k me a b one role next room =
      claims_claim slots id k me a b one role next (subst (λ (j : ℕ). HasRoom j (person me.0) a) (sym is) room)
