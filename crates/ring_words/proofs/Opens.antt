-- The rule holds of the table at the start.
use Rattle.std.proofs.Common.{◌≡◌, ◌≢◌, ℕ, zero, suc, ◌+◌, ◌*◌, ◌^◌, ◌<◌, ◌≤◌, Bool, true, false, List, [], ◌∷◌, cond}
use Rattle.std.proofs.Common.{ltb, length, get_or, take, refl, ap, sym, subst, ◌∙◌, arith, le_refl}
use Rattle.std.proofs.lemmas.Bool.{lt-ltb, ltb-true, cond-true, cond-false}
use Rattle.std.proofs.lemmas.List.{take_all, length-map}
use mathlib.Core.Option.{Option, none, some, some-injective, some-ne-none}
use lib.ListN.{get_elem?}
use Rattle.std.specs.Prelude.{None, Some}
use Rattle.atomic_table.specs.Table.{opening}
use Rattle.atomic_table.proofs.Lists.{at_map}
use Rattle.venue_model.specs.History.{Message}
use Rattle.venue_model.specs.ListLaws.{stands, within}
use Rattle.ring_words.specs.declared.report.PlacedOutput.{PlacedOutput}
use Rattle.ring_words.specs.Slots.{Boxed, OutOf}
use Rattle.ring_words.specs.declared.view.Role.{Role}
use Rattle.ring_words.specs.declared.view.Role.TheVariants.{Process, Unmarshal, Journal, Marshal, Gateway}
use Rattle.ring_words.specs.declared.view.Person.{Person}
use Rattle.ring_words.specs.declared.view.View.{View}
use Rattle.ring_words.specs.Places.{processed, unmarshalled, journalled, marshalled, published, in_row, table_words}
use Rattle.ring_words.specs.Places.{taken, word_of_role, number_of}
use Rattle.ring_words.specs.Log.{Status, unclaimed, old, claimed, sent, Log, entry_of, sends_of, claims_of}
use Rattle.ring_words.specs.Terms.{Terms, outputs_by}
use Rattle.ring_words.specs.Rule.{IsGateway, IsRole, Depth, PartOf, Knows, at_place, newcomer, processor, gateways}
use Rattle.ring_words.specs.Rule.{crew, opening_word, owners, Lawful, first_view}
use Rattle.ring_words.proofs.Written.{none_written}
use Rattle.ring_words.proofs.WrittenTexts.{no_texts}
use Rattle.ring_words.proofs.Windows.{row_inside}
use Rattle.ring_words.proofs.Logs.{beyond}

abbrev as_status : Option Message → Status
as_status none = unclaimed
as_status (some e) = old e

-- what a box holds, if there is one
abbrev report_in : Option Boxed → Option PlacedOutput
report_in none = none
report_in (some b) = some b.value

abbrev start_log : List Message → List Boxed → Log
start_log base boxes = record {
  status = λ s. as_status (get_elem? base s);
  history = base;
  slots = record { reports = λ j. report_in (get_elem? boxes j); filling = None; reading = None };
}

not_old : (o : Option Message) (e : Message) → as_status o ≡ sent e → ⊥
not_old none e is = let z : zero ≡ suc zero = cc in omega arith
not_old (some d) e is = let z : zero ≡ suc zero = cc in omega arith

old_is : (o : Option Message) (e : Message) → as_status o ≡ old e → o ≡ some e
old_is none e is = cc
old_is (some d) e is = let x : d ≡ e = cc in ap some x

not_claimed_there : (o : Option Message) (k : ℕ) → as_status o ≡ claimed k → ⊥
not_claimed_there none k is = let z : zero ≡ suc zero = cc in omega arith
not_claimed_there (some d) k is = let z : zero ≡ suc zero = cc in omega arith

no_sends : (k : ℕ) (o : Option Message) → [] ≡ sends_of k (as_status o)
no_sends k none = refl
no_sends k (some e) = refl

no_claims : (k : ℕ) (o : Option Message) → 0 ≡ claims_of k (as_status o)
no_claims k none = refl
no_claims k (some e) = refl

row_empty : (start base_outputs i : ℕ) → 128 ≤ i → opening_word start base_outputs i ≡ 0
row_empty start base_outputs i le = cond-false (ltb i 32) start (cond (ltb i 112) base_outputs 0) (high i 32 (omega arith))
    ∙ cond-false (ltb i 112) base_outputs 0 (high i 112 (omega arith)) where
      from : (b : Bool) (a c : ℕ) → c ≤ a → ltb a c ≡ b → b ≡ false
      from false a c le e = refl
      from true a c le e = let lt = ltb-true a c e in absurd (omega arith)

      high : (a c : ℕ) → c ≤ a → ltb a c ≡ false
      high a c le = from (ltb a c) a c le refl

taken_given : (start base_outputs k : ℕ) → 1 ≤ k → k ≤ 8 → opening_word start base_outputs (taken k) ≡ base_outputs
taken_given start base_outputs k lo hi = cond-false (ltb (taken k) 32) start (cond (ltb (taken k) 112) base_outputs 0)
    (high (taken k) 32 (omega arith)) ∙ cond-true (ltb (taken k) 112) base_outputs 0 (lt-ltb (taken k) 112 (omega arith)) where
      from : (b : Bool) (a c : ℕ) → c ≤ a → ltb a c ≡ b → b ≡ false
      from false a c le e = refl
      from true a c le e = let lt = ltb-true a c e in absurd (omega arith)

      high : (a c : ℕ) → c ≤ a → ltb a c ≡ false
      high a c le = from (ltb a c) a c le refl

-- whom the gateways of a crew are
each_of : (k g : ℕ) (base : List Message) (base_outputs j : ℕ) (p : Person) → get_elem? (gateways k g base base_outputs) j ≡ some p
    → (i : ℕ) × (k ≤ i) × (i < k + g) × (newcomer (Gateway i) base base_outputs ≡ p)
each_of k zero base base_outputs j p at = absurd (some-ne-none p (sym at))
each_of k (suc g) base base_outputs zero p at = (
  k,
  le_refl k,
  omega arith,
  some-injective (newcomer (Gateway k) base base_outputs) p at,
)
each_of k (suc g) base base_outputs (suc j) p at = let t = each_of (suc k) g base base_outputs j p at in
    (t.0, (let a : suc k ≤ t.0 = t.1 in omega arith), (let a : t.0 < suc k + g = t.2 in omega arith), t.3)

module _ {L : Type 0} where
  only_view : (v : View L) (i : ℕ) (u : View L) → get_elem? (v ∷ []) i ≡ some u → v ≡ u
  only_view v zero u at = some-injective v u at
  only_view v (suc i) u at = absurd (some-ne-none u (sym at))

module _ {L : Type 0} (terms : Terms L) (boxes : List Boxed) where
  -- what someone who knows the history at the start knows, and nothing more: its row under way, at this place, has no
  -- word
  new_knows : (w : ℕ → ℕ) (role : Role) (sequence place : ℕ) → IsRole terms.gateways role → w (word_of_role role) ≡ sequence
      → length terms.base ≤ w unmarshalled → length terms.base ≤ w journalled
      → (role ≡ Process → place ≡ w published) → (word_of_role role ≢ processed → place ≡ 0)
      → Knows terms w (start_log terms.base boxes) (at_place (newcomer role terms.base sequence) place)
  new_knows w role sequence place there is u j at_published at_none = record {
    role = there;
    front = λ s e at. ap (λ (o : Option Message). entry_of (as_status o)) at;
    depth = deep role;
    sequence = is;
    mine = λ s. no_sends (number_of role) (get_elem? terms.base s);
    claims = λ s. no_claims (number_of role) (get_elem? terms.base s);
    loads = λ i l at. absurd (some-ne-none l (sym at));
    row = nothing_stored role refl;
    out = nothing_out role;
    written = λ e. (let none = at_none (λ z. (let y : 16 ≡ 0 = sym (ap word_of_role e) ∙ z in omega arith)) in
        none_written terms w terms.base sequence place (omega arith) (omega arith));
    written_texts = λ e. (let none = at_none (λ z. (let y : 32 ≡ 0 = sym (ap word_of_role e) ∙ z in omega arith)) in
        no_texts terms w terms.base sequence place (omega arith));
  } where
    deep : (role : Role) → Depth w role (length terms.base)
    deep Process = (u, j)
    deep Unmarshal = tt
    deep Journal = tt
    deep Marshal = j
    deep (Gateway k) = j

    nothing_out : (role : Role) → OutOf (start_log terms.base boxes).slots role None
    nothing_out Process = refl
    nothing_out Unmarshal = tt
    nothing_out Journal = tt
    nothing_out Marshal = refl
    nothing_out (Gateway k) = tt

    nothing_stored : (other : Role) → role ≡ other → PartOf terms.rows terms.output_rows w (start_log terms.base boxes)
        other record { sequence = place; words = [] }
    nothing_stored Process e = (at_published e, λ i x at. absurd (some-ne-none x (sym at)))
    nothing_stored Unmarshal e = λ i x at. absurd (some-ne-none x (sym at))
    nothing_stored Journal e = tt
    nothing_stored Marshal e = λ i x at. absurd (some-ne-none x (sym at))
    nothing_stored (Gateway k) e = λ i x at. absurd (some-ne-none x (sym at))

  -- what a person of the first crew knows
  of_crew : (w : ℕ → ℕ) → terms.gateways ≤ 8 → w processed ≡ length terms.base → w unmarshalled ≡ length terms.base
      → w journalled ≡ length terms.base → w marshalled ≡ terms.base_outputs → w published ≡ terms.base_outputs
      → ((k : ℕ) → 1 ≤ k → k ≤ 8 → w (taken k) ≡ terms.base_outputs)
      → (j : ℕ) (p : Person) → get_elem? (crew terms.gateways terms.base terms.base_outputs) j ≡ some p
      → Knows terms w (start_log terms.base boxes) p
  of_crew w few_gates first second third fourth last each j p at = by_place j at where
    n : ℕ
    n = length terms.base

    u : length terms.base ≤ w unmarshalled
    u = omega arith

    v : length terms.base ≤ w journalled
    v = omega arith

    by_place : (j : ℕ) → get_elem? (crew terms.gateways terms.base terms.base_outputs) j ≡ some p
        → Knows terms w (start_log terms.base boxes) p
    by_place zero at = subst (Knows terms w (start_log terms.base boxes))
        (some-injective (processor terms.base terms.base_outputs) p at)
        (new_knows w Process n terms.base_outputs tt first u v (λ _. sym last) (λ ne. absurd (ne refl)))
    by_place (suc zero) at = subst (Knows terms w (start_log terms.base boxes))
        (some-injective (newcomer Unmarshal terms.base n) p at)
        (new_knows w Unmarshal n 0 tt second u v (λ e. absurd (let z : 16 ≡ 0 = ap word_of_role e in omega arith))
        (λ _. refl))
    by_place (suc (suc zero)) at = subst (Knows terms w (start_log terms.base boxes))
        (some-injective (newcomer Journal terms.base n) p at)
        (new_knows w Journal n 0 tt third u v (λ e. absurd (let z : 24 ≡ 0 = ap word_of_role e in omega arith))
        (λ _. refl))
    by_place (suc (suc (suc zero))) at = subst (Knows terms w (start_log terms.base boxes))
        (some-injective (newcomer Marshal terms.base terms.base_outputs) p at)
        (new_knows w Marshal terms.base_outputs 0 tt fourth u v
        (λ e. absurd (let z : 32 ≡ 0 = ap word_of_role e in omega arith)) (λ _. refl))
    by_place (suc (suc (suc (suc j)))) at = let g : ℕ = terms.gateways in
        let t = each_of 1 g terms.base terms.base_outputs j p at in
        let k : ℕ = t.0 in
        let lo : 1 ≤ k = t.1 in
        let hi : k < 1 + g = t.2 in
        let few_g : g ≤ 8 = few_gates in let le : k ≤ 8 = omega arith in let inside : k ≤ g = omega arith in
        subst (Knows terms w (start_log terms.base boxes)) t.3
        (new_knows w (Gateway k) terms.base_outputs 0 (lo, inside) (each k lo le) u v
        (λ e. absurd (let z : 32 + 8 * k ≡ 0 = ap word_of_role e in omega arith)) (λ _. refl))

  pub starts : (ws : List ℕ) → 0 < terms.rows → 0 < terms.output_rows → 1 ≤ terms.gateways → terms.gateways ≤ 8
      → terms.base_outputs ≡ length (outputs_by terms terms.base) → length terms.base ≤ 2 ^ 48
      → length boxes ≡ terms.output_rows → length ws ≡ table_words terms.rows terms.output_rows
      → ((k : ℕ) → k < length ws → get_or ws k 0 ≡ opening_word (length terms.base) terms.base_outputs k)
      → Lawful terms (opening ws boxes (first_view terms))
  starts ws pos out_pos some_gates few_gates given_is small count wide is = let b : ℕ = length terms.base in
      let w : ℕ → ℕ = λ (k : ℕ). get_or ws k 0 in
      let done_is : w 0 ≡ b = is 0 (omega arith) in
      let claim_is : w 8 ≡ b = is 8 (omega arith) in
      let unmarshalled_is : w 16 ≡ b = is 16 (omega arith) in
      let journalled_is : w 24 ≡ b = is 24 (omega arith) in
      let m_is : w 32 ≡ terms.base_outputs = is 32 (omega arith) in let p_is : w 104 ≡ terms.base_outputs = is 104 (omega arith) in
      let each : (k : ℕ) → 1 ≤ k → k ≤ 8 → w (taken k) ≡ terms.base_outputs =
      λ k lo hi. is (taken k) (let x : 32 + 8 * k < length ws = omega arith in x)
      ∙ taken_given b terms.base_outputs k lo hi in
      let each_taken : (k : ℕ) → IsGateway terms.gateways k → w (taken k)
      ≡ terms.base_outputs = λ k g. (let lo : 1 ≤ k = g.0 in let hi : k ≤ terms.gateways = g.1 in
      each k lo (omega arith)) in
      let none_left : (k q : ℕ) → IsGateway terms.gateways k → w (taken k) ≤ q → q < terms.base_outputs
      → ⊥ = λ k q g from to. (let e = each_taken k g in omega arith) in
      record {
        log = start_log terms.base boxes;
        some_row = pos;
        some_output_row = out_pos;
        some_gateway = some_gates;
        few = few_gates;
        wide = wide;
        order = record {
          processed_unmarshalled = omega arith;
          processed_journalled = omega arith;
          unmarshalled_claimed = omega arith;
          journalled_claimed = omega arith;
          room = omega arith;
          most = omega arith;
        };
        logged = record {
          start = omega arith;
          based = λ s e at. ap as_status at;
          older = λ s e o. within terms.base s e (old_is (get_elem? terms.base s) e o);
          ahead = λ s le. ap as_status (beyond terms.base s (let l : b ≤ s = omega arith in l));
          somebodys = λ s lt u. (let at = stands terms.base s (let l : s < b = omega arith in l) in
              let z : old at.0 ≡ unclaimed = sym (ap as_status at.1) ∙ u in let y : zero ≡ suc zero = cc in
              omega arith);
          holder = λ s k at. absurd (not_claimed_there (get_elem? terms.base s) k at);
          sender = λ s e at. absurd (not_old (get_elem? terms.base s) e at);
          kept = λ s lt. (let at = stands terms.base s (let l : s < b = omega arith in l) in
              (at.0, ap (λ (o : Option Message). entry_of (as_status o)) at.1));
          done = λ s lt. (let at = stands terms.base s (let l : s < b = omega arith in l) in
              (at.0, ap (λ (o : Option Message). entry_of (as_status o)) at.1));
        };
        rows = record {
          marks = λ s x e. (let k : ℕ = in_row terms.rows s 0 in
              let zero_there : w k ≡ 0 = is k
              (subst (λ (y : ℕ). k < y) (sym wide) (row_inside terms.rows terms.output_rows s 0 pos (omega arith)))
              ∙ row_empty b terms.base_outputs k (omega arith) in absurd (omega arith));
          shown = λ s e at. absurd (not_old (get_elem? terms.base s) e at);
          raw = λ s e at. absurd (not_old (get_elem? terms.base s) e at);
          commands = λ s e at. absurd (not_old (get_elem? terms.base s) e at);
          packable = λ s e at. absurd (not_old (get_elem? terms.base s) e at);
        };
        outgoing = record {
          kept = sym journalled_is;
          front = λ s e at. ap (λ (o : Option Message). entry_of (as_status o)) at;
          marshalled_published = omega arith;
          taken_marshalled = λ k g. (let e = each_taken k g in omega arith);
          free = λ k g. (let e = each_taken k g in omega arith);
          least = (let all : take (w 0) terms.base ≡ terms.base = take_all (w 0) terms.base (omega arith) in
              let long : length (outputs_by terms (take (w 0) terms.base))
              ≡ length (outputs_by terms terms.base) = ap (λ (h : List Message). length (outputs_by terms h)) all in
              omega arith);
          most = (let all : take (suc (w 0)) terms.base ≡ terms.base = take_all (suc (w 0)) terms.base (omega arith) in
              let long : length (outputs_by terms (take (suc (w 0)) terms.base))
              ≡ length (outputs_by terms terms.base) = ap (λ (h : List Message). length (outputs_by terms h)) all in
              omega arith);
          addresses = λ k q o g from to. absurd (none_left k q g from (omega arith));
          reports = λ k q o g from to. absurd (none_left k q g from (omega arith));
          filling = λ f is. absurd (let none_is : None ≡ Some f = is in cc);
          reading = λ f is. absurd (let none_is : None ≡ Some f = is in cc);
          texts = λ k q o g from to. absurd (none_left k q g from (omega arith));
          readable = λ k q o g from to. absurd (none_left k q g from (omega arith));
        };
        filled = record {
          wide = length-map boxes some ∙ count;
          home = λ j low _ _. (let b = stands boxes j (omega arith) in
              (b.0, at_map some boxes j b.0 b.1, ap report_in b.1));
        };
        people = λ id j v p there in_it. (let first : View L = first_view terms in
            let is_first : first ≡ v = only_view first id v there in
            let at : get_elem? (crew terms.gateways terms.base terms.base_outputs) j
            ≡ some p = subst (λ (u : View L). get_elem? u.people j ≡ some p) (sym is_first) in_it in (
              ap (λ (u : View L). u.logic) (sym is_first),
              ap (λ (u : View L). u.base) (sym is_first),
              of_crew w few_gates done_is unmarshalled_is journalled_is m_is p_is each j p at,
            ));
        once = λ k. (let x : ℕ = owners k (crew terms.gateways terms.base terms.base_outputs) in
            let g : x + 0 ≡ x = omega arith in g);
      }
