-- The stores of a stage's own control word keep the rule.
use Rattle.std.proofs.Common.{inr, ◌≡◌, ◌≢◌, ℕ, suc, ◌+◌, ◌<◌, ◌≤◌, List, length, take, length-set, get_or, set, refl}
use Rattle.std.proofs.Common.{ap, sym, subst, ◌∙◌, arith, le_refl}
use Rattle.std.proofs.lemmas.List.{length-take-le}
use mathlib.Core.Option.{none, some}
use mathlib.Core.Logic.{dite}
use native.Mathlib.Decide.{dec_lt, ℕ_discrete}
use lib.ListN.{get_elem?}
use Rattle.atomic_table.specs.Table.{State, step, keeps, Allows}
use Rattle.venue_model.specs.History.{Message}
use Rattle.venue_model.specs.ListLaws.{stands, within}
use Rattle.ring_words.specs.Slots.{Boxed}
use Rattle.ring_words.specs.declared.view.Role.{Role}
use Rattle.ring_words.specs.declared.view.Role.TheVariants.{Unmarshal, Journal}
use Rattle.ring_words.specs.declared.view.View.{View}
use Rattle.ring_words.specs.Places.{processed, claim, unmarshalled, journalled, marshalled, published, first_row}
use Rattle.ring_words.specs.Places.{in_row, out_row, word_of_role}
use Rattle.ring_words.specs.Log.{sent, entry_of}
use Rattle.command_words.specs.Packing.{IsPackable}
use Rattle.ring_words.specs.Terms.{Terms, commands_of, command_by}
use Rattle.ring_words.specs.Rule.{Ordered, PartOf, Written, Outgoing, words_of, Lawful}
use Rattle.ring_words.specs.Seats.{person, IsAlone, alone, moved}
use Rattle.ring_words.specs.Steps.{Seated, WroteCommand, moves_own}
use Rattle.ring_words.proofs.Windows.{no_control}
use Rattle.ring_words.proofs.Puts.{word_here, word_else}
use Rattle.ring_words.proofs.Written.{written_below}
use Rattle.ring_words.proofs.Logs.{one_entry, reaches, knows_risen, still_knows}
use Rattle.ring_words.proofs.Keeps.{mine, after}
use Rattle.ring_words.proofs.Outputs.{begins, front_taken}
use Rattle.ring_words.proofs.Outgoings.{all_outputs, outgoing_stays, outgoing_grows, no_output}
use Rattle.ring_words.proofs.Stays.{all_rows, ordered_stays, logged_rises, rows_rise}

-- a word that didn't fall: no word did
pub risen : (ws : List ℕ) (i x k : ℕ) → i < length ws → get_or ws i 0 ≤ x → get_or ws k 0 ≤ get_or (set ws i x) k 0
risen ws i x k inside up = dite (ℕ_discrete k i)
    (λ e. subst (λ (j : ℕ). get_or ws j 0 ≤ get_or (set ws i x) j 0) (sym e)
    (subst (λ (y : ℕ). get_or ws i 0 ≤ y) (sym (word_here ws i x inside)) up))
    (λ ne. subst (λ (y : ℕ). get_or ws k 0 ≤ y) (sym (word_else ws i k x ne)) (le_refl (get_or ws k 0)))

module _ {L : Type 0} (terms : Terms L) where
  -- Somebody moves the own word, at k, to x, and the history that is kept may become another: what is left to show is
  -- the order of the control
  -- words, what lies below unmarshalled and journalled, and the output ring
  pub own_now : (s : State Boxed (View L)) (r : Lawful terms s) (h : List Message) (id : ℕ) (me : Seated Boxed L)
      (k x : ℕ) → get_elem? s.views id ≡ some me.0 → IsAlone me.0 → word_of_role (person me.0).role ≡ k
      → k < first_row → k ≢ claim → k ≢ published → (person me.0).sequence ≤ x
      → Ordered terms (λ j. get_or (set s.words k x) j 0)
      → ((t : ℕ) → t < get_or (set s.words k x) unmarshalled 0 → (e : Message) × (entry_of (r.log.status t) ≡ some e))
      → ((t : ℕ) → t < get_or (set s.words k x) journalled 0 → (e : Message) × (entry_of (r.log.status t) ≡ some e))
      → ((t : ℕ) (e : Message) → r.log.status t ≡ sent e → t < get_or (set s.words k x) unmarshalled 0
      → words_of s claim ≤ t + terms.rows → (i y : ℕ) → get_elem? (commands_of terms t e) i ≡ some y
      → words_of s (in_row terms.rows t (i + 48)) ≡ y)
      → ((t : ℕ) (e : Message) → r.log.status t ≡ sent e → t < get_or (set s.words k x) unmarshalled 0
      → IsPackable e.gateway (command_by terms t e))
      → Outgoing terms (λ j. get_or (set s.words k x) j 0) (record r.log { history = h })
      → Lawful terms record {
        words = set s.words k x;
        homes = s.homes;
        views = set s.views id (alone me.0 (moved (person me.0) x));
      }
  own_now s r h id me k x at one place low no_claim no_published up order done kept commands packable outgoing =
      let p = person me.0 in
      let ws = s.words in
      let w = words_of s in
      let ws' = set ws k x in
      let w' : ℕ → ℕ = λ (j : ℕ). get_or ws' j 0 in
      let knows = (mine terms s r id me.0 p at one).2 in
      let own_is : w k ≡ p.sequence = subst (λ (j : ℕ). w j ≡ p.sequence) place knows.sequence in
      let inside : k < length ws = (let v = r.wide in let lt : k < 128 = low in omega arith) in
      let here : w' k ≡ x = word_here ws k x inside in
      let claim_is : w' claim ≡ w claim = word_else ws k claim x (λ e. no_claim (sym e)) in
      let same : (t i : ℕ) → w' (in_row terms.rows t i) ≡ w (in_row terms.rows t i) =
      λ t i. word_else ws k (in_row terms.rows t i) x (no_control terms.rows t i k low) in
      let rises : (j : ℕ) → j < first_row → w j ≤ w' j = λ j _. risen ws k x j inside
      (let g : w k ≤ x = omega arith in g) in
      let zero_up : w processed ≤ w' processed = rises processed (omega arith) in
      let same_out : (q i : ℕ) → w' (out_row terms.rows terms.output_rows q i)
      ≡ w (out_row terms.rows terms.output_rows q i) = λ q i. word_else ws k
      (out_row terms.rows terms.output_rows q i) x
      (no_output terms.rows terms.output_rows q i k (let n : ℕ = terms.rows in omega arith)) in
      let published_is : w' published ≡ w published = word_else ws k published x (λ e. no_published (sym e)) in
      after terms s r ws' id me.0 p (moved p x) at one refl (length-set ws k x) (record r.log { history = h }) order
      (logged_rises terms w w' r.log h zero_up claim_is done kept r.logged)
      (rows_rise terms w w' r.log h claim_is r.logged (all_rows terms w w' r.log (λ t i _. same t i)) commands packable
      r.rows)
      outgoing
      s.homes r.filled
      (still_knows terms w' r.log h (moved p x)
      (knows_risen terms w r.log w' p x rises same same_out (λ _. published_is) (ap w' place ∙ here) knows))
      (λ o apart_from known. still_knows terms w' r.log h o
      (knows_risen terms w r.log w' o o.sequence rises same same_out (λ _. published_is)
      (word_else ws k (word_of_role o.role) x (λ e. apart_from (e ∙ sym place)) ∙ known.sequence) known))

  -- the same of an own word of the output ring: its part of the rule alone is left to show
  pub own_output_now : (s : State Boxed (View L)) (r : Lawful terms s) (id : ℕ) (me : Seated Boxed L) (k x : ℕ)
      → get_elem? s.views id ≡ some me.0 → IsAlone me.0 → word_of_role (person me.0).role ≡ k
      → marshalled ≤ k → k < published → (person me.0).sequence ≤ x
      → Outgoing terms (λ j. get_or (set s.words k x) j 0) r.log
      → Lawful terms record {
        words = set s.words k x;
        homes = s.homes;
        views = set s.views id (alone me.0 (moved (person me.0) x));
      }
  own_output_now s r id me k x at one place from to up outgoing =
      let w = words_of s in let w' : ℕ → ℕ = λ (j : ℕ). get_or (set s.words k x) j 0 in
      let same : (c : ℕ) → c < marshalled → w' c ≡ w c = λ c low. word_else s.words k c x
      (λ (e : c ≡ k). omega arith) in
      own_now s r r.log.history id me k x at one place (omega arith) (λ (e : k ≡ claim). omega arith)
      (λ (e : k ≡ published). omega arith) up
      (ordered_stays terms w w' r.log same r.order)
      (λ t lt. r.logged.done t (subst (λ (y : ℕ). t < y) (same unmarshalled (omega arith)) lt))
      (λ t lt. r.logged.kept t (subst (λ (y : ℕ). t < y) (same journalled (omega arith)) lt))
      (λ t e is below. r.rows.commands t e is (subst (λ (y : ℕ). t < y) (same unmarshalled (omega arith)) below))
      (λ t e is below. r.rows.packable t e is (subst (λ (y : ℕ). t < y) (same unmarshalled (omega arith)) below))
      outgoing

  -- the journaller moves its word to what it knows at most
  pub stores_journalled : (slots id : ℕ) (me : Seated Boxed L) (x : ℕ) → IsAlone me.0 → (person me.0).role ≡ Journal
      → (person me.0).sequence ≤ x → x ≤ length (person me.0).seen
      → Allows (Lawful terms) slots id me journalled (λ _. x) (λ _. moves_own (step slots journalled x 0 none) me x)
  stores_journalled slots id me x one role low high s r wide at _ =
      let p = person me.0 in
      let ws = s.words in
      let w = words_of s in
      let w' : ℕ → ℕ = λ (j : ℕ). get_or (set ws 24 x) j 0 in
      let knows = (mine terms s r id me.0 p at one).2 in
      let own_is : w 24 ≡ p.sequence = subst (λ (z : Role). w (word_of_role z) ≡ p.sequence) role knows.sequence in
      let reach = reaches terms w r.log p.seen r.logged knows.front in
      let inside : 24 < length ws = (let v = r.wide in omega arith) in
      let here : w' 24 ≡ x = word_here ws 24 x inside in
      let zero_is : w' 0 ≡ w 0 = word_else ws 24 0 x (λ (e : 0 ≡ 24). omega arith) in
      let claim_is : w' 8 ≡ w 8 = word_else ws 24 8 x (λ (e : 8 ≡ 24). omega arith) in
      let unmarshalled_is : w' 16 ≡ w 16 = word_else ws 24 16 x (λ (e : 16 ≡ 24). omega arith) in
      let order = r.order in
      let first = order.processed_unmarshalled in
      let second = order.processed_journalled in
      let third = order.unmarshalled_claimed in
      let fourth = order.journalled_claimed in
      let room = order.room in
      let most = order.most in (
        alone me.0 (moved p x),
        keeps,
        tt,
        own_now s r (take x p.seen) id me 24 x at one (ap word_of_role role) (omega arith) (λ (e : 24 ≡ 8). omega arith)
            (λ (e : 24 ≡ 104). omega arith) low
            record {
              processed_unmarshalled = omega arith;
              processed_journalled = omega arith;
              unmarshalled_claimed = omega arith;
              journalled_claimed = omega arith;
              room = omega arith;
              most = omega arith;
            }
            (λ t lt. r.logged.done t (subst (λ (y : ℕ). t < y) unmarshalled_is lt))
            (λ t lt. (let below : t < x = subst (λ (y : ℕ). t < y) here lt in
            let e = stands p.seen t (let l : t < length p.seen = omega arith in l) in
            (e.0, knows.front t e.0 e.1)))
            (λ t e is below. r.rows.commands t e is (subst (λ (y : ℕ). t < y) unmarshalled_is below))
            (λ t e is below. r.rows.packable t e is (subst (λ (y : ℕ). t < y) unmarshalled_is below))
            (let kept_now : length r.log.history ≡ w 24 = r.outgoing.kept in let long = length-take-le x p.seen high in
            let front = front_taken r.log.status x p.seen knows.front in
            let longer = begins r.log.status (take x p.seen) r.log.history front r.outgoing.front (omega arith) in
            outgoing_grows terms w w' r.log (take x p.seen) longer.0 r.few longer.1 front (omega arith) zero_is
            (here ∙ sym long)
            (λ k from to. word_else ws 24 k x (λ (e : k ≡ 24). omega arith))
            (λ q i. word_else ws 24 (out_row terms.rows terms.output_rows q i) x
            (no_output terms.rows terms.output_rows q i 24 (let n : ℕ = terms.rows in omega arith))) r.outgoing),
        refl,
      )

  -- the unmarshaller moves its word behind the row under way, whose command it wrote whole
  pub stores_unmarshalled : (slots id : ℕ) (me : Seated Boxed L) (x : ℕ) (e : Message) → IsAlone me.0
      → (person me.0).role ≡ Unmarshal → x ≡ suc (person me.0).row.sequence
      → WroteCommand (terms.reads terms.logic) (person me.0) e
      → Allows (Lawful terms) slots id me unmarshalled (λ _. x) (λ _. moves_own (step slots unmarshalled x 0 none) me x)
  stores_unmarshalled slots id me x e one role next wrote s r wide at _ =
      let p = person me.0 in
      let ws = s.words in
      let w = words_of s in
      let w' : ℕ → ℕ = λ (j : ℕ). get_or (set ws 16 x) j 0 in
      let knows = (mine terms s r id me.0 p at one).2 in
      let own_is : w 16 ≡ p.sequence = subst (λ (z : Role). w (word_of_role z) ≡ p.sequence) role knows.sequence in
      let reach = reaches terms w r.log p.seen r.logged knows.front in let row = wrote.row in
      let longer : p.row.sequence < length p.seen = within p.seen p.row.sequence e wrote.entry in
      let part = subst (λ (z : Role). PartOf terms.rows terms.output_rows w r.log z p.row) role knows.row in
      let all : Written terms w p.seen p.sequence x = written_below terms w p part (knows.written role) x
      (inr (inr (next, (e, wrote)))) (omega arith) in
      let inside : 16 < length ws = (let v = r.wide in omega arith) in
      let here : w' 16 ≡ x = word_here ws 16 x inside in
      let zero_is : w' 0 ≡ w 0 = word_else ws 16 0 x (λ (z : 0 ≡ 16). omega arith) in
      let claim_is : w' 8 ≡ w 8 = word_else ws 16 8 x (λ (z : 8 ≡ 16). omega arith) in
      let journalled_is : w' 24 ≡ w 24 = word_else ws 16 24 x (λ (z : 24 ≡ 16). omega arith) in
      let order = r.order in
      let first = order.processed_unmarshalled in
      let second = order.processed_journalled in
      let third = order.unmarshalled_claimed in
      let fourth = order.journalled_claimed in
      let room = order.room in
      let most = order.most in
      let below : (t : ℕ) → t < w' 16 → t < x = λ t lt. subst (λ (y : ℕ). t < y) here lt in
      let known : (t : ℕ) (d : Message) → t < x → r.log.status t ≡ sent d
      → get_elem? p.seen t ≡ some d = λ t d lt is. (let stood = stands p.seen t (omega arith) in
      stood.1 ∙ ap some (one_entry (r.log.status t) stood.0 d (knows.front t stood.0 stood.1) is)) in (
        alone me.0 (moved p x),
        keeps,
        tt,
        own_now s r r.log.history id me 16 x at one (ap word_of_role role) (omega arith) (λ (z : 16 ≡ 8). omega arith)
            (λ (z : 16 ≡ 104). omega arith) (omega arith)
            record {
              processed_unmarshalled = omega arith;
              processed_journalled = omega arith;
              unmarshalled_claimed = omega arith;
              journalled_claimed = omega arith;
              room = omega arith;
              most = omega arith;
            }
            (λ t lt. (let under = below t lt in let d = stands p.seen t
            (let l : t < length p.seen = omega arith in l) in (d.0, knows.front t d.0 d.1)))
            (λ t lt. r.logged.kept t (subst (λ (y : ℕ). t < y) journalled_is lt))
            (λ t d is lt late i y there. dite (dec_lt t (w 16))
            (λ before. r.rows.commands t d is before late i y there)
            (λ (behind : ¬ (t < w 16)). all.commands t d (known t d (below t lt) is) (omega arith) (below t lt) i y
            there))
            (λ t d is lt. dite (dec_lt t (w 16))
            (λ before. r.rows.packable t d is before)
            (λ (behind : ¬ (t < w 16)). all.packable t d (known t d (below t lt) is) (omega arith) (below t lt)))
            (outgoing_stays terms w w' r.log r.log r.few refl refl r.outgoing.front zero_is journalled_is
            (λ k from to. word_else ws 16 k x (λ (z : k ≡ 16). omega arith))
            (all_outputs terms w w' (λ q i. word_else ws 16 (out_row terms.rows terms.output_rows q i) x
            (no_output terms.rows terms.output_rows q i 16 (let n : ℕ = terms.rows in omega arith)))) r.outgoing),
        refl,
      )
