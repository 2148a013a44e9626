-- What a step leaves as it was: the parts of the rule that read none of the words that it changes, and what persons
-- know by them.
use Rattle.std.proofs.Common.{◌≡◌, ◌≢◌, ℕ, ◌+◌, ◌<◌, ◌≤◌, List, [], ◌∷◌, ◌++◌, ⊎_elim, length, length-set, take, get_or}
use Rattle.std.proofs.Common.{set, refl, sym, subst, ◌∙◌, arith, le_refl}
use Rattle.std.proofs.lemmas.List.{length-take-le}
use mathlib.Core.Option.{some}
use lib.ListN.{get_elem?}
use Rattle.atomic_table.specs.Table.{State}
use Rattle.venue_model.specs.History.{Message}
use Rattle.venue_model.specs.ListLaws.{at_end, within}
use Rattle.ring_words.specs.Slots.{Boxed, Slots, OutOf}
use Rattle.ring_words.specs.declared.view.Role.{Role}
use Rattle.ring_words.specs.declared.view.Role.TheVariants.{Process, Unmarshal, Journal, Marshal, Gateway}
use Rattle.ring_words.specs.declared.view.Part.{Part}
use Rattle.ring_words.specs.declared.view.Person.{Person}
use Rattle.ring_words.specs.declared.view.View.{View}
use Rattle.ring_words.specs.Places.{processed, claim, unmarshalled, journalled, marshalled, published, first_row}
use Rattle.ring_words.specs.Places.{in_row, out_row, word_of_role, number_of}
use Rattle.ring_words.specs.Log.{IsEntry, claimed, sent, Log, entry_of, sends_of, claims_of}
use Rattle.ring_words.specs.Raw.{raw_count}
use Rattle.command_words.specs.Packing.{IsPackable}
use Rattle.ring_words.specs.Terms.{Terms, commands_of, command_by}
use Rattle.ring_words.specs.Rule.{IsRole, Ordered, Logged, Rows, PartOf, Written, WrittenTexts, Knows, words_of, Lawful}
use Rattle.ring_words.specs.Seats.{person, IsAlone, alone, stored}
use Rattle.ring_words.specs.Steps.{Seated, GoesOnRow}
use Rattle.ring_words.proofs.Puts.{word_else}
use Rattle.ring_words.proofs.Written.{written_on}
use Rattle.ring_words.proofs.WrittenTexts.{texts_on}
use Rattle.ring_words.proofs.Logs.{short_words, in_take, depth_risen, knows_on}
use Rattle.ring_words.proofs.Keeps.{mine, after}
use Rattle.ring_words.proofs.Outgoings.{SameOutputs, outgoing_stays}

-- the word of each role is a control word
pub place_low : (g : ℕ) (role : Role) → g ≤ 8 → IsRole g role → word_of_role role < first_row
place_low g Process few h = omega arith
place_low g Unmarshal few h = omega arith
place_low g Journal few h = omega arith
place_low g Marshal few h = omega arith
place_low g (Gateway k) few h = let a = h.1 in omega arith

-- a message has at most 41 words
pub few_words : (e : Message) → IsEntry e → raw_count e ≤ 41
few_words e h = let most = h.message.most in omega arith

module _ {L : Type 0} (terms : Terms L) (w w' : ℕ → ℕ) (log : Log) where
  -- whoever may read a row of the input ring finds the same words there
  pub record SameRows : Type 0 where
    pub marks : (t : ℕ) → w' (in_row terms.rows t 0) ≡ w (in_row terms.rows t 0)
    pub raw : (t : ℕ) (e : Message) → log.status t ≡ sent e → w claim ≤ t + terms.rows
        → (i : ℕ) → i < 41 → w' (in_row terms.rows t (i + 1)) ≡ w (in_row terms.rows t (i + 1))
    pub commands : (t : ℕ) (e : Message) → log.status t ≡ sent e → t < w' unmarshalled → w claim ≤ t + terms.rows
        → (i : ℕ) → i < 16 → w' (in_row terms.rows t (i + 48)) ≡ w (in_row terms.rows t (i + 48))

  -- as where no word of a row changed
  pub all_rows : ((t i : ℕ) → i < 64 → w' (in_row terms.rows t i) ≡ w (in_row terms.rows t i)) → SameRows
  all_rows same = record {
    marks = λ t. same t 0 (omega arith);
    raw = λ t e is late i few. same t (i + 1) (omega arith);
    commands = λ t e is below late i few. same t (i + 48) (omega arith);
  }

  -- the order of the control words of the input ring
  pub ordered_stays : ((c : ℕ) → c < marshalled → w' c ≡ w c) → Ordered terms w → Ordered terms w'
  ordered_stays same r =
      let zero_is : w' 0 ≡ w 0 = same 0 (omega arith) in let claim_is : w' 8 ≡ w 8 = same 8 (omega arith) in
      let unmarshalled_is : w' 16 ≡ w 16 = same 16 (omega arith) in
      let journalled_is : w' 24 ≡ w 24 = same 24 (omega arith) in
      let first = r.processed_unmarshalled in
      let second = r.processed_journalled in
      let third = r.unmarshalled_claimed in
      let fourth = r.journalled_claimed in let room = r.room in let most = r.most in record {
        processed_unmarshalled = omega arith;
        processed_journalled = omega arith;
        unmarshalled_claimed = omega arith;
        journalled_claimed = omega arith;
        room = omega arith;
        most = omega arith;
      }

  -- the log's part, whatever history is kept, where processed doesn't fall, and all below unmarshalled and all below
  -- journalled stands
  pub logged_rises : (h : List Message) → w processed ≤ w' processed → w' claim ≡ w claim
      → ((t : ℕ) → t < w' unmarshalled → (e : Message) × (entry_of (log.status t) ≡ some e))
      → ((t : ℕ) → t < w' journalled → (e : Message) × (entry_of (log.status t) ≡ some e)) → Logged terms w log
      → Logged terms w' (record log { history = h })
  logged_rises h up claim_is done kept r = record {
    start = (let low = r.start in omega arith);
    based = r.based;
    older = r.older;
    holder = r.holder;
    sender = r.sender;
    ahead = λ t le. r.ahead t (subst (λ (y : ℕ). y ≤ t) claim_is le);
    somebodys = λ t lt. r.somebodys t (subst (λ (y : ℕ). t < y) claim_is lt);
    done = done;
    kept = kept;
  }

  -- the same, where the input ring's control words are as before
  pub logged_stays : ((c : ℕ) → c < marshalled → w' c ≡ w c) → Logged terms w log → Logged terms w' log
  logged_stays same r = logged_rises log.history
      (subst (λ (y : ℕ). w 0 ≤ y) (sym (same 0 (omega arith))) (le_refl (w 0))) (same 8 (omega arith))
      (λ t lt. r.done t (subst (λ (y : ℕ). t < y) (same 16 (omega arith)) lt))
      (λ t lt. r.kept t (subst (λ (y : ℕ). t < y) (same 24 (omega arith)) lt)) r

  -- the rows' part, whatever history is kept, where the commands of all below unmarshalled stood already
  pub rows_rise : (h : List Message) → w' claim ≡ w claim → Logged terms w log → SameRows
      → ((t : ℕ) (e : Message) → log.status t ≡ sent e → t < w' unmarshalled → w claim ≤ t + terms.rows
      → (i y : ℕ) → get_elem? (commands_of terms t e) i ≡ some y → w (in_row terms.rows t (i + 48)) ≡ y)
      → ((t : ℕ) (e : Message) → log.status t ≡ sent e → t < w' unmarshalled
      → IsPackable e.gateway (command_by terms t e))
      → Rows terms w log → Rows terms w' (record log { history = h })
  rows_rise h claim_is logged same commands packable r = record {
    marks = λ t y is. r.marks t y (sym (same.marks t) ∙ is);
    shown = λ t e is le. same.marks t ∙ r.shown t e is (subst (λ (y : ℕ). y ≤ t + terms.rows) claim_is le);
    raw = λ t e is le i few. (let late = subst (λ (y : ℕ). y ≤ t + terms.rows) claim_is le in
        let bound = few_words e (logged.sender t e is).0 in
        same.raw t e is late i (omega arith) ∙ r.raw t e is late i few);
    commands = λ t e is below le i y there. (let late = subst (λ (z : ℕ). z ≤ t + terms.rows) claim_is le in
        let size = short_words e.gateway (command_by terms t e) in let few = within (commands_of terms t e) i y there in
        same.commands t e is below late i (omega arith) ∙ commands t e is below late i y there);
    packable = packable;
  }

  -- the same, where the input ring's control words are as before
  pub rows_stay : ((c : ℕ) → c < marshalled → w' c ≡ w c) → Logged terms w log → SameRows → Rows terms w log
      → Rows terms w' log
  rows_stay same logged rows r = rows_rise log.history (same 8 (omega arith)) logged rows
      (λ t e is below. r.commands t e is (subst (λ (z : ℕ). t < z) (same 16 (omega arith)) below))
      (λ t e is below. r.packable t e is (subst (λ (z : ℕ). t < z) (same 16 (omega arith)) below)) r

-- the log's part and the rows' part read nothing of the slots
pub logged_out : {L : Type 0} (terms : Terms L) (w : ℕ → ℕ) (log : Log) (slots : Slots) → Logged terms w log
    → Logged terms w (record log { slots = slots })
logged_out terms w log slots r = record {
  start = r.start;
  based = r.based;
  older = r.older;
  ahead = r.ahead;
  somebodys = r.somebodys;
  holder = r.holder;
  sender = r.sender;
  done = r.done;
  kept = r.kept;
}

pub rows_out : {L : Type 0} (terms : Terms L) (w : ℕ → ℕ) (log : Log) (slots : Slots) → Rows terms w log
    → Rows terms w (record log { slots = slots })
rows_out terms w log slots r = record {
  marks = r.marks;
  shown = r.shown;
  raw = r.raw;
  commands = r.commands;
  packable = r.packable;
}

-- the words that a role stores in the row under way, of this log and of another in which its claims stand
pub record SameParts {L : Type 0} (terms : Terms L) (w w' : ℕ → ℕ) (log log' : Log) (role : Role) : Type 0 where
  pub raw : (t i j : ℕ) → role ≡ Gateway j → i < 41 → log.status t ≡ claimed j
      → (log'.status t ≡ claimed j) × (w' (in_row terms.rows t (i + 1)) ≡ w (in_row terms.rows t (i + 1)))
  pub commands : (t i : ℕ) → role ≡ Unmarshal → i < 16 → w' (in_row terms.rows t (i + 48))
      ≡ w (in_row terms.rows t (i + 48))
  pub outputs : (q i : ℕ) → role ≡ Process → i < 1 → w' (out_row terms.rows terms.output_rows q i)
      ≡ w (out_row terms.rows terms.output_rows q i)
  pub texts : (q i : ℕ) → role ≡ Marshal → i < 64 → w' (out_row terms.rows terms.output_rows q (i + 64))
      ≡ w (out_row terms.rows terms.output_rows q (i + 64))

-- what another person knows stays, where entries stay, its publications and claims stay, control words stay, its row
-- stays, and the slots stay
pub others_know : {L : Type 0} (terms : Terms L) (w w' : ℕ → ℕ) (log log' : Log) (o : Person) → terms.gateways ≤ 8
    → log'.slots ≡ log.slots
    → ((s : ℕ) (e : Message) → entry_of (log.status s) ≡ some e → entry_of (log'.status s) ≡ some e)
    → ((s : ℕ) → sends_of (number_of o.role) (log.status s) ≡ sends_of (number_of o.role) (log'.status s))
    → ((s : ℕ) → claims_of (number_of o.role) (log.status s) ≡ claims_of (number_of o.role) (log'.status s))
    → ((c : ℕ) → c < first_row → w' c ≡ w c) → SameParts terms w w' log log' o.role → Knows terms w log o
    → Knows terms w' log' o
others_know terms w w' log log' o few slots_are entries sends claims control same r = record {
  role = r.role;
  front = λ s e at. entries s e (r.front s e at);
  depth = depth_risen w w' (λ c low. subst (λ (y : ℕ). w c ≤ y) (sym (control c low)) (le_refl (w c))) o.role
      (length o.seen) r.depth;
  sequence = control (word_of_role o.role) (place_low terms.gateways o.role few r.role) ∙ r.sequence;
  mine = λ s. r.mine s ∙ sends s;
  claims = λ s. r.claims s ∙ claims s;
  loads = λ i l at low. subst (λ (y : ℕ). l.value ≤ y) (sym (control l.place low)) (r.loads i l at low);
  row = part_stays o.role refl r.row;
  written = λ is. written_on terms w w' o.seen o.sequence o.sequence o.row.sequence (le_refl o.sequence)
      (λ s i x e lo hi at. (let size = short_words e.gateway (command_by terms s e) in
      let few = within (commands_of terms s e) i x at in same.commands s i is (omega arith)))
      (r.written is);
  written_texts = λ is. texts_on terms w w' o.seen o.sequence o.sequence o.row.sequence (le_refl o.sequence)
      (λ q i lo hi few. same.texts q i is few) (r.written_texts is);
  out = subst (λ (x : Slots). OutOf x o.role o.out) (sym slots_are) r.out;
} where
  part_stays : (role : Role) → o.role ≡ role → PartOf terms.rows terms.output_rows w log role o.row
      → PartOf terms.rows terms.output_rows w' log' role o.row
  part_stays Process is h = (
    h.0 ∙ sym (control published (omega arith)),
    λ i x at. let t = h.1 i x at in
        (t.0, same.outputs o.row.sequence i is t.0 ∙ t.1),
  )
  part_stays Unmarshal is h = λ i x at. let t = h i x at in (t.0, same.commands o.row.sequence i is t.0 ∙ t.1)
  part_stays Journal is h = tt
  part_stays Marshal is h = λ i x at. let t = h i x at in (t.0, same.texts o.row.sequence i is t.0 ∙ t.1)
  part_stays (Gateway j) is h = λ i x at. let t = h i x at in
      let u = same.raw o.row.sequence i j is t.0 t.1 in
      (t.0, u.0, u.1 ∙ t.2)

-- what holds of the words of a row so far, and of the next one as word i, holds of all of them
pub one_word_more : (F : ℕ → ℕ → Type 0) (t : Part) (a i x : ℕ) → GoesOnRow t a i
    → ((j y : ℕ) → j < i → t.sequence ≡ a → get_elem? t.words j ≡ some y → F j y) → F i x
    → (j y : ℕ) → get_elem? (take i t.words ++ x ∷ []) j ≡ some y → F j y
one_word_more F t a i x goes_on before next j y there = ⊎_elim
    (λ was. let old = in_take t.words i j y was in before j y old.0 (same_row old.0) old.1)
    (λ (last : (j ≡ length (take i t.words)) × (x ≡ y)). subst (F j) last.1
    (subst (λ (k : ℕ). F k x) (sym (last.0 ∙ long)) next))
    (at_end (take i t.words) x y j there) where
      same_row : j < i → t.sequence ≡ a
      same_row lt = ⊎_elim (λ (none_yet : i ≡ 0). absurd (omega arith))
          (λ (on : (t.sequence ≡ a) × (i ≤ length t.words)). on.0) goes_on

      long : length (take i t.words) ≡ i
      long = ⊎_elim (λ (none_yet : i ≡ 0). subst (λ (k : ℕ). length (take k t.words) ≡ k) (sym none_yet) refl)
          (λ (on : (t.sequence ≡ a) × (i ≤ length t.words)). length-take-le i t.words on.1) goes_on

module _ {L : Type 0} (terms : Terms L) where
  -- the rule holds after a word of a row becomes x, the next word of the row under way, where whoever may read a row
  -- finds the same words there,
  -- and nobody else's row under way has that word
  pub word_stored : (s : State Boxed (View L)) (r : Lawful terms s) (id here a i x : ℕ) (me : Seated Boxed L)
      → get_elem? s.views id ≡ some me.0 → IsAlone me.0
      → ((c : ℕ) → c < first_row → here ≢ c)
      → SameRows terms (words_of s) (λ j. get_or (set s.words here x) j 0) r.log
      → SameOutputs terms (words_of s) (λ j. get_or (set s.words here x) j 0)
      → PartOf terms.rows terms.output_rows (λ j. get_or (set s.words here x) j 0) r.log (person me.0).role
      (stored (person me.0) a i x).row
      → ((person me.0).role ≡ Unmarshal → Written terms (λ j. get_or (set s.words here x) j 0) (person me.0).seen
      (person me.0).sequence a)
      → ((person me.0).role ≡ Marshal → WrittenTexts terms (λ j. get_or (set s.words here x) j 0) (person me.0).seen
      (person me.0).sequence a)
      → ((o : Person) → word_of_role o.role ≢ word_of_role (person me.0).role
      → SameParts terms (words_of s) (λ j. get_or (set s.words here x) j 0) r.log r.log o.role)
      → Lawful terms record {
        words = set s.words here x;
        homes = s.homes;
        views = set s.views id (alone me.0 (stored (person me.0) a i x));
      }
  word_stored s r id here a i x me at one no_control rows outputs part written texts others =
      let p = person me.0 in
      let w = words_of s in
      let w' : ℕ → ℕ = λ (j : ℕ). get_or (set s.words here x) j 0 in
      let knows = (mine terms s r id me.0 p at one).2 in
      let control : (c : ℕ) → c < first_row → w' c ≡ w c =
      λ c low. word_else s.words here c x (λ e. no_control c low (sym e)) in
      let input : (c : ℕ) → c < marshalled → w' c ≡ w c = λ c low. control c (omega arith) in
      after terms s r (set s.words here x) id me.0 p (stored p a i x) at one refl (length-set s.words here x) r.log
      (ordered_stays terms w w' r.log input r.order)
      (logged_stays terms w w' r.log input r.logged)
      (rows_stay terms w w' r.log input r.logged rows r.rows)
      (outgoing_stays terms w w' r.log r.log r.few refl refl r.outgoing.front (control processed (omega arith))
      (control journalled (omega arith)) (λ c _ low. control c low) outputs r.outgoing)
      s.homes r.filled
      (knows_on terms w r.log w' p p.sequence (stored p a i x).row
      (λ c low. subst (λ (y : ℕ). w c ≤ y) (sym (control c low)) (le_refl (w c)))
      (control (word_of_role p.role) (place_low terms.gateways p.role r.few knows.role) ∙ knows.sequence) part written texts
      knows)
      (λ o apart known. others_know terms w w' r.log r.log o r.few refl (λ _ _ e. e) (λ _. refl) (λ _. refl) control
      (others o apart) known)
