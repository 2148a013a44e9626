-- What follows from the rule for one person: how far its histories reach, and what it knows after a step.
use Rattle.std.proofs.Common.{◌≡◌, ℕ, zero, suc, ◌+◌, ◌<◌, ◌≤◌, List, [], ◌∷◌, ◌++◌, ◌⊎◌, inl, inr, ⊎_elim, length}
use Rattle.std.proofs.Common.{take, get_or, refl, ap, sym, subst, ◌∙◌, arith, le_refl}
use mathlib.Core.Option.{none, some, some-injective, some-ne-none}
use native.Mathlib.Decide.{dec_le}
use lib.ListN.{get_elem?}
use Rattle.atomic_table.proofs.Lists.{at_snoc}
use Rattle.venue_model.specs.History.{Message}
use Rattle.venue_model.specs.declared.commands.Command.{Command}
use Rattle.venue_model.specs.declared.commands.Command.TheVariants.{New, Cancel, Replace, Malformed, Void}
use Rattle.venue_model.specs.ListLaws.{stands}
use Rattle.venue_model.specs.ListLaws.{at_end, read_at}
use Rattle.ring_words.specs.declared.view.Load.{Load}
use Rattle.ring_words.specs.declared.view.Role.{Role}
use Rattle.ring_words.specs.declared.view.Role.TheVariants.{Process, Unmarshal, Journal, Marshal, Gateway}
use Rattle.ring_words.specs.declared.view.Part.{Part}
use Rattle.ring_words.specs.declared.view.Person.{Person}
use Rattle.ring_words.specs.Places.{claim, published, first_row, in_row, out_row, word_of_role}
use Rattle.std.specs.Prelude.{Option}
use Rattle.ring_words.specs.declared.report.PlacedOutput.{PlacedOutput}
use Rattle.ring_words.specs.Slots.{Slots, OutOf}
use Rattle.ring_words.specs.Log.{Status, unclaimed, old, claimed, sent, Log, entry_of, IsFront}
use Rattle.command_words.specs.Packing.{command_words}
use Rattle.ring_words.specs.Terms.{Terms}
use Rattle.ring_words.specs.Rule.{Depth, Logged, Knows, PartOf, Written, WrittenTexts}
use Rattle.ring_words.specs.Seats.{load_of, looked, saw, knowing, moved, with_out}
use Rattle.ring_words.proofs.Written.{written_grows, written_on}
use Rattle.ring_words.proofs.WrittenTexts.{texts_grow, texts_on}

-- what stands in the first elements
pub in_take : {A : Type 0} (l : List A) (i j : ℕ) (a : A) → get_elem? (take i l) j ≡ some a
    → (j < i) × (get_elem? l j ≡ some a)
in_take [] zero j a e = absurd (some-ne-none a (sym e))
in_take [] (suc i) j a e = absurd (some-ne-none a (sym e))
in_take (x ∷ xs) zero j a e = absurd (some-ne-none a (sym e))
in_take (x ∷ xs) (suc i) zero a e = ((omega arith), e)
in_take (x ∷ xs) (suc i) (suc j) a e = let t = in_take xs i j a e in ((let g = t.0 in omega arith), t.1)

-- nothing stands behind a list's end
pub beyond : {A : Type 0} (l : List A) (i : ℕ) → length l ≤ i → get_elem? l i ≡ none
beyond [] i le = refl
beyond (x ∷ xs) zero le = absurd (omega arith)
beyond (x ∷ xs) (suc i) le = beyond xs i (omega arith)

pub read_same : (l ws : List ℕ) (i a : ℕ) → l ≡ ws → get_elem? ws i ≡ some a → a ≡ get_or l i 0
read_same l ws i a is at = read_at l i a (ap (λ (x : List ℕ). get_elem? x i) is ∙ at)

old_or_sent : (x : Status) (e : Message) → entry_of x ≡ some e → (x ≡ old e) ⊎ (x ≡ sent e)
old_or_sent unclaimed e is = absurd (some-ne-none e (sym is))
old_or_sent (old d) e is = inl (ap old (some-injective d e is))
old_or_sent (claimed k) e is = absurd (some-ne-none e (sym is))
old_or_sent (sent d) e is = inr (ap sent (some-injective d e is))

-- a command has few words
pub short_words : (g : ℕ) (c : Command) → length (command_words g c) ≤ 16
short_words g (New time order) = omega arith
short_words g (Cancel time request) = omega arith
short_words g (Replace time request) = omega arith
short_words g (Malformed time fault) = omega arith
short_words g Void = omega arith

-- what stands at a sequence is one entry
pub one_entry : (x : Status) (e d : Message) → entry_of x ≡ some e → x ≡ sent d → e ≡ d
one_entry x e d there is = some-injective e d (sym there ∙ ap entry_of is)

-- what a role may know it may know when no control word fell
pub depth_risen : (w w' : ℕ → ℕ) → ((k : ℕ) → k < first_row → w k ≤ w' k) → (role : Role) (k : ℕ) → Depth w role k
    → Depth w' role k
depth_risen w w' up Process k d = let a : w 16 ≤ w' 16 = up 16 (omega arith) in
    let b : w 24 ≤ w' 24 = up 24 (omega arith) in
    let c : k ≤ w 16 = d.0 in
    let e : k ≤ w 24 = d.1 in
    (omega arith, omega arith)
depth_risen w w' up Unmarshal k d = tt
depth_risen w w' up Journal k d = tt
depth_risen w w' up Marshal k d = let b : w 24 ≤ w' 24 = up 24 (omega arith) in let c : k ≤ w 24 = d in omega arith
depth_risen w w' up (Gateway j) k d = let b : w 24 ≤ w' 24 = up 24 (omega arith) in let c : k ≤ w 24 = d in omega arith

module _ {L : Type 0} (terms : Terms L) (w : ℕ → ℕ) (log : Log) where
  -- a beginning of the log ends at claim or before
  pub reaches : (h : List Message) → Logged terms w log → IsFront log.status h → length h ≤ w claim
  reaches h r front = by_end (dec_le (length h) (w claim)) where
    nothing : (e : Message) → entry_of (log.status (w claim)) ≡ some e → ⊥
    nothing e at = some-ne-none e (sym
        (subst (λ (x : Status). entry_of x ≡ some e) (r.ahead (w claim) (le_refl (w claim))) at))

    by_end : Dec (length h ≤ w claim) → length h ≤ w claim
    by_end (yes le) = le
    by_end (no gt) = let e = stands h (w claim) (omega arith) in absurd (nothing e.0 (front (w claim) e.0 e.1))

  -- an entry behind the history at the start was published
  pub published_late : (s : ℕ) (e : Message) → Logged terms w log → entry_of (log.status s) ≡ some e
      → length terms.base ≤ s → log.status s ≡ sent e
  published_late s e r at late = ⊎_elim (λ was. let early = r.older s e was in absurd (omega arith)) (λ is. is)
      (old_or_sent (log.status s) e at)

  -- what is known stays where the words and the log stay, after a load
  pub knows_looked : (p : Person) (k x : ℕ) → (k < first_row → x ≤ w k) → Knows terms w log p
      → Knows terms w log (looked p k x)
  knows_looked p k x le r = record {
    role = r.role;
    front = r.front;
    depth = r.depth;
    sequence = r.sequence;
    mine = r.mine;
    claims = r.claims;
    row = r.row;
    written = r.written;
    written_texts = r.written_texts;
    out = r.out;
    loads = λ i l at low. ⊎_elim (λ was. r.loads i l was low)
        (λ (is : load_of k x ≡ l). subst (λ (y : Load). y.place < first_row → y.value ≤ w y.place) is le low)
        (at_snoc p.loads (load_of k x) l i at);
  }

  -- after an entry of the log is seen
  pub knows_saw : (p : Person) (e : Message) → entry_of (log.status (length p.seen)) ≡ some e
      → Depth w p.role (length (p.seen ++ e ∷ [])) → Knows terms w log p → Knows terms w log (saw p e)
  knows_saw p e next deeper r = record {
    role = r.role;
    depth = deeper;
    sequence = r.sequence;
    mine = r.mine;
    claims = r.claims;
    row = r.row;
    written = λ is. written_grows terms w p.seen (e ∷ []) p.sequence p.row.sequence (r.written is);
    written_texts = λ is. texts_grow terms w p.seen (e ∷ []) p.sequence p.row.sequence (r.written_texts is);
    out = r.out;
    loads = r.loads;
    front = λ s d at. ⊎_elim (λ was. r.front s d was)
        (λ (t : (s ≡ length p.seen) × (e ≡ d)). ap (λ (i : ℕ). entry_of (log.status i)) t.0 ∙ next ∙ ap some t.1)
        (at_end p.seen e d s at);
  }

  -- after more of the log is known
  pub knows_knowing : (p : Person) (rest : List Message) → IsFront log.status (p.seen ++ rest)
      → Depth w p.role (length (p.seen ++ rest)) → Knows terms w log p → Knows terms w log (knowing p rest)
  knows_knowing p rest front deeper r = record {
    role = r.role;
    depth = deeper;
    sequence = r.sequence;
    mine = r.mine;
    claims = r.claims;
    row = r.row;
    written = λ is. written_grows terms w p.seen rest p.sequence p.row.sequence (r.written is);
    written_texts = λ is. texts_grow terms w p.seen rest p.sequence p.row.sequence (r.written_texts is);
    out = r.out;
    loads = r.loads;
    front = front;
  }

  -- what a person knows behind a step of its own: no control word fell, and its own word, its row under way and what it
  -- wrote before are as it says
  pub knows_on : (w' : ℕ → ℕ) (p : Person) (sequence : ℕ) (t : Part) → ((k : ℕ) → k < first_row → w k ≤ w' k)
      → w' (word_of_role p.role) ≡ sequence
      → PartOf terms.rows terms.output_rows w' log p.role t
      → (p.role ≡ Unmarshal → Written terms w' p.seen sequence t.sequence)
      → (p.role ≡ Marshal → WrittenTexts terms w' p.seen sequence t.sequence)
      → Knows terms w log p → Knows terms w' log (record p { sequence = sequence; row = t })
  knows_on w' p sequence t risen is part written texts r = record {
    role = r.role;
    front = r.front;
    depth = depth_risen w w' risen p.role (length p.seen) r.depth;
    sequence = is;
    mine = r.mine;
    claims = r.claims;
    loads = λ i l at low. (let a = r.loads i l at low in let b = risen l.place low in omega arith);
    row = part;
    written = written;
    written_texts = texts;
    out = r.out;
  }

  -- what is known stays where no control word falls, no row word changes, published is as it was, and the own word is
  -- as it says
  pub knows_risen : (w' : ℕ → ℕ) (p : Person) (sequence : ℕ) → ((k : ℕ) → k < first_row → w k ≤ w' k)
      → ((s i : ℕ) → w' (in_row terms.rows s i) ≡ w (in_row terms.rows s i))
      → ((q i : ℕ) → w' (out_row terms.rows terms.output_rows q i) ≡ w (out_row terms.rows terms.output_rows q i))
      → (p.role ≡ Process → w' published ≡ w published)
      → w' (word_of_role p.role) ≡ sequence → Knows terms w log p → Knows terms w' log (moved p sequence)
  knows_risen w' p sequence risen same same_out place_stays is r =
      knows_on w' p sequence p.row risen is (part_stays p.role refl r.row) stays texts_stay r where
        stays : p.role ≡ Unmarshal → Written terms w' p.seen sequence p.row.sequence
        stays role = let up : w 16 ≤ w' 16 = risen 16 (omega arith) in
            let before : w 16 ≡ p.sequence = subst (λ (z : Role). w (word_of_role z) ≡ p.sequence) role r.sequence in
            let after : w' 16 ≡ sequence = subst (λ (z : Role). w' (word_of_role z) ≡ sequence) role is in
            written_on terms w w' p.seen p.sequence sequence p.row.sequence (omega arith) (λ s i x e lo hi at. same s (i + 48))
            (r.written role)

        texts_stay : p.role ≡ Marshal → WrittenTexts terms w' p.seen sequence p.row.sequence
        texts_stay role = let up : w 32 ≤ w' 32 = risen 32 (omega arith) in
            let before : w 32 ≡ p.sequence = subst (λ (z : Role). w (word_of_role z) ≡ p.sequence) role r.sequence in
            let after : w' 32 ≡ sequence = subst (λ (z : Role). w' (word_of_role z) ≡ sequence) role is in
            texts_on terms w w' p.seen p.sequence sequence p.row.sequence (omega arith) (λ q i lo hi few. same_out q (i + 64))
            (r.written_texts role)

        part_stays : (role : Role) → p.role ≡ role → PartOf terms.rows terms.output_rows w log role p.row
            → PartOf terms.rows terms.output_rows w' log role p.row
        part_stays Process e h = (
          h.0 ∙ sym (place_stays e),
          λ i x at. let t = h.1 i x at in
              (t.0, same_out p.row.sequence i ∙ t.1),
        )
        part_stays Unmarshal e h = λ i x at. let t = h i x at in (t.0, same p.row.sequence (i + 48) ∙ t.1)
        part_stays Journal e h = tt
        part_stays Marshal e h = λ i x at. let t = h i x at in (t.0, same_out p.row.sequence (i + 64) ∙ t.1)
        part_stays (Gateway k) e h = λ i x at. let t = h i x at in (t.0, t.1, same p.row.sequence (i + 1) ∙ t.2)

  -- no one knows of the history that is kept but by what it knows of the log
  pub still_knows : (h : List Message) (p : Person) → Knows terms w log p → Knows terms w (record log { history = h }) p
  still_knows h p r = record {
    role = r.role;
    front = r.front;
    depth = r.depth;
    sequence = r.sequence;
    mine = r.mine;
    claims = r.claims;
    loads = r.loads;
    row = part_stays p.role r.row;
    written = r.written;
    written_texts = r.written_texts;
    out = r.out;
  } where
    part_stays : (role : Role) → PartOf terms.rows terms.output_rows w log role p.row
        → PartOf terms.rows terms.output_rows w (record log { history = h }) role p.row
    part_stays Process t = t
    part_stays Unmarshal t = t
    part_stays Journal t = tt
    part_stays Marshal t = t
    part_stays (Gateway k) t = t

  -- and of the slots by whose it has out
  pub knows_out : (slots : Slots) (p : Person) (out : Option PlacedOutput) → OutOf slots p.role out
      → Knows terms w log p → Knows terms w (record log { slots = slots }) (with_out p out)
  knows_out slots p out is r = record {
    role = r.role;
    front = r.front;
    depth = r.depth;
    sequence = r.sequence;
    mine = r.mine;
    claims = r.claims;
    loads = r.loads;
    row = part_stays p.role r.row;
    written = r.written;
    written_texts = r.written_texts;
    out = is;
  } where
    part_stays : (role : Role) → PartOf terms.rows terms.output_rows w log role p.row
        → PartOf terms.rows terms.output_rows w (record log { slots = slots }) role p.row
    part_stays Process t = t
    part_stays Unmarshal t = t
    part_stays Journal t = tt
    part_stays Marshal t = t
    part_stays (Gateway k) t = t

-- who has another role than one of whose slot is taken or brought back knows what it knew of the slots
pub others_out : (slots slots' : Slots) (role : Role) (out : Option PlacedOutput)
    → (role ≡ Process → slots'.filling ≡ slots.filling) → (role ≡ Marshal → slots'.reading ≡ slots.reading)
    → OutOf slots role out → OutOf slots' role out
others_out slots slots' Process out filling reading is = is ∙ sym (filling refl)
others_out slots slots' Unmarshal out filling reading is = tt
others_out slots slots' Journal out filling reading is = tt
others_out slots slots' Marshal out filling reading is = is ∙ sym (reading refl)
others_out slots slots' (Gateway k) out filling reading is = tt
