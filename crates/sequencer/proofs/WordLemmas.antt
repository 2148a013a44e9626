-- The words of a message, stored one after another.
use Rattle.std.proofs.Common.{◌≡◌, ℕ, zero, suc, ◌+◌, ◌/◌, ◌%◌, ◌<◌, ◌≤◌, List, [], ◌∷◌, ◌++◌, length, get_or, take}
use Rattle.std.proofs.Common.{refl, ap, sym, subst, inr, ◌∙◌, arith, length-append, add-one}
use Rattle.std.proofs.Math.Seq.{take-length, get_or-append_seam}
use Rattle.std.proofs.lemmas.List.{get_or_append_left}
use Rattle.std.specs.Int.{from_be_bytes}
use mir.Syntax.{w64}
use mathlib.Core.Logic.{dite}
use native.Mathlib.Decide.{ℕ_discrete}
use Rattle.venue_model.specs.History.{Message}
use Rattle.ring_words.specs.declared.view.Person.{Person}
use Rattle.ring_words.specs.Log.{IsEntry, times_in}
use Rattle.ring_words.specs.Raw.{eight, raw_word, raw_count, SpellsMessage}
use Rattle.ring_words.specs.Seats.{stored, marked, wrote}
use Rattle.ring_words.specs.At.{At, seated, number}
use Rattle.ring_words.specs.Steps.{GoesOnRow}
use Rattle.sequencer.specs.Words.{first_words, message_words}

length-first_words : (e : Message) (n : ℕ) → length (first_words e n) ≡ n
length-first_words e zero = refl
length-first_words e (suc n) = let before = length-first_words e n in simp length-append (omega arith)

get_or-first_words : (e : Message) (n i : ℕ) → i < n → get_or (first_words e n) i 0 ≡ raw_word e i
get_or-first_words e zero i within = absurd (omega arith)
get_or-first_words e (suc n) i within = let long = length-first_words e n in
    dite (ℕ_discrete i n)
    (λ last. subst (λ (j : ℕ). get_or (first_words e (suc n)) j 0 ≡ raw_word e j) (long ∙ sym last)
    (get_or-append_seam (first_words e n) (raw_word e n) [] 0 ∙ ap (raw_word e) (sym long)))
    (λ other. let before : i < length (first_words e n) = omega arith in
    get_or_append_left (first_words e n) (raw_word e n ∷ []) 0 i before ∙ get_or-first_words e n i (omega arith))

-- all words of a message spell it
spelled : (e : Message) → SpellsMessage (message_words e) e
spelled e = record { long = length-first_words e (raw_count e); each = get_or-first_words e (raw_count e) }

-- what a gateway publishes is an entry
pub is_entry : (k : ℕ) (bs : List ℕ) → (1 ≤ k) × (k ≤ 8) → (1 ≤ length bs) × (length bs ≤ 320)
    → ((i : ℕ) → get_or bs i 0 < 256)
    → IsEntry (record { gateway = k; bytes = bs })
is_entry k bs number long small =
    record { message = record { from = number.0; to = number.1; some = long.0; most = long.1 }; bytes = small }

-- behind the first j words comes word j
goes_on : (p : Person) (s : ℕ) (e : Message) (j : ℕ) → GoesOnRow (wrote p s (first_words e j)).row s j
goes_on p s e j = let long = length-first_words e j in inr (refl, omega arith)

-- a store of word j behind the first j words
store_after : (p : Person) (s : ℕ) (e : Message) (j x : ℕ) → x ≡ raw_word e j
    → stored (wrote p s (first_words e j)) s j x ≡ wrote p s (first_words e (suc j))
store_after p s e j x is =
    let ws = first_words e j in
    let kept : take j ws ≡ ws = subst (λ (n : ℕ). take n ws ≡ ws) (length-first_words e j) (take-length ws) in
    ap (wrote p s) (ap (λ (v : List ℕ). v ++ x ∷ []) kept ∙ ap (λ (y : ℕ). ws ++ y ∷ []) is)

-- A gateway stores the words of its message, which has these bytes: words up to i of the bytes are those up to i + 1 of
-- the message.
module _ {L : Type 0} (v u : At L) (s : ℕ) (bs : List ℕ) where
  abbrev e : Message
  e = record { gateway = number v; bytes = bs }

  -- the row is under way, so the next one may be stored
  pub may_store : (i : ℕ) → u ≡ seated v (wrote v.who s (first_words e (i + 1))) → 0 < times_in s v.who.claims
      → (0 < times_in s u.who.claims) × GoesOnRow u.who.row s (i + 1)
  may_store i so_far claimed = rw so_far (claimed, goes_on v.who s e (i + 1))

  -- and then it is
  pub store_next : (w : At L) (i x : ℕ) → u ≡ seated v (wrote v.who s (first_words e (i + 1)))
      → x ≡ from_be_bytes w64 (eight bs i) → w ≡ seated u (stored u.who s (i + 1) x)
      → w ≡ seated v (wrote v.who s (first_words e (i + 1 + 1)))
  store_next w i x so_far word step =
      let next : x ≡ raw_word e (i + 1) = word ∙ ap (raw_word e) (sym (add-one i)) in
      rw so_far at step ∙ ap (seated v) (store_after v.who s e (i + 1) x next
      ∙ ap (λ (n : ℕ). wrote v.who s (first_words e n)) (sym (add-one (i + 1))))

  -- where the bytes are whole words all are stored
  pub store_whole : (i : ℕ) → u ≡ seated v (wrote v.who s (first_words e (i + 1))) → i ≡ length bs / 8
      → length bs % 8 ≡ 0 → u ≡ seated v (wrote v.who s (message_words e))
  store_whole i so_far whole none =
      let long : ℕ = length bs in let all : i + 1 ≡ suc ((long + 7) / 8) = omega arith in
      so_far ∙ ap (λ (k : ℕ). seated v (wrote v.who s (first_words e k))) all

  -- else behind one more, of the bytes that are left
  pub store_rest : (w : At L) (i x : ℕ) → u ≡ seated v (wrote v.who s (first_words e (i + 1))) → i ≡ length bs / 8
      → 0 < length bs % 8 → x ≡ from_be_bytes w64 (eight bs (length bs / 8))
      → w ≡ seated u (stored u.who s (length bs / 8 + 1) x) → w ≡ seated v (wrote v.who s (message_words e))
  store_rest w i x so_far whole some word step =
      let long : ℕ = length bs in let all : i + 1 + 1 ≡ suc ((long + 7) / 8) = omega arith in
      store_next w i x so_far (rw whole word) (rw whole step)
      ∙ ap (λ (k : ℕ). seated v (wrote v.who s (first_words e k))) all

module _ {L : Type 0} (v u w : At L) (s : ℕ) (e : Message) where
  -- then the row spells the message
  pub row_spells : u ≡ seated v (wrote v.who s (message_words e)) → SpellsMessage u.who.row.words e
  row_spells written = rw written (spelled e)

  -- and availability publishes it
  pub marks_message : u ≡ seated v (wrote v.who s (message_words e)) → IsEntry e
      → ((d : Message) → SpellsMessage u.who.row.words d → IsEntry d → w ≡ seated u (marked u.who s d))
      → w ≡ seated v (marked v.who s e)
  marks_message written entry step = rw written at (step e (row_spells written) entry)
