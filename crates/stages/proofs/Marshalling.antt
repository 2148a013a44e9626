-- Outputs through the marshaller: of each its words are loaded and its text is stored, and then all are handed on at
-- once.
use Rattle.std.proofs.Common.{◌≡◌, ◌⊎◌, inl, inr, ℕ, zero, suc, ◌+◌, ◌-◌, ◌<◌, ◌≤◌, List, [], ◌∷◌, ◌++◌, length, take}
use Rattle.std.proofs.Common.{refl, ap, sym, subst, ◌∙◌, arith}
use mathlib.Core.Option.{some}
use lib.ListN.{get_elem?}
use Rattle.venue_model.specs.History.{Message}
use Rattle.venue_model.specs.Requests.{Limits}
use Rattle.venue_model.specs.Texts.{Text, msg_type_of}
use Rattle.venue_model.specs.declared.outputs.Output.{Output}
use Rattle.venue_model.specs.declared.outputs.OutputType.{OutputType}
use Rattle.fix_orders.specs.Text.{text_bytes}
use Rattle.ring_words.specs.declared.view.Person.{Person}
use Rattle.ring_words.specs.Places.{published, out_row}
use Rattle.ring_words.specs.Texts.{text_words, IsPackableText}
use Rattle.ring_words.specs.Seats.{load_of, looked, looked_twice, knowing, wrote, moved}
use Rattle.ring_words.specs.At.{At, seated}
use Rattle.ring_words.specs.Steps.{Shows, WroteText, MayWriteText}
use Rattle.venue_model.specs.ListLaws.{at_longer, at_behind}
use Rattle.book.specs.Histories.{outputs_of}
use Rattle.stages.specs.Marshals.{after_text, WroteTexts, Marshals}
use Rattle.stages.specs.declared.turn.Turn.TheVariants.{Did, Idle}

-- LISTS AND LOADS

-- a beginning is no longer than was asked
pub no_longer : {A : Type 0} (i : ℕ) (l : List A) → length (take i l) ≤ i
no_longer zero l = omega arith
no_longer (suc i) [] = omega arith
no_longer (suc i) (x ∷ xs) = let most = no_longer i xs in omega (arith, most)

-- a value of a word that was just loaded shows what lies below it
pub just_shown : (p : Person) (k x s : ℕ) (rest : List Message) → s < x → Shows k (knowing (looked p k x) rest) s
just_shown p k x s rest below = (
  length p.loads,
  (
    load_of k x,
    at_behind p.loads (load_of k x ∷ []) 0 (length p.loads) _ (omega arith) refl,
    refl,
    below,
  ),
)

-- and the two loads of an output's address leave that
pub still_shown : (p : Person) (k w x s : ℕ) → Shows k p s → Shows k (looked_twice p w x) s
still_shown p k w x s shown = let l = shown.1.0 in (
  shown.0,
  (
    l,
    at_longer (p.loads ++ load_of w x ∷ []) _ shown.0 l (at_longer p.loads _ shown.0 l shown.1.1),
    shown.1.2,
    shown.1.3,
  ),
)

-- ITS TEXT

-- what is written of an output is its text
pub is_its_text : (o output : Output) (s : ℕ) (kind : OutputType) (body : List ℕ) → output ≡ o
    → kind ≡ msg_type_of output.report
    → body ≡ (text_bytes output s).body
    → ◌≡◌ {A = Text} (record { msg_type = kind; sending_time = output.sending_time; body = body }) (text_bytes o s)
is_its_text o output s kind body is kind_is body_is = by_fields ∙ ap (λ (x : Output). text_bytes x s) is where
  by_fields : ◌≡◌ {A = Text} (record { msg_type = kind; sending_time = output.sending_time; body = body })
      (text_bytes output s)
  by_fields = λ k. record { msg_type = kind_is k; sending_time = output.sending_time; body = body_is k }

-- ONE OUTPUT

module _ {L : Type 0} (n m : ℕ) (outputs : List Message → List Output) (v a : At L) (s : ℕ) (o : Output)
    (loaded : a ≡ seated v (looked_twice v.who (out_row n m s 0) o.to)) where
  -- its words are loaded: the place is shown as before
  pub loaded_shown : Shows published v.who s → Shows published a.who s
  loaded_shown shown = subst (λ (z : At L). Shows published z.who s) (sym loaded)
      (still_shown v.who published (out_row n m s 0) o.to s shown)

  -- and so is which rows may be written
  pub still_may : MayWriteText outputs text_bytes v.who s → MayWriteText outputs text_bytes a.who s
  still_may may = subst (λ (z : At L). MayWriteText outputs text_bytes z.who s) (sym loaded) (by_row may) where
    by_row : MayWriteText outputs text_bytes v.who s → MayWriteText outputs text_bytes
        (looked_twice v.who (out_row n m s 0) o.to) s
    by_row (inl first) = inl first
    by_row (inr (inl on)) = inr (inl on)
    by_row (inr (inr (next, (d, whole)))) = inr (inr (
      next,
      (
        d,
        record {
          row = whole.row;
          shown = still_shown v.who published (out_row n m s 0) o.to v.who.row.sequence whole.shown;
          output = whole.output;
          words = whole.words;
          packable = whole.packable;
        },
      ),
    ))

  module _ (b : At L) (text : Text) (is : text ≡ text_bytes o s)
      (stored : b ≡ seated a (wrote a.who s (text_words text))) where
    -- its text is stored
    pub is_written : b ≡ seated v (after_text n m v.who s o)
    is_written = stored
        ∙ ap (λ (z : At L). seated z (wrote z.who s (text_words text))) loaded
        ∙ ap (λ (t : Text). seated v (wrote (looked_twice v.who (out_row n m s 0) o.to) s (text_words t))) is

    -- and stands whole
    pub is_whole : v.who.sequence ≤ s → Shows published v.who s → get_elem? (outputs v.who.seen) s ≡ some o
        → IsPackableText text → WroteText outputs text_bytes b.who o
    is_whole from shown there packable = subst (λ (z : At L). WroteText outputs text_bytes z.who o) (sym is_written)
        (record {
          row = from;
          shown = still_shown v.who published (out_row n m s 0) o.to s shown;
          output = there;
          words = refl;
          packable = subst IsPackableText is packable;
        })

-- ALL OF THEM

-- the texts of all outputs from the next one up to s were written
pub record WroteUpTo {L : Type 0} (n m : ℕ) (outputs : List Message → List Output) (v u : At L) (next s : ℕ) :
    Type 0 where
  pub from : next ≤ s
  pub place : u ≡ seated v u.who
  pub sequence : u.who.sequence ≡ v.who.sequence
  pub seen : u.who.seen ≡ v.who.seen
  pub shown : (q : ℕ) → Shows published v.who q → Shows published u.who q
  pub all : WroteTexts n m (outputs v.who.seen) v.who (s - next) u.who
  pub last : (s ≡ next) ⊎ ((s ≡ suc u.who.row.sequence) × ((o : Output) × WroteText outputs text_bytes u.who o))

module _ {L : Type 0} (n m : ℕ) (outputs : List Message → List Output) (v u : At L) (next s : ℕ)
    (is_next : next ≡ v.who.sequence)
    (so_far : WroteUpTo n m outputs v u next s) where
  -- and then one more is written
  pub one_more : (w : At L) (o : Output) → get_elem? (outputs v.who.seen) s ≡ some o → w ≡ seated u w.who
      → w.who ≡ after_text n m u.who s o
      → WroteText outputs text_bytes w.who o → WroteUpTo n m outputs v w next (s + 1)
  one_more w o there place written whole =
      let from = so_far.from in let here : s ≡ v.who.sequence + (s - next) = omega arith in
      let longer : suc (s - next) ≡ s + 1 - next = omega arith in
      let row : w.who.row.sequence ≡ s = ap (λ p. p.row.sequence) written in record {
        from = omega arith;
        place = place ∙ ap (λ (z : At L). seated z w.who) so_far.place;
        sequence = ap (λ p. p.sequence) written ∙ so_far.sequence;
        seen = ap (λ p. p.seen) written ∙ so_far.seen;
        shown = λ q there. subst (λ p. Shows published p q) (sym written)
            (still_shown u.who published (out_row n m s 0) o.to q (so_far.shown q there));
        all = subst (λ (k : ℕ). WroteTexts n m (outputs v.who.seen) v.who k w.who) longer (
          u.who,
          so_far.all,
          (
            o,
            subst (λ (t : ℕ). get_elem? (outputs v.who.seen) t ≡ some o) here there,
            written ∙ ap (λ (t : ℕ). after_text n m u.who t o) here,
          ),
        );
        last = inr (omega arith, (o, whole));
      }

-- A POLL

module _ (limits : Limits) (v u : At Limits) (next r : ℕ) (rest : List Message)
    (is : u ≡ seated v (knowing (looked v.who published r) rest))
    (most : r ≤ length (outputs_of limits (v.who.seen ++ rest))) (own_is : next ≡ v.who.sequence) where
  -- the look for outputs leaves the own word
  pub next_stays : next ≡ u.who.sequence
  next_stays = own_is ∙ sym (ap (λ (z : At Limits). z.who.sequence) is)

  -- shows all outputs that are published
  pub shown_below : (q : ℕ) → q < r → Shows published u.who q
  shown_below q below = subst (λ (z : At Limits). Shows published z.who q) (sym is)
      (just_shown v.who published r q rest below)

  -- and knows them
  pub known_below : r ≤ length (outputs_of limits u.who.seen)
  known_below = subst (λ (z : At Limits). r ≤ length (outputs_of limits z.who.seen)) (sym is) most

  -- they were marshalled
  pub marshals_all : (n m : ℕ) (q w : Person) → next < r
      → WroteTexts n m (outputs_of limits u.who.seen) u.who (r - next) q → w ≡ moved q r
      → Marshals n m limits (Did (r - next)) v.who w
  marshals_all n m q w below all released =
      let behind : r ≡ v.who.sequence + (r - next) = omega (arith, own_is, below) in
      let written = subst (λ (z : At Limits). WroteTexts n m (outputs_of limits z.who.seen) z.who (r - next) q) is
      all in (
        omega (arith, below),
        record {
          rest = rest;
          known = subst (λ (x : ℕ). x ≤ length (outputs_of limits (v.who.seen ++ rest))) behind most;
          last = q;
          written = subst (λ (x : ℕ). WroteTexts n m (outputs_of limits (v.who.seen ++ rest))
              (knowing (looked v.who published x) rest) (r - next) q) behind written;
          released = released ∙ ap (moved q) behind;
        },
      )

  -- or there was none
  pub none_next : (n m : ℕ) → r ≤ next → v.who.sequence ≤ r → Marshals n m limits Idle v.who u.who
  none_next n m near far = let same : r ≡ v.who.sequence = omega (arith, near, far, own_is) in
      record {
        rest = rest;
        known = subst (λ (x : ℕ). x ≤ length (outputs_of limits (v.who.seen ++ rest))) same most;
        only = ap (λ (s : At Limits). s.who) is ∙ ap (λ (x : ℕ). knowing (looked v.who published x) rest) same;
      }
