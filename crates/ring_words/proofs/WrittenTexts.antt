-- The texts that the marshaller wrote and hasn't handed on.
use Rattle.std.proofs.Common.{◌≡◌, ℕ, suc, ◌+◌, ◌<◌, ◌≤◌, List, ◌++◌, inl, inr, length, length-append, ap, sym, subst}
use Rattle.std.proofs.Common.{◌∙◌, arith}
use mathlib.Core.Option.{some, some-injective}
use mathlib.Core.Logic.{dite}
use native.Mathlib.Decide.{ℕ_discrete}
use lib.ListN.{get_elem?}
use Rattle.venue_model.specs.History.{Message}
use Rattle.venue_model.specs.ListLaws.{within}
use Rattle.venue_model.specs.declared.outputs.Output.{Output}
use Rattle.ring_words.specs.declared.view.Person.{Person}
use Rattle.ring_words.specs.Places.{out_row}
use Rattle.ring_words.specs.Texts.{text_words, IsPackableText}
use Rattle.ring_words.specs.Terms.{Terms, outputs_by, text_of}
use Rattle.ring_words.specs.Rule.{StandsText, WrittenTexts}
use Rattle.ring_words.specs.Steps.{WroteText, MayWriteText}
use Rattle.ring_words.proofs.OutputRows.{short_text}
use Rattle.ring_words.proofs.Outputs.{in_front, outputs_begin}

module _ {L : Type 0} (terms : Terms L) (w : ℕ → ℕ) where
  -- they stay where more entries are seen
  pub texts_grow : (seen rest : List Message) (from to : ℕ) → WrittenTexts terms w seen from to
      → WrittenTexts terms w (seen ++ rest) from to
  texts_grow seen rest from to r = let more = outputs_begin terms seen rest in record {
    short = λ some_text. (let low = r.short some_text in let long = length-append (outputs_by terms seen) more.0 in
        let is : length (outputs_by terms (seen ++ rest)) ≡ length (outputs_by terms seen ++ more.0) =
        ap length more.1 in
        omega arith);
    texts = λ q o there lo hi. r.texts q o (seen_before q o lo hi there) lo hi;
    readable = λ q o there lo hi. r.readable q o (seen_before q o lo hi there) lo hi;
  } where
    seen_before : (q : ℕ) (o : Output) → from ≤ q → q < to → get_elem? (outputs_by terms (seen ++ rest)) q ≡ some o
        → get_elem? (outputs_by terms seen) q ≡ some o
    seen_before q o lo hi there = let low = r.short (omega arith) in let more = outputs_begin terms seen rest in
        in_front (outputs_by terms seen) more.0 q o (omega arith)
        (subst (λ (l : List Output). get_elem? l q ≡ some o) more.1 there)

  -- they stay where their words do, and the own word doesn't fall
  pub texts_on : (w' : ℕ → ℕ) (seen : List Message) (from on to : ℕ) → from ≤ on
      → ((q i : ℕ) → on ≤ q → q < to → i < 64 → w' (out_row terms.rows terms.output_rows q (i + 64))
      ≡ w (out_row terms.rows terms.output_rows q (i + 64)))
      → WrittenTexts terms w seen from to → WrittenTexts terms w' seen on to
  texts_on w' seen from on to up same r = record {
    short = λ some_text. r.short (omega arith);
    texts = λ q o there lo hi i x at.
        (let size = short_text (text_of terms o q) (r.readable q o there (omega arith) hi) in
        let few = within (text_words (text_of terms o q)) i x at in
        same q i lo hi (omega arith) ∙ r.texts q o there (omega arith) hi i x at);
    readable = λ q o there lo hi. r.readable q o there (omega arith) hi;
  }

  -- none are written from where they end
  pub no_texts : (seen : List Message) (from to : ℕ) → to ≤ from → WrittenTexts terms w seen from to
  no_texts seen from to ends = record {
    short = λ some_text. absurd (omega arith);
    texts = λ q o there lo hi. absurd (omega arith);
    readable = λ q o there lo hi. absurd (omega arith);
  }

  module _ (p : Person) (part : StandsText terms.rows terms.output_rows w p.row)
      (before : WrittenTexts terms w p.seen p.sequence p.row.sequence) where
    -- with the row under way, when its text is written whole
    with_text : (o : Output) → WroteText (terms.outputs terms.logic) (terms.text terms.logic) p o
        → WrittenTexts terms w p.seen p.sequence (suc p.row.sequence)
    with_text o wrote = record {
      short = λ _. (let below = within (outputs_by terms p.seen) p.row.sequence o wrote.output in omega arith);
      texts = λ q d there lo hi i x at. dite (ℕ_discrete q p.row.sequence)
          (λ here. (let stand = part i x
          (ap (λ (l : List ℕ). get_elem? l i)
          (wrote.words ∙ ap (λ (c : Output). text_words (text_of terms c p.row.sequence))
          (same_output q d here there)
          ∙ ap (λ (t : ℕ). text_words (text_of terms d t)) (sym here)) ∙ at) in
          ap (λ (t : ℕ). w (out_row terms.rows terms.output_rows t (i + 64))) here ∙ stand.1))
          (λ other. before.texts q d there lo (omega arith) i x at);
      readable = λ q d there lo hi. dite (ℕ_discrete q p.row.sequence)
          (λ here. subst (λ (t : ℕ). IsPackableText (text_of terms d t)) (sym here)
          (subst (λ (c : Output). IsPackableText (text_of terms c p.row.sequence)) (same_output q d here there)
          wrote.packable))
          (λ other. before.readable q d there lo (omega arith));
    } where
      same_output : (q : ℕ) (d : Output) → q ≡ p.row.sequence → get_elem? (outputs_by terms p.seen) q ≡ some d → o ≡ d
      same_output q d here there = some-injective o d
          (sym wrote.output ∙ ap (get_elem? (outputs_by terms p.seen)) (sym here) ∙ there)

    -- all that lie below a row that it may write
    pub texts_below : (a : ℕ) → MayWriteText (terms.outputs terms.logic) (terms.text terms.logic) p a
        → WrittenTexts terms w p.seen p.sequence a
    texts_below a (inl first) = no_texts p.seen p.sequence a (omega arith)
    texts_below a (inr (inl on)) = subst (WrittenTexts terms w p.seen p.sequence) (sym on) before
    texts_below a (inr (inr (next, (o, wrote)))) = subst (WrittenTexts terms w p.seen p.sequence) (sym next)
        (with_text o wrote)
