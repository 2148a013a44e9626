-- The commands that the unmarshaller wrote and hasn't handed on.
use Rattle.std.proofs.Common.{◌≡◌, ℕ, suc, ◌+◌, ◌<◌, ◌≤◌, List, ◌++◌, inl, inr, length, length-append, ap, sym, subst}
use Rattle.std.proofs.Common.{◌∙◌, arith}
use mathlib.Core.Option.{some, some-injective}
use mathlib.Core.Logic.{dite}
use native.Mathlib.Decide.{ℕ_discrete}
use lib.ListN.{get_elem?}
use Rattle.venue_model.specs.History.{Message}
use Rattle.venue_model.specs.ListLaws.{stands, at_longer}
use Rattle.ring_words.specs.declared.view.Role.{Role}
use Rattle.ring_words.specs.declared.view.Role.TheVariants.{Process, Unmarshal, Journal, Marshal, Gateway}
use Rattle.ring_words.specs.declared.view.Person.{Person}
use Rattle.ring_words.specs.Places.{in_row}
use Rattle.command_words.specs.Packing.{IsPackable}
use Rattle.ring_words.specs.Terms.{Terms, commands_of, command_by}
use Rattle.ring_words.specs.Rule.{CommandStands, Written}
use Rattle.ring_words.specs.Steps.{WroteCommand, MayWrite}

-- 1 for the roles that write several rows before they hand them on, 0 for the others
abbrev pub writes_rows : Role → ℕ
writes_rows Process = 0
writes_rows Unmarshal = 1
writes_rows Journal = 0
writes_rows Marshal = 1
writes_rows (Gateway k) = 0

module _ {L : Type 0} (terms : Terms L) (w : ℕ → ℕ) where
  -- they stay where more entries are seen
  pub written_grows : (seen rest : List Message) (from to : ℕ) → Written terms w seen from to
      → Written terms w (seen ++ rest) from to
  written_grows seen rest from to r = record {
    short = (let low = r.short in let long = length-append seen rest in omega arith);
    commands = λ s e there lo hi. r.commands s e (seen_before s e hi there) lo hi;
    packable = λ s e there lo hi. r.packable s e (seen_before s e hi there) lo hi;
  } where
    seen_before : (s : ℕ) (e : Message) → s < to → get_elem? (seen ++ rest) s ≡ some e → get_elem? seen s ≡ some e
    seen_before s e hi there = let low = r.short in let stood = stands seen s (omega arith) in
        stood.1 ∙ ap some (some-injective stood.0 e (sym (at_longer seen rest s stood.0 stood.1) ∙ there))

  -- they stay where their words do, and the own word doesn't fall
  pub written_on : (w' : ℕ → ℕ) (seen : List Message) (from on to : ℕ) → from ≤ on
      → ((s i x : ℕ) (e : Message) → on ≤ s → s < to → get_elem? (commands_of terms s e) i ≡ some x
      → w' (in_row terms.rows s (i + 48)) ≡ w (in_row terms.rows s (i + 48)))
      → Written terms w seen from to → Written terms w' seen on to
  written_on w' seen from on to up same r = record {
    short = r.short;
    commands = λ s e there lo hi i x at. same s i x e lo hi at ∙ r.commands s e there (omega arith) hi i x at;
    packable = λ s e there lo hi. r.packable s e there (omega arith) hi;
  }

  -- none are written from where they end
  pub none_written : (seen : List Message) (from to : ℕ) → to ≤ from → to ≤ length seen → Written terms w seen from to
  none_written seen from to ends known = record {
    short = known;
    commands = λ s e there lo hi. absurd (omega arith);
    packable = λ s e there lo hi. absurd (omega arith);
  }

  module _ (p : Person) (part : CommandStands terms.rows w p.row)
      (before : Written terms w p.seen p.sequence p.row.sequence) where
    -- with the row under way, when its command is written whole
    with_row : (e : Message) → WroteCommand (terms.reads terms.logic) p e → suc p.row.sequence ≤ length p.seen
        → Written terms w p.seen p.sequence (suc p.row.sequence)
    with_row e wrote known = record {
      short = known;
      commands = λ s d there lo hi i x at. dite (ℕ_discrete s p.row.sequence)
          (λ here. (let stand = part i x
          (ap (λ (l : List ℕ). get_elem? l i)
          (wrote.words ∙ ap (commands_of terms p.row.sequence) (same_entry s d here there)
          ∙ ap (λ (t : ℕ). commands_of terms t d) (sym here)) ∙ at) in
          ap (λ (t : ℕ). w (in_row terms.rows t (i + 48))) here ∙ stand.1))
          (λ other. before.commands s d there lo (omega arith) i x at);
      packable = λ s d there lo hi. dite (ℕ_discrete s p.row.sequence)
          (λ here. subst (λ (t : ℕ). IsPackable d.gateway (command_by terms t d)) (sym here)
          (subst (λ (m : Message). IsPackable m.gateway (command_by terms p.row.sequence m))
          (same_entry s d here there) wrote.packable))
          (λ other. before.packable s d there lo (omega arith));
    } where
      same_entry : (s : ℕ) (d : Message) → s ≡ p.row.sequence → get_elem? p.seen s ≡ some d → e ≡ d
      same_entry s d here there = some-injective e d (sym wrote.entry ∙ ap (get_elem? p.seen) (sym here) ∙ there)

    -- all that lie below a row that it may write
    pub written_below : (a : ℕ) → MayWrite (terms.reads terms.logic) p a → a ≤ length p.seen
        → Written terms w p.seen p.sequence a
    written_below a (inl first) known = none_written p.seen p.sequence a (omega arith) known
    written_below a (inr (inl on)) known = subst (Written terms w p.seen p.sequence) (sym on) before
    written_below a (inr (inr (next, (e, wrote)))) known =
        subst (Written terms w p.seen p.sequence) (sym next)
        (with_row e wrote (subst (λ (k : ℕ). k ≤ length p.seen) next known))
