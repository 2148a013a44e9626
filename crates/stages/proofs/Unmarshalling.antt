-- Sequences through the unmarshaller: of each its words are loaded and its command is stored, and then all are handed
-- on at once.
use Rattle.std.proofs.Common.{◌≡◌, ◌⊎◌, inl, inr, ℕ, suc, ◌+◌, ◌-◌, ◌≤◌, nat_le, List, take, refl, ap, sym, subst, ◌∙◌, arith}
use mathlib.Core.Option.{some}
use lib.ListN.{get_elem?}
use Rattle.venue_model.specs.History.{Message}
use Rattle.venue_model.specs.Requests.{Limits}
use Rattle.venue_model.specs.declared.commands.Command.{Command}
use Rattle.ring_words.specs.declared.heads.Raw.{Raw}
use Rattle.ring_words.specs.Raw.{raw_count}
use Rattle.command_words.specs.Packing.{command_words, IsPackable}
use Rattle.ring_words.specs.Seats.{wrote}
use Rattle.ring_words.specs.At.{At, seated}
use Rattle.ring_words.specs.Steps.{WroteCommand, MayWrite}
use Rattle.barrier.specs.Reading.{after_loads, ReadsMessage}
use Rattle.fix_orders.specs.Reading.{reads}
use Rattle.book.specs.Histories.{reads_at}
use Rattle.stages.specs.Turns.{after_writing, Wrote}

-- loads leave which rows may be written
pub still_may : {L : Type 0} (n : ℕ) (limits : Limits) (v a : At L) (s : ℕ) (e : Message)
    → a ≡ seated v (after_loads n v.who s e (raw_count e)) → MayWrite (reads_at limits) v.who s
    → MayWrite (reads_at limits) a.who s
still_may n limits v a s e loaded may = subst (λ (z : At _). MayWrite (reads_at limits) z.who s) (sym loaded)
    (by_row may) where
      by_row : MayWrite (reads_at limits) v.who s → MayWrite (reads_at limits) (after_loads n v.who s e (raw_count e)) s
      by_row (inl first) = inl first
      by_row (inr (inl on)) = inr (inl on)
      by_row (inr (inr (next, (d, whole)))) =
          inr (inr (
            next,
            (
              d,
              record {
                row = whole.row;
                entry = whole.entry;
                words = whole.words;
                packable = whole.packable;
              },
            ),
          ))

-- what is read by some limits is read by those that they are
pub reads_by : (l limits : Limits) (s : ℕ) (bytes : List ℕ) (command : Command) → l ≡ limits
    → command ≡ reads (nat_le l.cut s) bytes → command ≡ reads (nat_le limits.cut s) bytes
reads_by l limits s bytes command same read = subst (λ (x : Limits). command ≡ reads (nat_le x.cut s) bytes) same read

-- one sequence
module _ {L : Type 0} (n : ℕ) (limits : Limits) (v a b : At L) (s : ℕ) (e : Message) (raw : Raw) (buf : List ℕ)
    (command : Command)
    (read : ReadsMessage e raw buf) (decoded : command ≡ reads (nat_le limits.cut s) (take raw.len buf))
    (loaded : a ≡ seated v (after_loads n v.who s e (raw_count e)))
    (stored : b ≡ seated a (wrote a.who s (command_words raw.gateway command))) where
  -- the command that was decoded is the entry's
  is_its_command : command ≡ reads_at limits s e
  is_its_command = decoded ∙ ap (reads (nat_le limits.cut s)) read.bytes

  -- its message was read and its command stored
  pub is_written : b ≡ seated v (after_writing n limits v.who s e)
  is_written = stored
      ∙ ap (λ (z : At L). seated z (wrote z.who s (command_words raw.gateway command))) loaded
      ∙ ap (λ (k : ℕ). seated v (wrote (after_loads n v.who s e (raw_count e)) s (command_words k command)))
      read.head.gateway
      ∙ ap (λ (d : Command). seated v (wrote (after_loads n v.who s e (raw_count e)) s (command_words e.gateway d)))
      is_its_command

  -- the command stands whole
  pub is_whole : v.who.sequence ≤ s → get_elem? v.who.seen s ≡ some e → IsPackable raw.gateway command
      → WroteCommand (reads_at limits) b.who e
  is_whole from there packable = subst (λ (z : At L). WroteCommand (reads_at limits) z.who e) (sym is_written) (record {
    row = from;
    entry = there;
    words = refl;
    packable = subst (λ (k : ℕ). IsPackable k (reads_at limits s e)) read.head.gateway
        (subst (IsPackable raw.gateway) is_its_command packable);
  })

-- the commands of all sequences from the next one up to s were written
pub record WroteUpTo {L : Type 0} (n : ℕ) (limits : Limits) (v u : At L) (next s : ℕ) : Type 0 where
  pub from : next ≤ s
  pub place : u ≡ seated v u.who
  pub sequence : u.who.sequence ≡ v.who.sequence
  pub seen : u.who.seen ≡ v.who.seen
  pub all : Wrote n limits v.who (s - next) u.who
  pub last : (s ≡ next) ⊎ ((s ≡ suc u.who.row.sequence) × ((e : Message) × WroteCommand (reads_at limits) u.who e))

module _ {L : Type 0} (n : ℕ) (limits : Limits) (v u : At L) (next s : ℕ) (is_next : next ≡ v.who.sequence)
    (so_far : WroteUpTo n limits v u next s) where
  -- and then one more is written
  pub one_more : (w : At L) (e : Message) → get_elem? v.who.seen s ≡ some e → w ≡ seated u w.who
      → w.who ≡ after_writing n limits u.who s e
      → WroteCommand (reads_at limits) w.who e → WroteUpTo n limits v w next (s + 1)
  one_more w e there place written whole =
      let from = so_far.from in let here : s ≡ v.who.sequence + (s - next) = omega arith in
      let longer : suc (s - next) ≡ s + 1 - next = omega arith in
      let row : w.who.row.sequence ≡ s = ap (λ p. p.row.sequence) written in record {
        from = omega arith;
        place = place ∙ ap (λ (z : At L). seated z w.who) so_far.place;
        sequence = ap (λ p. p.sequence) written ∙ so_far.sequence;
        seen = ap (λ p. p.seen) written ∙ so_far.seen;
        all = subst (λ (k : ℕ). Wrote n limits v.who k w.who) longer (
          u.who,
          so_far.all,
          (
            e,
            subst (λ (t : ℕ). get_elem? v.who.seen t ≡ some e) here there,
            written ∙ ap (λ (t : ℕ). after_writing n limits u.who t e) here,
          ),
        );
        last = inr (omega arith, (e, whole));
      }
