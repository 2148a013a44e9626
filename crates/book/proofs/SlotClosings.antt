-- The table while a gap is closed: its entries stay the same.
use Rattle.std.proofs.Common.{◌≡◌, ◌+◌, ◌<◌, ◌≤◌, ℕ, length, get_or, Option, Some, None, ap, sym, subst, ◌∙◌, arith}
use Rattle.std.specs.Prelude.{◌≢◌, slice_set}
use Rattle.std.proofs.Math.Path.{fun_ext}
use Rattle.std.proofs.lemmas.List.{get_or_read, length-set}
use Rattle.book.specs.declared.order_index.slots.IndexEntry.{IndexEntry}
use Rattle.book.specs.IndexNames.{place_of}
use Rattle.book.specs.Slots.{Slots, at, entries_of, home_of, slot_from, steps_to, IsTable, HasGap}
use Rattle.book.proofs.SlotSteps.{slot-within}
use Rattle.book.proofs.SlotNames.{IsFound, found, found-once}
use Rattle.book.proofs.SlotLemmas.{write, one-more, one-less}
use Rattle.book.proofs.SlotGaps.{Moved, closed, kept, moves, moved-found, not-gap}

-- the gap is being closed, and the names have the places that they had first
pub record Closes (first now : Slots) (start gap step : ℕ) : Type 0 where
  pub has_gap : HasGap now start gap step
  pub places : (c n : ℕ) (o : Option ℕ) → IsFound (at first) c n o → IsFound (at now) c n o
  pub entries : length (entries_of now) ≡ length (entries_of first)

-- it is closed
pub record IsClosed (first now : Slots) : Type 0 where
  pub table : IsTable now
  pub places : place_of (entries_of now) ≡ place_of (entries_of first)
  pub entries : length (entries_of now) ≡ length (entries_of first)

module _ {first now : Slots} {start gap step : ℕ} (closes : Closes first now start gap step) where
  pub ends : step < 8192 → at now (slot_from start step) ≡ None → IsClosed first now
  ends few free = record {
    table = record {
      size = closes.has_gap.size;
      few = closes.has_gap.few;
      probed = closed (at now) start gap step closes.has_gap.closing few free;
    };
    places = fun_ext (λ c. fun_ext (λ n.
        found-once (at now) closes.has_gap.closing.apart c n (place_of (entries_of now) c n)
        (place_of (entries_of first) c n) (found now c n)
        (closes.places c n (place_of (entries_of first) c n) (found first c n))));
    entries = closes.entries;
  }

  pub gap-within : gap < length now
  gap-within = subst (λ s. s < length now) (sym closes.has_gap.closing.gap_is)
      (omega (arith, slot-within start closes.has_gap.closing.behind, closes.has_gap.size))

  -- a read of the next slot
  pub seen : {slot : ℕ} {read : Option IndexEntry} → slot ≡ slot_from start step → read ≡ get_or now slot read
      → at now (slot_from start step) ≡ read
  seen {slot} {read} is reads =
      let within : slot < length now = omega (arith, is, slot-within start step, closes.has_gap.size) in
      ap (at now) (sym is) ∙ sym (get_or_read now slot read within reads None)

  module _ (few : step < 8192) (e : IndexEntry) (stands : at now (slot_from start step) ≡ Some e) where
    pub stays : steps_to (home_of e) (slot_from start step) < steps_to gap (slot_from start step)
        → Closes first now start gap (step + 1)
    stays short = record {
      has_gap = record {
        size = closes.has_gap.size;
        few = closes.has_gap.few;
        closing = kept (at now) start gap step closes.has_gap.closing few e stands short;
      };
      places = closes.places;
      entries = closes.entries;
    }

    abbrev moving : Slots
    moving = slice_set now gap (Some e)

    abbrev after : Slots
    after = slice_set moving (slot_from start step) None

    not-it : slot_from start step ≢ gap
    not-it = not-gap (at now) start gap step closes.has_gap.closing step (omega arith) few

    pub both-within : slot_from start step < length moving
    both-within = let long = length-set now gap (Some e) in
        omega (arith, slot-within start step, closes.has_gap.size, long)

    both : Moved (at now) (at after) gap (slot_from start step) e
    both =
        let one = write now gap (Some e) gap-within in
        let two = write moving (slot_from start step) None both-within in
        record {
          there = two.others gap (λ same. not-it (sym same)) ∙ one.here;
          left = two.here;
          others = λ t not_gap not_slot. two.others t not_slot ∙ one.others t not_gap;
        }

    same-length : length (entries_of after) ≡ length (entries_of now)
    same-length =
        let one = one-more now gap e gap-within closes.has_gap.closing.gap_free in
        let still : at moving (slot_from start step) ≡ Some e =
        (write now gap (Some e) gap-within).others (slot_from start step) not-it ∙ stands in
        let two = one-less moving (slot_from start step) e still in
        omega (arith, one, two)

    pub moves-back : steps_to gap (slot_from start step) ≤ steps_to (home_of e) (slot_from start step)
        → Closes first after start (slot_from start step) (step + 1)
    moves-back long =
        let same = same-length in
        record {
          has_gap = record {
            size = length-set moving (slot_from start step) None ∙ length-set now gap (Some e) ∙ closes.has_gap.size;
            few = omega (arith, same, closes.has_gap.few);
            closing = moves (at now) start gap step closes.has_gap.closing few e stands (at after) both long;
          };
          places = λ c n o h. moved-found (at now) start gap step closes.has_gap.closing few e stands (at after) both c
              n o (closes.places c n o h);
          entries = same ∙ closes.entries;
        }

-- the next slot's entry, as the code reads it, with the steps to it from its home and from the gap
pub record Next (now : Slots) (start gap step slot : ℕ) (e : IndexEntry) (from_home from_gap : ℕ) : Type 0 where
  pub few : step < 8192
  pub is : slot ≡ slot_from start step
  pub stands : at now (slot_from start step) ≡ Some e
  pub home_steps : from_home ≡ steps_to (home_of e) slot
  pub gap_steps : from_gap ≡ steps_to gap slot

-- as it has been read
pub next-read : {first now : Slots} {start gap step slot : ℕ} {read : Option IndexEntry} {e : IndexEntry}
    {home from_home from_gap : ℕ} → Closes first now start gap step → step < 8192 → slot ≡ slot_from start step
    → read ≡ get_or now slot read → read ≡ Some e → home ≡ home_of e → from_home ≡ steps_to home slot
    → from_gap ≡ steps_to gap slot → Next now start gap step slot e from_home from_gap
next-read {slot = slot} closes few is reads there home_is home_steps gap_steps = record {
  few = few;
  is = is;
  stands = seen closes is reads ∙ there;
  home_steps = home_steps ∙ ap (λ h. steps_to h slot) home_is;
  gap_steps = gap_steps;
}

module _ {first now : Slots} {start gap step slot : ℕ} {e : IndexEntry} {from_home from_gap : ℕ}
    (closes : Closes first now start gap step) (next : Next now start gap step slot e from_home from_gap)
    (items : Slots) (its_gap : ℕ) where
  pub step-stays : from_home < from_gap → items ≡ now → its_gap ≡ gap → Closes first items start its_gap (step + 1)
  step-stays short same same_gap =
      let home_steps = next.home_steps ∙ ap (λ s. steps_to (home_of e) s) next.is in
      let gap_steps = next.gap_steps ∙ ap (λ s. steps_to gap s) next.is in
      subst (λ xs. Closes first xs start its_gap (step + 1)) (sym same)
      (subst (λ g. Closes first now start g (step + 1)) (sym same_gap)
      (stays closes next.few e next.stands (omega (arith, short, home_steps, gap_steps))))

  pub step-moves : from_gap ≤ from_home → items ≡ slice_set (slice_set now gap (Some e)) slot None → its_gap ≡ slot
      → Closes first items start its_gap (step + 1)
  step-moves long same same_gap =
      let home_steps = next.home_steps ∙ ap (λ s. steps_to (home_of e) s) next.is in
      let gap_steps = next.gap_steps ∙ ap (λ s. steps_to gap s) next.is in
      subst (λ xs. Closes first xs start its_gap (step + 1))
      (sym (same ∙ ap (λ s. slice_set (slice_set now gap (Some e)) s None) next.is))
      (subst (λ g. Closes first (slice_set (slice_set now gap (Some e)) (slot_from start step) None) start g (step + 1))
      (sym (same_gap ∙ next.is))
      (moves-back closes next.few e next.stands (omega (arith, long, home_steps, gap_steps))))
