-- What a look for new entries leaves to a poll, and seats that keep all but their person.
use Rattle.std.proofs.Common.{◌≡◌, inl, inr, ℕ, suc, ◌+◌, ◌<◌, ◌≤◌, List, [], ◌∷◌, length, refl, ap, sym, ◌∙◌}
use Rattle.std.proofs.Common.{length-append, arith}
use Rattle.std.proofs.lemmas.List.{append-nil}
use Rattle.venue_model.specs.History.{Message}
use Rattle.ring_words.specs.declared.view.Person.{Person}
use Rattle.ring_words.specs.Places.{in_row}
use Rattle.ring_words.specs.Seats.{looked}
use Rattle.ring_words.specs.At.{At, seated}
use Rattle.barrier.specs.Availability.{grown_by, Shown}
use Rattle.stages.specs.Turns.{NothingShown}
use Rattle.stages.specs.PollLaws.{Stopped}

pub none_more : (rest : List Message) → length rest ≡ 0 → rest ≡ []
none_more [] is = refl
none_more (e ∷ rest) is = absurd (omega arith)

nothing_grown : (n : ℕ) (v : Person) → grown_by n v [] ≡ v
nothing_grown n v = λ k. record v { seen = append-nil v.seen k; loads = append-nil v.loads k }

-- a look that leaves no entry to do showed nothing
pub nothing_shown : (n : ℕ) (v w : Person) → 0 < n → v.sequence ≤ length v.seen → length w.seen ≤ v.sequence → Shown n v w
    → NothingShown n v w
nothing_shown n v w some_row known near shown = by_case shown.2 where
  by_case : Stopped n v w shown.0 → NothingShown n v w
  by_case (inl full) = let far = full.0 in absurd (omega arith)
  by_case (inr free) =
      let rest = shown.0 in let x = free.1.0 in let is = free.1.2 in
      let long : length w.seen ≡ length v.seen + length rest = ap (λ (p : Person). length p.seen) is
      ∙ length-append v.seen rest in
      let none : rest ≡ [] = none_more rest (omega arith) in
      let at_own : length w.seen ≡ v.sequence = omega arith in (
        omega arith,
        (
          x,
          (λ shown. free.1.1 (shown ∙ sym (ap suc at_own))),
          is ∙ ap (λ (p : Person). looked p (in_row n (length w.seen) 0) x) (ap (grown_by n v) none ∙ nothing_grown n v)
              ∙ ap (λ (s : ℕ). looked v (in_row n s 0) x) at_own,
        ),
      )

-- a seat whose person changed has that person, and is otherwise as it was
pub has_person : {L : Type 0} (v w : At L) (q : Person) → w ≡ seated v q → w ≡ seated v w.who
has_person v w q is = is ∙ ap (seated v) (sym (ap (λ (s : At _). s.who) is))
