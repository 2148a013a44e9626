-- The venue's rings as they are opened: their size is right, and the one gateway's seat is the first.
use Rattle.std.proofs.Common.{◌≡◌, ◌&&◌, ℕ, true, false, List, [], ◌∷◌, ◌++◌, length, refl, ap, sym, ◌∙◌, arith}
use Rattle.std.proofs.Common.{length-append}
use lib.Count.{ones, ones_in}
use lib.ListN.{get_elem?}
use Rattle.ring_words.specs.At.{Opened, At, IsAt, Steps, seated}
use Rattle.ring_words.specs.Crew.{AreNewGateways}
use Rattle.ring_words.specs.Sizes.{ring_size}
use Rattle.venue_model.specs.History.{History}
use Rattle.venue_model.specs.Requests.{Limits}
use Rattle.book.specs.Books.{Book}
use Rattle.book.specs.Histories.{state_of, outputs_of}
use Rattle.journal.specs.Journals.{OneJournal}
use Rattle.stages.specs.Crews.{new_crew}
use Rattle.venue.specs.Opened.{AreBehind, IsBookOf, IsNewCrew}
use Rattle.venue.specs.VenueRings.{IsFirstSeat}

-- the rings have a right size
pub right_size : (ring_size 1024 && ring_size 1024) ≡ true
unfolding ones ones_in
right_size = refl

-- the last of new seats, of which there is one, is the first
pub only_seat : (rings : Opened Limits) (all front : List (At Limits)) (s : At Limits) → all ≡ front ++ s ∷ []
    → length all ≡ 1
    → AreNewGateways rings all → IsFirstSeat rings s
only_seat rings all [] s is one new = new 0 s (ap (λ (l : List (At Limits)). get_elem? l 0) is)
only_seat rings all (f ∷ front) s is one new =
    let long = ap length is in let more = length-append front (s ∷ []) in absurd (omega (arith, long, more, one))

-- the rings count the outputs of their history
pub own_outputs : (limits : Limits) (base : History) (rings : Opened Limits) → AreBehind limits base rings
    → rings.base_outputs ≡ length (outputs_of rings.logic rings.base)
own_outputs limits base rings behind =
    behind.base_outputs ∙ ap (λ (h : History). length (outputs_of limits h)) (sym behind.base_is)
    ∙ ap (λ (l : Limits). length (outputs_of l rings.base)) (sym behind.logic)

-- and are those of the cut that they were opened with
pub by_own_cut : (limits at : Limits) (cut : ℕ) (base : History) (rings : Opened Limits)
    → at ≡ record limits { cut = cut } → AreBehind at base rings
    → AreBehind (record limits { cut = rings.logic.cut }) rings.base rings
by_own_cut limits at cut base rings is behind =
    let logic = behind.logic ∙ is in
    let own : rings.logic ≡ record limits { cut = rings.logic.cut } =
    logic ∙ ap (λ (k : ℕ). record limits { cut = k }) (sym (ap (λ (l : Limits). l.cut) logic)) in
    record {
      logic = own;
      base_is = refl;
      base_outputs = own_outputs at base rings behind ∙ ap (λ (l : Limits). length (outputs_of l rings.base)) own;
    }

-- a book that was taken up with a history is that of rings which were opened behind it
pub book_of : (limits : Limits) {at : Limits} {cut : ℕ} {past : History} {rings : Opened Limits} (book : Book)
    → at ≡ record limits { cut = cut } → AreBehind at past rings → book.limits ≡ record limits { cut = cut }
    → book.state ≡ state_of book.limits past → IsBookOf rings book
book_of limits {rings = rings} book at_is behind table state =
    let same : book.limits ≡ rings.logic = rw (behind.logic, at_is) table in
    record { limits = same; state = rw (behind.base_is, ← same) state }

-- stages that were made at them with it are new
pub made_new : {D : Type 0} (rings : Opened Limits) (journal : OneJournal D) (book : Book) → journal.failed ≡ false
    → IsBookOf rings book → IsNewCrew rings (new_crew rings journal book)
made_new rings journal book ready is = record { crew_is = refl; ready = ready; book_is = is }

module _ {L : Type 0} (rings : Opened L) where
  -- and so it is after a step
  pub still_at : (s t : At L) → IsAt rings s → Steps s t.who t → IsAt rings t
  still_at s t before step = step ∙ ap (λ (a : At L). seated a t.who) before
