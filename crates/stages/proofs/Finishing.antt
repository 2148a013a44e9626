-- Whatever a crash leaves behind a venue's end holds all that its gateways have seen.
use Rattle.std.proofs.Common.{◌≡◌, ℕ, zero, suc, ◌<◌, ◌≤◌, List, [], ◌∷◌, length, take, refl, ap, sym, subst, ◌∙◌}
use Rattle.std.proofs.Common.{arith}
use Rattle.std.proofs.lemmas.List.{length-take}
use mathlib.Core.Option.{some, some-ne-none, some-injective}
use lib.ListN.{get_elem?}
use Rattle.venue_model.specs.History.{History, Message}
use Rattle.venue_model.specs.Requests.{Limits}
use Rattle.disks.specs.Disk.{Told}
use Rattle.journal.specs.Journals.{IsJournalFrom}
use Rattle.ring_words.specs.At.{Opened}
use Rattle.ring_words.specs.Ending.{IsBeginning, Ended, stages_of}
use Rattle.ring_words.specs.declared.close.Summary.{Summary}
use Rattle.ring_words.specs.declared.seats.Seats.{Seats}
use Rattle.ring_words.specs.declared.view.Person.{Person}
use Rattle.venue_model.specs.ListLaws.{within}
use Rattle.book.specs.Histories.{outputs_of}
use Rattle.stages.specs.Kept.{KeepsDone}
use Rattle.stages.specs.Stations.{OneCrew}
use Rattle.stages.specs.Finishing.{Survives, Finished, people_of}

-- what stands in a front stands in the whole, and what stands there early enough stands in the front
pub in_front : (n : ℕ) (h : History) (s : ℕ) (e : Message) → get_elem? (take n h) s ≡ some e → get_elem? h s ≡ some e
in_front zero h s e at = absurd (some-ne-none e (sym at))
in_front (suc n) [] s e at = at
in_front (suc n) (m ∷ h) zero e at = at
in_front (suc n) (m ∷ h) (suc s) e at = in_front n h s e at

pub to_front : (n : ℕ) (h : History) (s : ℕ) (e : Message) → s < n → get_elem? h s ≡ some e
    → get_elem? (take n h) s ≡ some e
to_front zero h s e early at = absurd (omega (arith, early))
to_front (suc n) [] s e early at = at
to_front (suc n) (m ∷ h) zero e early at = at
to_front (suc n) (m ∷ h) (suc s) e early at = to_front n h s e (omega (arith, early)) at

-- an entry stands at each place within
entry_at : (h : History) (s : ℕ) → s < length h → (e : Message) × (get_elem? h s ≡ some e)
entry_at [] s inside = absurd (omega (arith, inside))
entry_at (m ∷ h) zero inside = (m, refl)
entry_at (m ∷ h) (suc s) inside = entry_at h s (omega (arith, inside))

module _ (seen kept log : History) (sequence : ℕ) (of_log : IsBeginning seen log) (short : length seen ≤ sequence)
    (kept_of_log : IsBeginning kept log) where
  -- of two beginnings of one log the front of the longer that is long enough has the other
  holds : (k : ℕ) → sequence ≤ k → k ≤ length kept → IsBeginning seen (take k kept)
  holds k least most s e at =
      let inside = within seen s e at in
      let there = entry_at kept s (omega (arith, inside, short, least, most)) in
      let same : there.0 ≡ e = some-injective _ _ (sym (kept_of_log s there.0 there.1) ∙ of_log s e at) in
      to_front k kept s e (omega (arith, inside, short, least))
      (subst (λ (m : Message). get_elem? kept s ≡ some m) same there.1)

-- a journal from these entries on has them
pub survives : (kept log : History) (sequence : ℕ) → IsBeginning kept log → (file : List ℕ)
    → IsJournalFrom sequence kept file
    → Survives log (take sequence kept) file
survives kept log sequence of_log file (k, least, most, journal) = record {
  history = take k kept;
  journal = journal;
  begins = λ s e at. of_log s e (in_front k kept s e at);
  holds = λ s e at. to_front k kept s e (let inside = within (take sequence kept) s e at in
      let short = length-take sequence kept in omega (arith, inside, short, least))
      (in_front sequence kept s e at);
}

-- the venue is finished: one log tells of these seats
pub finished : {D : Type 0} (rings : Opened Limits) (crew : OneCrew D) (honest : Type 0) (disk : Told) (s : Summary)
    (seats : Seats Limits)
    → seats.unmarshal.who ≡ crew.unmarshaller.who → seats.journal.who ≡ crew.journaller.seat.who
    → seats.process.who ≡ crew.processor.seat.who
    → seats.marshal.who ≡ crew.marshaller.who → Ended (outputs_of rings.logic) rings.base seats s
    → s.commands ≡ seats.process.who.sequence
    → s.outputs ≡ seats.process.who.row.sequence → (honest → KeepsDone disk crew.journaller.seat.who)
    → Finished rings seats.gateways.items crew honest disk s
finished rings crew honest disk s seats unmarshal journal process marshal ended commands outputs keeps =
    let v : Person = crew.journaller.seat.who in
    let stages : stages_of seats ≡ people_of crew = λ k. process k ∷ unmarshal k ∷ journal k ∷ marshal k ∷ [] in
    let kept = ended.known 2 v (ap (λ (l : List Person). get_elem? l 2) stages) in
    let own : seats.journal.who.sequence ≡ v.sequence = ap (λ (p : Person). p.sequence) journal in
    let known : v.sequence ≤ length v.seen =
    subst (λ (p : Person). p.sequence ≤ length p.seen) journal ended.released in
    record {
      seats = seats;
      gateways_are = refl;
      stages = stages;
      ended = ended;
      commands = commands ∙ ap (λ (p : Person). p.sequence) process;
      outputs = outputs ∙ ap (λ (p : Person). p.row.sequence) process;
      survives = λ h file left. survives v.seen ended.log v.sequence kept file (keeps h file left);
      holds = λ i seat at. let seen = ended.seen i seat at in let most = seen.1 in
          holds seat.who.seen v.seen ended.log v.sequence seen.0 (omega (arith, most, own)) kept v.sequence
          (omega arith) known;
    }
