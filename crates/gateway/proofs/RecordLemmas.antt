-- What a member's person knows is what happened so far, by a publication and by a look for an output.
use Rattle.std.proofs.Common.{◌≡◌, ℕ, suc, ◌≤◌, Bool, List, [], ◌∷◌, ◌++◌, length}
use Rattle.std.proofs.Common.{map, take, drop, refl, ap, sym, ◌∙◌, arith, append-nil}
use Rattle.std.proofs.Common.{take-append-drop}
use Rattle.std.specs.List.{flat_map}
use Rattle.std.proofs.lemmas.List.{map-append}
use Rattle.std.proofs.lemmas.Grind.{flat_map-append}
use mathlib.Core.Option.{some}
use lib.ListN.{get_elem?}
use Rattle.fix_orders.specs.Text.{Said}
use Rattle.venue_model.specs.History.{History}
use Rattle.venue_model.specs.ListLaws.{at_longer, at_behind}
use Rattle.venue_model.specs.Requests.{Limits}
use Rattle.venue_model.specs.declared.outputs.Output.{Output}
use Rattle.book.specs.Histories.{outputs_of}
use Rattle.ring_words.specs.Ending.{IsBeginning}
use Rattle.ring_words.specs.Places.{claim}
use Rattle.ring_words.specs.Seats.{load_of}
use Rattle.ring_words.specs.Steps.{ClaimsUpTo}
use Rattle.ring_words.specs.declared.view.Load.{Load}
use Rattle.ring_words.specs.declared.view.Person.{Person}
use Rattle.ring_words.specs.declared.view.Sent.{Sent}
use Rattle.barrier.specs.Taking.{TakesNext}
use Rattle.gateway.specs.Seats.{taken_by}
use Rattle.gateway.specs.Visits.{Act, Enters, entered_by, reports_by, reports_for, NoneOvertakes}
use Rattle.gateway.proofs.Lists.{flat_map-push}
use Rattle.gateway.proofs.TakenLemmas.{still_within}
use Rattle.gateway.proofs.SendLemmas.{RiseFrom, AreUpTo, entry_sent, rises-push, up_to-push}
use Rattle.gateway.proofs.ReportLemmas.{taken_few, begins_first}
use Rattle.gateway.proofs.ActLemmas.{reporting, reporting-reports, reporting-enters, behind-enters, behind-reporting}

-- The person published what entered, at sequences that never fall, and at none above a claim value that it loaded; and
-- it took just the reports given or passed over. No message overtook a report, by any log that begins with what the
-- person has seen.
pub record Recorded (k : ℕ) (limits : Limits) (base : History) (p : Person) (acts : List Act) : Type 0 where
  pub from : length (outputs_of limits base) ≤ p.sequence
  pub to : p.sequence ≤ length (outputs_of limits p.seen)
  pub rises : RiseFrom 0 p.mine
  pub claimed : (s : ℕ) → ClaimsUpTo p s → AreUpTo s p.mine
  pub entered : flat_map entered_by acts ≡ map entry_sent p.mine
  pub reports : flat_map reports_by acts ≡ taken_by k limits base p
  pub behind : (log : History) → IsBeginning p.seen log → NoneOvertakes k limits base log 0 acts

-- the person only made loads
pub record OnlyLooked (p q : Person) : Type 0 where
  pub mine : q.mine ≡ p.mine
  pub seen : q.seen ≡ p.seen
  pub count : q.sequence ≡ p.sequence
  pub more : List Load
  pub loads : q.loads ≡ p.loads ++ more

-- the person published this, by a claim value that it loaded, which was no lower than those loaded before
pub record Publishes (p q : Person) (sent : Sent) : Type 0 where
  pub mine : q.mine ≡ p.mine ++ sent ∷ []
  pub seen : q.seen ≡ p.seen
  pub count : q.sequence ≡ p.sequence
  pub more : List Load
  pub loads : q.loads ≡ p.loads ++ load_of claim sent.sequence ∷ more
  pub below : ClaimsUpTo p sent.sequence
  pub ahead : length p.seen ≤ sent.sequence

-- a bound on the claim values loaded is one on those loaded before
claims_before : (p q : Person) (more : List Load) (s : ℕ) → q.loads ≡ p.loads ++ more → ClaimsUpTo q s → ClaimsUpTo p s
claims_before p q more s loads most i l there =
    most i l (rw loads (at_longer p.loads more i l there))

module _ (k : ℕ) (limits : Limits) (base : History) where
  abbrev taken : Person → List Said
  taken p = taken_by k limits base p

  -- one that has seen as much and counts as much took as much
  same_taken : (p q : Person) → q.seen ≡ p.seen → q.sequence ≡ p.sequence → taken q ≡ taken p
  same_taken p q seen count =
      λ i. taken (record p { seen = seen i; sequence = count i })

  module _ (p q : Person) (acts : List Act) (so_far : Recorded k limits base p acts) where
    pub still_recorded : OnlyLooked p q → Recorded k limits base q acts
    still_recorded looked = record {
      from = let before = so_far.from in let count = looked.count in omega (arith, before, count);
      to = rw (looked.count, looked.seen) so_far.to;
      rises = rw looked.mine so_far.rises;
      claimed = λ s most. rw looked.mine (so_far.claimed s (claims_before p q looked.more s looked.loads most));
      entered = rw looked.mine so_far.entered;
      reports = so_far.reports ∙ sym (same_taken p q looked.seen looked.count);
      behind = λ log begins. so_far.behind log (rw looked.seen at begins);
    }

    module _ (sent : Sent) (publishes : Publishes p q sent) where
      abbrev enters : Act
      enters = Enters (entry_sent sent)

      own_claim : (s : ℕ) → ClaimsUpTo q s → sent.sequence ≤ s
      own_claim s most =
          most (length p.loads) (load_of claim sent.sequence) (rw publishes.loads (at_behind p.loads
          (load_of claim sent.sequence ∷ publishes.more) 0 (length p.loads) _ (omega arith) refl)) refl

      few_before : (log : History) → IsBeginning p.seen log
          → length (flat_map reports_by acts) ≤ length (reports_for k limits base (take sent.sequence log))
      few_before log begins =
          let few = taken_few k limits base p so_far.from so_far.to (take sent.sequence log)
          (begins_first p.seen log sent.sequence begins publishes.ahead) in
          let same = ap length so_far.reports in omega (arith, few, same)

      pub recorded-published : Recorded k limits base q (acts ++ enters ∷ [])
      recorded-published = record {
        from = let before = so_far.from in let count = publishes.count in omega (arith, before, count);
        to = rw (publishes.count, publishes.seen) so_far.to;
        rises = rw publishes.mine
            (rises-push 0 p.mine sent so_far.rises (omega arith) (so_far.claimed sent.sequence publishes.below));
        claimed = λ s most. rw publishes.mine (up_to-push s p.mine sent
            (so_far.claimed s (claims_before p q _ s publishes.loads most)) (own_claim s most));
        entered = rw (flat_map-push, so_far.entered, publishes.mine, map-append);
        reports = rw (flat_map-push, append-nil) (so_far.reports ∙ sym (same_taken p q publishes.seen publishes.count));
        behind = λ log begins. let begins_before = rw publishes.seen at begins in
            let few = few_before log begins_before in
            behind-enters k limits base log 0 acts (entry_sent sent) (so_far.behind log begins_before)
            (omega (arith, few));
      }

    -- an output was taken, for the member or for another
    module _ (start : ℕ) (history : History) (o : Output) (takes : TakesNext start p history q)
        (next : get_elem? (outputs_of limits history) p.sequence ≡ some o) where
      seen_longer : (log : History) → IsBeginning q.seen log → IsBeginning p.seen log
      seen_longer log begins s e there =
          let rest : History = drop (length p.seen) history in
          let grown : p.seen ++ rest ≡ history = ap (λ (h : History). h ++ rest) takes.begins
          ∙ take-append-drop (length p.seen) history in
          let seen : q.seen ≡ history = ap (λ (w : Person). w.seen) takes.taken in
          begins s e (rw (grown ∙ sym seen) at (at_longer p.seen rest s e there))

      pub recorded-taken : (on : Bool) (these : List Said) → taken q ≡ taken p ++ these
          → Recorded k limits base q (acts ++ map (reporting on) these)
      recorded-taken on these is =
          let mine : q.mine ≡ p.mine = ap (λ (w : Person). w.mine) takes.taken in
          let loads = ap (λ (w : Person). w.loads) takes.taken in
          let own : q.sequence ≡ suc p.sequence = ap (λ (w : Person). w.sequence) takes.taken in record {
            from = let before = so_far.from in omega (arith, before, own);
            to = still_within k limits base history p q o start takes next;
            rises = rw mine so_far.rises;
            claimed = λ s most. rw mine (so_far.claimed s (claims_before p q _ s loads most));
            entered = rw (flat_map-append, reporting-enters, append-nil, mine) so_far.entered;
            reports = rw (flat_map-append, reporting-reports, so_far.reports) (sym is);
            behind = λ log begins. behind-reporting k limits base log 0 acts on these
                (so_far.behind log (seen_longer log begins));
          }
