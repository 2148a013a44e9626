-- A gateway's seat, used for a publication or for a look: what happened so far is what its person knows.
use Rattle.std.proofs.Common.{◌≡◌, ◌≢◌, inl, inr, ℕ, ◌^◌, Bool, List, [], ◌∷◌, ◌++◌}
use Rattle.std.proofs.Common.{length, map, refl, ap, sym, ◌∙◌, append_assoc, append-nil}
use Rattle.std.specs.List.{flat_map}
use Rattle.std.proofs.lemmas.List.{map-append}
use mathlib.Core.Option.{some}
use lib.ListN.{get_elem?}
use Rattle.fix_orders.specs.Text.{Said, text}
use Rattle.venue_model.specs.Requests.{Limits}
use Rattle.venue_model.specs.declared.outputs.Output.{Output}
use Rattle.book.specs.Histories.{outputs_of}
use Rattle.ring_words.specs.At.{Opened, At, IsAt, Steps, seated, number}
use Rattle.ring_words.specs.Places.{claim, processed, marshalled, number_of}
use Rattle.ring_words.specs.SeatLaws.{still_at}
use Rattle.ring_words.specs.Seats as seats
use Rattle.ring_words.specs.Seats.{load_of, looked, with_claim, marked, sent_of}
use Rattle.ring_words.specs.declared.view.Load.{Load}
use Rattle.ring_words.specs.declared.view.Person.{Person}
use Rattle.ring_words.specs.declared.view.Sent.{Sent}
use Rattle.barrier.specs.declared.taken.Take.TheVariants.{Mine, Passed, Nothing}
use Rattle.gateway.specs.declared.seat.TryPublish.TheVariants.{Done, Refused, Exhausted}
use Rattle.gateway.specs.Seats.{limits_of, messages_of, taken_by, from_gateway, StaysSeated, Published, TakesOne}
use Rattle.gateway.specs.Seats.{MayEnter, MayLook}
use Rattle.gateway.specs.Visits as visits
use Rattle.gateway.specs.Visits.{Act, entered_by, given_by, missed_by}
use Rattle.gateway.proofs.PublishLemmas.{in_order}
use Rattle.gateway.proofs.TakenLemmas.{taken_mine, taken_other}
use Rattle.gateway.proofs.SendLemmas.{entry_sent}
use Rattle.gateway.proofs.ActLemmas.{reporting}
use Rattle.gateway.proofs.RecordLemmas.{Recorded, OnlyLooked, Publishes, still_recorded, recorded-published}
use Rattle.gateway.proofs.RecordLemmas.{recorded-taken}

-- the seat is of these rings, and of gateway k
pub record Sits (rings : Opened Limits) (k : ℕ) (s : At Limits) : Type 0 where
  pub at : IsAt rings s
  pub number_is : number_of s.who.role ≡ k

module _ (rings : Opened Limits) (k : ℕ) where
  abbrev Known : Person → List Act → Type 0
  Known p acts = Recorded k rings.logic rings.base p acts

  abbrev taken : Person → List Said
  taken p = taken_by k rings.logic rings.base p

  -- a try to publish: a message entered, or none did
  pub record Entered (p q : Person) (acts : List Act) : Type 0 where
    pub more : List Act
    pub recorded : Known q (acts ++ more)
    pub sent : messages_of q.mine ≡ messages_of p.mine ++ map (λ e. e.bytes) (flat_map entered_by more)
    pub ungiven : flat_map given_by more ≡ []
    pub unmissed : flat_map missed_by more ≡ []
    pub untaken : taken q ≡ taken p

  -- a look: a report came, or none did
  pub record Looked (on : Bool) (p q : Person) (acts : List Act) : Type 0 where
    pub these : List Said
    pub recorded : Known q (acts ++ map (reporting on) these)
    pub unsent : messages_of q.mine ≡ messages_of p.mine
    pub taken_more : taken q ≡ taken p ++ these

  -- the seat of these rings knows their logic, and their history at the start
  pub logic_is : (s : At Limits) → Sits rings k s → limits_of s ≡ rings.logic
  logic_is s sits = ap (λ (a : At Limits). limits_of a) sits.at

  -- what the seat tells as taken
  pub told : (s : At Limits) → Sits rings k s → taken_by (number s) (limits_of s) s.base s.who ≡ taken s.who
  told s sits =
      rw (sits.number_is, logic_is s sits) (ap (λ (a : At Limits). taken_by k rings.logic a.base s.who) sits.at)

  -- the seat with another person in its role
  sits_then : (s t : At Limits) (q : Person) → Sits rings k s → Steps s q t → q.role ≡ s.who.role → Sits rings k t
  sits_then s t q sits step role = record {
    at = still_at rings s t q sits.at step;
    number_is = ap (λ (a : At Limits). number_of a.who.role) step ∙ ap number_of role ∙ sits.number_is;
  }

  pub sits_still : (s t : At Limits) → Sits rings k s → StaysSeated s t → Sits rings k t
  sits_still s t sits stays = sits_then s t t.who sits stays.rings stays.role

  module _ (n : ℕ) (s t : At Limits) (acts : List Act) (sits : Sits rings k s) where
    module _ (bytes : List ℕ) (done : Published n s t bytes) where
      abbrev sent : Sent
      sent = sent_of done.sequence (from_gateway (number s) bytes)

      abbrev claimed : Person
      claimed = with_claim (looked (seats.loading
          (looked s.who claim done.sequence) done.claimed.1.0) claim done.sequence) done.sequence

      published : Steps s (marked claimed done.sequence (from_gateway (number s) bytes)) t
      published = done.published
          ∙ ap (λ (z : At Limits). seated z (marked z.who done.sequence
          (from_gateway (number s) bytes))) done.claimed.1.2

      publishes : Publishes s.who t.who sent
      publishes = record {
        mine = ap (λ (z : At Limits). z.who.mine) published;
        seen = ap (λ (z : At Limits). z.who.seen) published;
        count = ap (λ (z : At Limits). z.who.sequence) published;
        more = done.claimed.1.0 ++ load_of claim done.sequence ∷ [];
        loads = ap (λ (z : At Limits). z.who.loads) published
            ∙ in_order s.who.loads done.claimed.1.0 (load_of claim done.sequence) (load_of claim done.sequence);
        below = done.claimed.1.6;
        ahead = done.claimed.1.5;
      }

      entered-done : Known s.who acts → Entered s.who t.who acts
      entered-done so_far = record {
        more = visits.Enters (entry_sent sent) ∷ [];
        recorded = recorded-published k rings.logic rings.base s.who t.who acts so_far sent publishes;
        sent = ap messages_of publishes.mine ∙ map-append (λ (m : Sent). m.entry.bytes) s.who.mine (sent ∷ []);
        ungiven = refl;
        unmissed = refl;
        untaken = λ i. taken (record s.who { seen = publishes.seen i; sequence = publishes.count i });
      }

    -- nothing was published
    entered-none : OnlyLooked s.who t.who → Known s.who acts → Entered s.who t.who acts
    entered-none only so_far = record {
      more = [];
      recorded = rw append-nil (still_recorded k rings.logic rings.base s.who t.who acts so_far only);
      sent = rw (append-nil, only.mine);
      ungiven = refl;
      unmissed = refl;
      untaken = λ i. taken (record s.who { seen = only.seen i; sequence = only.count i });
    }

    -- loads alone
    only_loads : (q : Person) (more : List Load) → Steps s q t → q.mine ≡ s.who.mine → q.seen ≡ s.who.seen → q.sequence
        ≡ s.who.sequence
        → q.loads ≡ s.who.loads ++ more → OnlyLooked s.who t.who
    only_loads q more step mine seen count loads = record {
      mine = ap (λ (z : At Limits). z.who.mine) step ∙ mine;
      seen = ap (λ (z : At Limits). z.who.seen) step ∙ seen;
      count = ap (λ (z : At Limits). z.who.sequence) step ∙ count;
      more = more;
      loads = ap (λ (z : At Limits). z.who.loads) step ∙ loads;
    }

    unused : t ≡ s → OnlyLooked s.who t.who
    unused same = only_loads s.who [] same refl refl refl (sym (append-nil s.who.loads))

    -- a try to publish at most
    pub entered : MayEnter n s t → Known s.who acts → Entered s.who t.who acts
    entered (inl same) so_far = entered-none (unused same) so_far
    entered (inr (message, Done, done)) so_far = entered-done message done so_far
    entered (inr (message, Refused, inl (a, p, is, full, few))) so_far =
        entered-none (only_loads _ (load_of claim a ∷ load_of processed p ∷ []) is refl refl refl
        (append_assoc s.who.loads (load_of claim a ∷ []) (load_of processed p ∷ []))) so_far
    entered (inr (message, Refused, inr (a, p, b, (ls, sees, is, room, few, late)))) so_far =
        entered-none (only_loads _ (load_of claim a ∷ ls ++ load_of claim b ∷ []) is refl refl refl
        (in_order s.who.loads ls (load_of claim a) (load_of claim b))) so_far
    entered (inr (message, Exhausted, is)) so_far = entered-none (only_loads _
        (load_of claim (2 ^ 48) ∷ []) is refl refl refl refl) so_far

    pub sits-entered : MayEnter n s t → Sits rings k t
    sits-entered (inl same) = rw same sits
    sits-entered (inr (message, Done, done)) = sits_then s t _ sits (published message done) refl
    sits-entered (inr (message, Refused, inl (a, p, is, full, few))) = sits_then s t _ sits is refl
    sits-entered (inr (message, Refused, inr (a, p, b, (ls, sees, is, room, few, late)))) = sits_then s t _ sits is refl
    sits-entered (inr (message, Exhausted, is)) = sits_then s t _ sits is refl

    module _ (so_far : Known s.who acts) (on : Bool) where
      -- none was found
      looked-none : OnlyLooked s.who t.who → Looked on s.who t.who acts
      looked-none only = record {
        these = [];
        recorded = rw append-nil (still_recorded k rings.logic rings.base s.who t.who acts so_far only);
        unsent = ap messages_of only.mine;
        taken_more = (λ i. taken (record s.who { seen = only.seen i; sequence = only.count i }))
            ∙ sym (append-nil (taken s.who));
      }

      module _ (o : Output) (one : TakesOne s t o) where
        next : get_elem? (outputs_of rings.logic one.history) s.who.sequence ≡ some o
        next = rw (logic_is s sits) at one.next

        looked-one : (these : List Said) → taken t.who ≡ taken s.who ++ these → Looked on s.who t.who acts
        looked-one these is = record {
          these = these;
          recorded = recorded-taken k rings.logic rings.base s.who t.who acts so_far
              (length s.base) one.history o one.takes next on these is;
          unsent = ap (λ (p : Person). messages_of p.mine) one.takes.taken;
          taken_more = is;
        }

        looked-mine : o.to ≡ number s → Looked on s.who t.who acts
        looked-mine is = looked-one (text o s.who.sequence ∷ [])
            (taken_mine k rings.logic rings.base one.history s.who t.who o
            (length s.base) one.takes next so_far.from so_far.to
            (is ∙ sits.number_is))

        looked-other : o.to ≢ number s → Looked on s.who t.who acts
        looked-other other = looked-one []
            (taken_other k rings.logic rings.base one.history s.who t.who o
            (length s.base) one.takes next so_far.from so_far.to
            (λ (e : o.to ≡ k). other (e ∙ sym sits.number_is)) ∙ sym (append-nil (taken s.who)))

      -- a look at most
      pub looked_at : MayLook s t → Looked on s.who t.who acts
      looked_at (inl same) = looked-none (unused same)
      looked_at (inr (body, Mine head, (o, one, is, carries))) = looked-mine o one is
      looked_at (inr (body, Passed, (o, one, other))) = looked-other o one other
      looked_at (inr (body, Nothing, is)) =
          looked-none (only_loads _ (load_of marshalled s.who.sequence ∷ []) is refl refl refl refl)
