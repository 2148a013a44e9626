-- A look for an output: what it keeps of a gateway's seat, and what it tells the session.
use Rattle.std.proofs.Common.{◌≡◌, ◌≢◌, ℕ, suc, ◌+◌, ◌^◌, ◌≤◌, List, [], ◌∷◌, ◌++◌, length, refl, ap, sym, subst}
use Rattle.std.proofs.Common.{◌∙◌, arith}
use Rattle.fix_orders.specs.Text.{Said, text, text_bytes}
use Rattle.venue_model.specs.History.{Message}
use Rattle.venue_model.specs.Requests.{Limits}
use Rattle.venue_model.specs.declared.outputs.Output.{Output}
use Rattle.book.specs.Histories.{outputs_of}
use Rattle.book.proofs.LawTexts.{tells-fields}
use Rattle.ring_words.specs.At.{Opened, At, IsAt, Steps, seated, number}
use Rattle.ring_words.specs.declared.view.Load.{Load}
use Rattle.ring_words.specs.declared.view.Person.{Person}
use Rattle.ring_words.specs.Places.{marshalled, number_of}
use Rattle.ring_words.specs.Seats.{looked, load_of}
use Rattle.barrier.specs.Taking.{TakesNext, Says, SaysOutput}
use Rattle.barrier.specs.declared.taken.Take.{Take}
use Rattle.barrier.specs.declared.taken.Take.TheVariants.{Mine, Passed, Nothing}
use Rattle.gateway.specs.Ledgers.{ledger_loading, TakeTells}
use Rattle.gateway.specs.Seats.{limits_of, HasSeen, messages_of, taken_by, ledger_of, TakesOne, Looks}
use Rattle.gateway.specs.Seats.{StaysSeated, MayEnter, MayLook, Uses}
use Rattle.gateway.proofs.Carried.{carried}
use Rattle.gateway.proofs.TakenLemmas.{taken_mine, taken_other, still_within, still_small}

-- a holder who has seen and taken as much, and has no claim left, knows as much
knows_still : (s : At Limits) (q : Person) → q.sequence ≡ s.who.sequence → q.seen ≡ s.who.seen → q.claims ≡ [] → HasSeen s
    → HasSeen (seated s q)
knows_still s q own seen spent knows = record {
  logic = knows.logic;
  from = rw own knows.from;
  few = rw own knows.few;
  to = rw (own, seen) knows.to;
  spent = spent;
}

-- the clause of a call that took an output or passed it over
abbrev pub Takes : Opened Limits → At Limits → At Limits → Take → List ℕ → Type 0
Takes rings s t take body = (history : List Message) × TakesNext (length rings.base) s.who history t.who
    × SaysOutput (outputs_of rings.logic history) text_bytes s take body

module _ (rings : Opened Limits) (s t : At Limits) (is_at : IsAt rings s) (step : Steps s t.who t) where
  -- the output and its history
  one : (take : Take) (body : List ℕ) → Takes rings s t take body
      → (o : Output) × TakesOne s t o × Says (number s) o (text_bytes o s.who.sequence) take body
  one take body (history, takes, says) =
      let out : SaysOutput (outputs_of (limits_of s) history) text_bytes s take body = rw (ap limits_of is_at) says in (
        out.0,
        record {
          history = history;
          takes = rw (ap (λ (a : At Limits). a.base) is_at) takes;
          next = out.1;
          others = step;
        },
        out.2,
      )

  pub looks_so : (take : Take) (body : List ℕ) → (take ≡ Nothing → t.who ≡ looked s.who marshalled s.who.sequence)
      → (take ≢ Nothing → Takes rings s t take body) → Looks s t body take
  looks_so (Mine head) body nothing taken =
      let o = one (Mine head) body (taken (λ is. cc)) in (
        o.0,
        o.1,
        o.2.0,
        carried head body o.0 s.who.sequence (tells-fields (limits_of s) o.1.history s.who.sequence o.0 o.1.next)
            o.2.1,
      )
  looks_so Passed body nothing taken = let o = one Passed body (taken (λ is. cc)) in (o.0, o.1, o.2)
  looks_so Nothing body nothing taken = step ∙ ap (seated s) (nothing refl)

module _ (n : ℕ) (s t : At Limits) (knows : HasSeen s) (o : Output) (one : TakesOne s t o) where
  small : s.who.sequence + 1 ≤ 2 ^ 62
  small = still_small (number s) (limits_of s) s.base one.history s.who t.who o (length s.base) one.takes one.next

  taken_keeps : HasSeen t
  taken_keeps =
      let own : t.who.sequence ≡ suc s.who.sequence = ap (λ (p : Person). p.sequence) one.takes.taken in
      rw one.others (record {
        logic = knows.logic;
        from = omega (arith, knows.from, own);
        to = still_within (number s) (limits_of s) s.base one.history s.who t.who o (length s.base) one.takes one.next;
        few = omega (arith, small, own);
        spent = ap (λ (p : Person). p.claims) one.takes.taken ∙ knows.spent;
      })

  -- the ledger with one output more, of these texts
  retold : (texts : List Said) → taken_by (number s) (limits_of s) s.base t.who ≡ texts → (ls : List Load)
      × (ledger_of n t ≡ record (ledger_loading (ledger_of n s) ls) { taken = texts; count = s.who.sequence + 1 })
  retold texts told =
      let taken = one.takes.taken in
      let own : t.who.sequence ≡ suc s.who.sequence = ap (λ (p : Person). p.sequence) taken in
      let count : t.who.sequence ≡ s.who.sequence + 1 = omega (arith, own) in (
        load_of marshalled one.takes.value ∷ one.takes.loads,
        ap (ledger_of n) one.others ∙ (λ i. record {
          rows = n;
          published = messages_of (taken i).mine;
          taken = (ap (λ (p : Person). taken_by (number_of p.role) (limits_of s) s.base t.who) taken ∙ told) i;
          count = count i;
          loads = (taken i).loads;
        }),
      )

  taken_more : o.to ≡ number s → taken_by (number s) (limits_of s) s.base t.who
      ≡ taken_by (number s) (limits_of s) s.base s.who ++ text o s.who.sequence ∷ []
  taken_more is = taken_mine (number s) (limits_of s) s.base one.history s.who t.who o (length s.base) one.takes
      one.next knows.from knows.to is

  taken_same : o.to ≢ number s → taken_by (number s) (limits_of s) s.base t.who
      ≡ taken_by (number s) (limits_of s) s.base s.who
  taken_same other = taken_other (number s) (limits_of s) s.base one.history s.who t.who o (length s.base) one.takes
      one.next knows.from knows.to other

module _ (n : ℕ) (s t : At Limits) (knows : HasSeen s) where
  pub looks_keeps : (take : Take) (body : List ℕ) → Looks s t body take → HasSeen t
  looks_keeps (Mine head) body (o, one, is, carries) = taken_keeps n s t knows o one
  looks_keeps Passed body (o, one, other) = taken_keeps n s t knows o one
  looks_keeps Nothing body is = subst HasSeen (sym is) (knows_still s _ refl refl knows.spent knows)

  pub looks_tells : (take : Take) (body : List ℕ) → Looks s t body take
      → TakeTells (ledger_of n s) (ledger_of n t) body take
  looks_tells (Mine head) body (o, one, is, carries) =
      let more = retold n s t knows o one _ (taken_more n s t knows o one is) in
      (text o s.who.sequence, carries, small n s t knows o one, more.0, more.1)
  looks_tells Passed body (o, one, other) =
      let more = retold n s t knows o one _ (taken_same n s t knows o one other) in
      (small n s t knows o one, more.0, more.1)
  looks_tells Nothing body is = ap (ledger_of n) is

-- a look leaves the seat at its rings, and its gateway's
pub looks_stays : (s t : At Limits) (take : Take) (body : List ℕ) → Looks s t body take → StaysSeated s t
looks_stays s t (Mine head) body (o, one, is, carries) =
    record { rings = one.others; role = ap (λ (p : Person). p.role) one.takes.taken }
looks_stays s t Passed body (o, one, other) =
    record { rings = one.others; role = ap (λ (p : Person). p.role) one.takes.taken }
looks_stays s t Nothing body is =
    let who : t.who ≡ looked s.who marshalled s.who.sequence = ap (λ (a : At Limits). a.who) is in
    record { rings = is ∙ ap (seated s) (sym who); role = ap (λ (p : Person). p.role) who }

-- a seat that stays as it is
pub seat_still : (s : At Limits) → StaysSeated s s
seat_still s = record { rings = refl; role = refl }

-- A seat that was used for a try to publish at most, and then for a look at most.
pub used : {n : ℕ} {s t u : At Limits} → StaysSeated s t → MayEnter n s t → StaysSeated t u → MayLook t u → Uses n s u
used {n} {s} {t} {u} first enters next looks = record {
  stays = record {
    rings = next.rings ∙ ap (λ (x : At Limits). seated x u.who) first.rings;
    role = next.role ∙ first.role;
  };
  between = t;
  enters = enters;
  looks = looks;
}
