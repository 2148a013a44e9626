-- Two seats that came together load a word: the rule stays, and what their persons learn then.
use Rattle.std.proofs.Common.{◌≡◌, ◌≢◌, ℕ, zero, suc, ◌+◌, ◌≤◌, Bool, true, false, List, [], ◌∷◌, ◌++◌, ◌⊎◌, inl, inr}
use Rattle.std.proofs.Common.{⊎_elim, cond, eqb, leb, length, get_or, set, take, refl, ap, sym, subst, ◌∙◌, arith}
use Rattle.std.proofs.Common.{le_refl}
use Rattle.std.specs.Prelude.{None, Some}
use Rattle.std.proofs.lemmas.Bool.{cond-true, cond-false, eq-eqb, ne_eqb, le-leb, leb-true}
use mathlib.Core.Option.{none, some, some-injective, some-ne-none}
use lib.ListN.{get_elem?}
use Rattle.atomic_table.specs.Table.{State, step, keeps, Allows}
use Rattle.std.proofs.lemmas.List.{set-get_or, take-append-le, length-take-le}
use Rattle.std.proofs.Math.Seq.{take-length}
use mathlib.Core.Logic.{dite}
use native.Mathlib.Decide.{ℕ_discrete, dec_le}
use Rattle.atomic_table.proofs.Lists.{at_set}
use Rattle.venue_model.specs.History.{Message}
use Rattle.ring_words.specs.Slots.{Boxed}
use Rattle.ring_words.specs.declared.view.Role.{Role}
use Rattle.ring_words.specs.declared.view.Role.TheVariants.{Journal, Gateway}
use Rattle.ring_words.specs.declared.view.Person.{Person}
use Rattle.ring_words.specs.declared.view.View.{View}
use Rattle.ring_words.specs.Places.{processed, journalled, taken, word_of_role, number_of}
use Rattle.ring_words.specs.Log.{Log, Status, unclaimed, old, claimed, sent, sends_of, sent_at, IsFront}
use Rattle.ring_words.specs.Terms.{Terms}
use Rattle.ring_words.specs.Rule.{Depth, Knows, owners, words_of, Lawful}
use Rattle.atomic_table.specs.Seated.{TableId}
use Rattle.ring_words.specs.Seats.{person, IsAlone, together, last_load}
use Rattle.ring_words.specs.SeatLaws.{last_now}
use Rattle.ring_words.specs.At.{Opened, At, IsAt, Steps, seat_of}
use Rattle.ring_words.specs.Steps.{Seated, Became}
use Rattle.ring_words.specs.Meeting.{first_alone, second_alone, longer, met, AreMet, MeetsJournal, IsPresent}
use Rattle.ring_words.specs.Meeting.{sees_meeting, sees_journal}
use Rattle.ring_words.proofs.Written.{writes_rows}
use Rattle.ring_words.proofs.Owners.{one_of, owners_both, same_owners}
use Rattle.ring_words.proofs.Logs.{knows_looked}
use Rattle.ring_words.proofs.Outputs.{begins, front_taken}
use Rattle.ring_words.proofs.Keeps.{one_owner_each}
use Rattle.ring_words.proofs.Taking.{legal_front}
use Rattle.ring_words.proofs.Seatings.{reseated}
use Rattle.ring_words.proofs.Loads.{Goes}
use Rattle.ring_words.proofs.Becomes.{steps_either, gateway_sits}

-- the first two of a list of two
in_two : (p q o : Person) (ps : List Person) (j : ℕ) → ps ≡ p ∷ q ∷ [] → get_elem? ps j ≡ some o → (p ≡ o) ⊎ (q ≡ o)
in_two p q o ps zero is at = inl (some-injective p o (subst (λ (l : List Person). get_elem? l zero ≡ some o) is at))
in_two p q o ps (suc zero) is at = inr (some-injective q o (subst (λ (l : List Person). get_elem? l 1 ≡ some o) is at))
in_two p q o ps (suc (suc j)) is at =
    absurd (some-ne-none o (sym (subst (λ (l : List Person). get_elem? l (suc (suc j)) ≡ some o) is at)))

module _ {L : Type 0} (terms : Terms L) where
  -- a load after which the seat's two persons are p' and q'
  pub looks_two : (s : State Boxed (View L)) (r : Lawful terms s) (k id : ℕ) (me : Seated Boxed L) (p q p' q' : Person)
      (then : ℕ → Seated Boxed L → Type 0) → get_elem? s.views id ≡ some me.0
      → me.0.people ≡ p ∷ q ∷ [] → p'.role ≡ p.role → q'.role ≡ q.role → Knows terms (words_of s) r.log p'
      → Knows terms (words_of s) r.log q'
      → then (get_or s.words k 0) (record me.0 { people = p' ∷ q' ∷ [] }, me.1)
      → Goes terms s k id me then (get_or s.words k 0)
  looks_two s r k id me p q p' q' then at two role_p role_q knows_p knows_q told = let w : View L =
      record me.0 { people = p' ∷ q' ∷ [] } in (
        w,
        keeps,
        tt,
        subst (λ (ws : List ℕ). Lawful terms record { words = ws; homes = s.homes; views = set s.views id w })
            (sym (set-get_or s.words k 0)) (reseated terms s r (set s.views id w)
            (λ i j u o there in_it. ⊎_elim
            (λ (t : (i ≡ id) × (w ≡ u)). let own = r.people id 0 me.0 p at (ap (λ (l : List Person). get_elem? l 0) two) in (
              ap (λ (x : View L). x.logic) (sym t.1) ∙ own.0,
              ap (λ (x : View L). x.base) (sym t.1) ∙ own.1,
              ⊎_elim (λ is. subst (Knows terms (words_of s) r.log) is knows_p)
                  (λ is. subst (Knows terms (words_of s) r.log) is knows_q)
                  (in_two p' q' o u.people j (ap (λ (x : View L). x.people) (sym t.1)) in_it),
            ))
            (λ (t : (i ≢ id) × (get_elem? s.views i ≡ some u)). r.people i j u o t.1 in_it)
            (at_set s.views id i w u there))
            (λ k. same_owners k s.views id me.0 w at
            (owners_both k (p' ∷ []) (q' ∷ [])
            ∙ ap (λ (z : Role). owners k (record p { role = z } ∷ []) + owners k (q' ∷ [])) role_p
            ∙ ap (λ (z : Role). owners k (p ∷ []) + owners k (record q { role = z } ∷ [])) role_q
            ∙ sym (owners_both k (p ∷ []) (q ∷ [])) ∙ ap (owners k) (sym two)))),
        told,
      )

  -- two gateways have different numbers
  pub two_numbers : (s : State Boxed (View L)) (r : Lawful terms s) (id : ℕ) (v : View L) (p q : Person) (j k : ℕ)
      → get_elem? s.views id ≡ some v → v.people ≡ p ∷ q ∷ [] → p.role ≡ Gateway j → q.role ≡ Gateway k → j ≢ k
  two_numbers s r id v p q j k at two role_p role_q same =
      let few = one_owner_each terms s r (taken j) in let there = one_of (taken j) s.views id v at in
      let all : owners (taken j) v.people ≡ owners (taken j) (p ∷ []) + owners (taken j) (q ∷ []) =
      ap (owners (taken j)) two ∙ owners_both (taken j) (p ∷ []) (q ∷ []) in
      let one : owners (taken j) (p ∷ []) ≡ 1 = cond-true (eqb (word_of_role p.role) (taken j)) 1 0
      (eq-eqb (word_of_role p.role) (taken j) (ap word_of_role role_p)) in
      let other : owners (taken j) (q ∷ []) ≡ 1 = cond-true (eqb (word_of_role q.role) (taken j)) 1 0
      (eq-eqb (word_of_role q.role) (taken j) (ap word_of_role role_q ∙ ap taken (sym same))) in
      let x : ℕ = owners (taken j) v.people in omega arith

not_leb : (a b : ℕ) → ¬ (a ≤ b) → leb a b ≡ false
not_leb a b gt = by_case (leb a b) refl where
  by_case : (c : Bool) → leb a b ≡ c → c ≡ false
  by_case false e = refl
  by_case true e = absurd (gt (leb-true a b e))

-- a beginning of the log that isn't longer begins another
begun : (status : ℕ → Status) (h g : List Message) → IsFront status h → IsFront status g → length h ≤ length g
    → h ≡ take (length h) g
begun status h g front_h front_g short = let more = begins status g h front_g front_h short in
    sym (take-length h) ∙ sym (take-append-le (length h) h more.0 (le_refl (length h)))
    ∙ ap (take (length h)) (sym more.1)

-- of two beginnings of the log the longer goes on from both
of_longer : (status : ℕ → Status) (h g : List Message) → IsFront status h → IsFront status g
    → (h ≡ take (length h) (longer h g)) × (g ≡ take (length g) (longer h g)) × IsFront status (longer h g)
of_longer status h g front_h front_g = by_length (dec_le (length h) (length g)) where
  by_length : Dec (length h ≤ length g) → (h ≡ take (length h) (longer h g)) × (g ≡ take (length g) (longer h g))
      × IsFront status (longer h g)
  by_length (yes le) = let is : g
      ≡ longer h g = sym (cond-true (leb (length h) (length g)) g h (le-leb (length h) (length g) le)) in
      subst (λ (l : List Message). (h ≡ take (length h) l) × (g ≡ take (length g) l) × IsFront status l) is
      (begun status h g front_h front_g le, sym (take-length g), front_g)
  by_length (no gt) = let is : h
      ≡ longer h g = sym (cond-false (leb (length h) (length g)) g h (not_leb (length h) (length g) gt)) in
      subst (λ (l : List Message). (h ≡ take (length h) l) × (g ≡ take (length g) l) × IsFront status l) is
      (sym (take-length h), begun status g h front_g front_h (omega arith), front_h)

-- it is no longer than both may be
longer_most : (h g : List Message) (x : ℕ) → length h ≤ x → length g ≤ x → length (longer h g) ≤ x
longer_most h g x a b = by_choice (leb (length h) (length g)) where
  by_choice : (c : Bool) → length (cond c g h) ≤ x
  by_choice true = b
  by_choice false = a

-- no entry is two gateways'
apart_at : (j k : ℕ) (x : Status) → j ≢ k → (sends_of j x ≡ []) ⊎ (sends_of k x ≡ [])
apart_at j k unclaimed ne = inl refl
apart_at j k (old e) ne = inl refl
apart_at j k (claimed i) ne = inl refl
apart_at j k (sent e) ne = dite (ℕ_discrete e.gateway j)
    (λ is. inr (cond-false (eqb e.gateway k) (e ∷ []) [] (ne_eqb e.gateway k (λ z. ne (sym is ∙ z)))))
    (λ other. inl (cond-false (eqb e.gateway j) (e ∷ []) [] (ne_eqb e.gateway j other)))

module _ {L : Type 0} (terms : Terms L) (w : ℕ → ℕ) (log : Log) where
  -- what a person knows after it loaded processed and saw a beginning of the log that it may see
  knows_met : (p : Person) (x : ℕ) (h : List Message) → writes_rows p.role ≡ 0 → x ≤ w processed → IsFront log.status h
      → Depth w p.role (length h) → Knows terms w log p → Knows terms w log (met p x h)
  knows_met p x h other low front deep r = let k = knows_looked terms w log p processed x (λ _. low) r in record {
    role = k.role;
    front = front;
    depth = deep;
    sequence = k.sequence;
    mine = k.mine;
    claims = k.claims;
    loads = k.loads;
    row = k.row;
    written = λ is. absurd (let z : 0 ≡ 1 = sym other ∙ ap writes_rows is in omega arith);
    written_texts = λ is. absurd (let z : 0 ≡ 1 = sym other ∙ ap writes_rows is in omega arith);
    out = k.out;
  }

  -- two gateways published nothing at one sequence
  mine_apart : (p q : Person) (j k : ℕ) → p.role ≡ Gateway j → q.role ≡ Gateway k → j ≢ k → Knows terms w log p
      → Knows terms w log q → (s : ℕ) → (sent_at s p.mine ≡ []) ⊎ (sent_at s q.mine ≡ [])
  mine_apart p q j k role_p role_q ne knows_p knows_q s = ⊎_elim
      (λ none. inl (knows_p.mine s ∙ ap (λ (z : Role). sends_of (number_of z) (log.status s)) role_p ∙ none))
      (λ none. inr (knows_q.mine s ∙ ap (λ (z : Role). sends_of (number_of z) (log.status s)) role_q ∙ none))
      (apart_at j k (log.status s) ne)

module _ {L : Type 0} (terms : Terms L) where
  -- what a gateway has seen is a beginning of what the journaller has handed on
  pub not_ahead : (s : State Boxed (View L)) (p q : Person) (k : ℕ) → Lawful terms s → IsPresent s p → IsPresent s q
      → p.role ≡ Gateway k → q.role ≡ Journal → q.sequence ≤ length q.seen
      → p.seen ≡ take (length p.seen) (take q.sequence q.seen)
  not_ahead s p q k r there_p there_q role_p role_q within =
      let w = words_of s in
      let knows_p = (r.people there_p.0 there_p.1 there_p.2 p there_p.3 there_p.4).2 in
      let knows_q = (r.people there_q.0 there_q.1 there_q.2 q there_q.3 there_q.4).2 in
      let low : length p.seen ≤ w journalled = subst (λ (z : Role). Depth w z (length p.seen)) role_p knows_p.depth in
      let own : w journalled ≡ q.sequence = subst (λ (z : Role). w (word_of_role z) ≡ q.sequence) role_q knows_q.sequence in
      let long : length (take q.sequence q.seen) ≡ q.sequence = length-take-le q.sequence q.seen within in
      begun r.log.status p.seen (take q.sequence q.seen) knows_p.front
      (front_taken r.log.status q.sequence q.seen knows_q.front) (omega (arith, low, own, long))

  -- two gateways whose seats came together load processed: both then know the longer history
  pub loads_meeting : (slots id : ℕ) (me : Seated Boxed L) (p q : Person) (j k : ℕ) → me.0.people ≡ p ∷ q ∷ []
      → p.role ≡ Gateway j → q.role ≡ Gateway k
      → Allows (Lawful terms) slots id me processed (λ x. x) (sees_meeting (step slots processed 0 0 none) me)
  loads_meeting slots id me p q j k two role_p role_q s r wide at _ =
      let w = words_of s in let x : ℕ = w processed in let status = r.log.status in
      let own_p = r.people id 0 me.0 p at (ap (λ (l : List Person). get_elem? l 0) two) in
      let own_q = r.people id 1 me.0 q at (ap (λ (l : List Person). get_elem? l 1) two) in
      let knows_p = own_p.2 in let knows_q = own_q.2 in
      let low_p : length p.seen ≤ w journalled = subst (λ (z : Role). Depth w z (length p.seen)) role_p knows_p.depth in
      let low_q : length q.seen ≤ w journalled = subst (λ (z : Role). Depth w z (length q.seen)) role_q knows_q.depth in
      let h : List Message = longer p.seen q.seen in
      let is = of_longer status p.seen q.seen knows_p.front knows_q.front in
      let low = longer_most p.seen q.seen (w journalled) low_p low_q in
      let learned : AreMet (length terms.base) p q = record {
        one = is.0;
        other = is.1;
        apart = mine_apart terms w r.log p q j k role_p role_q
            (two_numbers terms s r id me.0 p q j k at two role_p role_q) knows_p knows_q;
        legal_one = legal_front terms w r.log p h r.logged knows_p is.2;
        legal_other = legal_front terms w r.log q h r.logged knows_q is.2;
      } in
      looks_two terms s r processed id me p q (met p x h) (met q x h) (sees_meeting (step slots processed 0 0 none) me)
      at two refl refl
      (knows_met terms w r.log p x h (ap writes_rows role_p) (le_refl x) is.2
      (subst (λ (z : Role). Depth w z (length h)) (sym role_p) low) knows_p)
      (knows_met terms w r.log q x h (ap writes_rows role_q) (le_refl x) is.2
      (subst (λ (z : Role). Depth w z (length h)) (sym role_q) low) knows_q)
      (λ a b _ _ both _ _. (
      let a_is : p ≡ a = some-injective p a (ap (λ (l : List Person). get_elem? l 0) (sym two ∙ both)) in
      let b_is : q ≡ b = some-injective q b (ap (λ (l : List Person). get_elem? l 1) (sym two ∙ both)) in
      let told : (z : Person × Person) → Type 0 = λ (z : Person × Person).
      (◌≡◌ {A = Seated Boxed L} (record me.0 { people = met p x h ∷ met q x h ∷ [] }, me.1)
      (record me.0 { people = met z.0 x (longer z.0.seen z.1.seen) ∷ met z.1 x (longer z.0.seen z.1.seen) ∷ [] }, me.1))
      × AreMet (length me.0.base) z.0 z.1 in
      subst told (λ i. (a_is i, b_is i))
      (refl, subst (λ (l : List Message). AreMet (length l) p q) (sym own_p.1) learned)))

  -- a gateway and the journaller whose seats came together load processed: the gateway then knows all that the
  -- journaller has released
  pub loads_journal : (slots id : ℕ) (me : Seated Boxed L) (p q : Person) (j : ℕ) → me.0.people ≡ p ∷ q ∷ []
      → p.role ≡ Gateway j → q.role ≡ Journal → q.sequence ≤ length q.seen
      → Allows (Lawful terms) slots id me processed (λ x. x) (sees_journal (step slots processed 0 0 none) me)
  loads_journal slots id me p q j two role_p role_q within_seen s r wide at _ =
      let w = words_of s in let x : ℕ = w processed in let status = r.log.status in
      let own_p = r.people id 0 me.0 p at (ap (λ (l : List Person). get_elem? l 0) two) in
      let own_q = r.people id 1 me.0 q at (ap (λ (l : List Person). get_elem? l 1) two) in
      let knows_p = own_p.2 in let knows_q = own_q.2 in
      let low_p : length p.seen ≤ w journalled = subst (λ (z : Role). Depth w z (length p.seen)) role_p knows_p.depth in
      let own_is : w journalled ≡ q.sequence = subst (λ (z : Role). w (word_of_role z) ≡ q.sequence) role_q knows_q.sequence in
      let h : List Message = take q.sequence q.seen in
      let long : length h ≡ q.sequence = length-take-le q.sequence q.seen within_seen in
      let front : IsFront status h = front_taken status q.sequence q.seen knows_q.front in
      let learned : MeetsJournal (length terms.base) p q =
      record {
        begins = begun status p.seen h knows_p.front front (omega arith);
        legal = legal_front terms w r.log p h r.logged knows_p front;
      } in
      looks_two terms s r processed id me p q (met p x h) (met q x q.seen)
      (sees_journal (step slots processed 0 0 none) me) at two refl refl
      (knows_met terms w r.log p x h (ap writes_rows role_p) (le_refl x) front
      (subst (λ (z : Role). Depth w z (length h)) (sym role_p)
      (let low : length h ≤ w journalled = omega arith in low)) knows_p)
      (knows_met terms w r.log q x q.seen (ap writes_rows role_q) (le_refl x) knows_q.front knows_q.depth knows_q)
      (λ a b _ both _ _ _. (
      let a_is : p ≡ a = some-injective p a (ap (λ (l : List Person). get_elem? l 0) (sym two ∙ both)) in
      let b_is : q ≡ b = some-injective q b (ap (λ (l : List Person). get_elem? l 1) (sym two ∙ both)) in
      let told : (z : Person × Person) → Type 0 = λ (z : Person × Person).
      (◌≡◌ {A = Seated Boxed L} (record me.0 { people = met p x h ∷ met q x q.seen ∷ [] }, me.1)
      (record me.0 { people = met z.0 x (take z.1.sequence z.1.seen) ∷ met z.1 x z.1.seen ∷ [] }, me.1))
      × MeetsJournal (length me.0.base) z.0 z.1 in
      subst told (λ i. (a_is i, b_is i))
      (refl, subst (λ (l : List Message). MeetsJournal (length l) p q) (sym own_p.1) learned)))

-- the seat that took in another has both persons
pub both_people : {L : Type 0} (v w : View L) {both : Seated Boxed L} → both ≡ (together v w, []) → IsAlone v
    → IsAlone w → both.0.people ≡ person v ∷ person w ∷ []
both_people v w is one other = ap (λ (z : Seated Boxed _). z.0.people) is
    ∙ ap (λ (ps : List Person). ps ++ w.people) one ∙ ap (λ (ps : List Person). person v ∷ ps) other

-- Two seats met, by a load of processed as r: the person of the first knows h now, that of the second k, as the seats
-- at these tables have them and as contracts see it. And this was learned.
pub record Met {L : Type 0} (one other : At L) (v w : View L) (r : ℕ) (h k : List Message) (t₁ t₂ : TableId)
    (first second : Seated Boxed L) (Learned : Type 0) : Type 0 where
  pub first_has : Became (v, []) (met (person v) r h) first
  pub second_has : Became (v, []) (met (person w) r k) second
  pub one_steps : Steps one (met one.who r h) (seat_of t₁ first.0)
  pub other_steps : Steps other (met other.who r k) (seat_of t₂ second.0)
  pub learned : Learned

-- two gateways' seats, and a gateway's and the journaller's
abbrev pub GatewaysMet : {L : Type 0} → Opened L → At L → At L → View L → View L → ℕ → TableId → TableId
    → Seated Boxed L → Seated Boxed L → Type 0
GatewaysMet rings one other v w r t₁ t₂ first second = let h = longer one.who.seen other.who.seen in
    Met one other v w r h h t₁ t₂ first second (AreMet (length rings.base) one.who other.who)

abbrev pub JournalMet : {L : Type 0} → Opened L → At L → At L → View L → View L → ℕ → TableId → TableId
    → Seated Boxed L → Seated Boxed L → Type 0
JournalMet rings one other v w r t₁ t₂ first second =
    Met one other v w r (take other.who.sequence other.who.seen) other.who.seen t₁ t₂ first second
    (MeetsJournal (length rings.base) one.who other.who)

-- both came together, both persons learned it, and the seat was split again: each has its person beside what the first
-- had
module _ {L : Type 0} (rings : Opened L) (v w : View L) {t t' t₁ t₂ : TableId} {r : ℕ}
    {came both first second : Seated Boxed L} (a : came ≡ (together v w, [])) (b : first ≡ (first_alone both.0, both.1))
    (c : second ≡ (second_alone both.0, [])) (table : t₁ ≡ t) (table' : t₂ ≡ t) (one_alone : IsAlone v)
    (other_alone : IsAlone w) where
  meets : {h k : List Message} (Learned : List Message → Type 0) → IsAt rings (seat_of t v)
      → IsAt rings (seat_of t' w)
      → (both ≡ (record came.0 { people = met (person v) r h ∷ met (person w) r k ∷ [] }, came.1)) × Learned came.0.base
      → Met (seat_of t v) (seat_of t' w) v w r h k t₁ t₂ first second (Learned rings.base)
  meets {h} {k} Learned one other told =
      let first_is = rw (told.0, a) at b in let second_is = rw (told.0, a) at c in record {
        first_has = first_is;
        second_has = second_is;
        one_steps = rw (table, first_is) refl;
        other_steps = steps_either rings (seat_of t v) (seat_of t' w) _ (met (person w) r k) one other
            (rw (table', second_is) refl);
        learned = subst Learned (ap (λ (z : Seated Boxed L). z.0.base) a ∙ ap (λ (s : At L). s.base) one) told.1;
      }

  pub gateways_met : {one other : At L} {i j : ℕ} → seat_of t v ≡ one → seat_of t' w ≡ other → IsAt rings one
      → IsAt rings other → (person v).role ≡ Gateway i → (person w).role ≡ Gateway j
      → sees_meeting (step 0 processed 0 0 none) came r both → GatewaysMet rings one other v w r t₁ t₂ first second
  gateways_met {i = i} {j} one_is other_is = rw (← one_is, ← other_is) (λ at at' role role' sees.
      meets (λ h. AreMet (length h) (person v) (person w)) at at'
      (sees (person v) (person w) i j (both_people v w a one_alone other_alone) role role'))

  pub journal_met : {one other : At L} {i : ℕ} → seat_of t v ≡ one → seat_of t' w ≡ other → IsAt rings one
      → IsAt rings other → (person v).role ≡ Gateway i → (person w).role ≡ Journal
      → (person w).sequence ≤ length (person w).seen → sees_journal (step 0 processed 0 0 none) came r both
      → JournalMet rings one other v w r t₁ t₂ first second
  journal_met {i = i} one_is other_is = rw (← one_is, ← other_is) (λ at at' role role' within sees.
      meets (λ h. MeetsJournal (length h) (person v) (person w)) at at'
      (sees (person v) (person w) i (both_people v w a one_alone other_alone) role role' within))

-- a gateway's seat that met another keeps what it keeps, and has r of processed
module _ {L Numbered Learned : Type 0} {one other : At L} {v w : View L} {r : ℕ} {h k : List Message} {t₁ t₂ : TableId}
    {first second : Seated Boxed L} (met : Met one other v w r h k t₁ t₂ first second Learned) where
  pub first_sits : {number count : ℕ} → (person v).role ≡ Gateway number → Numbered → count ≡ (person v).sequence
      → IsAlone first.0 × ((first.1 ≡ [])
      × (((person first.0).role ≡ Gateway number)
      × (Numbered × ((count ≡ (person first.0).sequence)
      × ((Some r ≡ last_load processed None (person first.0).loads) × Unit {0})))))
  first_sits role numbered own = gateway_sits (v, []) _ _ met.first_has refl _ role numbered _ own _
      (sym (last_now processed None r (person v).loads))

  pub second_sits : {number count : ℕ} → (person w).role ≡ Gateway number → Numbered → count ≡ (person w).sequence
      → IsAlone second.0 × ((second.1 ≡ [])
      × (((person second.0).role ≡ Gateway number)
      × (Numbered × ((count ≡ (person second.0).sequence)
      × ((Some r ≡ last_load processed None (person second.0).loads) × Unit {0})))))
  second_sits role numbered own = gateway_sits (v, []) _ _ met.second_has refl _ role numbered _ own _
      (sym (last_now processed None r (person w).loads))
