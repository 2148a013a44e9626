-- The marshaller's steps at control words and at published outputs keep the rule, and what its loads tell: by one it
-- takes the slot of a row out, by
-- another it brings the slot back.
use Rattle.std.proofs.Common.{inr, ◌≡◌, ◌≢◌, ℕ, suc, ◌+◌, ◌*◌, ◌%◌, ◌<◌, ◌≤◌, List, [], ◌∷◌, ◌++◌, length, mod-lt, take}
use Rattle.std.proofs.Common.{get_or, set, refl, ap, sym, subst, ◌∙◌, arith, le_refl}
use Rattle.std.proofs.lemmas.Option.{same_Some}
use Rattle.std.specs.Prelude.{Option, None, Some}
use Rattle.std.proofs.lemmas.List.{set-get_or}
use mathlib.Core.Option.{none, some, some-injective}
use mathlib.Core.Logic.{dite}
use native.Mathlib.Decide.{dec_lt}
use lib.ListN.{get_elem?}
use Rattle.atomic_table.specs.Table.{State, Act, step, keeps, takes, gives, put_back, homes_after, carried_after, Valid}
use Rattle.atomic_table.specs.Table.{Allows}
use Rattle.venue_model.specs.History.{Message}
use Rattle.venue_model.specs.ListLaws.{stands, at_longer}
use Rattle.venue_model.specs.declared.outputs.Output.{Output}
use Rattle.ring_words.specs.declared.report.PlacedOutput.{PlacedOutput}
use Rattle.ring_words.specs.declared.view.Person.{Person}
use Rattle.ring_words.specs.Slots.{Boxed, Slots, report_of, OutOf, Filled}
use Rattle.ring_words.specs.declared.view.Role.{Role}
use Rattle.ring_words.specs.declared.view.Role.TheVariants.{Marshal}
use Rattle.ring_words.specs.declared.view.View.{View}
use Rattle.ring_words.specs.Places.{journalled, marshalled, taken, published, out_row, word_of_role}
use Rattle.ring_words.specs.Log.{IsFront}
use Rattle.ring_words.specs.Terms.{Terms, outputs_by}
use Rattle.ring_words.specs.Rule.{IsGateway, Depth, PartOf, WrittenTexts, words_of, Lawful}
use Rattle.ring_words.specs.Seats.{person, IsAlone, alone, load_of, looked, looked_twice, knowing, moved, with_out}
use Rattle.ring_words.specs.Steps.{Seated, Shows, WroteText, readable, moves_own, takes_report, gives_report}
use Rattle.ring_words.specs.Steps.{sees_published}
use Rattle.ring_words.proofs.Windows.{one_window}
use Rattle.ring_words.proofs.Puts.{word_here, word_else}
use Rattle.ring_words.proofs.Homes.{no_row, reading_taken, reading_given}
use Rattle.ring_words.proofs.WrittenTexts.{texts_below}
use Rattle.ring_words.proofs.Logs.{knows_looked, knows_knowing, knows_out, others_out}
use Rattle.ring_words.proofs.Keeps.{mine, after}
use Rattle.ring_words.proofs.Outgoings.{rest_of, output_kept, published_kept, still_above, no_output, outgoing_out}
use Rattle.ring_words.proofs.OutputRows.{same_out_row}
use Rattle.ring_words.proofs.Stays.{logged_out, rows_out}
use Rattle.ring_words.proofs.Putting.{another_row}
use Rattle.ring_words.proofs.Loads.{Goes, looks}
use Rattle.ring_words.proofs.Stores.{own_output_now}

-- The word at k was loaded as x, by which a box was taken out of the slot of the row of q. It was lent, as this one,
-- and put back. So the seat has it out; and where an output stands at q, it is what the box has, and x is its address.
pub record Copying {L : Type 0} (m q k x : ℕ) (outputs : L → List Message → List Output) (me me' : Seated Boxed L)
    (lent : Boxed) : Type 0 where
  pub box : Boxed
  pub place : box.value.place ≡ q
  pub out : me' ≡ (alone me.0 (with_out (looked (person me.0) k x) (Some box.value)), (q % m, box) ∷ [])
  pub says : (logic : L) (o : Output) → me.0.logic ≡ Some logic
      → get_elem? (outputs logic (person me.0).seen) q ≡ some o → (x ≡ o.to) × (lent.value.output ≡ o)

-- the box of a slot; d where there is none
abbrev box_of : Boxed → List (ℕ × Boxed) → Boxed
box_of d [] = d
box_of d (x ∷ xs) = x.1

-- so it is behind a load that took it out, where what lay there was exchanged for a spare one and back
pub copying : {L : Type 0} {m q k x row : ℕ} {outputs : L → List Message → List Output}
    {me one two three : Seated Boxed L} {lent spare : Boxed} → ((b : Boxed) × (b.value.place ≡ q)
    × (one ≡ (alone me.0 (with_out (looked (person me.0) k x) (Some b.value)), (q % m, b) ∷ me.1))
    × ((logic : L) (o : Output) → me.0.logic ≡ Some logic → get_elem? (outputs logic (person me.0).seen) q ≡ some o
    → (x ≡ o.to) × (b.value ≡ report_of o q)))
    → me.1 ≡ [] → one.1 ≡ (row, lent) ∷ [] → two ≡ (one.0, (row, spare) ∷ []) → three ≡ (two.0, (row, lent) ∷ [])
    → Copying m q k x outputs me three lent
copying {lent = lent} (b, place, took, says) bare found left back =
    let slot = sym (ap (λ (z : Seated Boxed _). z.1) took) ∙ found in
    let same : b ≡ lent = ap (box_of lent) slot in record {
      box = b;
      place = place;
      out = rw (back, left, ← found, took, bare) refl;
      says = λ logic o view there. let is = says logic o view there in
          (is.0, ap (λ (d : Boxed). d.value.output) (sym same) ∙ ap (λ (f : PlacedOutput). f.output) is.1);
    }

-- and behind the load of that address again the output is copied
pub copied : {L : Type 0} {m q k x y : ℕ} (n : ℕ) {outputs : L → List Message → List Output}
    {me me' me'' : Seated Boxed L} {lent : Boxed} → Copying m q k x outputs me me' lent
    → gives_report (readable n m published) outputs (step 0 k 0 0 none) me' y me'' → (person me.0).out ≡ None
    → (logic : L) (o : Output) → me.0.logic ≡ Some logic → get_elem? (outputs logic (person me.0).seen) q ≡ some o
    → (person me.0).sequence ≤ q → Shows published (person me.0) q → k ≡ out_row n m q 0
    → (lent.value.output ≡ o) × (me'' ≡ (alone me.0 (looked_twice (person me.0) k o.to), []))
copied {L} {m} {q} {k} {x} {y} n {outputs} {me} so given home logic o view there from to k_is =
    let p = person me.0 in let said = so.says logic o view there in
    let gave = rw so.out at given in
    let y_is : y ≡ o.to = gave.1 logic q o view there from
    (to.0, (to.1.0, at_longer p.loads (load_of k x ∷ []) to.0 to.1.0 to.1.1, to.1.2, to.1.3)) k_is in (
      said.1,
      gave.0 ∙ (λ i. (
        alone me.0 (record p {
          loads = (p.loads ++ load_of k (said.0 i) ∷ []) ++ load_of k (y_is i) ∷ [];
          out = sym home i;
        }),
        [],
      )),
    )

module _ {L : Type 0} (terms : Terms L) where
  -- a load of the word at k, after which this holds
  abbrev Loads : ℕ → ℕ → Seated Boxed L → ℕ → (ℕ → Seated Boxed L → Type 0) → Type 0
  Loads slots id me k then = Allows (Lawful terms) slots id me k (λ x. x) then

  -- the marshaller loads published: it knows then the history that is kept, whose outputs reach so far
  pub loads_published : (slots id : ℕ) (me : Seated Boxed L) → IsAlone me.0 → (person me.0).role ≡ Marshal
      → Loads slots id me published (sees_published terms.outputs (step slots published 0 0 none) me)
  loads_published slots id me one role s r wide at _ = let p = person me.0 in
      let w = words_of s in
      let x : ℕ = w published in
      let own = mine terms s r id me.0 p at one in let knows = own.2 in let out = r.outgoing in
      let own_is : w marshalled ≡ p.sequence = subst (λ (z : Role). w (word_of_role z) ≡ p.sequence) role knows.sequence in
      let ahead = out.marshalled_published in
      let deep : length p.seen ≤ w journalled = subst (λ (z : Role). Depth w z (length p.seen)) role knows.depth in
      let more = rest_of terms w r.log p.seen out knows.front deep in let rest : List Message = more.0 in
      let kept = out.kept in let long : length r.log.history ≡ length (p.seen ++ rest) = ap length more.1 in
      let all = published_kept terms w r.log out in
      looks terms s r published id me (knowing (looked p published x) rest)
      (sees_published terms.outputs (step slots published 0 0 none) me) at one refl
      (knows_knowing terms w r.log (looked p published x) rest (subst (IsFront r.log.status) more.1 out.front)
      (subst (λ (z : Role). Depth w z (length (p.seen ++ rest))) (sym role)
      (let g : length (p.seen ++ rest) ≤ w journalled = omega arith in g))
      (knows_looked terms w r.log p published x (λ _. le_refl x) knows)) (
        (let g : p.sequence ≤ x = omega arith in g),
        (
          rest,
          refl,
          λ logic view_is. (let logic_is : terms.logic ≡ logic = same_Some terms.logic logic (sym own.0 ∙ view_is) in
              subst (λ (l : L). x ≤ length (terms.outputs l (p.seen ++ rest))) logic_is
              (subst (λ (h : List Message). x ≤ length (outputs_by terms h)) more.1 all)),
        ),
      )

  -- what the marshaller finds at the address of an output that is published and not released
  address_is : (s : State Boxed (View L)) (r : Lawful terms s) (id q : ℕ) (me : Seated Boxed L) (logic : L) (o : Output)
      → get_elem? s.views id ≡ some me.0 → IsAlone me.0 → (person me.0).role ≡ Marshal
      → me.0.logic ≡ Some logic → get_elem? (terms.outputs logic (person me.0).seen) q ≡ some o → (person me.0).sequence ≤ q
      → Shows published (person me.0) q
      → (get_elem? (outputs_by terms r.log.history) q ≡ some o)
      × (words_of s (out_row terms.rows terms.output_rows q 0) ≡ o.to)
  address_is s r id q me logic o at one role view_is there from to = let p = person me.0 in let w = words_of s in
      let own = mine terms s r id me.0 p at one in let knows = own.2 in let out = r.outgoing in
      let own_is : w marshalled ≡ p.sequence = subst (λ (z : Role). w (word_of_role z) ≡ p.sequence) role knows.sequence in
      let deep : length p.seen ≤ w journalled = subst (λ (z : Role). Depth w z (length p.seen)) role knows.depth in
      let first : IsGateway terms.gateways 1 = ((omega arith), r.some_gateway) in
      let behind : w (taken 1) ≤ w marshalled = out.taken_marshalled 1 first in
      let logic_is : logic ≡ terms.logic = same_Some logic terms.logic (sym view_is ∙ own.0) in
      let kept = output_kept terms w r.log p.seen q o out knows.front deep
      (subst (λ (l : L). get_elem? (terms.outputs l p.seen) q ≡ some o) logic_is there) in
      let lo : w (taken 1) ≤ q = omega arith in
      (kept, out.addresses 1 q o first lo (still_above terms w r.log p published q knows (omega arith) to) kept)

  -- a load by which the marshaller takes a slot out, or brings it back
  moves_slot : (s : State Boxed (View L)) (r : Lawful terms s) (k id : ℕ) (me : Seated Boxed L)
      (reading : Option PlacedOutput) (a : Act Boxed) (then : ℕ → Seated Boxed L → Type 0)
      → get_elem? s.views id ≡ some me.0 → IsAlone me.0
      → (person me.0).role ≡ Marshal → Valid s.homes me.1 a
      → Filled terms.output_rows (record r.log.slots { reading = reading }) (homes_after s.homes me.1 a)
      → ((g : PlacedOutput) → reading ≡ Some g → (r.log.slots.reports (g.place % terms.output_rows) ≡ some g)
      × (words_of s marshalled ≤ g.place) × (g.place < words_of s published))
      → then (words_of s k) (
        alone me.0 (with_out (looked (person me.0) k (words_of s k)) reading),
        carried_after me.1 a,
      )
      → Goes terms s k id me then (words_of s k)
  moves_slot s r k id me reading a then at one role valid filled stands_for told = let p = person me.0 in
      let w = words_of s in
      let q : Person = with_out (looked p k (w k)) reading in
      let slots : Slots = record r.log.slots { reading = reading } in
      let knows = (mine terms s r id me.0 p at one).2 in (
        alone me.0 q,
        a,
        valid,
        subst (λ (ws : List ℕ). Lawful terms record {
          words = ws;
          homes = homes_after s.homes me.1 a;
          views = set s.views id (alone me.0 q);
        }) (sym (set-get_or s.words k 0))
            (after terms s r s.words id me.0 p q at one refl refl (record r.log { slots = slots })
            r.order (logged_out terms w r.log slots r.logged) (rows_out terms w r.log slots r.rows)
            (outgoing_out terms w r.log slots refl r.outgoing.filling stands_for r.outgoing)
            (homes_after s.homes me.1 a) filled
            (knows_out terms w r.log slots (looked p k (w k)) reading
            (subst (λ (z : Role). OutOf slots z reading) (sym role) refl)
            (knows_looked terms w r.log p k (w k) (λ _. le_refl (w k)) knows))
            (λ o other known. knows_out terms w r.log slots o o.out
            (others_out r.log.slots slots o.role o.out (λ _. refl)
            (λ is. absurd (other (ap word_of_role is ∙ sym (ap word_of_role role)))) known.out) known)),
        told,
      )

  -- the marshaller loads the address of an output that is published and not released, and takes the slot of its row
  -- out: that has its report
  pub loads_taking : (slots id q : ℕ) (me : Seated Boxed L) → IsAlone me.0 → (person me.0).role ≡ Marshal
      → (person me.0).out ≡ None → (person me.0).sequence ≤ q → Shows published (person me.0) q
      → Loads slots id me (out_row terms.rows terms.output_rows q 0)
      (takes_report (readable terms.rows terms.output_rows published) terms.outputs
      (step slots (out_row terms.rows terms.output_rows q 0) 0 0 none) me)
  loads_taking slots id q me one role none_out from to s r wide at _ =
      let p = person me.0 in
      let m : ℕ = terms.output_rows in
      let w = words_of s in
      let k : ℕ = out_row terms.rows m q 0 in
      let reports = r.log.slots.reports in
      let knows = (mine terms s r id me.0 p at one).2 in let out = r.outgoing in
      let own_is : w marshalled ≡ p.sequence = subst (λ (z : Role). w (word_of_role z) ≡ p.sequence) role knows.sequence in
      let above : q < w published = still_above terms w r.log p published q knows (omega arith) to in
      let first : IsGateway terms.gateways 1 = ((omega arith), r.some_gateway) in
      let behind : w (taken 1) ≤ w marshalled = out.taken_marshalled 1 first in
      let free : w published ≤ w (taken 1) + m = out.free 1 first in
      let order : w marshalled ≤ w published = out.marshalled_published in
      let all = published_kept terms w r.log out in
      let stood = stands (outputs_by terms r.log.history) q (omega arith) in
      let lo : w (taken 1) ≤ q = omega arith in let from_w : w marshalled ≤ q = omega arith in
      let home : r.log.slots.reading ≡ None = sym (subst (λ (z : Role). OutOf r.log.slots z p.out) role knows.out)
      ∙ none_out in
      let there = r.filled.home (q % m) (mod-lt q r.some_output_row)
      (λ h. (let is = out.filling h.0 h.1 in another_row terms w q order is.1 from_w above
      (sym h.2 ∙ ap (λ (z : ℕ). z % m) is.0)))
      (no_row m r.log.slots.reading (q % m) home) in
      let b : Boxed = there.0 in
      let is : b.value ≡ report_of stood.0 q = some-injective b.value (report_of stood.0 q)
      (sym there.2 ∙ out.reports 1 q stood.0 first lo above stood.1) in
      let place_is : b.value.place ≡ q = ap (λ (z : PlacedOutput). z.place) is in
      moves_slot s r k id me (Some b.value) (takes (q % m) b)
      (takes_report (readable terms.rows m published) terms.outputs (step slots k 0 0 none) me) at one role there.1
      (reading_taken m r.log.slots s.homes r.filled b.value (q % m) (ap (λ (z : ℕ). z % m) place_is) home)
      (λ g same. subst (λ (z : PlacedOutput). (reports (z.place % m) ≡ some z) × (w marshalled ≤ z.place)
      × (z.place < w published)) (same_Some b.value g same)
      (ap (λ (z : ℕ). reports (z % m)) place_is ∙ there.2, (omega arith), (omega arith)))
      (λ t from_t to_t word_is. (
      let both = same_out_row terms.rows m q t 0 0 (omega arith) (omega arith) word_is in
      let above_t : t < w published = still_above terms w r.log p published t knows (omega arith) to_t in
      let t_is : q ≡ t = one_window p.sequence q t m from from_t (omega arith) (omega arith) both.0 in (
        b,
        place_is ∙ t_is,
        ap (λ (z : ℕ). (alone me.0 (with_out (looked p k (w k)) (Some b.value)), (z % m, b) ∷ me.1)) t_is,
        λ logic o view_is seen_there.
            (let known = address_is s r id t me logic o at one role view_is seen_there from_t to_t in
            let same : stood.0 ≡ o = some-injective stood.0 o
            (sym stood.1 ∙ ap (λ (z : ℕ). get_elem? (outputs_by terms r.log.history) z) t_is ∙ known.0) in
            (ap w word_is ∙ known.1, is ∙ ap (λ (z : Output). report_of z q) same ∙ ap (report_of o) t_is)),
      )))

  -- the marshaller loads that address again, and brings the slot back with the report that it had
  pub loads_giving : (slots id q : ℕ) (me : Seated Boxed L) (b : Boxed) → IsAlone me.0 → (person me.0).role ≡ Marshal
      → (person me.0).out ≡ Some b.value → b.value.place ≡ q → me.1 ≡ (q % terms.output_rows, b) ∷ []
      → (k : ℕ) → Loads slots id me k
      (gives_report (readable terms.rows terms.output_rows published) terms.outputs (step slots k 0 0 none) me)
  loads_giving slots id q me b one role out_is place_is carried k s r wide at _ =
      let p = person me.0 in let m : ℕ = terms.output_rows in let w = words_of s in let reports = r.log.slots.reports in
      let knows = (mine terms s r id me.0 p at one).2 in
      let reading_is : r.log.slots.reading ≡ Some b.value =
      sym (subst (λ (z : Role). OutOf r.log.slots z p.out) role knows.out) ∙ out_is in
      let h = r.outgoing.reading b.value reading_is in
      moves_slot s r k id me None gives
      (gives_report (readable terms.rows m published) terms.outputs (step slots k 0 0 none) me) at one role tt
      (subst (λ (c : List (ℕ × Boxed)). Filled m (record r.log.slots { reading = None }) (put_back s.homes c))
      (sym carried)
      (reading_given m r.log.slots s.homes r.filled b (q % m) (ap (λ (z : ℕ). z % m) place_is)
      (mod-lt q r.some_output_row) reading_is (ap (λ (z : ℕ). reports (z % m)) (sym place_is) ∙ h.0)))
      (λ g is. absurd (let none_is : None ≡ Some g = is in cc)) (
        refl,
        λ logic t o view_is there from to word_is. ap w word_is
            ∙ (address_is s r id t me logic o at one role view_is there from to).1,
      )

  -- the same, where the code's sizes are the key's
  pub loads_taking_in : (n m : ℕ) → terms.rows ≡ n → terms.output_rows ≡ m
      → (slots id q : ℕ) (me : Seated Boxed L) (place : ℕ) → IsAlone me.0 → (person me.0).role ≡ Marshal
      → (person me.0).out ≡ None
      → (person me.0).sequence ≤ q → Shows published (person me.0) q → place ≡ out_row n m q 0
      → Loads slots id me place (takes_report (readable n m published) terms.outputs (step slots place 0 0 none) me)
  loads_taking_in n m rows output_rows slots id q me place one role none_out from to place_is =
      subst (λ (y : ℕ). Loads slots id me y
      (takes_report (readable n m published) terms.outputs (step slots y 0 0 none) me)) (sym place_is)
      (subst (λ (j : ℕ). Loads slots id me (out_row n j q 0)
      (takes_report (readable n j published) terms.outputs (step slots (out_row n j q 0) 0 0 none) me))
      output_rows
      (subst (λ (j : ℕ). Loads slots id me (out_row j terms.output_rows q 0)
      (takes_report (readable j terms.output_rows published) terms.outputs
      (step slots (out_row j terms.output_rows q 0) 0 0 none) me)) rows
      (loads_taking slots id q me one role none_out from to)))

  pub loads_giving_in : (n m : ℕ) → terms.rows ≡ n → terms.output_rows ≡ m
      → (slots id q : ℕ) (me : Seated Boxed L) (b : Boxed) → IsAlone me.0 → (person me.0).role ≡ Marshal
      → (person me.0).out ≡ Some b.value
      → b.value.place ≡ q → me.1 ≡ (q % m, b) ∷ [] → (k : ℕ)
      → Loads slots id me k (gives_report (readable n m published) terms.outputs (step slots k 0 0 none) me)
  loads_giving_in n m rows output_rows slots id q me b one role out_is place_is carried k =
      subst (λ (j : ℕ). Loads slots id me k
      (gives_report (readable n j published) terms.outputs (step slots k 0 0 none) me)) output_rows
      (subst (λ (j : ℕ). Loads slots id me k
      (gives_report (readable j terms.output_rows published) terms.outputs (step slots k 0 0 none) me)) rows
      (loads_giving slots id q me b one role out_is place_is
      (carried ∙ ap (λ (j : ℕ). (q % j, b) ∷ []) (sym output_rows)) k))

  -- behind the load that took the slot out, and two exchanges
  pub loads_giving_back : (n m : ℕ) → terms.rows ≡ n → terms.output_rows ≡ m → (slots id : ℕ) {q k x : ℕ}
      {outputs : L → List Message → List Output} {me me' : Seated Boxed L} {lent : Boxed}
      → Copying m q k x outputs me me' lent → (person me.0).role ≡ Marshal
      → Loads slots id me' k (gives_report (readable n m published) terms.outputs (step slots k 0 0 none) me')
  loads_giving_back n m rows output_rows slots id {q} {k} {x} {me = me} so role =
      subst (λ (z : Seated Boxed L). Loads slots id z k
      (gives_report (readable n m published) terms.outputs (step slots k 0 0 none) z)) (sym so.out)
      (loads_giving_in n m rows output_rows slots id q (
        alone me.0 (with_out (looked (person me.0) k x) (Some so.box.value)),
        (q % m, so.box) ∷ [],
      ) so.box refl role refl so.place refl k)

  -- the marshaller moves its word behind the row under way, whose text it wrote whole
  pub stores_marshalled : (slots id : ℕ) (me : Seated Boxed L) (x : ℕ) (o : Output) → IsAlone me.0
      → (person me.0).role ≡ Marshal → (person me.0).out ≡ None → x ≡ suc (person me.0).row.sequence
      → WroteText (terms.outputs terms.logic) (terms.text terms.logic) (person me.0) o
      → Allows (Lawful terms) slots id me marshalled (λ _. x) (λ _. moves_own (step slots marshalled x 0 none) me x)
  stores_marshalled slots id me x o one role none_out next wrote s r wide at _ =
      let p = person me.0 in
      let ws = s.words in
      let w = words_of s in
      let w' : ℕ → ℕ = λ (j : ℕ). get_or (set ws 32 x) j 0 in
      let own = mine terms s r id me.0 p at one in let knows = own.2 in let out = r.outgoing in let row = wrote.row in
      let own_is : w 32 ≡ p.sequence = subst (λ (z : Role). w (word_of_role z) ≡ p.sequence) role knows.sequence in
      let deep : length p.seen ≤ w journalled = subst (λ (z : Role). Depth w z (length p.seen)) role knows.depth in
      let shown : p.row.sequence < w 104 = still_above terms w r.log p published p.row.sequence knows (omega arith)
      wrote.shown in
      let part = subst (λ (z : Role). PartOf terms.rows terms.output_rows w r.log z p.row) role knows.row in
      let all : WrittenTexts terms w p.seen p.sequence x = texts_below terms w p part (knows.written_texts role) x
      (inr (inr (next, (o, wrote)))) in
      let longer : x ≤ length (outputs_by terms p.seen) = all.short (omega arith) in
      let inside : 32 < length ws = (let v = r.wide in omega arith) in
      let here : w' 32 ≡ x = word_here ws 32 x inside in
      let else : (j : ℕ) → j ≢ 32 → w' j ≡ w j = λ j ne. word_else ws 32 j x ne in
      let zero_is : w' 0 ≡ w 0 = else 0 (λ (z : 0 ≡ 32). omega arith) in
      let journalled_is : w' 24 ≡ w 24 = else 24 (λ (z : 24 ≡ 32). omega arith) in
      let published_is : w' 104 ≡ w 104 = else 104 (λ (z : 104 ≡ 32). omega arith) in
      let taken_is : (k : ℕ) → IsGateway terms.gateways k → w' (taken k)
      ≡ w (taken k) = λ k g. else (taken k) (λ (z : 32 + 8 * k ≡ 32). let lo : 1 ≤ k = g.0 in omega arith) in
      let row_is : (q i : ℕ) → w' (out_row terms.rows terms.output_rows q i)
      ≡ w (out_row terms.rows terms.output_rows q i) =
      λ q i. else (out_row terms.rows terms.output_rows q i)
      (no_output terms.rows terms.output_rows q i 32 (let n : ℕ = terms.rows in omega arith)) in
      let below : (q : ℕ) → q < w' 32 → q < x = λ q lt. subst (λ (z : ℕ). q < z) here lt in
      let known : (q : ℕ) (d : Output) → q < x → get_elem? (outputs_by terms r.log.history) q ≡ some d
      → get_elem? (outputs_by terms p.seen) q ≡ some d =
      λ q d lt there. (let stood = stands (outputs_by terms p.seen) q (omega arith) in
      stood.1 ∙ sym (output_kept terms w r.log p.seen q stood.0 out knows.front deep stood.1) ∙ there) in (
        alone me.0 (moved p x),
        keeps,
        tt,
        own_output_now terms s r id me 32 x at one (ap word_of_role role) (omega arith) (omega arith) (omega arith)
            record {
              kept = out.kept ∙ sym journalled_is;
              front = out.front;
              marshalled_published = omega arith;
              taken_marshalled = λ k g. (let e = taken_is k g in
                  let a : w (taken k) ≤ w 32 = out.taken_marshalled k g in let b : w 32 ≤ w' 32 = omega arith in
                  omega arith);
              free = λ k g. (let e = taken_is k g in let a : w 104 ≤ w (taken k) + terms.output_rows = out.free k g in
                  omega arith);
              least = (let is : length (outputs_by terms (take (w' 0) r.log.history))
                  ≡ length (outputs_by terms (take (w 0) r.log.history)) =
                  ap (λ (y : ℕ). length (outputs_by terms (take y r.log.history))) zero_is in
                  let a : length (outputs_by terms (take (w 0) r.log.history)) ≤ w 104 = out.least in omega arith);
              most = (let is : length (outputs_by terms (take (suc (w' 0)) r.log.history))
                  ≡ length (outputs_by terms (take (suc (w 0)) r.log.history)) =
                  ap (λ (y : ℕ). length (outputs_by terms (take (suc y) r.log.history))) zero_is in
                  let a : w 104 ≤ length (outputs_by terms (take (suc (w 0)) r.log.history)) = out.most in omega arith);
              addresses = λ k q d g from to there. (let e = taken_is k g in let lo : w (taken k) ≤ q = omega arith in
                  let hi : q < w 104 = omega arith in row_is q 0 ∙ out.addresses k q d g lo hi there);
              reports = λ k q d g from to there. (let e = taken_is k g in let lo : w (taken k) ≤ q = omega arith in
                  let hi : q < w 104 = omega arith in out.reports k q d g lo hi there);
              filling = λ f is. (let h = out.filling f is in let a : f.place ≡ w 104 = h.0 in
                  let b : w 104 < w 32 + terms.output_rows = h.1 in let up : w 32 ≤ w' 32 = omega arith in
                  ((omega arith), (omega arith)));
              reading = λ f is. absurd (let none_is : None ≡ Some f = sym none_out
                  ∙ subst (λ (z : Role). OutOf r.log.slots z p.out) role knows.out ∙ is in cc);
              texts = λ k q d g from to there i y word. row_is q (i + 64) ∙ dite (dec_lt q (w 32))
                  (λ before. (let e = taken_is k g in let lo : w (taken k) ≤ q = omega arith in
                  out.texts k q d g lo before there i y word))
                  (λ (behind : ¬ (q < w 32)). all.texts q d (known q d (below q to) there) (omega arith) (below q to) i
                  y word);
              readable = λ k q d g from to there. dite (dec_lt q (w 32))
                  (λ before. (let e = taken_is k g in let lo : w (taken k) ≤ q = omega arith in
                  out.readable k q d g lo before there))
                  (λ (behind : ¬ (q < w 32)). all.readable q d (known q d (below q to) there) (omega arith)
                  (below q to));
            },
        refl,
      )
