-- Seats are split and joined: persons change views, and no word changes.
use Rattle.std.proofs.Common.{◌≡◌, ◌≢◌, ℕ, zero, suc, ◌+◌, List, [], ◌∷◌, ◌++◌, ◌⊎◌, inl, inr, ⊎_elim, set, take, drop}
use Rattle.std.proofs.Common.{refl, ap, sym, subst, ◌∙◌, arith, take-append-drop}
use mathlib.Core.Option.{some, some-ne-none}
use lib.ListN.{get_elem?}
use Rattle.std.specs.Prelude.{Some}
use Rattle.atomic_table.specs.Table.{State, Splits, Joins}
use Rattle.atomic_table.proofs.Lists.{at_set, at_snoc}
use Rattle.ring_words.specs.Slots.{Boxed}
use Rattle.ring_words.specs.declared.view.Person.{Person}
use Rattle.ring_words.specs.declared.view.View.{View}
use Rattle.ring_words.specs.Terms.{Terms}
use Rattle.ring_words.specs.Rule.{Knows, owners, all_owners, words_of, Lawful}
use Rattle.ring_words.specs.Seats.{first_person, person, others_stay, apart, together, nobody}
use Rattle.ring_words.specs.Steps.{Seated}
use Rattle.ring_words.specs.Meeting.{nobody_else, first_alone, second_alone}
use Rattle.ring_words.proofs.Logs.{in_take}
use Rattle.ring_words.proofs.Owners.{owners_both, owners_snoc, changed_owners}
use Rattle.ring_words.proofs.Keeps.{only}

-- whom two lists have, one behind the other
in_both : (ps qs : List Person) (j : ℕ) (o : Person) → get_elem? (ps ++ qs) j ≡ some o
    → (get_elem? ps j ≡ some o) ⊎ ((i : ℕ) × (get_elem? qs i ≡ some o))
in_both [] qs j o at = inr (j, at)
in_both (p ∷ ps) qs zero o at = inl at
in_both (p ∷ ps) qs (suc j) o at = in_both ps qs j o at

-- what stands behind the first element
in_drop : (ps : List Person) (j : ℕ) (o : Person) → get_elem? (drop 1 ps) j ≡ some o → get_elem? ps (suc j) ≡ some o
in_drop [] j o at = at
in_drop (p ∷ ps) j o at = at

module _ {L : Type 0} (terms : Terms L) where
  -- the rule stays where views change so that all in them know the rings as before, and each word has as many owners as
  -- before
  pub reseated : (s : State Boxed (View L)) (r : Lawful terms s) (views : List (View L))
      → ((i j : ℕ) (u : View L) (o : Person) → get_elem? views i ≡ some u → get_elem? u.people j ≡ some o
      → (u.logic ≡ Some terms.logic) × (u.base ≡ terms.base) × Knows terms (words_of s) r.log o)
      → ((k : ℕ) → all_owners k views ≡ all_owners k s.views)
      → Lawful terms record { words = s.words; homes = s.homes; views = views }
  reseated s r views people counts = record {
    log = r.log;
    some_row = r.some_row;
    some_output_row = r.some_output_row;
    some_gateway = r.some_gateway;
    few = r.few;
    wide = r.wide;
    order = r.order;
    logged = r.logged;
    rows = r.rows;
    outgoing = r.outgoing;
    filled = r.filled;
    people = people;
    once = λ k. counts k ∙ r.once k;
  }

  -- a view is cut in two: the persons of both were in it, and each word has as many owners as before
  pub resplits : (id : ℕ) (v : View L) (ps qs : List Person)
      → ((j : ℕ) (o : Person) → get_elem? ps j ≡ some o → (i : ℕ) × (get_elem? v.people i ≡ some o))
      → ((j : ℕ) (o : Person) → get_elem? qs j ≡ some o → (i : ℕ) × (get_elem? v.people i ≡ some o))
      → ((k : ℕ) → owners k ps + owners k qs ≡ owners k v.people)
      → Splits (Lawful terms) id v (record v { people = ps }) (record v { people = qs })
  resplits id v ps qs in_first in_second counts s r at = reseated s r (set s.views id first ++ second ∷ [])
      (λ i j u o there in_it. ⊎_elim
      (λ within_set. ⊎_elim
      (λ (t : (i ≡ id) × (first ≡ u)). was_in ps in_first u t.1 j o in_it)
      (λ (t : (i ≢ id) × (get_elem? s.views i ≡ some u)). r.people i j u o t.1 in_it)
      (at_set s.views id i first u within_set))
      (λ (new : second ≡ u). was_in qs in_second u new j o in_it)
      (at_snoc (set s.views id first) second u i there))
      (λ k. (let cut = changed_owners k s.views id v first at in
      let more = owners_snoc k (set s.views id first) second in let both = counts k in
      let x : ℕ = all_owners k (set s.views id first) in let y : ℕ = all_owners k s.views in omega arith)) where
        first : View L
        first = record v { people = ps }

        second : View L
        second = record v { people = qs }

        was_in : (rs : List Person) → ((j : ℕ) (o : Person) → get_elem? rs j ≡ some o
            → (i : ℕ) × (get_elem? v.people i ≡ some o))
            → (u : View L) → record v { people = rs } ≡ u → (j : ℕ) (o : Person) → get_elem? u.people j ≡ some o
            → (u.logic ≡ Some terms.logic) × (u.base ≡ terms.base) × Knows terms (words_of s) r.log o
        was_in rs found u is j o in_it =
            let place = found j o (subst (λ (x : View L). get_elem? x.people j ≡ some o) (sym is) in_it) in
            let own = r.people id place.0 v o at place.1 in
            (ap (λ (x : View L). x.logic) (sym is) ∙ own.0, ap (λ (x : View L). x.base) (sym is) ∙ own.1, own.2)

  -- a seat of several persons gives the first one a seat of its own
  pub splits : (id : ℕ) (v : View L) (p : Person) (ps : List Person) → v.people ≡ p ∷ ps
      → Splits (Lawful terms) id v (others_stay v) (apart v)
  splits id v p ps one = resplits id v (drop 1 v.people) (person v ∷ []) (λ j o at. (suc j, in_drop v.people j o at))
      (λ j o at. (
        0,
        subst (λ (l : List Person). get_elem? l 0 ≡ some (first_person l)) (sym one) refl
            ∙ ap some (sym (only (person v) o (person v ∷ []) j refl at)),
      ))
      (λ k. subst (λ (l : List Person). owners k (drop 1 l) + owners k (first_person l ∷ []) ≡ owners k l) (sym one)
      (let both = owners_both k (p ∷ []) ps in omega arith))

  -- a seat of nobody may be split off any seat
  pub spares : (id : ℕ) (v : View L) → Splits (Lawful terms) id v v (nobody_else v)
  spares id v = resplits id v v.people [] (λ j o at. (j, at)) (λ j o at. absurd (some-ne-none o (sym at)))
      (λ k. (let x : ℕ = owners k v.people in omega arith))

  -- the first person gets a seat of its own, and the others another
  pub parts : (id : ℕ) (v : View L) → Splits (Lawful terms) id v (first_alone v) (second_alone v)
  parts id v = resplits id v (take 1 v.people) (drop 1 v.people) (λ j o at. (j, (in_take v.people 1 j o at).1))
      (λ j o at. (suc j, in_drop v.people j o at))
      (λ k. sym (owners_both k (take 1 v.people) (drop 1 v.people)) ∙ ap (owners k) (take-append-drop 1 v.people))

  -- the first seat takes in the persons of another, which then has none
  pub joins : (id other : ℕ) (v w : View L) (p : Person) (ps : List Person) → v.people ≡ p ∷ ps
      → Joins (Lawful terms) id v other w (together v w) nobody
  joins id other v w p ps some_one s r at apart at' = let both = together v w in let vs = set s.views id both in
      let was_there : get_elem? s.views other ≡ some w = ⊎_elim (λ (t : (other ≡ id) × (both ≡ w)). absurd (apart t.0))
      (λ (t : (other ≢ id) × (get_elem? s.views other ≡ some w)). t.1) (at_set s.views id other both w at') in
      let first = r.people id 0 v p at (ap (λ (l : List Person). get_elem? l 0) some_one) in
      reseated s r (set vs other nobody)
      (λ i j u o there in_it. ⊎_elim
      (λ (t : (i ≡ other) × (nobody ≡ u)). absurd
      (some-ne-none o (sym (subst (λ (x : View L). get_elem? x.people j ≡ some o) (sym t.1) in_it))))
      (λ (t : (i ≢ other) × (get_elem? vs i ≡ some u)). ⊎_elim
      (λ (d : (i ≡ id) × (both ≡ u)). let in_one = in_both v.people w.people j o
      (subst (λ (x : View L). get_elem? x.people j ≡ some o) (sym d.1) in_it) in (
        ap (λ (x : View L). x.logic) (sym d.1) ∙ first.0,
        ap (λ (x : View L). x.base) (sym d.1) ∙ first.1,
        ⊎_elim (λ a. (r.people id j v o at a).2)
            (λ (b : (k : ℕ) × (get_elem? w.people k ≡ some o)). (r.people other b.0 w o was_there b.1).2) in_one,
      ))
      (λ (d : (i ≢ id) × (get_elem? s.views i ≡ some u)). r.people i j u o d.1 in_it)
      (at_set s.views id i both u t.1))
      (at_set vs other i nobody u there))
      (λ k. (let a = changed_owners k s.views id v both at in let b = changed_owners k vs other w nobody at' in
      let c = owners_both k v.people w.people in
      let x : ℕ = all_owners k s.views in omega arith))

-- who was the first person is it where others came in
pub first_stays : {S L : Type 0} {v : View L} (w : View L) {z : Seated S L} {carried : List (ℕ × S)} {p : Person}
    {ps : List Person} → z ≡ (together v w, carried) → v.people ≡ p ∷ ps → z.0.people ≡ p ∷ (ps ++ w.people)
first_stays w is one = rw is (rw one refl)
