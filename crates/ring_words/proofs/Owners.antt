-- Whose word a control word is: counts of persons by the word that they store, in a list, in all views, and at the
-- start.
use Rattle.std.proofs.Common.{◌≡◌, ◌≢◌, ℕ, zero, suc, ◌+◌, ◌*◌, ◌<◌, ◌≤◌, Bool, true, false, List, [], ◌∷◌, ◌++◌, cond}
use Rattle.std.proofs.Common.{eqb, length, set, refl, ap, sym, subst, ◌∙◌, arith, eq-eqb}
use Rattle.std.proofs.lemmas.Bool.{ne_eqb, cond-true, cond-false}
use mathlib.Core.Option.{some, some-injective, some-ne-none}
use native.Mathlib.Decide.{ℕ_discrete}
use lib.ListN.{get_elem?}
use Rattle.venue_model.specs.History.{Message}
use Rattle.ring_words.specs.declared.view.Role.TheVariants.{Unmarshal, Journal, Marshal}
use Rattle.ring_words.specs.declared.view.Person.{Person}
use Rattle.ring_words.specs.declared.view.View.{View}
use Rattle.ring_words.specs.Places.{taken, word_of_role}
use Rattle.ring_words.specs.Rule.{owners, all_owners, processor, newcomer, gateways, crew}

at_least : (b : Bool) (x : ℕ) → 1 ≤ x → 1 ≤ cond b (suc x) x
at_least true x h = omega arith
at_least false x h = h

-- a person of the list counts at its word
pub counted : (ps : List Person) (j : ℕ) (p : Person) → get_elem? ps j ≡ some p → 1 ≤ owners (word_of_role p.role) ps
counted [] j p at = absurd (some-ne-none p (sym at))
counted (q ∷ ps) zero p at = let e : q ≡ p = some-injective q p at in
    let k : ℕ = word_of_role p.role in
    let x : ℕ = owners k ps in
    subst (λ (b : Bool). 1 ≤ cond b (suc x) x)
    (sym (eq-eqb (word_of_role q.role) k (ap (λ (z : Person). word_of_role z.role) e)))
    (let g : 1 ≤ suc x = omega arith in g)
counted (q ∷ ps) (suc j) p at = at_least (eqb (word_of_role q.role) (word_of_role p.role))
    (owners (word_of_role p.role) ps) (counted ps j p at)

-- two lists of persons
pub owners_both : (k : ℕ) (ps qs : List Person) → owners k (ps ++ qs) ≡ owners k ps + owners k qs
owners_both k [] qs = omega arith
owners_both k (p ∷ ps) qs = by_case (eqb (word_of_role p.role) k) (owners_both k ps qs) where
  by_case : (b : Bool) → owners k (ps ++ qs) ≡ owners k ps + owners k qs
      → cond b (suc (owners k (ps ++ qs))) (owners k (ps ++ qs))
      ≡ cond b (suc (owners k ps)) (owners k ps) + owners k qs
  by_case true h = omega arith
  by_case false h = h

-- the gateways from number k on: no two of them have one word, and none has a word before that of the first
few : (k g : ℕ) (base : List Message) (base_outputs x : ℕ) → (owners x (gateways k g base base_outputs) ≤ 1)
    × (x < taken k → owners x (gateways k g base base_outputs) ≡ 0)
few k zero base base_outputs x = ((omega arith), λ _. refl)
few k (suc g) base base_outputs x = let rest : ℕ = owners x (gateways (suc k) g base base_outputs) in
    let t = few (suc k) g base base_outputs x in
    by_case (ℕ_discrete (taken k) x) t where
      by_case : Dec (taken k ≡ x) → (owners x (gateways (suc k) g base base_outputs) ≤ 1)
          × (x < taken (suc k) → owners x (gateways (suc k) g base base_outputs) ≡ 0)
          → (owners x (gateways k (suc g) base base_outputs) ≤ 1) × (x < taken k → owners x (gateways k (suc g) base base_outputs) ≡ 0)
      by_case (yes e) t = let rest : ℕ = owners x (gateways (suc k) g base base_outputs) in
          let e' : 32 + 8 * k ≡ x = e in
          let none_left : rest ≡ 0 = t.1 (let g : x < 32 + 8 * suc k = omega arith in g) in
          let is : owners x (gateways k (suc g) base base_outputs) ≡ suc rest =
          cond-true (eqb (taken k) x) (suc rest) rest (eq-eqb (taken k) x e) in
          ((omega arith), λ lt. absurd (omega arith))
      by_case (no ne) t = let rest : ℕ = owners x (gateways (suc k) g base base_outputs) in
          let is : owners x (gateways k (suc g) base base_outputs) ≡ rest =
          cond-false (eqb (taken k) x) (suc rest) rest (ne_eqb (taken k) x ne) in (
            (let a : rest ≤ 1 = t.0 in omega arith),
            λ (lt : x < 32 + 8 * k). is
                ∙ t.1 (let g : x < 32 + 8 * suc k = omega arith in g),
          )

-- a person with the word b before others: what holds of words up to b holds of those below
one_before : (p : Person) (ps : List Person) (x b : ℕ) → word_of_role p.role ≡ b
    → (owners x ps ≤ 1) × (x ≤ b → owners x ps ≡ 0) → (owners x (p ∷ ps) ≤ 1) × (x < b → owners x (p ∷ ps) ≡ 0)
one_before p ps x b is rest = by_case (ℕ_discrete (word_of_role p.role) x) rest where
  by_case : Dec (word_of_role p.role ≡ x) → (owners x ps ≤ 1) × (x ≤ b → owners x ps ≡ 0)
      → (owners x (p ∷ ps) ≤ 1) × (x < b → owners x (p ∷ ps) ≡ 0)
  by_case (yes e) rest = let here : x ≡ b = sym e ∙ is in let none_left : owners x ps ≡ 0 = rest.1 (omega arith) in
      let all : owners x (p ∷ ps) ≡ suc (owners x ps) = cond-true (eqb (word_of_role p.role) x) (suc (owners x ps))
      (owners x ps) (eq-eqb (word_of_role p.role) x e) in
      ((omega arith), λ lt. absurd (omega arith))
  by_case (no ne) rest = let all : owners x (p ∷ ps) ≡ owners x ps =
      cond-false (eqb (word_of_role p.role) x) (suc (owners x ps)) (owners x ps) (ne_eqb (word_of_role p.role) x ne) in
      let few : owners x ps ≤ 1 = rest.0 in ((omega arith), λ lt. all ∙ rest.1 (omega arith))

-- no two persons of the crew have one word
pub few_in_crew : (g : ℕ) (base : List Message) (base_outputs x : ℕ) → owners x (crew g base base_outputs) ≤ 1
few_in_crew g base base_outputs x = let n : ℕ = length base in
    let rest = few 1 g base base_outputs x in
    let marshaller = newcomer Marshal base base_outputs ∷ gateways 1 g base base_outputs in
    let journaller = newcomer Journal base n ∷ marshaller in
    let unmarshaller = newcomer Unmarshal base n ∷ journaller in
    let fourth = one_before (newcomer Marshal base base_outputs) (gateways 1 g base base_outputs) x 32 refl
    (rest.0, λ le. rest.1 (omega arith)) in
    let third = one_before (newcomer Journal base n) marshaller x 24 refl (fourth.0, λ le. fourth.1 (omega arith)) in
    let second = one_before (newcomer Unmarshal base n) journaller x 16 refl (third.0, λ le. third.1 (omega arith)) in
    (one_before (processor base base_outputs) unmarshaller x 0 refl (second.0, λ le. second.1 (omega arith))).0

module _ {L : Type 0} where
  -- a seat's persons are among all
  pub one_of : (k : ℕ) (vs : List (View L)) (i : ℕ) (v : View L) → get_elem? vs i ≡ some v
      → owners k v.people ≤ all_owners k vs
  one_of k [] i v at = absurd (some-ne-none v (sym at))
  one_of k (u ∷ vs) zero v at = let e : u ≡ v = some-injective u v at in
      let a : owners k u.people ≡ owners k v.people = ap (λ (z : View L). owners k z.people) e in
      let x : ℕ = owners k u.people in let y : ℕ = all_owners k vs in let a' : x ≡ owners k v.people = a in omega arith
  one_of k (u ∷ vs) (suc i) v at = let h = one_of k vs i v at in omega arith

  -- two seats' persons count together
  pub two_of : (k : ℕ) (vs : List (View L)) (i j : ℕ) (v u : View L) → i ≢ j → get_elem? vs i ≡ some v
      → get_elem? vs j ≡ some u → owners k v.people + owners k u.people ≤ all_owners k vs
  two_of k [] i j v u ne at other = absurd (some-ne-none v (sym at))
  two_of k (x ∷ vs) zero zero v u ne at other = absurd (ne refl)
  two_of k (x ∷ vs) zero (suc j) v u ne at other = let e : owners k x.people
      ≡ owners k v.people = ap (λ (z : View L). owners k z.people) (some-injective x v at) in
      let h = one_of k vs j u other in
      omega arith
  two_of k (x ∷ vs) (suc i) zero v u ne at other = let e : owners k x.people
      ≡ owners k u.people = ap (λ (z : View L). owners k z.people) (some-injective x u other) in
      let h = one_of k vs i v at in
      omega arith
  two_of k (x ∷ vs) (suc i) (suc j) v u ne at other = let h = two_of k vs i j v u (λ e. ne (ap suc e)) at other in
      omega arith

  -- the count after one view changed
  pub changed_owners : (k : ℕ) (vs : List (View L)) (i : ℕ) (v w : View L) → get_elem? vs i ≡ some v
      → all_owners k (set vs i w) + owners k v.people ≡ all_owners k vs + owners k w.people
  changed_owners k [] i v w at = absurd (some-ne-none v (sym at))
  changed_owners k (x ∷ vs) zero v w at = let a : owners k x.people
      ≡ owners k v.people = ap (λ (z : View L). owners k z.people) (some-injective x v at) in
      omega arith
  changed_owners k (x ∷ vs) (suc i) v w at = let h = changed_owners k vs i v w at in omega arith

  pub same_owners : (k : ℕ) (vs : List (View L)) (i : ℕ) (v w : View L) → get_elem? vs i ≡ some v
      → owners k w.people ≡ owners k v.people → all_owners k (set vs i w) ≡ all_owners k vs
  same_owners k vs i v w at e = let h = changed_owners k vs i v w at in omega arith

  -- the count with one view more
  pub owners_snoc : (k : ℕ) (vs : List (View L)) (v : View L)
      → all_owners k (vs ++ v ∷ []) ≡ all_owners k vs + owners k v.people
  owners_snoc k [] v = omega arith
  owners_snoc k (u ∷ vs) v = let h = owners_snoc k vs v in omega arith
