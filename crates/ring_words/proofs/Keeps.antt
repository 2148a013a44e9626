-- What each step shares: words, one person and the log may change, and the rest of the rule stays.
use Rattle.std.proofs.Common.{◌≡◌, ◌≢◌, ℕ, zero, suc, ◌≤◌, List, [], ◌∷◌, ⊎_elim, length, get_or, set, ap, sym, subst}
use Rattle.std.proofs.Common.{◌∙◌, arith}
use mathlib.Core.Option.{Option as Maybe, some, some-injective, some-ne-none}
use lib.ListN.{get_elem?}
use Rattle.std.specs.Prelude.{Some}
use Rattle.atomic_table.specs.Table.{State}
use Rattle.atomic_table.proofs.Lists.{at_set}
use Rattle.ring_words.specs.Slots.{Boxed, Filled}
use Rattle.ring_words.specs.declared.view.Role.{Role}
use Rattle.ring_words.specs.declared.view.Person.{Person}
use Rattle.ring_words.specs.declared.view.View.{View}
use Rattle.ring_words.specs.Places.{word_of_role}
use Rattle.ring_words.specs.Log.{Log}
use Rattle.ring_words.specs.Terms.{Terms}
use Rattle.ring_words.specs.Seats.{alone}
use Rattle.ring_words.specs.Rule.{Ordered, Logged, Rows, Outgoing, Knows, owners, all_owners, words_of, Lawful}
use Rattle.ring_words.proofs.Owners.{counted, two_of, same_owners, few_in_crew}

-- the only person of a list of one
pub only : (p q : Person) (ps : List Person) (j : ℕ) → ps ≡ p ∷ [] → get_elem? ps j ≡ some q → q ≡ p
only p q ps zero e at = sym (some-injective p q (subst (λ (l : List Person). get_elem? l zero ≡ some q) e at))
only p q ps (suc j) e at = absurd
    (some-ne-none q (sym (subst (λ (l : List Person). get_elem? l (suc j) ≡ some q) e at)))

module _ {L : Type 0} (terms : Terms L) where
  -- the person of a seat with one person, and what it knows
  pub mine : (s : State Boxed (View L)) (r : Lawful terms s) (id : ℕ) (v : View L) (p : Person)
      → get_elem? s.views id ≡ some v → v.people ≡ p ∷ []
      → (v.logic ≡ Some terms.logic) × (v.base ≡ terms.base) × Knows terms (words_of s) r.log p
  mine s r id v p at one = r.people id 0 v p at (ap (λ (l : List Person). get_elem? l 0) one)

  -- no word has two owners
  pub one_owner_each : (s : State Boxed (View L)) → Lawful terms s → (k : ℕ) → all_owners k s.views ≤ 1
  one_owner_each s r k = subst (λ (x : ℕ). x ≤ 1) (sym (r.once k)) (few_in_crew terms.gateways terms.base terms.base_outputs k)

  -- two seats' persons have different words
  pub apart : (s : State Boxed (View L)) (r : Lawful terms s) (i j a : ℕ) (v u : View L) (p q : Person) → i ≢ j
      → get_elem? s.views i ≡ some v → get_elem? s.views j ≡ some u
      → v.people ≡ p ∷ [] → get_elem? u.people a ≡ some q → word_of_role q.role ≢ word_of_role p.role
  apart s r i j a v u p q ne at other one there e = let k : ℕ = word_of_role p.role in
      let h = two_of k s.views i j v u ne at other in
      let o : all_owners k s.views ≤ 1 = one_owner_each s r k in
      let x : 1 ≤ owners k v.people = counted v.people 0 p (ap (λ (l : List Person). get_elem? l 0) one) in
      let y : 1 ≤ owners k u.people = subst (λ (z : ℕ). 1 ≤ owners z u.people) e (counted u.people a q there) in
      omega arith

  -- after a step of the person p, which is then q, and by which slots may have been taken or brought back
  pub after : (s : State Boxed (View L)) (r : Lawful terms s) (words' : List ℕ) (id : ℕ) (v : View L) (p q : Person)
      → get_elem? s.views id ≡ some v → v.people ≡ p ∷ [] → q.role ≡ p.role → length words' ≡ length s.words
      → (log' : Log) → Ordered terms (λ j. get_or words' j 0) → Logged terms (λ j. get_or words' j 0) log'
      → Rows terms (λ j. get_or words' j 0) log' → Outgoing terms (λ j. get_or words' j 0) log'
      → (homes' : List (Maybe Boxed)) → Filled terms.output_rows log'.slots homes'
      → Knows terms (λ j. get_or words' j 0) log' q
      → ((o : Person) → word_of_role o.role ≢ word_of_role p.role → Knows terms (words_of s) r.log o
      → Knows terms (λ j. get_or words' j 0) log' o)
      → Lawful terms record { words = words'; homes = homes'; views = set s.views id (alone v q) }
  after s r words' id v p q at one role long log' order logged rows outgoing homes' filled knows others = record {
    log = log';
    some_row = r.some_row;
    some_output_row = r.some_output_row;
    some_gateway = r.some_gateway;
    few = r.few;
    wide = long ∙ r.wide;
    order = order;
    logged = logged;
    rows = rows;
    outgoing = outgoing;
    filled = filled;
    people = λ i j u o there in_it. ⊎_elim
        (λ (t : (i ≡ id) × (alone v q ≡ u)). let own = mine s r id v p at one in
        let e : q ∷ [] ≡ u.people = ap (λ (z : View L). z.people) t.1 in
        let is : o ≡ q = only q o u.people j (sym e) in_it in (
          ap (λ (z : View L). z.logic) (sym t.1) ∙ own.0,
          ap (λ (z : View L). z.base) (sym t.1) ∙ own.1,
          subst (Knows terms (λ j. get_or words' j 0) log') (sym is) knows,
        ))
        (λ (t : (i ≢ id) × (get_elem? s.views i ≡ some u)). let own = r.people i j u o t.1 in_it in
        (own.0, own.1, others o (apart s r id i j v u p o (λ e. t.0 (sym e)) at t.1 one in_it) own.2))
        (at_set s.views id i (alone v q) u there);
    once = λ k. same_owners k s.views id v (alone v q) at
        (ap (λ (z : Role). owners k (record p { role = z } ∷ [])) role ∙ ap (owners k) (sym one)) ∙ r.once k;
  }
