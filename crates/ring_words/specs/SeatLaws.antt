-- Laws on a seat behind a step: what its person loaded and knows, and whose seat it is.
use Rattle.std.proofs.Common.{◌≡◌, ◌≢◌, ◌⊎◌, ◌∙◌, List, Option, None, Some, inl, inr, ap, ◌++◌, cond, ℕ, suc, ◌+◌, ◌<◌, ◌≤◌, [], ◌∷◌, eqb, length, get_or, set, length-set, refl, sym, subst, arith}
use Rattle.std.proofs.lemmas.List.{append-nil, get_or-set_same, get_or-set_other}
use mathlib.Core.Logic.{dite}
use Rattle.std.proofs.lemmas.Bool.{eq-eqb, ne_eqb, cond-true, cond-false}
use Rattle.std.proofs.lemmas.Option.{same_Some}
use mathlib.Core.Option.{some}
use native.Mathlib.Decide.{ℕ_discrete}
use lib.ListN.{get_elem?}
use Rattle.venue_model.specs.History.{Message}
use Rattle.venue_model.specs.ListLaws.{at_behind}
use Rattle.ring_words.specs.declared.view.Load.{Load}
use Rattle.ring_words.specs.declared.view.Person.{Person}
use Rattle.ring_words.specs.Places.{claim, processed, taken}
use Rattle.ring_words.specs.Rule.{IsGateway}
use Rattle.ring_words.specs.Seats.{load_of, looked, last_from, last_load, AreTaken, AreUpTo}
use Rattle.ring_words.specs.At.{Opened, At, at, seated, IsAt, Steps}
use Rattle.ring_words.specs.Steps.{ClaimsUpTo, HasRoom, HasOutputRoom, Reaches}

-- the value that was just loaded is the last one of its word
pub last_now : (k : ℕ) (d : Option ℕ) (x : ℕ) (ls : List Load) → last_load k d (ls ++ load_of k x ∷ []) ≡ Some x
last_now k d x [] = cond-true (eqb k k) (Some x) d (eq-eqb k k refl)
last_now k d x (l ∷ ls) = last_now k (cond (eqb l.place k) (Some l.value) d) x ls

-- a load of another word leaves the last one of this word
pub last_stays : (k j : ℕ) (d : Option ℕ) (x : ℕ) (ls : List Load) → j ≢ k → last_load k d (ls ++ load_of j x ∷ []) ≡ last_load k d ls
last_stays k j d x [] ne = cond-false (eqb j k) (Some x) d (ne_eqb j k ne)
last_stays k j d x (l ∷ ls) ne = last_stays k j (cond (eqb l.place k) (Some l.value) d) x ls ne

-- some load of the word found x
abbrev Found : ℕ → ℕ → List Load → Type 0
Found k x ls = (i : ℕ) × ((l : Load) × (get_elem? ls i ≡ some l) × (l.place ≡ k) × (l.value ≡ x))

-- the last value of a word was found by a load, where it isn't the one that stood for none
last_found : (k : ℕ) (d : Option ℕ) (x : ℕ) (ls : List Load) → last_load k d ls ≡ Some x → (d ≡ Some x) ⊎ Found k x ls
last_found k d x [] is = inl is
last_found k d x (l ∷ ls) is = by_last (last_found k (cond (eqb l.place k) (Some l.value) d) x ls is) where
  by_place : Dec (l.place ≡ k) → cond (eqb l.place k) (Some l.value) d ≡ Some x → (d ≡ Some x) ⊎ Found k x (l ∷ ls)
  by_place (yes e) first = inr (0, (l, refl, e, same_Some l.value x (sym (cond-true (eqb l.place k) (Some l.value) d (eq-eqb l.place k e)) ∙ first)))
  by_place (no ne) first = inl (sym (cond-false (eqb l.place k) (Some l.value) d (ne_eqb l.place k ne)) ∙ first)

  by_last : (cond (eqb l.place k) (Some l.value) d ≡ Some x) ⊎ Found k x ls → (d ≡ Some x) ⊎ Found k x (l ∷ ls)
  by_last (inl first) = by_place (ℕ_discrete l.place k) first
  by_last (inr (i, (m, there, place, value))) = inr (suc i, (m, there, place, value))

-- the processed value that was loaded last leaves room
pub room_last_loaded : (n : ℕ) (p : Person) (x s : ℕ) → last_load processed None p.loads ≡ Some x → s < x + n → HasRoom n p s
room_last_loaded n p x s is room = by_load (last_found processed None x p.loads is) where
  by_load : (None ≡ Some x) ⊎ Found processed x p.loads → HasRoom n p s
  by_load (inl none) = absurd (let none_is = none in cc)
  by_load (inr (i, (l, there, place, value))) = (i, (l, there, place, subst (λ (y : ℕ). s < y + n) (sym value) room))

-- the taken values that were loaded last leave room for an output
pub output_room_last_loaded : (g m : ℕ) (p : Person) (q : ℕ) → ((k : ℕ) → IsGateway g k → (x : ℕ) × (last_load (taken k) None p.loads ≡ Some x) × (q < x + m)) → HasOutputRoom g m p q
output_room_last_loaded g m p q rooms k gateway = let room = rooms k gateway in by_load room.0 room.2 (last_found (taken k) None room.0 p.loads room.1) where
  by_load : (x : ℕ) → q < x + m → (None ≡ Some x) ⊎ Found (taken k) x p.loads → (i : ℕ) × ((l : Load) × (get_elem? p.loads i ≡ some l) × (l.place ≡ taken k) × (q < l.value + m))
  by_load x room (inl none) = absurd (let none_is = none in cc)
  by_load x room (inr (i, (l, there, place, value))) = (i, (l, there, place, subst (λ (y : ℕ). q < y + m) (sym value) room))

-- the taken values kept are the last ones where another word is loaded
pub kept_else : (values : List (Option ℕ)) (ls : List Load) (j x : ℕ) → ((k : ℕ) → k < 8 → j ≢ taken (suc k)) → AreTaken values ls → AreTaken values (ls ++ load_of j x ∷ [])
kept_else values ls j x ne kept = (kept.0, λ k few. kept.1 k few ∙ sym (last_stays (taken (suc k)) j None x ls (ne k few)))

-- and where one of these words is, and its value is kept
pub kept_now : (values : List (Option ℕ)) (ls : List Load) (i j x : ℕ) → i < 8 → j ≡ taken (suc i) → AreTaken values ls → AreTaken (set values i (Some x)) (ls ++ load_of j x ∷ [])
kept_now values ls i j x inside is kept = subst (λ (place : ℕ). AreTaken (set values i (Some x)) (ls ++ load_of place x ∷ [])) (sym is) (
  length-set values i (Some x) ∙ kept.0,
  λ k few. dite (ℕ_discrete k i)
      (λ here. (let long = kept.0 in ap (λ (j : ℕ). get_or (set values i (Some x)) j None) here ∙ get_or-set_same values i (Some x) None (omega arith)
      ∙ sym (ap (λ (j : ℕ). last_load (taken (suc j)) None (ls ++ load_of (taken (suc i)) x ∷ [])) here ∙ last_now (taken (suc i)) None x ls)))
      (λ other. get_or-set_other values i k (Some x) None other ∙ kept.1 k few ∙ sym (last_stays (taken (suc k)) (taken (suc i)) None x ls (λ (e : taken (suc i) ≡ taken (suc k)). other (omega arith)))),
)

-- a bound on the values kept is one on those where one is put that it bounds
pub up_to_now : (most : ℕ) (values : List (Option ℕ)) (i x : ℕ) → i < length values → x ≤ most → AreUpTo most values → AreUpTo most (set values i (Some x))
up_to_now most values i x inside small bound k value few is = dite (ℕ_discrete k i)
    (λ here. let same : Some x ≡ Some value = sym (ap (λ (j : ℕ). get_or (set values i (Some x)) j None) here ∙ get_or-set_same values i (Some x) None inside) ∙ is in
    let equal : x ≡ value = same_Some x value same in omega (arith, small, equal))
    (λ other. bound k value few (sym (get_or-set_other values i k (Some x) None other) ∙ is))

-- a bound on the claim values loaded is one on the claim value that was just loaded
pub claim_just_loaded : (p : Person) (s x : ℕ) → ClaimsUpTo (looked p claim s) x → s ≤ x
claim_just_loaded p s x most = most (length p.loads) (load_of claim s) (at_behind p.loads (load_of claim s ∷ []) 0 (length p.loads) _ (omega arith) refl) refl

-- where journalled shows no more than is known, no entry more is known
pub not_reached : (x : ℕ) (seen rest : List Message) → Reaches x seen rest → x ≤ length seen → length (seen ++ rest) ≡ length seen
not_reached x seen rest (inl none_more) near = ap (λ (l : List Message). length (seen ++ l)) none_more.1 ∙ ap (λ (l : List Message). length l) (append-nil seen)
not_reached x seen rest (inr more) near = let lt : length seen < x = more.0 in absurd (omega arith)

-- the value that was just loaded is the last one of its word
pub last_loaded : (k d x : ℕ) (ls : List Load) → last_from k d (ls ++ load_of k x ∷ []) ≡ x
last_loaded k d x [] = cond-true (eqb k k) x d (eq-eqb k k refl)
last_loaded k d x (l ∷ ls) = last_loaded k (cond (eqb l.place k) l.value d) x ls

-- a load of another word leaves the value that was loaded last
pub last_kept : (k j d x : ℕ) (ls : List Load) → j ≢ k → last_from k d (ls ++ load_of j x ∷ []) ≡ last_from k d ls
last_kept k j d x [] ne = cond-false (eqb j k) x d (ne_eqb j k ne)
last_kept k j d x (l ∷ ls) ne = last_kept k j (cond (eqb l.place k) l.value d) x ls ne

-- a seat of these rings is still theirs when its person changed
pub still_at : {L : Type 0} (rings : Opened L) (old new : At L) (q : Person) → IsAt rings old → Steps old q new → IsAt rings new
still_at rings old new q is step = step ∙ ap (λ (s : At _). seated s q) is ∙ ap (λ (s : At _). at rings s.who) (sym step)
