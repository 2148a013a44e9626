-- Outputs of histories that begin one another: a longer history's begin with the shorter's.
use Rattle.std.proofs.Common.{◌≡◌, ℕ, zero, suc, ◌+◌, ◌*◌, ◌^◌, ◌<◌, ◌≤◌, List, [], ◌∷◌, ◌++◌, length, take, drop, refl}
use Rattle.std.proofs.Common.{ap, sym, subst, ◌∙◌, arith, append-nil, append_assoc, length-append, take-append-drop}
use Rattle.std.proofs.lemmas.List.{length-take-le}
use mathlib.Core.Option.{some, some-injective}
use lib.ListN.{get_elem?}
use Rattle.venue_model.specs.History.{Message}
use Rattle.venue_model.specs.declared.outputs.Output.{Output}
use Rattle.venue_model.specs.ListLaws.{stands, within, at_longer}
use Rattle.ring_words.specs.Log.{Status, IsFront}
use Rattle.ring_words.specs.Terms.{Terms, outputs_by}

-- what stands in a list at a place of its front stands in the front
pub in_front : {A : Type 0} (l m : List A) (i : ℕ) (a : A) → i < length l → get_elem? (l ++ m) i ≡ some a
    → get_elem? l i ≡ some a
in_front [] m i a lt at = absurd (omega arith)
in_front (x ∷ l) m zero a lt at = at
in_front (x ∷ l) m (suc i) a lt at = in_front l m i a (omega arith) at

-- two lists are one where they have one length and the same at each place
same_list : (h g : List Message) → length h ≡ length g
    → ((i : ℕ) (e : Message) → get_elem? h i ≡ some e → get_elem? g i ≡ some e) → h ≡ g
same_list [] [] long each = refl
same_list [] (y ∷ g) long each = absurd (omega arith)
same_list (x ∷ h) [] long each = absurd (omega arith)
same_list (x ∷ h) (y ∷ g) long each = let here : y ≡ x = some-injective y x (each 0 x refl) in
    ap (λ (a : Message). a ∷ h) (sym here) ∙ ap (λ (l : List Message). y ∷ l)
    (same_list h g (omega arith) (λ i e at. each (suc i) e at))

-- of two beginnings of a log the shorter begins the longer
pub begins : (status : ℕ → Status) (h g : List Message) → IsFront status h → IsFront status g → length g ≤ length h
    → (rest : List Message) × (h ≡ g ++ rest)
begins status h g front_h front_g short =
    let k : ℕ = length g in let cut : take k h ++ drop k h ≡ h = take-append-drop k h in
    let long : length (take k h) ≡ k = length-take-le k h short in
    let same : take k h ≡ g = same_list (take k h) g long
    (λ i e at. (let lt = within (take k h) i e at in let d = stands g i (omega arith) in
    let in_h = at_longer (take k h) (drop k h) i e at in
    let front_e = front_h i e (subst (λ (l : List Message). get_elem? l i ≡ some e) cut in_h) in
    let is : d.0 ≡ e = some-injective d.0 e (sym (front_g i d.0 d.1) ∙ front_e) in d.1 ∙ ap some is)) in
    (drop k h, sym cut ∙ ap (λ (l : List Message). l ++ drop k h) same)

-- the beginning of a longer list begins with that of the shorter
pub take_longer : (k : ℕ) (h rest : List Message) → (more : List Message) × (take k (h ++ rest) ≡ take k h ++ more)
take_longer zero h rest = ([], refl)
take_longer (suc k) [] rest = (take (suc k) rest, refl)
take_longer (suc k) (e ∷ h) rest = let more = take_longer k h rest in (more.0, ap (λ (l : List Message). e ∷ l) more.1)

-- the beginning of a beginning of the log is one
pub front_taken : (status : ℕ → Status) (k : ℕ) (h : List Message) → IsFront status h → IsFront status (take k h)
front_taken status k h front s e at =
    front s e (subst (λ (l : List Message). get_elem? l s ≡ some e) (take-append-drop k h)
    (at_longer (take k h) (drop k h) s e at))

module _ (outputs : List Message → List Output) (nothing : outputs [] ≡ [])
    (grows : (h : List Message) (e : Message) → (more : List Output) × (outputs (h ++ e ∷ []) ≡ outputs h ++ more)
    × (length more ≤ 8194)) where
  -- so many entries more have at most 8,194 outputs each
  more_most : (h rest : List Message) → length (outputs (h ++ rest)) ≤ length (outputs h) + 8194 * length rest
  more_most h [] = let is : length (outputs (h ++ [])) ≡ length (outputs h) =
      ap (λ (l : List Message). length (outputs l)) (append-nil h) in
      omega arith
  more_most h (e ∷ rest) = let one = grows h e in
      let most : length one.0 ≤ 8194 = one.2 in
      let long = length-append (outputs h) one.0 in
      let count : length (outputs (h ++ e ∷ [])) ≡ length (outputs h ++ one.0) = ap length one.1 in
      let others = more_most (h ++ e ∷ []) rest in
      let is : length (outputs (h ++ e ∷ rest)) ≡ length (outputs ((h ++ e ∷ []) ++ rest)) =
      ap (λ (l : List Message). length (outputs l)) (sym (append_assoc h (e ∷ []) rest)) in
      omega arith

  -- the place of an output of the first of few entries is a word, and so is the next
  pub place_small : (k q : ℕ) (h : List Message) (o : Output) → get_elem? (outputs (take k h)) q ≡ some o
      → length h ≤ 2 ^ 48 → q + 1 < 2 ^ 64
  place_small k q h o at few = let below = within (outputs (take k h)) q o at in
      let most = more_most [] (take k h) in
      let none_yet : length (outputs []) ≡ 0 = ap length nothing in
      let cut : length (take k h ++ drop k h) ≡ length h = ap length (take-append-drop k h) in
      let long = length-append (take k h) (drop k h) in
      omega arith

module _ {L : Type 0} (terms : Terms L) where
  -- more entries add to the outputs
  pub outputs_begin : (h rest : List Message) → (more : List Output)
      × (outputs_by terms (h ++ rest) ≡ outputs_by terms h ++ more)
  outputs_begin h [] = ([], ap (outputs_by terms) (append-nil h) ∙ sym (append-nil (outputs_by terms h)))
  outputs_begin h (e ∷ rest) = let one = terms.grows h e in let others = outputs_begin (h ++ e ∷ []) rest in (
    one.0 ++ others.0,
    ap (outputs_by terms) (sym (append_assoc h (e ∷ []) rest)) ∙ others.1
        ∙ ap (λ (l : List Output). l ++ others.0) one.1 ∙ append_assoc (outputs_by terms h) one.0 others.0,
  )

  -- a beginning has no more outputs
  pub fewer_outputs : (k : ℕ) (h : List Message) → length (outputs_by terms (take k h)) ≤ length (outputs_by terms h)
  fewer_outputs k h = let more = outputs_begin (take k h) (drop k h) in
      let long = length-append (outputs_by terms (take k h)) more.0 in
      let is : length (outputs_by terms h) ≡ length (outputs_by terms (take k h) ++ more.0) =
      ap (λ (l : List Message). length (outputs_by terms l)) (sym (take-append-drop k h)) ∙ ap length more.1 in
      omega arith

  -- an output of a beginning is that of the longer history
  pub output_stays : (h rest : List Message) (q : ℕ) (o : Output) → get_elem? (outputs_by terms h) q ≡ some o
      → get_elem? (outputs_by terms (h ++ rest)) q ≡ some o
  output_stays h rest q o at = let more = outputs_begin h rest in
      subst (λ (l : List Output). get_elem? l q ≡ some o) (sym more.1) (at_longer (outputs_by terms h) more.0 q o at)

  -- of a longer history as many entries have as many outputs at least
  pub outputs_grow : (k : ℕ) (h rest : List Message) → length (outputs_by terms (take k h))
      ≤ length (outputs_by terms (take k (h ++ rest)))
  outputs_grow k h rest = let longer = take_longer k h rest in
      let more = outputs_begin (take k h) longer.0 in
      let long = length-append (outputs_by terms (take k h)) more.0 in
      let is : length (outputs_by terms (take k (h ++ rest)))
      ≡ length (outputs_by terms (take k h) ++ more.0) =
      ap (λ (l : List Message). length (outputs_by terms l)) longer.1 ∙ ap length more.1 in
      omega arith
