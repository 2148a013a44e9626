-- What one gateway published, in its order: where the sequences never fall, and the log has just these publications of
-- it, they are the log's entries of it.
use Rattle.std.proofs.Common.{◌≡◌, ◌≢◌, ℕ, zero, suc, ◌+◌, ◌-◌, ◌<◌, ◌≤◌, Bool, true, false, List, [], ◌∷◌, ◌++◌}
use Rattle.std.proofs.Common.{map, drop, refl, ap, sym, subst, ◌∙◌, arith, eqb, cond, add-zero}
use Rattle.std.specs.Prelude.{⊤, ◌==◌, if◌then◌else◌, nat_lt}
use Rattle.std.proofs.lemmas.Bool.{eq-eqb, ne_eqb, cond-true, cond-false}
use Rattle.std.proofs.lemmas.Bool.Decides.{nat_tests}
use native.Mathlib.Decide.{ℕ_discrete}
use lib.ListN.{get_elem?}
use Rattle.venue_model.specs.History.{History, Message}
use Rattle.ring_words.specs.declared.view.Sent.{Sent}
use Rattle.ring_words.specs.Log.{sent_at, of_gateway, published_at}
use Rattle.gateway.specs.Visits.{Entry, own_entries}

-- the sequences are a at least, and never fall
abbrev pub RiseFrom : ℕ → List Sent → Type 0
RiseFrom a [] = ⊤
RiseFrom a (p ∷ ps) = (a ≤ p.sequence) × RiseFrom p.sequence ps

-- none is above s
abbrev pub AreUpTo : ℕ → List Sent → Type 0
AreUpTo s [] = ⊤
AreUpTo s (p ∷ ps) = (p.sequence ≤ s) × AreUpTo s ps

-- the entry that a publication put into the history
abbrev pub entry_sent : Sent → Entry
entry_sent p = record { place = p.sequence; bytes = p.entry.bytes }

pub rises-push : (a : ℕ) (ps : List Sent) (p : Sent) → RiseFrom a ps → a ≤ p.sequence → AreUpTo p.sequence ps
    → RiseFrom a (ps ++ p ∷ [])
rises-push a [] p rises least most = (least, tt)
rises-push a (q ∷ ps) p (first, rest) least (below, others) = (first, rises-push q.sequence ps p rest below others)

pub up_to-push : (s : ℕ) (ps : List Sent) (p : Sent) → AreUpTo s ps → p.sequence ≤ s → AreUpTo s (ps ++ p ∷ [])
up_to-push s [] p all this = (this, tt)
up_to-push s (q ∷ ps) p (first, rest) this = (first, up_to-push s ps p rest this)

sent_here : (s : ℕ) (p : Sent) (ps : List Sent) → p.sequence ≡ s → sent_at s (p ∷ ps) ≡ p.entry ∷ sent_at s ps
sent_here s p ps is = cond-true (eqb p.sequence s) (p.entry ∷ sent_at s ps) (sent_at s ps) (eq-eqb p.sequence s is)

sent_there : (s : ℕ) (p : Sent) (ps : List Sent) → p.sequence ≢ s → sent_at s (p ∷ ps) ≡ sent_at s ps
sent_there s p ps other = cond-false (eqb p.sequence s) (p.entry ∷ sent_at s ps) (sent_at s ps)
    (ne_eqb p.sequence s other)

-- nothing stands before the first sequence
none_before : (a b : ℕ) (ps : List Sent) → a < b → RiseFrom b ps → sent_at a ps ≡ []
none_before a b [] lt rises = refl
none_before a b (p ∷ ps) lt (first, rest) =
    sent_there a p ps (λ (e : p.sequence ≡ a). omega arith) ∙ none_before a p.sequence ps (omega arith) rest

-- where nothing stands at a, all stand behind it
from_next : (a : ℕ) (ps : List Sent) → RiseFrom a ps → sent_at a ps ≡ [] → RiseFrom (a + 1) ps
from_next a [] rises none_here = tt
from_next a (p ∷ ps) (first, rest) none_here =
    let other : p.sequence ≢ a = λ (e : p.sequence ≡ a). (let here = sent_here a p ps e in cc) in
    (omega (arith, other), rest)

module _ (k : ℕ) where
  -- the log's entries from a on, of which the first is this one of gateway k
  taken_first : (a : ℕ) (m : Message) (rest : List Entry) (ps : List Sent) → RiseFrom a ps → sent_at a ps ≡ m ∷ []
      → ((qs : List Sent) → RiseFrom (a + 1) qs → ((i : ℕ) → sent_at (a + 1 + i) qs ≡ sent_at (a + 1 + i) ps)
      → map entry_sent qs ≡ rest)
      → map entry_sent ps ≡ record { place = a; bytes = m.bytes } ∷ rest
  taken_first a m rest [] rises is behind = cc
  taken_first a m rest (p ∷ ps) (first, others) is behind = by_place (ℕ_discrete p.sequence a) where
    by_place : Dec (p.sequence ≡ a) → map entry_sent (p ∷ ps) ≡ record { place = a; bytes = m.bytes } ∷ rest
    by_place (no other) =
        let later = none_before a p.sequence ps (omega (arith, other)) others in
        let there = sent_there a p ps other in cc
    by_place (yes here) =
        let both : p.entry ∷ sent_at a ps ≡ m ∷ [] = sym (sent_here a p ps here) ∙ is in
        let same : p.entry ≡ m = cc in
        let none_more : sent_at a ps ≡ [] = cc in
        let rises : RiseFrom (a + 1) ps = from_next a ps (subst (λ (n : ℕ). RiseFrom n ps) here others) none_more in
        let others_are = behind ps rises (λ i. sym (sent_there (a + 1 + i) p ps
        (λ (e : p.sequence ≡ a + 1 + i). omega arith))) in
        λ i. record { place = here i; bytes = (same i).bytes } ∷ others_are i

  module _ (a : ℕ) (m : Message) (ms : History) (ps : List Sent) (rises : RiseFrom a ps)
      (is : (i : ℕ) → sent_at (a + i) ps ≡ of_gateway k (get_elem? (m ∷ ms) i))
      (again : (qs : List Sent) → RiseFrom (a + 1) qs
      → ((i : ℕ) → sent_at (a + 1 + i) qs ≡ of_gateway k (get_elem? ms i))
      → map entry_sent qs ≡ own_entries k (a + 1) ms) where
    here : sent_at a ps ≡ cond (m.gateway == k) (m ∷ []) []
    here = ap (λ (n : ℕ). sent_at n ps) (sym (add-zero a)) ∙ is 0

    behind : (i : ℕ) → sent_at (a + 1 + i) ps ≡ of_gateway k (get_elem? ms i)
    behind i = let next : a + 1 + i ≡ a + suc i = omega arith in ap (λ (n : ℕ). sent_at n ps) next ∙ is (suc i)

    abbrev entry : Entry
    entry = record { place = a; bytes = m.bytes }

    by_owner : (b : Bool) → (m.gateway == k) ≡ b → map entry_sent ps
        ≡ (if m.gateway == k then entry ∷ own_entries k (a + 1) ms else own_entries k (a + 1) ms)
    by_owner true own = rw own (taken_first a m (own_entries k (a + 1) ms) ps rises (rw own at here)
        (λ qs qs_rise same. again qs qs_rise (λ i. same i ∙ behind i)))
    by_owner false other = rw other (again ps (from_next a ps rises (rw other at here)) behind)

  -- sends whose sequences never fall are the entries of gateway k, where it has just these in the log from a on
  in_order : (a : ℕ) (ms : History) (ps : List Sent) → RiseFrom a ps
      → ((i : ℕ) → sent_at (a + i) ps ≡ of_gateway k (get_elem? ms i)) → map entry_sent ps ≡ own_entries k a ms
  in_order a [] [] rises is = refl
  in_order a [] (p ∷ ps) (first, rest) is =
      let gap : p.sequence ≡ a + (p.sequence - a) = omega arith in
      let here = sent_here (a + (p.sequence - a)) p ps gap in
      let none_there = is (p.sequence - a) in cc
  in_order a (m ∷ ms) ps rises is = by_owner a m ms ps rises is (λ qs. in_order (a + 1) ms qs) (m.gateway == k) refl

-- where nothing stands below a place, all stand from it on
from_start : (start : ℕ) (ps : List Sent) → RiseFrom 0 ps → ((s : ℕ) → s < start → sent_at s ps ≡ [])
    → RiseFrom start ps
from_start zero ps rises none_below = rises
from_start (suc start) ps rises none_below =
    let next : start + 1 ≡ suc start = omega arith in
    subst (λ (n : ℕ). RiseFrom n ps) next
    (from_next start ps (from_start start ps rises (λ s lt. none_below s (omega arith)))
    (none_below start (omega arith)))

-- what stands in a list behind some first elements
stands_behind : {A : Type 0} (l : List A) (n i j : ℕ) → j ≡ n + i → get_elem? l j ≡ get_elem? (drop n l) i
stands_behind l zero i j is = let same : j ≡ i = omega arith in ap (get_elem? l) same
stands_behind [] (suc n) i j is = refl
stands_behind (x ∷ l) (suc n) i zero is = absurd (omega arith)
stands_behind (x ∷ l) (suc n) i (suc j) is = stands_behind l n i j (omega arith)

is_below : (s start : ℕ) → s < start → nat_lt s start ≡ true
is_below s start lt = grind (arith, nat_tests)

isn't_below : (s start : ℕ) → start ≤ s → nat_lt s start ≡ false
isn't_below s start ge = grind (arith, nat_tests)

-- All that gateway k published, in its order, is its entries in the log behind those at the start.
pub sends_are : (k start : ℕ) (log : History) (ps : List Sent) → RiseFrom 0 ps
    → ((s : ℕ) → sent_at s ps ≡ published_at start k log s) → map entry_sent ps ≡ own_entries k start (drop start log)
sends_are k start log ps rises is =
    in_order k start (drop start log) ps
    (from_start start ps rises (λ s lt. rw (is_below s start lt) at (is s)))
    (λ i. rw (isn't_below (start + i) start (omega arith), stands_behind log start i (start + i) refl) at
    (is (start + i)))
