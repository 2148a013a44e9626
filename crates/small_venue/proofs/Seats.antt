-- Gateways' seats, for the tests over rings: what holds of a list of seats and of one more behind them, and back.
use Rattle.std.proofs.Common.{◌≡◌, ℕ, zero, suc, ◌+◌, List, [], ◌∷◌, ◌++◌, length, refl, ap, sym, subst, ◌∙◌, ⊎_elim}
use mathlib.Core.Option.{some, some-ne-none}
use lib.ListN.{get_elem?}
use Rattle.venue_model.specs.History.{Message}
use Rattle.venue_model.specs.ListLaws.{at_end}
use Rattle.ring_words.specs.At.{Opened, At, at, Steps, number}
use Rattle.ring_words.specs.declared.view.Role.TheVariants.{Gateway}
use Rattle.ring_words.specs.Rule.{newcomer}
use Rattle.ring_words.specs.Crew.{AreGateways, AreNewGateways}
use Rattle.small_venue.specs.Seats.{IsSpent, ComeBackSpent}
use Rattle.ring_words.specs.Meeting.{met}
use Rattle.ring_words.specs.SeatLaws.{still_at}

pub stays : {A : Type 0} (l m : List A) (i : ℕ) (a : A) → get_elem? l i ≡ some a → get_elem? (l ++ m) i ≡ some a
stays [] m i a at = absurd (some-ne-none a (sym at))
stays (x ∷ l) m zero a at = at
stays (x ∷ l) m (suc i) a at = stays l m i a at

pub last_one : {A : Type 0} (l : List A) (a : A) → get_elem? (l ++ a ∷ []) (length l) ≡ some a
last_one [] a = refl
last_one (x ∷ l) a = last_one l a

-- one more behind those of which it holds, counted from 1
pub one_more : {A : Type 0} (P : ℕ → A → Type 0) (l : List A) (a : A)
    → ((i : ℕ) (x : A) → get_elem? l i ≡ some x → P (i + 1) x) → P (length l + 1) a
    → (i : ℕ) (x : A) → get_elem? (l ++ a ∷ []) i ≡ some x → P (i + 1) x
one_more P l a each last i x there = ⊎_elim (λ was. each i x was)
    (λ (end : (i ≡ length l) × (a ≡ x)). subst (λ y. P (i + 1) y) end.1
    (subst (λ (j : ℕ). P (j + 1) a) (sym end.0) last)) (at_end l a x i there)

-- a gateway that met another has no claim left that it hadn't before
pub met_spent : {L : Type 0} (rings : Opened L) (k : ℕ) (s t : At L) (r : ℕ) (h : List Message)
    → Steps s (met s.who r h) t → IsSpent rings k s → IsSpent rings k t
met_spent rings k s t r h step spent = record {
  at = still_at rings s t _ spent.at step;
  role = ap (λ (a : At _). a.who.role) step ∙ spent.role;
  claims = ap (λ (a : At _). a.who.claims) step ∙ spent.claims;
}

-- the last of new seats is new
module _ {L : Type 0} (rings : Opened L) (all front : List (At L)) (s : At L) (is : all ≡ front ++ s ∷ [])
    (new : AreNewGateways rings all) where
  pub new_last : s ≡ at rings (newcomer (Gateway (number s)) rings.base rings.base_outputs)
  new_last =
      let last = new (length front) s
      (subst (λ (l : List (At L)). get_elem? l (length front) ≡ some s) (sym is) (last_one front s)) in
      subst (λ (k : ℕ). s ≡ at rings (newcomer (Gateway k) rings.base rings.base_outputs))
      (sym (ap (λ (a : At L). number a) last)) last

-- what `close` asks of the gateways' seats
pub are_gateways : {L : Type 0} (rings : Opened L) (seats : List (At L)) → ComeBackSpent rings seats
    → AreGateways rings seats
are_gateways rings seats spent i s there = ((spent i s there).at, (spent i s there).role)

-- new seats have no claim
pub new_spent : {L : Type 0} (rings : Opened L) (seats : List (At L)) → AreNewGateways rings seats
    → ComeBackSpent rings seats
new_spent rings seats new i s there = subst (λ (t : At _). IsSpent rings (i + 1) t) (sym (new i s there))
    (record { at = refl; role = refl; claims = refl })
