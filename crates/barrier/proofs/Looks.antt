-- A look for new entries, load by load.
use Rattle.std.proofs.Common.{◌≡◌, ◌⊎◌, inl, inr, ℕ, suc, ◌+◌, List, [], ◌∷◌, ◌++◌, length, ap, sym, subst, ◌∙◌}
use Rattle.std.proofs.Common.{append_assoc, length-append, arith}
use mathlib.Core.Option.{some}
use lib.ListN.{get_elem?}
use Rattle.venue_model.specs.History.{Message}
use Rattle.venue_model.specs.ListLaws.{at_end}
use Rattle.ring_words.specs.declared.view.Person.{Person}
use Rattle.ring_words.specs.declared.view.Load.{Load}
use Rattle.ring_words.specs.Places.{in_row}
use Rattle.ring_words.specs.Log.{IsEntry}
use Rattle.ring_words.specs.Seats.{load_of, looked, saw}
use Rattle.ring_words.specs.At.{At, seated}
use Rattle.barrier.specs.Availability.{fresh_loads, AreEntries, grown_by}

one_more : {A : Type 0} (l : List A) (a : A) → length (l ++ a ∷ []) ≡ suc (length l)
one_more l a = length-append l (a ∷ []) ∙ (let k : ℕ = length l in let g : k + 1 ≡ suc k = omega arith in g)

-- one more load showed its sequence
grown_by_one : (n : ℕ) (v : Person) (rest : List Message) (e : Message)
    → saw (looked (grown_by n v rest) (in_row n (length (v.seen ++ rest)) 0) (suc (length (v.seen ++ rest)))) e
    ≡ grown_by n v (rest ++ e ∷ [])
grown_by_one n v rest e = λ k. record v { seen = append_assoc v.seen rest (e ∷ []) k; loads = loads k } where
  s : ℕ
  s = length v.seen

  last : load_of (in_row n (length (v.seen ++ rest)) 0) (suc (length (v.seen ++ rest))) ∷ []
      ≡ load_of (in_row n (s + length rest) 0) (suc (s + length rest)) ∷ []
  last = ap (λ (t : ℕ). load_of (in_row n t 0) (suc t) ∷ []) (length-append v.seen rest)

  loads : (v.loads ++ fresh_loads n s (length rest)) ++ load_of (in_row n (length (v.seen ++ rest)) 0)
      (suc (length (v.seen ++ rest))) ∷ [] ≡ v.loads ++ fresh_loads n s (length (rest ++ e ∷ []))
  loads = append_assoc v.loads (fresh_loads n s (length rest)) _
      ∙ ap (λ (l : List Load). v.loads ++ (fresh_loads n s (length rest) ++ l)) last
      ∙ ap (λ (c : ℕ). v.loads ++ fresh_loads n s c) (sym (one_more rest e))

-- entries, and one more
entries_more : (rest : List Message) (e : Message) → AreEntries rest → IsEntry e → AreEntries (rest ++ e ∷ [])
entries_more rest e valid is i d at = by_place (at_end rest e d i at) where
  by_place : (get_elem? rest i ≡ some d) ⊎ ((i ≡ length rest) × (e ≡ d)) → IsEntry d
  by_place (inl was) = valid i d was
  by_place (inr last) = subst IsEntry last.1 is

module _ {L : Type 0} where
  -- the view is v, with these entries more
  abbrev pub Grew : ℕ → At L → List Message → At L → Type 0
  Grew n v rest w = w ≡ seated v (grown_by n v.who rest)

  -- a load of the next availability word showed its sequence
  abbrev pub Showed : ℕ → At L → At L → Message → Type 0
  Showed n u w e = w ≡ seated u (saw (looked u.who (in_row n (length u.who.seen) 0) (suc (length u.who.seen))) e)

  goes_on : (n : ℕ) (v u w : At L) (rest : List Message) (e : Message) → Grew n v rest u → Showed n u w e
      → Grew n v (rest ++ e ∷ []) w
  goes_on n v u w rest e grew is = subst (λ (y : At L). Showed n y w e) grew is
      ∙ ap (seated v) (grown_by_one n v.who rest e)

  -- entries, and the one that was shown
  pub shows : (n : ℕ) (v u w : At L) → ((rest : List Message) × AreEntries rest × Grew n v rest u)
      → ((e : Message) × IsEntry e × Showed n u w e) → (rest : List Message) × AreEntries rest × Grew n v rest w
  shows n v u w known one = (
    known.0 ++ one.0 ∷ [],
    entries_more known.0 one.0 known.1 one.1,
    goes_on n v u w known.0 one.0 known.2 one.2,
  )

  -- one entry more is known
  pub longer : (n : ℕ) (u w : At L) (c : ℕ) → ((e : Message) × IsEntry e × Showed n u w e)
      → c ≡ length u.who.seen → c + 1 ≡ length w.who.seen
  longer n u w c one is = ap (λ (k : ℕ). k + 1) is
      ∙ sym (ap (λ (y : At L). length y.who.seen) one.2 ∙ length-append u.who.seen (one.0 ∷ []))
