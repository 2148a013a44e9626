-- Ladders as they are made, and a level that is read and written in its place.
use Rattle.std.proofs.Common.{◌≡◌, ℕ, zero, suc, ◌+◌, ◌<◌, ◌≤◌, List, [], ◌∷◌, ◌++◌, length, get_or, take, refl, ap}
use Rattle.std.proofs.Common.{sym, subst, ◌∙◌, add-one}
use Rattle.std.specs.Prelude.{replicate}
use Rattle.std.specs.List.{AllByRecursion}
use Rattle.std.proofs.lemmas.List.{get_or_default}
use Rattle.price_levels.specs.declared.keys.Level.{Level}
use Rattle.price_levels.specs.declared.ladders.Fence.{Fence}
use Rattle.price_levels.specs.declared.ladders.Home.{Home}
use Rattle.price_levels.specs.declared.ladders.Rung.{Rung}
use Rattle.price_levels.specs.Ladders.{Laddered, joined, all, rung_number, around, beyond, items_of, IsOn, IsEmpty}
use Rattle.price_levels.specs.Ladders.{Levelled, IsHomeOf, BelongsToHome, AreLadders}
use Rattle.price_levels.proofs.LevelLists.{all-map}
use Rattle.price_levels.proofs.LadderLists.{cut, on-row}

-- a place with a level is one among all
pub on-all : (l : Laddered) (r : Rung) → IsOn l r → rung_number l r < length (all l)
on-all l r is = subst (λ levels. rung_number l r < length levels) (sym (cut l.ladders r.ladder is.ladder))
    (on-row (joined (take r.ladder l.ladders)) (around l r) (beyond l r) r.at is.on)

-- the level there keeps its key
pub same-key : (l : Laddered) (r : Rung) (old new : Level) → IsOn l r → old ≡ get_or (all l) (rung_number l r) old
    → new.key ≡ old.key → new.key ≡ (get_or (all l) (rung_number l r) new).key
same-key l r old new on is same = same ∙ ap (λ (m : Level). m.key)
    (is ∙ get_or_default (all l) (rung_number l r) old new (on-all l r on))

-- ladders without levels
empties : (room : ℕ) (ladders : List Levelled) → AllByRecursion (IsEmpty room) ladders → (i : ℕ)
    → get_or (items_of ladders) i [] ≡ []
empties room [] empty i = refl
empties room (v ∷ ladders) empty zero = empty.0.0
empties room (v ∷ ladders) empty (suc i) = empties room ladders empty.1 i

pub none-joined : (room : ℕ) (ladders : List Levelled) → AllByRecursion (IsEmpty room) ladders
    → joined (items_of ladders) ≡ []
none-joined room [] empty = refl
none-joined room (v ∷ ladders) empty = ap (λ levels. levels ++ joined (items_of ladders)) empty.0.0
    ∙ none-joined room ladders empty.1

-- all of a list alike
pub all-alike : {X : Type 0} (P : X → Type 0) (n : ℕ) (x : X) → P x → AllByRecursion P (replicate n x)
all-alike P zero x is = tt
all-alike P (suc n) x is = (is, all-alike P n x is)

pub new-ladders : (fences : List Fence) (homes : List Home) (ladders : List Levelled) (room : ℕ)
    → length ladders ≡ length fences + 1 →
    AllByRecursion (IsEmpty room) ladders → AllByRecursion (IsHomeOf fences) homes
    → AreLadders fences homes ladders room
new-ladders fences homes ladders room count empty known = record {
  count = count ∙ add-one (length fences);
  parted = λ i. subst (AllByRecursion (λ (m : Level). BelongsToHome fences i m.key.symbol m.key.side))
      (sym (empties room ladders empty i)) tt;
  roomy = all-map (IsEmpty room) (λ v. room ≤ v.room) (λ v is. is.1) ladders empty;
  known = known;
}
