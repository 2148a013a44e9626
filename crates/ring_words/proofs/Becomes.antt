-- A seat whose one person changed is in use as before.
use Rattle.std.proofs.Common.{◌≡◌, ◌≢◌, ℕ, suc, ◌<◌, ◌++◌, List, [], ◌∷◌, Option, None, refl, ap, sym, subst, ◌∙◌}
use Rattle.ring_words.specs.declared.view.Role.{Role}
use Rattle.ring_words.specs.declared.view.Role.TheVariants.{Gateway, Process}
use Rattle.ring_words.specs.declared.view.Person.{Person}
use Rattle.atomic_table.specs.Seated.{TableId}
use Rattle.ring_words.specs.declared.view.View.{View}
use Rattle.ring_words.specs.Places.{processed, unmarshalled, taken}
use Rattle.ring_words.specs.declared.view.Load.{Load}
use Rattle.ring_words.specs.Seats.{person, IsAlone, load_of, looked, last_load, last_from, AreTaken}
use Rattle.ring_words.specs.At.{Opened, At, IsAt, Steps, seat_of}
use Rattle.ring_words.specs.SeatLaws.{last_stays, last_kept, kept_else}
use Rattle.ring_words.specs.Steps.{Seated, Became}

module _ {S L : Type 0} (me me' : Seated S L) (q : Person) where
  pub still_alone : Became me q me' → IsAlone me'.0
  still_alone is = subst (λ (z : Seated S L). IsAlone z.0) (sym is) refl

  pub still_bare : Became me q me' → me.1 ≡ [] → me'.1 ≡ []
  still_bare is bare = ap (λ (z : Seated S L). z.1) is ∙ bare

  pub still_role : Became me q me' → (role : Role) → q.role ≡ role → (person me'.0).role ≡ role
  still_role is role same = ap (λ (z : Seated S L). (person z.0).role) is ∙ same

  pub still_home : Became me q me' → q.out ≡ None → (person me'.0).out ≡ None
  still_home is home = ap (λ (z : Seated S L). (person z.0).out) is ∙ home

  -- and with the rest of what a seat keeps
  pub still_sits : {Rest : Type 0} → Became me q me' → me.1 ≡ [] → (role : Role) → q.role ≡ role → Rest
      → IsAlone me'.0 × ((me'.1 ≡ []) × (((person me'.0).role ≡ role) × Rest))
  still_sits is bare role same more = (still_alone is, (still_bare is bare, (still_role is role same, more)))

-- a gateway's seat whose one person became q keeps what it keeps: its number, its count, and the processed value that
-- was loaded last
pub gateway_sits : {S L Numbered : Type 0} (me me' : Seated S L) (q : Person) → Became me q me' → me.1 ≡ []
    → (number : ℕ) → q.role ≡ Gateway number → Numbered → (count : ℕ) → count ≡ q.sequence
    → (kept : Option ℕ) → kept ≡ last_load processed None q.loads
    → IsAlone me'.0 × ((me'.1 ≡ [])
    × (((person me'.0).role ≡ Gateway number)
    × (Numbered × ((count ≡ (person me'.0).sequence)
    × ((kept ≡ last_load processed None (person me'.0).loads) × Unit {0})))))
gateway_sits {S} {L} me me' q is bare number role numbered count own kept last =
    still_sits me me' q is bare (Gateway number) role (
      numbered,
      (
        own ∙ sym (ap (λ (z : Seated S L). (person z.0).sequence) is),
        (last ∙ sym (ap (λ (z : Seated S L). last_load processed None (person z.0).loads) is), tt),
      ),
    )

-- the processor's seat keeps the taken values loaded last, where they are those of the person that it has now
still_taken : {S L : Type 0} (me me' : Seated S L) (q : Person) → Became me q me' → (values : List (Option ℕ))
    → AreTaken values q.loads → AreTaken values (person me'.0).loads
still_taken {S} {L} me me' q is values kept = subst (λ (z : Seated S L). AreTaken values (person z.0).loads) (sym is)
    kept

-- so does the processor's seat: what it counts, the unmarshalled value that was loaded last, how many outputs it
-- published, the taken values that were loaded last, and what it says of them
pub process_sits : {S L Counts Below : Type 0} (me me' : Seated S L) (q : Person) → Became me q me' → me.1 ≡ []
    → q.role ≡ Process → Counts → (unmarshalled' : ℕ) → unmarshalled' ≡ last_from unmarshalled 0 q.loads
    → (published : ℕ) → published ≡ q.row.sequence → (values : List (Option ℕ)) → AreTaken values q.loads
    → q.out ≡ None → Below
    → IsAlone me'.0 × ((me'.1 ≡ [])
    × (((person me'.0).role ≡ Process)
    × (Counts × ((unmarshalled' ≡ last_from unmarshalled 0 (person me'.0).loads)
    × ((published ≡ (person me'.0).row.sequence)
    × (AreTaken values (person me'.0).loads × (((person me'.0).out ≡ None) × (Below × Unit {0}))))))))
process_sits {S} {L} me me' q is bare role counts loaded' loaded published put values taken home below =
    still_sits me me' q is bare Process role (
      counts,
      (
        loaded ∙ sym (ap (λ (z : Seated S L). last_from unmarshalled 0 (person z.0).loads) is),
        (
          put ∙ sym (ap (λ (z : Seated S L). (person z.0).row.sequence) is),
          (still_taken me me' q is values taken, (still_home me me' q is home, (below, tt))),
        ),
      ),
    )

-- what a processor's seat keeps of the words that it loaded stays where one is loaded that is neither unmarshalled nor
-- a taken one
pub words_stay : (k x : ℕ) (ls : List Load) (loaded : ℕ) (values : List (Option ℕ)) → k ≢ unmarshalled
    → ((j : ℕ) → j < 8 → k ≢ taken (suc j)) → loaded ≡ last_from unmarshalled 0 ls → AreTaken values ls
    → (loaded ≡ last_from unmarshalled 0 (ls ++ load_of k x ∷ [])) × AreTaken values (ls ++ load_of k x ∷ [])
words_stay k x ls loaded values ne other last kept =
    (last ∙ sym (last_kept unmarshalled k 0 x ls ne), kept_else values ls k x other kept)

-- the processed value that a gateway's seat keeps stays where another word is loaded
pub kept_behind : (p : Person) (j x : ℕ) (kept : Option ℕ) → j ≢ processed → kept ≡ last_load processed None p.loads
    → kept ≡ last_load processed None (looked p j x).loads
kept_behind p j x kept ne last = last ∙ sym (last_stays processed j None x p.loads ne)

-- what contracts see of a seat whose one person changed
pub steps : {S L : Type 0} (t t' : TableId) (v : View L) (carried : List (ℕ × S)) (cut : Seated S L) (q : Person)
    (s : At L) → seat_of t v ≡ s → t' ≡ t → Became (v, carried) q cut → Steps s q (seat_of t' cut.0)
steps t t' v carried cut q s seat_is table is = rw (table, is) (ap (λ (b : At _). record b { who = q }) seat_is)

-- two seats of the same rings become the same by the same person
pub steps_either : {L : Type 0} (rings : Opened L) (a b new : At L) (q : Person) → IsAt rings a → IsAt rings b
    → Steps a q new → Steps b q new
steps_either {L} rings a b new q a_is b_is step = step ∙ ap (λ (s : At L). record s { who = q }) a_is
    ∙ sym (ap (λ (s : At L). record s { who = q }) b_is)
