-- Ports that tell what they told, and seats that came back from their members.
use Rattle.std.proofs.Common.{◌≡◌, ℕ, zero, suc, ◌+◌, List, [], ◌∷◌, length, map, ap, sym, ◌∙◌}
use Rattle.std.proofs.Common.{arith}
use Rattle.std.proofs.lemmas.List.{length-map}
use mathlib.Core.Option.{some, some-injective, some-ne-none}
use lib.ListN.{get_elem?}
use Rattle.venue_model.specs.ListLaws.{stands, within}
use Rattle.venue_model.specs.Requests.{Limits}
use Rattle.ring_words.specs.At.{Opened, At}
use Rattle.venue.specs.Headline.{SamePorts}
use Rattle.venue.specs.Members.{AreFree, AreBack, AreReturned}
use Rattle.venue.specs.Trading.{IsBack}
use Rattle.wires.specs.Ports.{Register, unopened, with_more}

-- who came back to a port that was opened before came back to it as it was
opened_before : (rings : Opened Limits) (k : ℕ) (s : At Limits) (old between new : Register)
    → unopened between ≡ unopened old
    → IsBack rings k s between new → IsBack rings k s old new
opened_before rings k s old between new same it = record {
  end = it.end;
  came = it.came;
  ended = it.ended;
  gone = it.gone;
  attends = it.attends;
  number = it.number ∙ ap (λ (r : Register). r.number) same;
  is_open = it.is_open;
  handed_out = it.handed_out ∙ ap (λ (r : Register). with_more r.came it.came) same;
  given_back = it.given_back ∙ ap (λ (r : Register). with_more r.gone it.gone) same;
  leave = it.leave;
  seat_is = it.seat_is;
  at = it.at;
  role = it.role;
  spent = it.spent;
  free = it.free;
}

module _ {X : Type 0} (tells : X → Register) where
  abbrev told : X → Register
  told x = unopened (tells x)

  -- what is told at the same place of two such lists
  told_at : (old new : List X) → SamePorts tells old new → (i : ℕ) (x y : X) → get_elem? old i ≡ some x
      → get_elem? new i ≡ some y
      → unopened (tells y) ≡ unopened (tells x)
  told_at [] new same i x y in_old in_new = absurd (some-ne-none x (sym in_old))
  told_at (o ∷ os) [] same i x y in_old in_new = absurd (some-ne-none y (sym in_new))
  told_at (o ∷ os) (n ∷ ns) same zero x y in_old in_new =
      let first : unopened (tells n) ≡ unopened (tells o) = cc in
      sym (ap told (some-injective n y in_new)) ∙ first ∙ ap told (some-injective o x in_old)
  told_at (o ∷ os) (n ∷ ns) same (suc i) x y in_old in_new =
      let others : map told ns ≡ map told os = cc in told_at os ns others i x y in_old in_new

  pub same_count : (old new : List X) → SamePorts tells old new → length new ≡ length old
  same_count old new same = sym (length-map new told) ∙ ap length same ∙ length-map old told

  -- they are as free
  pub free_again : (old new : List X) → SamePorts tells old new → AreFree tells old → AreFree tells new
  free_again old new same free i y there =
      let near = within new i y there in let x = stands old i (omega (arith, near, same_count old new same)) in
      ap (λ (r : Register). r.out) (told_at old new same i x.0 y x.1 there) ∙ free i x.0 x.1

  module _ (rings : Opened Limits) (seats : List (At Limits)) (after : List X) where
    -- whose ports were opened in between
    pub back_again : (old new : List X) → SamePorts tells old new → AreBack rings tells new seats after
        → AreBack rings tells old seats after
    back_again old new same back i s x z in_seats in_old in_after =
        let near = within old i x in_old in let y = stands new i (omega (arith, near, same_count old new same)) in
        opened_before rings (i + 1) s (tells x) (tells y.0) (tells z) (told_at old new same i x y.0 in_old y.1)
        (back i s y.0 z in_seats y.1 in_after)

    -- the seats have no claims
    pub spent_again : (old : List X) → length seats ≡ length old → length after ≡ length old
        → AreBack rings tells old seats after
        → AreReturned rings seats
    spent_again old all same back i s there =
        let near = within seats i s there in let x = stands old i (omega (arith, near, all)) in
        let z = stands after i (omega (arith, near, all, same)) in let is = back i s x.0 z.0 there x.1 z.1 in
        (is.at, is.role, is.spent)
