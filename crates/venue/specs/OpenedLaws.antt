-- What a gateway's seat has seen of rings that were opened behind a history.
use Rattle.std.specs.Prelude.{◌≡◌, ℕ, ◌^◌, ◌≤◌, length}
use Rattle.std.proofs.Common.{refl, ap, sym, subst, ◌∙◌, arith}
use Rattle.venue_model.specs.GrowthLaws.{few-told-by}
use Rattle.venue_model.specs.History.{History}
use Rattle.venue_model.specs.Requests.{Limits}
use Rattle.book.specs.Histories.{reads_at, outputs_of}
use Rattle.ring_words.specs.At.{Opened, At}
use Rattle.gateway.specs.Seats.{HasSeen}
use Rattle.venue.specs.Opened.{AreBehind}
use Rattle.venue.specs.VenueRings.{IsNew}

-- a gateway's seat at the start knows the limits, and has counted the outputs of the history at the start, which are few
pub new_seen : (limits : Limits) (base : History) (rings : Opened Limits) (k : ℕ) (seat : At Limits) → AreBehind limits base rings → IsNew rings k seat
    → length base ≤ 2 ^ 48 → HasSeen seat
new_seen limits base rings k seat behind new short =
    let told = few-told-by (reads_at limits) limits.symbols base in
    let given : rings.base_outputs ≡ length (outputs_of rings.logic rings.base) =
    behind.base_outputs ∙ ap (λ (l : Limits). length (outputs_of l base)) (sym behind.logic) ∙ ap (λ (h : History). length (outputs_of rings.logic h)) (sym behind.base_is) in
    let few : rings.base_outputs ≤ 2 ^ 62 = let is = behind.base_outputs in omega (arith, told, short, is) in
    subst HasSeen (sym new) (record { logic = refl; from = omega (arith, given); to = omega (arith, given); few = few; spent = refl })
