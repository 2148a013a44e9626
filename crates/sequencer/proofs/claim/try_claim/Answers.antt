use Rattle.std.proofs.Common.{◌≡◌, ℕ, ◌+◌, ◌≤◌, refl, subst, rules, arith}
use Rattle.ring_words.specs.Steps.{ClaimsUpTo}
use Rattle.sequencer.proofs.ClaimRooms.{same_room, claim_below, both_loaded, claim_below_then, claimed_then}
use Rattle.sequencer.proofs.ClaimRooms.{looked_then, claims_before_then}
use Rattle.sequencer.proofs.claim.try_claim.Goals as goal

pub returns-then-not-sees_room-clause-refused : goal.returns-then-not-sees_room-clause-refused
returns-then-not-sees_room-clause-refused g c = let at : ℕ = c.load_claim-at.result in
    let first = c.load_claim-at.ensures.step in
    let full = c.if-not-sees_room.ensures.full refl in let p : ℕ = full.0 in
    let most : at ≤ p + g.row.N = claim_below g.row.N _ _ c.sees_room.new.seat at first (p + g.row.N) full.3 in
    let least : p + g.row.N ≤ at = full.2 in
    (at, p, both_loaded g.row.N _ _ _ at first p full.1, omega arith, search rules)

pub returns-then-found-at-clause-refused : goal.returns-then-found-at-clause-refused
returns-then-found-at-clause-refused g c = let at : ℕ = c.load_claim-at.result in
    let first = c.load_claim-at.ensures.step in
    let room = c.if-not-sees_room.ensures.room refl in let found : ℕ = c.exchange_claim-found.result in
    let most : at ≤ found = claim_below_then g.row.N _ _ _ at first room.1.0 room.1.2 c.exchange_claim-found.new.seat
    found c.exchange_claim-found.ensures.claims in
    let same = same_room g.row.N _ _ c.sees_room.new.seat at first room.0 room.1.0 room.1.1 in
    let looked = looked_then g.row.N _ _ _ at first room.1.0 room.1.2 c.exchange_claim-found.new.seat found
    (search rules) in (at, room.0, found, (room.1.0, same, looked, room.1.3, search rules, omega arith))

pub returns-clause-claimed : goal.returns-clause-claimed
returns-clause-claimed g c = let at : ℕ = c.load_claim-at.result in let first = c.load_claim-at.ensures.step in
    let room = c.if-not-sees_room.ensures.room refl in
    let found : c.exchange_claim-found.result ≡ at = search rules in
    let same = same_room g.row.N _ _ c.sees_room.new.seat at first room.0 room.1.0 room.1.1 in
    let claimed = claimed_then g.row.N _ _ _ at first room.1.0 room.1.2 c.exchange_claim-found.new.seat
    (search rules) in
    let claims = subst (λ (x : ℕ). ClaimsUpTo c.args.seat.now.who x) found
    (claims_before_then g.row.N _ _ _ at first room.1.0 room.1.2 c.exchange_claim-found.new.seat _
    c.exchange_claim-found.ensures.claims) in
    (room.0, (room.1.0, same, claimed, room.1.3, search rules, search rules, claims))
