-- One fill, as the definitions of a match see it, and what stands in the book's list behind it.
use Rattle.std.proofs.Common.{◌≡◌, ℕ, ◌+◌, ◌<◌, ◌≤◌, false, List, [], ◌∷◌, ◌++◌, length, refl, ap, sym, subst, ◌∙◌}
use Rattle.std.proofs.Common.{arith, append_assoc}
use Rattle.std.specs.Prelude.{if◌then◌else◌}
use Rattle.std.proofs.Math.Nat.{mul-le-mul_left}
use Rattle.std.proofs.lemmas.Bool.Decides.{nat_tests}
use Rattle.venue_model.specs.declared.orders.Order.{Order}
use Rattle.venue_model.specs.declared.outputs.Cause.{Cause}
use Rattle.venue_model.specs.declared.outputs.Output.{Output}
use Rattle.venue_model.specs.Orders.{leaves, is_live}
use Rattle.venue_model.specs.Match.{filled, live_alone, rest, done, trades}
use Rattle.book.specs.Firsts.{FillsFirst}
use Rattle.book.specs.Passes.{Matching, matching, Passed, traded, resting_after, incoming_after, orders_after, reports}
use Rattle.book.specs.Reads.{fills}
use Rattle.book.specs.Standing.{InRange, Rests, Below, IsBookList}
use Rattle.book.proofs.Lists.{each-back, length-without}
use Rattle.book.proofs.Sides.{ahead-self}
use Rattle.book.proofs.Fills.{leaves-filled}
use Rattle.book.proofs.StandingLemmas.{standing-instead, below-instead, length-instead}
use Rattle.book.proofs.Passes.{rest-step, done-step, told-step, gets-one}

-- a fill keeps an order in range
filled-range : (o : Order) (n : ℕ) → InRange o → n ≤ leaves o → InRange (filled o n o.price)
filled-range o n range within =
    let cum = range.cum in
    let notional = range.notional in
    let price = mul-le-mul_left n range.price in
    record {
      cum = omega (arith, cum, within);
      total = range.total;
      price = range.price;
      notional = omega (arith, notional, price);
    }

used-up : (o : Order) → leaves o ≡ 0 → is_live o ≡ false
used-up o none = grind (arith, nat_tests)

-- A fill of the first of the crossed orders: what is told and left goes on, and each thing that stands in the list
-- stands.
pub record Filled (c : Cause) (old new : Matching) : Type 0 where
  pub passed : Passed c old new
  pub less : leaves new.incoming < leaves old.incoming
  pub standing : IsBookList new.orders
  pub below : (sequence : ℕ) → Below sequence old.orders → Below sequence new.orders
  pub some : 1 ≤ length old.orders
  pub no_longer : length new.orders ≤ length old.orders
  pub shorter : 0 < leaves new.incoming → length new.orders + 1 ≡ length old.orders
  pub one_less : fills old.incoming old.orders ≡ fills new.incoming new.orders + 1

module _ (i o : Order) (orders new : List Order) (fill : FillsFirst i orders new o) (standing : IsBookList orders) where
  whole : IsBookList (fill.before ++ o ∷ fill.behind)
  whole = subst IsBookList fill.split standing

  pub first-rests : Rests o
  first-rests = (each-back Rests fill.before (o ∷ fill.behind) whole.each).0

  some-resting : 0 < leaves o
  some-resting = let live = first-rests.live in omega (arith, live)

  -- where something is left of the incoming order, nothing is left of the resting one
  gone : 0 < leaves (incoming_after i o) → live_alone (resting_after i o) ≡ []
  gone some =
      let left = leaves-filled o (traded i o) o.price in
      let more = leaves-filled i (traded i o) o.price in
      let none : leaves (resting_after i o) ≡ 0 = omega (arith, left, more, some) in
      ap (λ b. if b then resting_after i o ∷ [] else []) (used-up (resting_after i o) none)

  abbrev behind : List Order
  behind = orders_after i o fill.before fill.behind

  without : 0 < leaves (incoming_after i o) → length behind + 1 ≡ length orders
  without some =
      let alone = ap (λ xs. length (fill.before ++ (xs ++ fill.behind))) (gone some) in
      let more = length-without fill.before fill.behind o in
      let all = ap (length {A = Order}) fill.split in
      omega (arith, alone, more, all)

  module _ (c : Cause) (some : 0 < leaves i) (told : List Output) where
    its-passed : Passed c (matching i orders told) (matching (incoming_after i o) behind (told ++ reports c i o))
    its-passed = record {
      left = ap (rest i) fill.split ∙ rest-step i o fill.before fill.behind fill.first (ahead-self o);
      filled = ap (done i) fill.split ∙ done-step i o fill.before fill.behind fill.first (ahead-self o);
      said =
          ap (λ os. told ++ trades c i os) fill.split
          ∙ ap (λ ts. told ++ ts) (told-step i o fill.before fill.behind fill.first (ahead-self o) c
          (omega (arith, some, some-resting)))
          ∙ sym (append_assoc told (reports c i o) (trades c (incoming_after i o) behind));
    }

    its-fill : Filled c (matching i orders told) (matching (incoming_after i o) behind (told ++ reports c i o))
    its-fill = record {
      passed = its-passed;
      less = let after = leaves-filled i (traded i o) o.price in omega (arith, after, some, some-resting);
      standing = standing-instead o (resting_after i o) fill.before fill.behind
          (record { level = record { symbol = refl; side = refl; price = refl }; stamp = refl; market = refl })
          (filled-range o (traded i o) first-rests.in_range (omega arith)) whole;
      below = λ sequence below. below-instead o (resting_after i o) fill.before fill.behind sequence refl
          (subst (Below sequence) fill.split below);
      some =
          let one = length-without fill.before fill.behind o in
          let all = ap (length {A = Order}) fill.split in
          omega (arith, one, all);
      no_longer =
          let fewer = length-instead o (resting_after i o) fill.before fill.behind in
          let all = ap (length {A = Order}) fill.split in
          omega (arith, fewer, all);
      shorter = without;
      one_less =
          let one = gets-one i o fill.before fill.behind fill.first (ahead-self o)
          (omega (arith, some, some-resting)) in
          let all = ap (fills i) fill.split in
          omega (arith, one, all);
    }

    -- the same of what the code has made
    pub fill-is : (next : Order) (more : List Output) → next ≡ incoming_after i o → more ≡ told ++ reports c i o →
        Filled c (matching i orders told) (matching next new more)
    fill-is next more next_is more_is = rw (next_is, more_is, fill.after) its-fill

-- one part of a match, and then the next
pub passed-trans : (c : Cause) (first second third : Matching) → Passed c first second → Passed c second third
    → Passed c first third
passed-trans c first second third one other = record {
  left = one.left ∙ other.left;
  filled = one.filled ∙ other.filled;
  said = one.said ∙ other.said;
}
