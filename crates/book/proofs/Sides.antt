-- Price-time priority among orders of one side: strict, transitive, and total where stamps differ.
use Rattle.std.proofs.Common.{◌≡◌, ℕ, ◌<◌, Bool, true, false, ◌&&◌, ◌||◌, nat_eq, nat_lt, ap, sym, ◌∙◌, arith}
use Rattle.std.proofs.lemmas.Bool.Decides.{nat_tests}
use Rattle.std.specs.Str.{bytes_eq}
use Rattle.venue_model.specs.declared.orders.Side.{Side}
use Rattle.venue_model.specs.declared.orders.Side.TheVariants.{Buy, Sell}
use Rattle.venue_model.specs.declared.orders.Order.{Order}
use Rattle.venue_model.specs.Orders.{opposite, crosses, is_better, ahead}
use Rattle.venue_model.specs.SideLaws.{met_side}
use Rattle.book.specs.Passes.{Leads}

-- the same of prices and stamps alone
abbrev prior : Side → ℕ → ℕ → ℕ → ℕ → Bool
prior side p s q t = is_better side p q || (nat_eq p q && nat_lt s t)

prior-self : (side : Side) (p s : ℕ) → prior side p s p s ≡ false
prior-self Buy p s = grind (arith, nat_tests)
prior-self Sell p s = grind (arith, nat_tests)

prior-not : (side : Side) (p s q t : ℕ) → prior side p s q t ≡ true → prior side q t p s ≡ false
prior-not Buy p s q t h = grind (arith, nat_tests)
prior-not Sell p s q t h = grind (arith, nat_tests)

prior-trans : (side : Side) (p s q t r u : ℕ) → prior side p s q t ≡ true → prior side q t r u ≡ true
    → prior side p s r u ≡ true
prior-trans Buy p s q t r u h k = grind (arith, nat_tests)
prior-trans Sell p s q t r u h k = grind (arith, nat_tests)

prior-earlier : (side : Side) (p s q t : ℕ) → s < t → prior side q t p s ≡ false → prior side p s q t ≡ true
prior-earlier Buy p s q t earlier h = grind (arith, nat_tests)
prior-earlier Sell p s q t earlier h = grind (arith, nat_tests)

pub ahead-self : (o : Order) → ahead o o ≡ false
ahead-self o = prior-self o.side o.price o.stamp

-- what is ahead leads
pub leads-of : (a b : Order) → a.side ≡ b.side → ahead a b ≡ true → Leads a b
leads-of a b one_side h = record {
  ahead_of = h;
  not_behind = ap (λ s. prior s b.price b.stamp a.price a.stamp) (sym one_side)
      ∙ prior-not a.side a.price a.stamp b.price b.stamp h;
}

pub leads-trans : (a b c : Order) → a.side ≡ b.side → b.side ≡ c.side → ahead a b ≡ true → ahead b c ≡ true → Leads a c
leads-trans a b c ab bc h k = leads-of a c (ab ∙ bc)
    (prior-trans a.side a.price a.stamp b.price b.stamp c.price c.stamp h
    (ap (λ s. prior s b.price b.stamp c.price c.stamp) ab ∙ k))

-- an earlier order leads where the later one isn't ahead of it
pub leads-earlier : (a b : Order) → a.side ≡ b.side → a.stamp < b.stamp → ahead b a ≡ false → Leads a b
leads-earlier a b one_side earlier h = leads-of a b one_side
    (prior-earlier a.side a.price a.stamp b.price b.stamp earlier
    (ap (λ s. prior s b.price b.stamp a.price a.stamp) one_side ∙ h))

and_right : (a b : Bool) → (a && b) ≡ true → b ≡ true
and_right true b h = h
and_right false b h = cc

pub crossed-side : (i o : Order) → crosses i o ≡ true → o.side ≡ opposite i.side
crossed-side i o h = met_side i.side i.price o.side o.price (and_right (bytes_eq i.symbol o.symbol) _ h)

-- all orders that one crosses are of one side
pub one-side : (i a b : Order) → crosses i a ≡ true → crosses i b ≡ true → a.side ≡ b.side
one-side i a b h k = crossed-side i a h ∙ sym (crossed-side i b k)
