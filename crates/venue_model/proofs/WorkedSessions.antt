-- Worked examples of the definitions, each computed: the requests, and what the venue answers.
use Rattle.std.specs.Prelude.{◌≡◌, ℕ, List, [], ◌∷◌, refl}
use Rattle.venue_model.specs.declared.orders.Side.TheVariants.{Buy, Sell}
use Rattle.venue_model.specs.declared.commands.TimeInForce.TheVariants.{Day, ImmediateOrCancel, FillOrKill}
use Rattle.venue_model.proofs.WorkedBooks.{new, market, day, cancel, replace, told, resting}

first_acknowledgement : told (day 1 Buy 100 50 1 ∷ []) ≡ (1 ∷ 1 ∷ 1 ∷ 100 ∷ 50 ∷ 100 ∷ 0 ∷ 0 ∷ 48 ∷ []) ∷ []
first_acknowledgement = refl

first_trade : told (day 1 Buy 100 50 1 ∷ day 2 Sell 30 50 1 ∷ []) ≡
    (1 ∷ 1 ∷ 1 ∷ 100 ∷ 50 ∷ 100 ∷ 0 ∷ 0 ∷ 48 ∷ [])
    ∷ (2 ∷ 2 ∷ 1 ∷ 30 ∷ 50 ∷ 30 ∷ 0 ∷ 0 ∷ 48 ∷ [])
    ∷ (1 ∷ 1 ∷ 1 ∷ 100 ∷ 50 ∷ 70 ∷ 30 ∷ 1500 ∷ 70 ∷ 30 ∷ 50 ∷ [])
    ∷ (2 ∷ 2 ∷ 1 ∷ 30 ∷ 50 ∷ 0 ∷ 30 ∷ 1500 ∷ 70 ∷ 30 ∷ 50 ∷ []) ∷ []
first_trade = refl

what_rests_after_the_first_trade : resting (day 1 Buy 100 50 1 ∷ day 2 Sell 30 50 1 ∷ [])
    ≡ (1 ∷ 1 ∷ 50 ∷ 70 ∷ 0 ∷ []) ∷ []
what_rests_after_the_first_trade = refl

time_priority : told (day 1 Buy 10 50 1 ∷ day 2 Buy 10 50 1 ∷ day 3 Sell 15 50 1 ∷ []) ≡
    (1 ∷ 1 ∷ 1 ∷ 10 ∷ 50 ∷ 10 ∷ 0 ∷ 0 ∷ 48 ∷ [])
    ∷ (2 ∷ 2 ∷ 1 ∷ 10 ∷ 50 ∷ 10 ∷ 0 ∷ 0 ∷ 48 ∷ [])
    ∷ (3 ∷ 3 ∷ 1 ∷ 15 ∷ 50 ∷ 15 ∷ 0 ∷ 0 ∷ 48 ∷ [])
    ∷ (1 ∷ 1 ∷ 1 ∷ 10 ∷ 50 ∷ 0 ∷ 10 ∷ 500 ∷ 70 ∷ 10 ∷ 50 ∷ [])
    ∷ (3 ∷ 3 ∷ 1 ∷ 15 ∷ 50 ∷ 5 ∷ 10 ∷ 500 ∷ 70 ∷ 10 ∷ 50 ∷ [])
    ∷ (2 ∷ 2 ∷ 1 ∷ 10 ∷ 50 ∷ 5 ∷ 5 ∷ 250 ∷ 70 ∷ 5 ∷ 50 ∷ [])
    ∷ (3 ∷ 3 ∷ 1 ∷ 15 ∷ 50 ∷ 0 ∷ 15 ∷ 750 ∷ 70 ∷ 5 ∷ 50 ∷ []) ∷ []
time_priority = refl

sweep_two_levels : told (day 1 Sell 25 50 1 ∷ day 1 Sell 15 51 2 ∷ new ImmediateOrCancel 2 Buy 100 51 1 ∷ []) ≡
    (1 ∷ 1 ∷ 1 ∷ 25 ∷ 50 ∷ 25 ∷ 0 ∷ 0 ∷ 48 ∷ [])
    ∷ (1 ∷ 2 ∷ 2 ∷ 15 ∷ 51 ∷ 15 ∷ 0 ∷ 0 ∷ 48 ∷ [])
    ∷ (2 ∷ 3 ∷ 1 ∷ 100 ∷ 51 ∷ 100 ∷ 0 ∷ 0 ∷ 48 ∷ [])
    ∷ (1 ∷ 1 ∷ 1 ∷ 25 ∷ 50 ∷ 0 ∷ 25 ∷ 1250 ∷ 70 ∷ 25 ∷ 50 ∷ [])
    ∷ (2 ∷ 3 ∷ 1 ∷ 100 ∷ 51 ∷ 75 ∷ 25 ∷ 1250 ∷ 70 ∷ 25 ∷ 50 ∷ [])
    ∷ (1 ∷ 2 ∷ 2 ∷ 15 ∷ 51 ∷ 0 ∷ 15 ∷ 765 ∷ 70 ∷ 15 ∷ 51 ∷ [])
    ∷ (2 ∷ 3 ∷ 1 ∷ 100 ∷ 51 ∷ 60 ∷ 40 ∷ 2015 ∷ 70 ∷ 15 ∷ 51 ∷ [])
    ∷ (2 ∷ 3 ∷ 1 ∷ 100 ∷ 51 ∷ 60 ∷ 40 ∷ 2015 ∷ 52 ∷ []) ∷ []
sweep_two_levels = refl

-- the dearer offer came first, and is filled second
dearer_first : told (day 1 Sell 15 51 1 ∷ day 1 Sell 25 50 2 ∷ new ImmediateOrCancel 2 Buy 30 51 1 ∷ []) ≡
    (1 ∷ 1 ∷ 1 ∷ 15 ∷ 51 ∷ 15 ∷ 0 ∷ 0 ∷ 48 ∷ [])
    ∷ (1 ∷ 2 ∷ 2 ∷ 25 ∷ 50 ∷ 25 ∷ 0 ∷ 0 ∷ 48 ∷ [])
    ∷ (2 ∷ 3 ∷ 1 ∷ 30 ∷ 51 ∷ 30 ∷ 0 ∷ 0 ∷ 48 ∷ [])
    ∷ (1 ∷ 2 ∷ 2 ∷ 25 ∷ 50 ∷ 0 ∷ 25 ∷ 1250 ∷ 70 ∷ 25 ∷ 50 ∷ [])
    ∷ (2 ∷ 3 ∷ 1 ∷ 30 ∷ 51 ∷ 5 ∷ 25 ∷ 1250 ∷ 70 ∷ 25 ∷ 50 ∷ [])
    ∷ (1 ∷ 1 ∷ 1 ∷ 15 ∷ 51 ∷ 10 ∷ 5 ∷ 255 ∷ 70 ∷ 5 ∷ 51 ∷ [])
    ∷ (2 ∷ 3 ∷ 1 ∷ 30 ∷ 51 ∷ 0 ∷ 30 ∷ 1505 ∷ 70 ∷ 5 ∷ 51 ∷ []) ∷ []
dearer_first = refl

fill_or_kill : told (day 1 Sell 99 50 1 ∷ new FillOrKill 2 Buy 100 50 1 ∷ day 1 Sell 1 50 2
    ∷ new FillOrKill 2 Buy 100 50 2 ∷ []) ≡
    (1 ∷ 1 ∷ 1 ∷ 99 ∷ 50 ∷ 99 ∷ 0 ∷ 0 ∷ 48 ∷ [])
    ∷ (2 ∷ 2 ∷ 1 ∷ 100 ∷ 50 ∷ 100 ∷ 0 ∷ 0 ∷ 48 ∷ [])
    ∷ (2 ∷ 2 ∷ 1 ∷ 100 ∷ 50 ∷ 100 ∷ 0 ∷ 0 ∷ 52 ∷ [])
    ∷ (1 ∷ 3 ∷ 2 ∷ 1 ∷ 50 ∷ 1 ∷ 0 ∷ 0 ∷ 48 ∷ [])
    ∷ (2 ∷ 4 ∷ 2 ∷ 100 ∷ 50 ∷ 100 ∷ 0 ∷ 0 ∷ 48 ∷ [])
    ∷ (1 ∷ 1 ∷ 1 ∷ 99 ∷ 50 ∷ 0 ∷ 99 ∷ 4950 ∷ 70 ∷ 99 ∷ 50 ∷ [])
    ∷ (2 ∷ 4 ∷ 2 ∷ 100 ∷ 50 ∷ 1 ∷ 99 ∷ 4950 ∷ 70 ∷ 99 ∷ 50 ∷ [])
    ∷ (1 ∷ 3 ∷ 2 ∷ 1 ∷ 50 ∷ 0 ∷ 1 ∷ 50 ∷ 70 ∷ 1 ∷ 50 ∷ [])
    ∷ (2 ∷ 4 ∷ 2 ∷ 100 ∷ 50 ∷ 0 ∷ 100 ∷ 5000 ∷ 70 ∷ 1 ∷ 50 ∷ []) ∷ []
fill_or_kill = refl

-- two bids, and a replace of the first by this total
abbrev after_replace : ℕ → List (List ℕ)
after_replace total = told (day 1 Buy 10 50 1 ∷ day 2 Buy 10 50 1 ∷ replace 1 Buy 1 2 total 50 ∷ day 3 Sell 8 50 1 ∷ [])

replace_keeps_its_place : after_replace 8 ≡
    (1 ∷ 1 ∷ 1 ∷ 10 ∷ 50 ∷ 10 ∷ 0 ∷ 0 ∷ 48 ∷ [])
    ∷ (2 ∷ 2 ∷ 1 ∷ 10 ∷ 50 ∷ 10 ∷ 0 ∷ 0 ∷ 48 ∷ [])
    ∷ (1 ∷ 1 ∷ 2 ∷ 8 ∷ 50 ∷ 8 ∷ 0 ∷ 0 ∷ 53 ∷ 1 ∷ [])
    ∷ (3 ∷ 4 ∷ 1 ∷ 8 ∷ 50 ∷ 8 ∷ 0 ∷ 0 ∷ 48 ∷ [])
    ∷ (1 ∷ 1 ∷ 2 ∷ 8 ∷ 50 ∷ 0 ∷ 8 ∷ 400 ∷ 70 ∷ 8 ∷ 50 ∷ [])
    ∷ (3 ∷ 4 ∷ 1 ∷ 8 ∷ 50 ∷ 0 ∷ 8 ∷ 400 ∷ 70 ∷ 8 ∷ 50 ∷ []) ∷ []
replace_keeps_its_place = refl

grown_replace_goes_behind : after_replace 12 ≡
    (1 ∷ 1 ∷ 1 ∷ 10 ∷ 50 ∷ 10 ∷ 0 ∷ 0 ∷ 48 ∷ [])
    ∷ (2 ∷ 2 ∷ 1 ∷ 10 ∷ 50 ∷ 10 ∷ 0 ∷ 0 ∷ 48 ∷ [])
    ∷ (1 ∷ 1 ∷ 2 ∷ 12 ∷ 50 ∷ 12 ∷ 0 ∷ 0 ∷ 53 ∷ 1 ∷ [])
    ∷ (3 ∷ 4 ∷ 1 ∷ 8 ∷ 50 ∷ 8 ∷ 0 ∷ 0 ∷ 48 ∷ [])
    ∷ (2 ∷ 2 ∷ 1 ∷ 10 ∷ 50 ∷ 2 ∷ 8 ∷ 400 ∷ 70 ∷ 8 ∷ 50 ∷ [])
    ∷ (3 ∷ 4 ∷ 1 ∷ 8 ∷ 50 ∷ 0 ∷ 8 ∷ 400 ∷ 70 ∷ 8 ∷ 50 ∷ []) ∷ []
grown_replace_goes_behind = refl

replace_crosses : told (day 1 Buy 10 50 1 ∷ day 2 Sell 4 52 1 ∷ replace 1 Buy 1 2 10 52 ∷ []) ≡
    (1 ∷ 1 ∷ 1 ∷ 10 ∷ 50 ∷ 10 ∷ 0 ∷ 0 ∷ 48 ∷ [])
    ∷ (2 ∷ 2 ∷ 1 ∷ 4 ∷ 52 ∷ 4 ∷ 0 ∷ 0 ∷ 48 ∷ [])
    ∷ (1 ∷ 1 ∷ 2 ∷ 10 ∷ 52 ∷ 10 ∷ 0 ∷ 0 ∷ 53 ∷ 1 ∷ [])
    ∷ (2 ∷ 2 ∷ 1 ∷ 4 ∷ 52 ∷ 0 ∷ 4 ∷ 208 ∷ 70 ∷ 4 ∷ 52 ∷ [])
    ∷ (1 ∷ 1 ∷ 2 ∷ 10 ∷ 52 ∷ 6 ∷ 4 ∷ 208 ∷ 70 ∷ 4 ∷ 52 ∷ []) ∷ []
replace_crosses = refl

-- the first trade of ten and four, then a replace down to what was filled, and a cancel of an order that is gone
replace_below_filled : told (day 1 Buy 10 50 1 ∷ day 2 Sell 4 50 1 ∷ replace 1 Buy 1 2 4 50 ∷ cancel 2 Sell 1 2 ∷ []) ≡
    (1 ∷ 1 ∷ 1 ∷ 10 ∷ 50 ∷ 10 ∷ 0 ∷ 0 ∷ 48 ∷ [])
    ∷ (2 ∷ 2 ∷ 1 ∷ 4 ∷ 50 ∷ 4 ∷ 0 ∷ 0 ∷ 48 ∷ [])
    ∷ (1 ∷ 1 ∷ 1 ∷ 10 ∷ 50 ∷ 6 ∷ 4 ∷ 200 ∷ 70 ∷ 4 ∷ 50 ∷ [])
    ∷ (2 ∷ 2 ∷ 1 ∷ 4 ∷ 50 ∷ 0 ∷ 4 ∷ 200 ∷ 70 ∷ 4 ∷ 50 ∷ [])
    ∷ (1 ∷ 1 ∷ 2 ∷ 1 ∷ 2 ∷ [])
    ∷ (2 ∷ 0 ∷ 2 ∷ 1 ∷ 1 ∷ []) ∷ []
replace_below_filled = refl

client_order_ids_rise : told (day 1 Buy 10 50 5 ∷ day 1 Buy 10 50 5 ∷ cancel 1 Buy 5 4 ∷ []) ≡
    (1 ∷ 1 ∷ 5 ∷ 10 ∷ 50 ∷ 10 ∷ 0 ∷ 0 ∷ 48 ∷ [])
    ∷ (1 ∷ 2 ∷ 5 ∷ 10 ∷ 50 ∷ 10 ∷ 0 ∷ 0 ∷ 56 ∷ 6 ∷ [])
    ∷ (1 ∷ 1 ∷ 4 ∷ 5 ∷ 6 ∷ []) ∷ []
client_order_ids_rise = refl

-- a cancel of the first order, whose report has the new name and the old one
cancel_request : told (day 1 Buy 100 50 1 ∷ cancel 1 Buy 1 2 ∷ []) ≡
    (1 ∷ 1 ∷ 1 ∷ 100 ∷ 50 ∷ 100 ∷ 0 ∷ 0 ∷ 48 ∷ [])
    ∷ (1 ∷ 1 ∷ 2 ∷ 100 ∷ 50 ∷ 100 ∷ 0 ∷ 0 ∷ 52 ∷ 1 ∷ []) ∷ []
cancel_request = refl

-- a market order of 12 buys all that two offers have, at their prices; its own price is the one that all offers meet
abbrev swept : List (List ℕ)
swept =
    (1 ∷ 1 ∷ 1 ∷ 5 ∷ 50 ∷ 5 ∷ 0 ∷ 0 ∷ 48 ∷ [])
    ∷ (1 ∷ 2 ∷ 2 ∷ 5 ∷ 60 ∷ 5 ∷ 0 ∷ 0 ∷ 48 ∷ [])
    ∷ (2 ∷ 3 ∷ 1 ∷ 12 ∷ 1000000 ∷ 12 ∷ 0 ∷ 0 ∷ 48 ∷ [])
    ∷ (1 ∷ 1 ∷ 1 ∷ 5 ∷ 50 ∷ 0 ∷ 5 ∷ 250 ∷ 70 ∷ 5 ∷ 50 ∷ [])
    ∷ (2 ∷ 3 ∷ 1 ∷ 12 ∷ 1000000 ∷ 7 ∷ 5 ∷ 250 ∷ 70 ∷ 5 ∷ 50 ∷ [])
    ∷ (1 ∷ 2 ∷ 2 ∷ 5 ∷ 60 ∷ 0 ∷ 5 ∷ 300 ∷ 70 ∷ 5 ∷ 60 ∷ [])
    ∷ (2 ∷ 3 ∷ 1 ∷ 12 ∷ 1000000 ∷ 2 ∷ 10 ∷ 550 ∷ 70 ∷ 5 ∷ 60 ∷ [])
    ∷ (2 ∷ 3 ∷ 1 ∷ 12 ∷ 1000000 ∷ 2 ∷ 10 ∷ 550 ∷ 52 ∷ []) ∷ []

-- what is left of it is canceled, also where it is an order for the day
market_order_sweeps : told (day 1 Sell 5 50 1 ∷ day 1 Sell 5 60 2 ∷ market Day 2 Buy 12 1 ∷ []) ≡ swept
market_order_sweeps = refl

market_order_at_once : told (day 1 Sell 5 50 1 ∷ day 1 Sell 5 60 2 ∷ market ImmediateOrCancel 2 Buy 12 1 ∷ []) ≡ swept
market_order_at_once = refl

nothing_rests_of_a_market_order : resting (day 1 Sell 5 50 1 ∷ day 1 Sell 5 60 2 ∷ market Day 2 Buy 12 1 ∷ []) ≡ []
nothing_rests_of_a_market_order = refl

-- fill or kill: more than there is
market_order_killed : told (day 1 Sell 5 50 1 ∷ day 1 Sell 5 60 2 ∷ market FillOrKill 2 Buy 12 1 ∷ []) ≡
    (1 ∷ 1 ∷ 1 ∷ 5 ∷ 50 ∷ 5 ∷ 0 ∷ 0 ∷ 48 ∷ [])
    ∷ (1 ∷ 2 ∷ 2 ∷ 5 ∷ 60 ∷ 5 ∷ 0 ∷ 0 ∷ 48 ∷ [])
    ∷ (2 ∷ 3 ∷ 1 ∷ 12 ∷ 1000000 ∷ 12 ∷ 0 ∷ 0 ∷ 48 ∷ [])
    ∷ (2 ∷ 3 ∷ 1 ∷ 12 ∷ 1000000 ∷ 12 ∷ 0 ∷ 0 ∷ 52 ∷ []) ∷ []
market_order_killed = refl

-- a market order with nobody on the other side is accepted and canceled, a sale as well
market_order_alone : told (market Day 1 Buy 100 1 ∷ market Day 1 Sell 7 2 ∷ []) ≡
    (1 ∷ 1 ∷ 1 ∷ 100 ∷ 1000000 ∷ 100 ∷ 0 ∷ 0 ∷ 48 ∷ [])
    ∷ (1 ∷ 1 ∷ 1 ∷ 100 ∷ 1000000 ∷ 100 ∷ 0 ∷ 0 ∷ 52 ∷ [])
    ∷ (1 ∷ 2 ∷ 2 ∷ 7 ∷ 0 ∷ 7 ∷ 0 ∷ 0 ∷ 48 ∷ [])
    ∷ (1 ∷ 2 ∷ 2 ∷ 7 ∷ 0 ∷ 7 ∷ 0 ∷ 0 ∷ 52 ∷ []) ∷ []
market_order_alone = refl
