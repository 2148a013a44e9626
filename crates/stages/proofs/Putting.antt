-- The outputs of one command on their way into the output ring: what one look for room leaves, and what the put ones
-- leave.
use Rattle.std.proofs.Common.{◌≡◌, ◌⊎◌, inl, inr, ℕ, zero, suc, ◌+◌, ◌<◌, ◌≤◌, Bool, true, false, cond, List, [], ◌∷◌}
use Rattle.std.proofs.Common.{◌^◌, ◌++◌, length, get_or, take, drop, min, Some, ap, refl, sym, subst, ◌∙◌, append_assoc}
use Rattle.std.proofs.Common.{length-drop, arith, add-one, eqb}
use Rattle.std.proofs.lemmas.List.{append-nil, drop-drop, length-take-le}
use Rattle.std.specs.Prelude.{MatchBool, ◌-◌, if◌then◌else◌, nat_le, nat_lt}
use Rattle.std.proofs.lemmas.Bool.{eqb-true, leb-true, leb-false}
use mathlib.Core.Option.{some, some-ne-none}
use lib.ListN.{get_elem?}
use Rattle.venue_model.specs.History.{Message}
use Rattle.venue_model.specs.Requests.{Limits}
use Rattle.venue_model.specs.Step.{step}
use Rattle.venue_model.specs.declared.commands.Command.{Command}
use Rattle.venue_model.specs.declared.outputs.Output.{Output}
use Rattle.ring_words.specs.declared.view.Load.{Load}
use Rattle.ring_words.specs.declared.view.Person.{Person}
use Rattle.command_words.specs.Packing.{command_words}
use Rattle.ring_words.specs.Places.{unmarshalled, journalled, taken, in_row}
use Rattle.ring_words.specs.Rule.{at_place}
use Rattle.ring_words.specs.Seats.{load_of, looked, moved, last_from}
use Rattle.ring_words.specs.At.{Opened, At, IsAt, seated}
use Rattle.ring_words.specs.Steps.{HasOutputRoom, Shows, lesser_of}
use Rattle.ring_words.specs.SeatLaws.{last_kept, last_loaded}
use Rattle.barrier.specs.Availability.{BehindBoth}
use Rattle.barrier.specs.Commands.{command_loads}
use Rattle.sequencer.specs.Rooms.{taken_loads, SaysRoom}
use Rattle.book.specs.Books.{Book}
use Rattle.book.specs.Histories.{reads_at, state_of, outputs_of}
use Rattle.stages.specs.Turns.{after_reading}
use Rattle.stages.specs.Processes.{to_put, TakesUp, put_ahead, PutsRound, PutsRounds, PutsOutputs, PutsUntilFull}
use Rattle.stages.specs.Processes.{Processes, sizes}
use Rattle.stages.specs.declared.turn.Turn.TheVariants.{Did, OutFull}
use Rattle.stages.specs.Stations.{AtBook}
use Rattle.stages.specs.Insides.{FollowsRings, IsWorking, MayTake, PutRound}
use Rattle.stages.proofs.Processing.{Took, at_rest, follows_on, left_to_put}

-- THE VALUE LOADED LAST

-- other words' loads leave it
pub commands_leave : (n s i d : ℕ) (ws : List ℕ) (ls : List Load)
    → last_from journalled d (ls ++ command_loads n s i ws) ≡ last_from journalled d ls
commands_leave n s i d [] ls = ap (last_from journalled d) (append-nil ls)
commands_leave n s i d (x ∷ xs) ls =
    ap (last_from journalled d) (sym
    (append_assoc ls (load_of (in_row n s (i + 48)) x ∷ []) (command_loads n s (suc i) xs)))
    ∙ commands_leave n s (suc i) d xs (ls ++ load_of (in_row n s (i + 48)) x ∷ [])
    ∙ last_kept journalled (in_row n s (i + 48)) d x ls (λ (is : in_row n s (i + 48) ≡ journalled). omega (arith, is))

looks_leave : (k d : ℕ) (xs : List ℕ) (ls : List Load) → last_from journalled d (ls ++ taken_loads k xs)
    ≡ last_from journalled d ls
looks_leave k d [] ls = ap (last_from journalled d) (append-nil ls)
looks_leave k d (x ∷ xs) ls =
    ap (last_from journalled d) (sym (append_assoc ls (load_of (taken k) x ∷ []) (taken_loads (suc k) xs)))
    ∙ looks_leave (suc k) d xs (ls ++ load_of (taken k) x ∷ [])
    ∙ last_kept journalled (taken k) d x ls (λ (is : taken k ≡ journalled). omega (arith, is))

-- it is the value at the start, or it was loaded
last_stood : (k d q : ℕ) (ls : List Load) → q < last_from k d ls
    → (q < d) ⊎ ((i : ℕ) × ((l : Load) × (get_elem? ls i ≡ some l) × (l.place ≡ k) × (q < l.value)))
last_stood k d q [] above = inl above
last_stood k d q (l ∷ ls) above = by_rest (last_stood k (cond (eqb l.place k) l.value d) q ls above) where
  by_place : (b : Bool) → eqb l.place k ≡ b → q < cond b l.value d
      → (q < d) ⊎ ((i : ℕ) × ((m : Load) × (get_elem? (l ∷ ls) i ≡ some m) × (m.place ≡ k) × (q < m.value)))
  by_place true is below = inr (0, (l, refl, eqb-true l.place k is, below))
  by_place false is below = inl below

  by_rest : (q < cond (eqb l.place k) l.value d)
      ⊎ ((i : ℕ) × ((m : Load) × (get_elem? ls i ≡ some m) × (m.place ≡ k) × (q < m.value)))
      → (q < d) ⊎ ((i : ℕ) × ((m : Load) × (get_elem? (l ∷ ls) i ≡ some m) × (m.place ≡ k) × (q < m.value)))
  by_rest (inl here) = by_place (eqb l.place k) refl here
  by_rest (inr found) = inr (suc found.0, found.1)

-- where it is above, some value was
pub last_shows : (k q : ℕ) (p : Person) → q < last_from k 0 p.loads → Shows k p q
last_shows k q p above = by_case (last_stood k 0 q p.loads above) where
  by_case : (q < 0) ⊎ Shows k p q → Shows k p q
  by_case (inl never) = absurd (omega (arith, never))
  by_case (inr found) = found

-- where a command was read that was seen journalled, it still is
pub read_leaves : (n : ℕ) (limits : Limits) (v r : At Limits) (s gateway : ℕ) (command : Command)
    → Took n limits v r s gateway command
    → s < last_from journalled 0 v.who.loads → r.who.sequence < last_from journalled 0 r.who.loads
read_leaves n limits v r s gateway command took above =
    let place = took.place in
    let own : r.who.sequence ≡ v.who.sequence = ap (λ (z : At Limits). z.who.sequence) took.view in
    let last : last_from journalled 0 r.who.loads ≡ last_from journalled 0 v.who.loads =
    ap (λ (z : At Limits). last_from journalled 0 z.who.loads) took.view
    ∙ commands_leave n v.who.sequence 0 0 (command_words took.entry.gateway (reads_at limits v.who.sequence took.entry))
    v.who.loads in
    omega (arith, above, place, own, last)

-- the limits of the book are those of the rings
pub limits_are : {p : AtBook} (rings : Opened Limits) → IsWorking p → IsAt rings p.seat → p.book.limits ≡ rings.logic
limits_are rings works of_rings = let same : Some _ ≡ Some rings.logic =
    sym works.follows.logic ∙ ap (λ (s : At Limits). s.logic) of_rings in
    cc

-- the processor with that command taken up, done in the book, and its outputs left
pub works_on : {n : ℕ} {p : AtBook} {r : At Limits} {s gateway : ℕ} {command : Command} (rings : Opened Limits)
    → IsWorking p → IsAt rings p.seat → MayTake p s → Took n rings.logic p.seat r s gateway command
    → {book : Book} {left : List Output}
    → book.limits ≡ p.book.limits
    → book.state ≡ (step p.book.limits.symbols p.book.state s (record { gateway = gateway; command = command })).state
    → left ≡ (step p.book.limits.symbols p.book.state s (record { gateway = gateway; command = command })).outputs
    → IsWorking (record { seat = r; book = book; applied = s + 1; left = left })
works_on {n} {p} {r} {s} {gateway} {command} rings working of_rings may by_rings {book} {left} limits stepped told =
    let took = rw (← (limits_are rings working of_rings)) at by_rings in
    let follows = at_rest p.seat p.book p.applied s p.left working.follows may.all
    (working.whole (may.all ∙ may.next)) in
    let place = took.place in let known = took.known in
    let own : r.who.sequence ≡ p.seat.who.sequence = ap (λ (z : At Limits). z.who.sequence) took.view in
    let seen : length r.who.seen ≡ length p.seat.who.seen = ap (λ (z : At Limits). length z.who.seen) took.view in
    record {
      follows = follows_on n p.seat r s gateway command p.book took follows book left (s + 1) (add-one s) limits stepped
          told;
      counts = (omega (arith, place, own), omega (arith, place, own), omega (arith, place, known, seen));
      whole = λ is. absurd (omega (arith, is, place, own));
      synced = λ _. read_leaves n p.book.limits p.seat r s gateway command took may.synced;
    }

-- OUTPUTS ONE BEHIND THE OTHER

-- all but the row under way is as before, and published is so many above
ahead_is : (p : Person) (k : ℕ) → (put_ahead p k ≡ record p { row = (put_ahead p k).row })
    × ((put_ahead p k).row.sequence ≡ p.row.sequence + k)
ahead_is p zero = (refl, omega arith)
ahead_is p (suc k) =
    let rest = ahead_is p k in let count = rest.1 in
    (ap (λ (q : Person). at_place q (suc (put_ahead p k).row.sequence)) rest.0, omega (arith, count))

pub ahead_place : (p : Person) (k : ℕ) → (put_ahead p k).row.sequence ≡ p.row.sequence + k
ahead_place p k = (ahead_is p k).1

pub ahead_loads : (p : Person) (k : ℕ) → (put_ahead p k).loads ≡ p.loads
ahead_loads p k = ap (λ (q : Person). q.loads) (ahead_is p k).0

-- what is read at a place stands there
pub read_stands : {A : Type 0} (l : List A) (i : ℕ) (a : A) → a ≡ get_or l i a → i < length l → get_elem? l i ≡ some a
read_stands [] i a is below = absurd (omega (arith, below))
read_stands (x ∷ xs) zero a is below = ap some (sym is)
read_stands (x ∷ xs) (suc i) a is below = read_stands xs i a is (omega (arith, below))

module _ (v u : At Limits) (k : ℕ) (is : u ≡ seated v (put_ahead v.who k)) where
  person_is : u.who ≡ record v.who { row = (put_ahead v.who k).row }
  person_is = ap (λ (s : At _). s.who) is ∙ (ahead_is v.who k).0

  place_is : u.who.row.sequence ≡ v.who.row.sequence + k
  place_is = ap (λ (z : At Limits). z.who.row.sequence) is ∙ ahead_place v.who k

  -- there is room for one more
  pub room_behind : (g m : ℕ) → HasOutputRoom g m v.who (v.who.row.sequence + k)
      → HasOutputRoom g m u.who u.who.row.sequence
  room_behind g m room = subst (λ (q : Person). HasOutputRoom g m q u.who.row.sequence) (sym person_is)
      (subst (HasOutputRoom g m v.who) (sym place_is) room)

  -- its entry was seen journalled
  pub synced_behind : Shows journalled v.who v.who.sequence → Shows journalled u.who u.who.sequence
  synced_behind shown = subst (λ (q : Person). Shows journalled q q.sequence) (sym person_is) shown

  -- and it is the next output
  pub next_behind : (limits : Limits) (o : Output)
      → get_elem? (outputs_of limits (take (suc v.who.sequence) v.who.seen)) (v.who.row.sequence + k) ≡ some o
      → get_elem? (outputs_of limits (take (suc u.who.sequence) u.who.seen)) u.who.row.sequence ≡ some o
  next_behind limits o at = subst
      (λ (q : Person). get_elem? (outputs_of limits (take (suc q.sequence) q.seen)) u.who.row.sequence ≡ some o)
      (sym person_is)
      (subst (λ (s : ℕ). get_elem? (outputs_of limits (take (suc v.who.sequence) v.who.seen)) s ≡ some o) (sym place_is) at)

-- ONE LOOK FOR ROOM

pub at_drop : {A : Type 0} (n : ℕ) (l : List A) (i : ℕ) → get_elem? (drop n l) i ≡ get_elem? l (n + i)
at_drop zero l i = let g : i ≡ 0 + i = omega arith in ap (get_elem? l) g
at_drop (suc n) [] i = refl
at_drop (suc n) (x ∷ xs) i = let g : suc (n + i) ≡ suc n + i = omega arith in at_drop n xs i ∙ ap (get_elem? (x ∷ xs)) g

at_front : {A : Type 0} (n : ℕ) (l : List A) (i : ℕ) (a : A) → get_elem? (take n l) i ≡ some a → get_elem? l i ≡ some a
at_front zero l i a at = absurd (some-ne-none a (sym at))
at_front (suc n) [] i a at = at
at_front (suc n) (x ∷ xs) zero a at = at
at_front (suc n) (x ∷ xs) (suc i) a at = at_front n xs i a at

-- only taken words were loaded, or none
pub record OnlyLooked (p q : Person) : Type 0 where
  pub values : List ℕ
  pub loads : q ≡ record p { loads = p.loads ++ taken_loads 1 values }

pub only_looked : (g m : ℕ) (p : Person) (answer : ℕ) (q : Person) → SaysRoom g m p answer q → OnlyLooked p q
only_looked g m p answer q (inl kept) = record {
  values = [];
  loads = kept.1 ∙ (λ i. record p { loads = sym (append-nil p.loads) i });
}
only_looked g m p answer q (inr (none, looked)) = record { values = looked.values; loads = looked.loads }

-- as many outputs were put as there was room for, or there was none
pub were_put : (g m : ℕ) (p : Person) (left : List Output) (answer most : ℕ) (q w : Person)
    → SaysRoom g m p answer q → 0 < length left
    → most ≡ min answer (length left) → w ≡ put_ahead q most
    → (0 < most → PutsRound m g (p.row.sequence + length left) p w) × (most ≡ 0 → SaysRoom g m p 0 w)
were_put g m p left answer most q w says some_left is w_is =
    let all : p.row.sequence + length left - p.row.sequence ≡ length left = omega arith in (
      λ some_room. (
        omega arith,
        (
          answer,
          (
            q,
            says,
            omega (arith, is, some_room),
            w_is ∙ ap (put_ahead q) (is ∙ ap (min answer) (sym all)),
          ),
        ),
      ),
      λ none. let no_room : answer ≡ 0 = omega (arith, is, none, some_left) in
          subst (SaysRoom g m p 0) (sym (w_is ∙ ap (put_ahead q) none))
          (subst (λ (k : ℕ). SaysRoom g m p k q) no_room says),
    )

-- so it is by what is answered
put_or_full : (A B : Type 0) (most : ℕ) → (0 < most → A) × (most ≡ 0 → B) → MatchBool (nat_lt 0 most) A B
put_or_full A B most were = by_answer (nat_lt 0 most) refl where
  by_answer : (b : Bool) → nat_lt 0 most ≡ b → MatchBool b A B
  by_answer true is = were.0 (leb-true 1 most is)
  by_answer false is = let none = leb-false 1 most is in were.1 (omega (arith, none))

-- a round gets ahead
pub round_ahead : (m g upto : ℕ) (v w : Person) → PutsRound m g upto v w → v.row.sequence < w.row.sequence
round_ahead m g upto v w puts =
    let room = puts.1.0 in
    let q = puts.1.1.0 in
    let looked = only_looked g m v room q puts.1.1.1 in
    let place : q.row.sequence ≡ v.row.sequence = ap (λ (p : Person). p.row.sequence) looked.loads in
    let ahead = ap (λ (p : Person). p.row.sequence) puts.1.1.3
    ∙ ahead_place q (min room (upto - v.row.sequence)) in
    let below = puts.0 in
    let some_room = puts.1.1.2 in
    omega (arith, place, ahead, some_room, below)

-- The ring was asked for room, for the outputs that are left of the command under way. These are outputs of a list from
-- one place on.
module _ {p : AtBook} {u : At Limits} (g m room : ℕ) (works : IsWorking p) (under_way : p.seat.who.sequence < p.applied)
    (says : SaysRoom g m p.seat.who room u.who) (u_is : u ≡ seated p.seat u.who) (put most : ℕ)
    (items now : List Output) (left_is : p.left ≡ drop put items) (is : now ≡ items) where
  abbrev v : At Limits
  v = p.seat

  only : OnlyLooked v.who u.who
  only = only_looked g m v.who room u.who says

  one : p.applied ≡ suc v.who.sequence
  one = let counts = works.counts in omega (arith, counts, under_way)

  looked_place : u.who.row.sequence ≡ v.who.row.sequence
  looked_place = ap (λ (q : Person). q.row.sequence) only.loads

  -- the value of journalled that was loaded last is as before
  last_same : last_from journalled 0 u.who.loads ≡ last_from journalled 0 v.who.loads
  last_same = ap (λ (q : Person). last_from journalled 0 q.loads) only.loads
      ∙ looks_leave 1 0 only.values v.who.loads

  still_synced : Shows journalled u.who u.who.sequence
  still_synced = let last = last_same in let own = ap (λ (q : Person). q.sequence) only.loads in
      let above = works.synced under_way in last_shows journalled u.who.sequence u.who (omega (arith, above, last, own))

  -- as many of them as are to be put are lent
  lent : take (put + most - put) (drop put now) ≡ take most p.left
  lent = let g : put + most - put ≡ most = omega arith in rw (g, is, left_is) refl

  -- what is left are the next outputs
  are_next : (i : ℕ) (o : Output) → get_elem? (take most p.left) i ≡ some o
      → get_elem? (outputs_of p.book.limits (take (suc u.who.sequence) u.who.seen)) (u.who.row.sequence + i) ≡ some o
  are_next i o at =
      subst (λ (q : Person). get_elem? (outputs_of p.book.limits (take (suc q.sequence) q.seen)) (q.row.sequence + i)
      ≡ some o) (sym only.loads)
      (subst (λ (k : ℕ). get_elem? (outputs_of p.book.limits (take k v.who.seen)) (v.who.row.sequence + i) ≡ some o) one
      (sym (at_drop v.who.row.sequence (outputs_of p.book.limits (take p.applied v.who.seen)) i)
      ∙ ap (λ (l : List Output). get_elem? l i) works.follows.rest ∙ at_front most p.left i o at))

  -- so the first of them may be put, no more than there is room for
  pub may_put : (rings : Opened Limits) → IsAt rings p.seat → (k : ℕ) → k ≤ room
      → ((i : ℕ) → i < room → HasOutputRoom g m u.who (v.who.row.sequence + i))
      → ((i : ℕ) → i < k → HasOutputRoom g m u.who (u.who.row.sequence + i)) × (Shows journalled u.who u.who.sequence
      × ((i : ℕ) (o : Output) → get_elem? (take (put + most - put) (drop put now)) i ≡ some o
      → get_elem? (outputs_of rings.logic (take (suc u.who.sequence) u.who.seen)) (u.who.row.sequence + i) ≡ some o))
  may_put rings of_rings k few free = (
    λ i below. rw looked_place (free i (omega (arith, below, few))),
    (
      still_synced,
      λ i o at. subst (λ (l : Limits). get_elem? (outputs_of l (take (suc u.who.sequence) u.who.seen))
          (u.who.row.sequence + i) ≡ some o) (limits_are rings works of_rings)
          (are_next i o (sym (ap (λ (l : List Output). get_elem? l i) lent) ∙ at)),
    ),
  )

  -- as many as there is room for are put: that is a round
  module _ (some_left : 0 < length p.left) (least : most ≡ min room (length items - put)) (w : At Limits)
      (was_put : w ≡ seated u (put_ahead u.who (length (take (put + most - put) (drop put now))))) where
    long : length p.left ≡ length items - put
    long = ap length left_is ∙ length-drop put items

    within : most ≤ length p.left
    within = let l = long in omega (arith, least, l)

    w_is : w ≡ seated u (put_ahead u.who most)
    w_is = was_put ∙ ap (λ (k : ℕ). seated u (put_ahead u.who k)) (ap length lent ∙ length-take-le most p.left within)

    -- of the person the loads and the row are others
    put_is : w.who ≡ record v.who { loads = w.who.loads; row = w.who.row }
    put_is = let is = ap (λ (s : At _). s.who) w_is ∙ (ahead_is u.who most).0
        ∙ ap (λ (q : Person). record q { row = (put_ahead u.who most).row }) only.loads in
        let loads = sym (ap (λ (q : Person). q.loads) is) in let row = sym (ap (λ (q : Person). q.row) is) in
        is ∙ (λ i. record v.who { loads = loads i; row = row i })

    place : w.who.row.sequence ≡ v.who.row.sequence + most
    place = ap (λ (z : At Limits). z.who.row.sequence) w_is ∙ ahead_place u.who most
        ∙ ap (λ (s : ℕ). s + most) looked_place

    own : w.who.sequence ≡ v.who.sequence
    own = ap (λ (q : Person). q.sequence) put_is

    seen : w.who.seen ≡ v.who.seen
    seen = ap (λ (q : Person). q.seen) put_is

    last : last_from journalled 0 w.who.loads ≡ last_from journalled 0 v.who.loads
    last = ap (λ (z : At Limits). last_from journalled 0 z.who.loads) w_is
        ∙ ap (last_from journalled 0) (ahead_loads u.who most) ∙ last_same

    outs : outputs_of p.book.limits (take p.applied w.who.seen) ≡ outputs_of p.book.limits (take p.applied v.who.seen)
    outs = ap (λ h. outputs_of p.book.limits (take p.applied h)) seen

    left_now : drop (put + most) items ≡ drop most p.left
    left_now = sym (ap (drop most) left_is ∙ drop-drop most put items)

    follows_after : FollowsRings w p.book p.applied (drop (put + most) items)
    follows_after = record {
      logic = ap (λ (z : At Limits). z.logic) w_is ∙ ap (λ (z : At Limits). z.logic) u_is ∙ works.follows.logic;
      state = works.follows.state ∙ ap (λ h. state_of p.book.limits (take p.applied h)) (sym seen);
      rest = ap (λ (k : ℕ). drop k (outputs_of p.book.limits (take p.applied w.who.seen))) place
          ∙ ap (drop (v.who.row.sequence + most)) outs
          ∙ sym (drop-drop most v.who.row.sequence (outputs_of p.book.limits (take p.applied v.who.seen)))
          ∙ ap (drop most) works.follows.rest ∙ sym left_now;
      published = let all = works.follows.published in let rest = ap length left_now ∙ length-drop most p.left in
          let at = place in let out = ap length outs in let in_it = within in omega (arith, all, rest, at, out, in_it);
    }

    pub puts_round : PutRound m g (nat_lt 0 most) p
        (record { seat = w; book = p.book; applied = p.applied; left = drop (put + most) items })
    puts_round =
        let counts = works.counts in let above = works.synced under_way in let same = own in
        let know = ap length seen in let at = place in let synced = last in
        let rest = ap length left_now ∙ length-drop most p.left in let in_it = within in let all = long in record {
          own = own;
          same_end = omega (arith, at, rest, in_it);
          puts = put_or_full _ _ most (were_put g m v.who p.left room most u.who w.who says some_left
              (rw all least) (ap (λ (s : At _). s.who) w_is));
          working = record {
            follows = follows_after;
            counts = (omega (arith, counts, same), omega (arith, counts, same), omega (arith, counts, know));
            whole = λ all. absurd (omega (arith, all, under_way, same));
            synced = λ _. omega (arith, above, synced, same);
          };
        }

-- a round more
pub one_round_more : (m g upto : ℕ) (u v w : Person) → (k : ℕ) × PutsRounds m g upto k u v → PutsRound m g upto v w
    → (k : ℕ) × PutsRounds m g upto k u w
one_round_more m g upto u v w so_far more = (suc so_far.0, (v, so_far.1, more))

-- A POLL

-- the look for commands leaves the own word, and shows the entries that it makes known as journalled
pub behind_own : (v u : Person) → BehindBoth v u → u.sequence ≡ v.sequence
behind_own v u behind = ap (λ (p : Person). p.sequence) behind.2.1

lesser_low : (a b : ℕ) → lesser_of a b ≤ b
lesser_low a b = elim (nat_le a b) as (λ t. nat_le a b ≡ t → (if t then a else b) ≤ b)
    [ true ↦ (λ is. let le = leb-true a b is in omega (arith, le)) | false ↦ (λ is. omega arith) ] refl

pub behind_synced : (v u : Person) (s : ℕ) → BehindBoth v u → s < length u.seen → s < last_from journalled 0 u.loads
behind_synced v u s behind known =
    let unm = behind.0 in let j = behind.1 in let low = lesser_low unm j in
    let last : last_from journalled 0 u.loads ≡ j =
    ap (λ (p : Person). last_from journalled 0 p.loads) behind.2.1
    ∙ last_loaded journalled 0 j (looked v unmarshalled unm).loads in
    let long = behind.2.2 in
    omega (arith, low, last, long, known)

-- so the command of the next sequence may be taken up
pub may_take : (v : Person) {u : At Limits} {book : Book} {applied next count : ℕ} {left : List Output}
    → BehindBoth v u.who → next ≡ v.sequence → applied ≡ next → (count ≡ length u.who.seen) × (count ≤ 2 ^ 48)
    → next < count → MayTake (record { seat = u; book = book; applied = applied; left = left }) next
may_take v {u} {next = next} behind at all known below =
    let same = behind_own v u.who behind in let count = known.0 in let most = known.1 in record {
      next = omega (arith, at, same);
      all = all;
      known = omega (arith, below, count);
      small = omega (arith, below, most);
      synced = behind_synced v u.who next behind (omega (arith, below, count));
    }

-- what a command is taken up with leaves the own word
took_own : (n applied : ℕ) (limits : Limits) (v u : Person) → TakesUp n limits applied v u → u.sequence ≡ v.sequence
took_own n applied limits v u (inl next) = ap (λ (p : Person). p.sequence) next.1.2.2 ∙ behind_own v next.1.0 next.1.1
took_own n applied limits v u (inr on) = ap (λ (p : Person). p.sequence) on.1

-- a command is under way: it was taken up, or had been
pub record UnderWay (n : ℕ) (limits : Limits) (p b : AtBook) : Type 0 where
  pub taken : TakesUp n limits p.applied p.seat.who b.seat.who
  pub same : b.book.limits ≡ limits
  pub one : b.applied ≡ suc b.seat.who.sequence
  pub working : IsWorking b

pub took_one : {n next : ℕ} {limits : Limits} {p b : AtBook} {u : Person} → p.applied ≡ next
    → next ≡ p.seat.who.sequence → BehindBoth p.seat.who u
    → (e : Message) × (get_elem? u.seen u.sequence ≡ some e) × (b.seat.who ≡ after_reading n limits u e)
    → (b.applied ≡ suc next) × (b.book.limits ≡ p.book.limits) → p.book.limits ≡ limits → IsWorking b
    → UnderWay n limits p b
took_one {n} {limits = limits} {p = p} {b = b} {u = u} all own behind read applied same working =
    let taken : TakesUp n limits p.applied p.seat.who b.seat.who = inl (all ∙ own, (u, behind, read)) in record {
      taken = taken;
      same = applied.1 ∙ same;
      one = applied.0 ∙ ap suc (own ∙ sym (took_own n p.applied limits _ _ taken));
      working = working;
    }

pub goes_on : {n : ℕ} {limits : Limits} {p : AtBook} → IsWorking p → p.book.limits ≡ limits
    → p.seat.who.sequence < p.applied → UnderWay n limits p p
goes_on working same under_way = let counts = working.counts in
    record { taken = inr (under_way, refl); same = same; one = omega (arith, counts, under_way); working = working }

-- behind the rounds q is left of the command that was under way
module _ {n : ℕ} {limits : Limits} {p b q : AtBook} (m g : ℕ) (begun : UnderWay n limits p b) (working : IsWorking q)
    (kept : (q.applied ≡ b.applied) × (q.book ≡ b.book)) (own : q.seat.who.sequence ≡ b.seat.who.sequence) (t : Bool)
    (puts : MatchBool t (PutsOutputs m g b.seat.who b.left q.seat.who) (PutsUntilFull m g b.seat.who b.left q.seat.who))
  where
    -- the outputs to be put were those left
    were_left : b.left ≡ to_put limits b.seat.who
    were_left = sym (left_to_put b.seat b.book b.applied b.left begun.working.follows begun.one)
        ∙ ap (λ (l : Limits). to_put l b.seat.who) begun.same

    one_now : q.applied ≡ suc q.seat.who.sequence
    one_now = kept.0 ∙ begun.one ∙ ap suc (sym own)

    -- and those left now are to be put
    are_left : to_put limits q.seat.who ≡ q.left
    are_left = ap (λ (l : Limits). to_put l q.seat.who) (sym (ap (λ (b : Book). b.limits) kept.1 ∙ begun.same))
        ∙ left_to_put q.seat q.book q.applied q.left working.follows one_now

    -- a poll that leaves some of them had no room for more
    pub out_full : (q.left ≡ [] → t ≡ true) → t ≡ false → Processes (sizes n m g) limits OutFull
        (record { who = p.seat.who; applied = p.applied }) (record { who = q.seat.who; applied = q.applied })
    out_full all is_not = (
      b.seat.who,
      begun.taken,
      rw (← were_left) (rw is_not at puts),
      (λ none. let whole = all (sym are_left ∙ none) in cc),
      one_now,
    )

    -- one that leaves none is done with the entry
    pub did_one : (t ≡ true → q.left ≡ []) → t ≡ true → {w : Person} → w ≡ moved q.seat.who q.applied
        → Processes (sizes n m g) limits (Did 1) (record { who = p.seat.who; applied = p.applied })
        (record { who = w; applied = q.applied })
    did_one none is step = (
      refl,
      (
        b.seat.who,
        q.seat.who,
        begun.taken,
        rw (← were_left) (rw is at puts),
        are_left ∙ none is,
        step ∙ ap (moved q.seat.who) one_now,
        sym (ap (λ (x : Person). x.sequence) step),
      ),
    )
