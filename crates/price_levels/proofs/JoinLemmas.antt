-- An order comes, as the code reads and writes: a place is free for it, and its level is there or it opens one.
use Rattle.std.proofs.Common.{◌≡◌, ℕ, ◌+◌, ◌^◌, ◌<◌, ◌≤◌, Bool, true, false, List, [], ◌∷◌, ◌++◌, length, get_or}
use Rattle.std.proofs.Common.{Option, Some, None, refl, ap, sym, subst, ◌∙◌, arith, zero-add}
use Rattle.std.specs.Prelude.{option_map, option_to_list, unwrap_or, slice_set}
use Rattle.std.specs.List.{insert}
use Rattle.venue_model.specs.declared.orders.Order.{Order}
use Rattle.venue_model.specs.Orders.{leaves}
use Rattle.price_levels.specs.declared.keys.Key.{Key}
use Rattle.price_levels.specs.declared.keys.Level.{Level}
use Rattle.price_levels.specs.declared.nodes.Node.{Node}
use Rattle.price_levels.specs.Places.{ComesLater, standing}
use Rattle.price_levels.specs.Keys.{key_of, level_of}
use Rattle.price_levels.specs.declared.ladders.Rung.{Rung}
use Rattle.price_levels.specs.Arena.{order_at, places_of, holds, IsArena, AreLevels, nodes_with, levels_with}
use Rattle.price_levels.specs.Ladders.{Laddered, NameLadders, StandInLadders, BelongsToHome, all, rung_number}
use Rattle.price_levels.proofs.LevelLists.{IsLevelAt, Changes, found-holds, opened, replaced, level-is, none-there}
use Rattle.price_levels.proofs.NodeLemmas.{Seen, within-nodes, with-seen}
use Rattle.price_levels.proofs.ArenaLemmas.{taken-vacant, taken}
use Rattle.price_levels.proofs.LeftLemmas.{total-fits, orders-few, what-is-left, how-many, said-is}
use Rattle.price_levels.proofs.Comings.{last-stands, come}
use Rattle.price_levels.proofs.Totals.{few}
use Rattle.price_levels.proofs.ShortenLemmas.{set-with}
use Rattle.price_levels.proofs.Ends.{Searched, whole}
use Rattle.price_levels.proofs.NamedLadders.{with-named}

-- an order comes to the last of the free places: a search found where its level is or would be
pub record Comes (nodes : List Node) (free : List ℕ) (ladders : Laddered) (place : ℕ) (rung : Rung) (o : Order)
    (there : Bool) : Type 0 where
  pub arena : IsArena nodes (free ++ place ∷ [])
  pub ordered : AreLevels nodes (all ladders)
  pub named : NameLadders ladders.fences nodes
  pub search : Searched (key_of o) (all ladders) (rung_number ladders rung)
  pub holds_is : holds (all ladders) (rung_number ladders rung) (key_of o) ≡ there
  pub total : o.total ≤ 1000000
  pub later : ComesLater (places_of nodes) o

-- as the code has taken the place, and searched for the level
pub comes : {nodes : List Node} {before after : List ℕ} {ladders : Laddered} {pop : Option ℕ} {place : ℕ} {rung : Rung}
    {o : Order} {k : Key} {there : Bool} → StandInLadders nodes before ladders
    → before ≡ after ++ option_to_list pop → pop ≡ Some place → k ≡ key_of o
    → Searched k (all ladders) (rung_number ladders rung)
    → there ≡ holds (all ladders) (rung_number ladders rung) k → o.total ≤ 1000000 → ComesLater (places_of nodes) o
    → Comes nodes after ladders place rung o there
comes {nodes} {before} {after} {ladders} {rung = rung} are free_is pop_is k_is search holds_is total later = record {
  arena = subst (IsArena nodes) (free_is ∙ ap (λ x. after ++ option_to_list x) pop_is) are.levels.arena;
  ordered = are.levels.ordered;
  named = are.named;
  search = subst (λ j. Searched j (all ladders) (rung_number ladders rung)) k_is search;
  holds_is = ap (holds (all ladders) (rung_number ladders rung)) (sym k_is) ∙ sym holds_is;
  total = total;
  later = later;
}

module _ {nodes : List Node} {free : List ℕ} {ladders : Laddered} {place : ℕ} {rung : Rung} {o : Order} {there : Bool}
    (it : Comes nodes free ladders place rung o there) where
  abbrev levels : List Level
  levels = all ladders

  abbrev at : ℕ
  at = rung_number ladders rung

  pub vacant-there : (place < length nodes) × (order_at nodes place ≡ None)
  vacant-there = taken-vacant nodes free place it.arena

  -- it stands there, in its ladder
  pub record IsIn (nodes' : List Node) (ladders' : Laddered) : Type 0 where
    pub stands : StandInLadders nodes' free ladders'
    pub places : places_of nodes' ≡ slice_set (places_of nodes) place (Some o)

  is-in : (i : ℕ) (last : Option ℕ) (nodes' : List Node) (ladders' : Laddered) (levels' : List Level)
      → Seen nodes (nodes_with nodes last place o i) place (Some o) → nodes' ≡ nodes_with nodes last place o i
      → BelongsToHome ladders.fences i o.symbol o.side → ladders'.fences ≡ ladders.fences → all ladders' ≡ levels'
      → AreLevels (nodes_with nodes last place o i) levels' → IsIn nodes' ladders'
  is-in i last nodes' ladders' levels' seen nodes_are belongs fences_are levels_are come = record {
    stands = record {
      levels = whole nodes' (nodes_with nodes last place o i) free free (all ladders') levels' nodes_are refl levels_are
          (taken nodes free place it.arena (nodes_with nodes last place o i) o seen) come;
      named = subst (λ fences. NameLadders fences nodes') (sym fences_are)
          (subst (NameLadders ladders.fences) (sym nodes_are)
          (with-named ladders.fences nodes last place o i it.named belongs));
    };
    places = ap places_of nodes_are ∙ seen.places;
  }

  -- its level is there: it is behind the last one now
  module _ (yes : there ≡ true) {l : Level} (l_is : l ≡ get_or levels at l) where
    level-at : IsLevelAt levels at (key_of o) l
    level-at = found-holds levels at (key_of o) it.ordered.in_order it.search.before it.search.behind l
        (it.holds_is ∙ yes) l_is

    level-found : level_of (key_of o) levels ≡ Some l
    level-found = level-is levels at (key_of o) l it.ordered.in_order level-at

    pub join-last : l.last < length nodes
    join-last =
        let last = last-stands nodes levels it.ordered (key_of o) l.last
        (ap (option_map (λ (m : Level). m.last)) level-found) in
        within-nodes nodes l.last last.order last.is

    abbrev longer : Level
    longer = record { key = l.key; first = l.first; last = place; left = l.left + leaves o; orders = l.orders + 1 }

    longer-changes : Changes levels (levels_with levels at (longer ∷ [])) (key_of o) (Some longer)
    longer-changes = replaced levels at (key_of o) l it.ordered.in_order level-at longer refl

    longer-come : (i : ℕ) → AreLevels (nodes_with nodes (Some l.last) place o i) (levels_with levels at (longer ∷ []))
    longer-come i = come nodes levels (levels_with levels at (longer ∷ [])) it.ordered place o i (Some l.last) longer
        vacant-there.0 vacant-there.1 it.total it.later
        (sym (ap (option_map (λ (m : Level). m.last)) level-found)) longer-changes refl
        (sym (ap (option_map (λ (m : Level). m.first)) level-found))
        (ap (λ n. n + leaves o) (sym (said-is what-is-left levels (key_of o) l level-found)))
        (ap (λ n. n + 1) (sym (said-is how-many levels (key_of o) l level-found)))

    pub join-fits : l.left + leaves o < 2 ^ 64
    join-fits =
        let come = longer-come 0 in
        let fits = total-fits (nodes_with nodes (Some l.last) place o 0) come.bounds (key_of o) in
        let left = come.left (key_of o) in
        let is = said-is what-is-left (levels_with levels at (longer ∷ [])) (key_of o) longer longer-changes.here in
        omega (arith, fits, left, is)

    pub count-fits : l.orders + 1 < 2 ^ 64
    count-fits =
        let few = orders-few (key_of o) nodes in
        let fits = it.ordered.bounds.fits in
        let orders = it.ordered.orders (key_of o) in
        let is = said-is how-many levels (key_of o) l level-found in
        omega (arith, few, fits, orders, is)

    pub joins : (i : ℕ) {nodes' : List Node} {ladders' : Laddered} {left : ℕ}
        → nodes' ≡ nodes_with nodes (Some l.last) place o i → BelongsToHome ladders.fences i o.symbol o.side
        → left ≡ leaves o
        → all ladders' ≡ slice_set levels at (record l { last = place; left = l.left + left; orders = l.orders + 1 })
        → ladders'.fences ≡ ladders.fences → IsIn nodes' ladders'
    joins i {nodes'} {ladders'} nodes_are belongs left_is levels_are fences_are =
        is-in i (Some l.last) nodes' ladders' (levels_with levels at (longer ∷ []))
        (with-seen nodes (Some l.last) place o i join-last vacant-there.0) nodes_are belongs fences_are
        (levels_are
        ∙ ap (λ x. slice_set levels at (record l { last = place; left = l.left + x; orders = l.orders + 1 })) left_is
        ∙ set-with levels at longer level-at.within) (longer-come i)

  -- it isn't: the order opens one
  module _ (no : there ≡ false) where
    abbrev is_none : holds levels at (key_of o) ≡ false
    is_none = it.holds_is ∙ no

    abbrev alone : Level
    alone = record { key = key_of o; first = place; last = place; left = leaves o; orders = 1 }

    no-level : level_of (key_of o) levels ≡ None
    no-level = none-there levels at (key_of o) it.ordered.in_order it.search.before it.search.behind is_none

    pub opens : (i : ℕ) {nodes' : List Node} {ladders' : Laddered} {k : Key} {left : ℕ}
        → nodes' ≡ nodes_with nodes None place o i → BelongsToHome ladders.fences i o.symbol o.side → left ≡ leaves o
        → k ≡ key_of o
        → all ladders' ≡ insert levels at (record { key = k; first = place; last = place; left = left; orders = 1 })
        → ladders'.fences ≡ ladders.fences → IsIn nodes' ladders'
    opens i {nodes'} {ladders'} {left = left} nodes_are belongs left_is k_is levels_are fences_are =
        is-in i None nodes' ladders' (insert levels at alone) (with-seen nodes None place o i tt vacant-there.0)
        nodes_are belongs fences_are
        (levels_are
        ∙ ap (λ (j : Key). insert levels at
        (record { key = j; first = place; last = place; left = left; orders = 1 })) k_is
        ∙ ap (λ x. insert levels at
        (record { key = key_of o; first = place; last = place; left = x; orders = 1 })) left_is)
        (come nodes levels (insert levels at alone) it.ordered place o i None alone vacant-there.0 vacant-there.1
        it.total
        it.later (sym (ap (option_map (λ (m : Level). m.last)) no-level))
        (opened levels at alone it.ordered.in_order it.search.before it.search.behind is_none) refl refl
        (sym (zero-add (leaves o)) ∙ ap (λ x. unwrap_or (option_map (λ (m : Level). m.left) x) 0 + leaves o)
        (sym no-level))
        (ap (λ x. unwrap_or (option_map (λ (m : Level). m.orders) x) 0 + 1) (sym no-level)))

    -- there is room for one more level where there is for one more order
    pub open-room : {room : ℕ} → (length (standing (places_of nodes)) < length nodes) × (length nodes ≤ room)
        → length levels < room
    open-room space = let no_more = few nodes levels it.ordered in omega (arith, no_more, space.0, space.1)
