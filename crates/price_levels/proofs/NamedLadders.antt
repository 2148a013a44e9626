-- Each order's node names its ladder, as nodes are written.
use Rattle.std.proofs.Common.{◌≡◌, ℕ, zero, suc, List, [], ◌∷◌, Option, Some, None, ap, sym, subst, ◌∙◌}
use Rattle.std.specs.Prelude.{◌≢◌, slice_set, get_or, replicate, MatchOption, ⊤}
use Rattle.venue_model.specs.declared.orders.Order.{Order}
use Rattle.price_levels.specs.declared.keys.Key.{Key}
use Rattle.price_levels.specs.declared.nodes.Node.{Node}
use Rattle.price_levels.specs.declared.ladders.Fence.{Fence}
use Rattle.price_levels.specs.declared.ladders.Rung.{Rung}
use Rattle.price_levels.specs.Arena.{vacant, node_at, order_at, set_next, set_prev, node_behind}
use Rattle.price_levels.specs.Arena.{nodes_with, nodes_without, IsChange}
use Rattle.price_levels.specs.Ladders.{Laddered, BelongsToHome, NamesLadder, NameLadders}
use Rattle.price_levels.proofs.LadderCalls.{all-set}
use Rattle.price_levels.proofs.LadderEnds.{all-alike}
use Rattle.price_levels.proofs.FoundLemmas.{Found, node-read, replaces}

module _ (fences : List Fence) where
  named-at : (nodes : List Node) (p : ℕ) → NameLadders fences nodes → NamesLadder fences (node_at nodes p)
  named-at [] p named = tt
  named-at (n ∷ nodes) zero named = named.0
  named-at (n ∷ nodes) (suc p) named = named-at nodes p named.1

  next-named : (nodes : List Node) (m v : Option ℕ) → NameLadders fences nodes → NameLadders fences (set_next nodes m v)
  next-named nodes None v named = named
  next-named nodes (Some p) v named = all-set (NamesLadder fences) nodes p (record (node_at nodes p) { next = v }) named
      (named-at nodes p named)

  prev-named : (nodes : List Node) (m v : Option ℕ) → NameLadders fences nodes → NameLadders fences (set_prev nodes m v)
  prev-named nodes None v named = named
  prev-named nodes (Some p) v named = all-set (NamesLadder fences) nodes p (record (node_at nodes p) { prev = v }) named
      (named-at nodes p named)

  -- an order comes, leaves or changes
  pub with-named : (nodes : List Node) (last : Option ℕ) (p : ℕ) (o : Order) (i : ℕ) → NameLadders fences nodes
      → BelongsToHome fences i o.symbol o.side → NameLadders fences (nodes_with nodes last p o i)
  with-named nodes last p o i named its = all-set (NamesLadder fences) (set_next nodes last (Some p)) p
      (node_behind last o i) (next-named nodes last (Some p) named) its

  pub without-named : (nodes : List Node) (p : ℕ) (prev next : Option ℕ) → NameLadders fences nodes
      → NameLadders fences (nodes_without nodes p prev next)
  without-named nodes p prev next named =
      let around = set_prev (set_next nodes prev next) next prev in
      all-set (NamesLadder fences) around p (record (node_at around p) { order = None })
      (prev-named (set_next nodes prev next) next prev (next-named nodes prev next named)) tt

  -- the ladder of an order that was read
  its : (nodes : List Node) (p : ℕ) (n : Node) (o : Order) → NameLadders fences nodes → node_at nodes p ≡ n
      → n.order ≡ Some o → BelongsToHome fences n.ladder o.symbol o.side
  its nodes p n o named n_is o_is =
      subst (λ x. MatchOption x ⊤ (λ (y : Order). BelongsToHome fences n.ladder y.symbol y.side)) o_is
      (subst (NamesLadder fences) n_is (named-at nodes p named))

  pub its-ladder : (nodes : List Node) (p : ℕ) (n : Node) (o : Order) → NameLadders fences nodes
      → order_at nodes p ≢ None
      → n ≡ get_or nodes p n → n.order ≡ Some o → BelongsToHome fences n.ladder o.symbol o.side
  its-ladder nodes p n o named some is o_is = its nodes p n o named (node-read nodes p n some is) o_is

  pub none-named : (nodes : List Node) (n : ℕ) → nodes ≡ replicate n vacant → NameLadders fences nodes
  none-named nodes n is = subst (NameLadders fences) (sym is) (all-alike (NamesLadder fences) n vacant tt)

-- an order changes where it was found
pub changed-named : {nodes : List Node} {l : Laddered} {p : ℕ} {n : Node} {o : Order} {r : Rung}
    → Found nodes l p n o r → (y : Order) → IsChange (order_at nodes p) y → NameLadders l.fences nodes
    → NameLadders l.fences (slice_set nodes p (record n { order = Some y }))
changed-named {nodes} {l} {p} {n} {o} it y change named = all-set (NamesLadder l.fences) nodes p
    (record n { order = Some y }) named (subst (λ (k : Key). BelongsToHome l.fences n.ladder k.symbol k.side)
    (sym (replaces it y change).key)
    (its l.fences nodes p n o named it.read (ap (λ (m : Node). m.order) (sym it.read) ∙ it.here)))
