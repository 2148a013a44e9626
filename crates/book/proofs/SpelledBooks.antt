-- Bytes that are a snapshot begin with one head, spell one list of orders, and make a book.
use Rattle.std.proofs.Common.{◌≡◌, ℕ, ◌*◌, ◌<◌, ◌≤◌, ◌^◌, List, [], ◌∷◌, ◌++◌, length, take, drop, refl, ap, sym, subst}
use Rattle.std.proofs.Common.{◌∙◌, arith}
use Rattle.std.proofs.Common.{◌-◌, length-append, length-drop, take-append-drop}
use Rattle.std.specs.List.{AllByRecursion, flat_map}
use Rattle.std.proofs.lemmas.List.{take_all, take_at, drop_at}
use Rattle.std.proofs.lemmas.List.Sorted.{IsPermutation-sym, length_permutation}
use Rattle.venue_model.specs.declared.orders.Order.{Order}
use Rattle.venue_model.specs.Requests.{Symbols, State}
use Rattle.book.specs.declared.snapshot.head.Head.{Head}
use Rattle.book.specs.Books.{Belongs, IsBook}
use Rattle.book.specs.Rows.{number_bytes, row_of, row_bytes, orders_bytes}
use Rattle.book.specs.Snapshots.{HasRanges, AreListed, CountsFit, SnapshotOf, head_bytes}
use Rattle.book.specs.Spelled.{bytes_of_head, FitsBytes, SpellsHead, Restores, SpellsNone}
use Rattle.book.specs.Standing.{Rests, Below}
use Rattle.book.proofs.Lists.{each-map}
use Rattle.book.proofs.RestoredOrders.{each-permuted, can-rest}
use Rattle.book.proofs.RowLemmas.{length-number, length-row}
use Rattle.book.proofs.SpelledRows.{same-head}

-- LENGTHS

length-names : (names : List ℕ) → length (flat_map (number_bytes 8) names) ≡ 8 * length names
length-names [] = refl
length-names (n ∷ names) =
    let both = length-append (number_bytes 8 n) (flat_map (number_bytes 8) names) in
    let more = length-names names in
    omega (arith, both, more, length-number 8 n)

pub length-head : (commands told : ℕ) (greatest : List ℕ) (resting : ℕ) → length greatest ≡ 8
    → length (head_bytes commands told greatest resting) ≡ 82
length-head commands told greatest resting clients =
    let names = length-names greatest in
    simp (length-append, length-number) (omega (arith, names, clients))

pub length-rows : (symbols : Symbols) (os : List Order) → length (orders_bytes symbols os) ≡ 47 * length os
length-rows symbols [] = refl
length-rows symbols (o ∷ os) =
    let both = length-append (row_bytes (row_of symbols o)) (orders_bytes symbols os) in
    let row = length-row (row_of symbols o) in
    let more = length-rows symbols os in
    omega (arith, both, row, more)

-- what stands behind a place is all that is left from there
pub behind_it : (n : ℕ) (xs : List ℕ) → take (length xs - n) (drop n xs) ≡ drop n xs
behind_it n xs = take_all (length xs - n) (drop n xs) (omega (arith, length-drop n xs))

-- HEADS

-- numbers that fit one another fit their bytes
pub head-small : (bytes : List ℕ) (h : Head) → SpellsHead bytes h → FitsBytes h
head-small bytes h has =
    let counts = has.fits.counts in
    record {
      commands = omega (arith, counts.counted);
      outputs = omega (arith, counts.counted, counts.outputs);
      clients = has.clients;
      names = each-map (λ n. n ≤ 999999999999999) (λ n. n < 2 ^ 64) (λ n most. omega (arith, most)) h.greatest
          has.fits.names;
      resting = omega (arith, counts.few);
    }

-- whatever numbers the bytes in front spell, they are those that fit
pub head-is : (bytes : List ℕ) (h k : Head) → FitsBytes h → bytes_of_head h ≡ take 82 bytes → SpellsHead bytes k → h ≡ k
head-is bytes h k small spelled has = same-head h k small (head-small bytes k has) (spelled ∙ has.spelled)

module _ {symbols : Symbols} {s : State} {commands told : ℕ} {bytes : List ℕ}
    (is : SnapshotOf symbols s commands told bytes) where
  abbrev pub its_head : Head
  its_head = record { commands = commands; outputs = told; greatest = s.greatest; resting = length is.listed }

  pub has-head : SpellsHead bytes its_head
  has-head =
      let head = head_bytes commands told s.greatest (length is.listed) in
      let whole = ap length is.spelled in
      let both = length-append head (orders_bytes symbols is.listed) in
      let front = length-head commands told s.greatest (length is.listed) is.clients in
      let rows = length-rows symbols is.listed in
      record {
        spelled = ap (take 82) is.spelled ∙ take_at head (orders_bytes symbols is.listed) 82 front;
        clients = is.clients;
        fits = record { counts = is.counts; names = is.names; long = omega (arith, whole, both, front, rows) };
      }

  pub its-rows : drop 82 bytes ≡ orders_bytes symbols is.listed
  its-rows = ap (drop 82) is.spelled
      ∙ drop_at (head_bytes commands told s.greatest (length is.listed)) (orders_bytes symbols is.listed) 82
      (length-head commands told s.greatest (length is.listed) is.clients)

  -- so rows behind such a head that spell none are no snapshot's
  pub spells-some : (h : Head) → SpellsHead bytes h → SpellsNone symbols h.greatest h.commands (drop 82 bytes) → ⊥
  spells-some h has none =
      let same = head-is bytes h its_head (head-small bytes h has) (sym has.spelled) has-head in
      none is.listed (subst (λ (k : Head). AreListed symbols k.greatest k.commands is.listed) (sym same) is.are)
      its-rows

-- BOOKS

module _ {symbols : Symbols} {bytes : List ℕ} {h : Head} {orders : List Order} (has : SpellsHead bytes h)
    (restores : Restores symbols h.greatest h.commands (drop 82 bytes) orders) where
  as-many : length restores.listed ≡ h.resting
  as-many =
      let rows = length-rows symbols restores.listed in
      let whole = ap length (take-append-drop 82 bytes) in
      let both = length-append (take 82 bytes) (drop 82 bytes) in
      let front = ap length has.spelled in
      let head = length-head h.commands h.outputs h.greatest h.resting has.clients in
      let behind = ap length restores.spelled in
      let long = has.fits.long in
      omega (arith, rows, whole, both, front, head, behind, long)

  pub spells : SnapshotOf symbols (record { orders = orders; greatest = h.greatest }) h.commands h.outputs bytes
  spells = record {
    listed = restores.listed;
    same = restores.same;
    spelled = sym (take-append-drop 82 bytes) ∙ ap (λ front. front ++ drop 82 bytes) has.spelled
        ∙ ap (λ rows. bytes_of_head h ++ rows) restores.spelled
        ∙ ap (λ n. head_bytes h.commands h.outputs h.greatest n ++ orders_bytes symbols restores.listed) (sym as-many);
    counts = subst (CountsFit h.commands h.outputs) (sym as-many) has.fits.counts;
    clients = has.clients;
    names = has.fits.names;
    are = restores.are;
  }

  -- what holds of each order in range holds of each of these
  every : (P : Order → Type 0) → ((o : Order) → HasRanges symbols h.greatest h.commands o → P o)
      → AllByRecursion P orders
  every P f = each-permuted P restores.listed orders (IsPermutation-sym orders restores.listed restores.same)
      (each-map (HasRanges symbols h.greatest h.commands) P f restores.listed restores.are.each)

  pub makes-book : IsBook symbols orders h.greatest
  makes-book = record {
    standing = record {
      in_time = restores.in_time;
      each = every Rests (λ o its. can-rest symbols h.greatest h.commands o its);
      few =
          let long = length_permutation orders restores.listed restores.same in
          let many = as-many in
          let few = has.fits.counts.few in
          omega (arith, long, many, few);
    };
    apart = restores.apart;
    each = every (Belongs symbols h.greatest) (λ o its. record {
      from = its.client_from;
      to = its.client_to;
      name = its.accepted;
      symbol = its.symbol;
    });
    clients = has.clients;
  }

  -- the next command comes behind them all
  pub comes-next : Below h.commands orders
  comes-next = every (λ o. o.stamp < h.commands) (λ o its. its.stamp)
