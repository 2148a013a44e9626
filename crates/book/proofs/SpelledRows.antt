-- Bytes spell one head, one row and one order each.
use Rattle.std.proofs.Common.{◌≡◌, ℕ, ◌+◌, ◌*◌, ◌<◌, ◌≤◌, ◌^◌, true, false, List, [], ◌∷◌, ◌++◌, length, take, drop}
use Rattle.std.proofs.Common.{get_or}
use Rattle.std.proofs.Common.{refl, ap, sym, ◌∙◌, arith, append_assoc, length-append}
use Rattle.std.specs.Int.{from_be_bytes, w16, w32, w64}
use Rattle.std.specs.List.{AllByRecursion, flat_map, list_any}
use Rattle.std.specs.Str.{bytes_eq}
use Rattle.std.proofs.lemmas.List.{take_at, drop_at}
use Rattle.std.proofs.lemmas.Nat.{from_be_bytes-to_be_bytes_2, from_be_bytes-to_be_bytes_4, from_be_bytes-to_be_bytes_8}
use Rattle.std.proofs.lemmas.Slice.Eq.{bytes_eq-Decides}
use Rattle.venue_model.specs.declared.orders.Order.{Order}
use Rattle.venue_model.specs.declared.orders.Side.{Side}
use Rattle.venue_model.specs.declared.orders.Side.TheVariants.{Buy, Sell}
use Rattle.venue_model.specs.Requests.{Symbols}
use Rattle.venue_model.specs.Spelling.{AreSymbols}
use Rattle.book.specs.declared.snapshot.head.Head.{Head}
use Rattle.book.specs.declared.snapshot.row.Row.{Row}
use Rattle.book.specs.Next.{symbol_number, side_order, group_of}
use Rattle.book.specs.Rows.{number_bytes, side_byte, row_of, row_bytes, orders_bytes}
use Rattle.book.specs.Snapshots.{HasRanges, head_bytes}
use Rattle.book.specs.Spelled.{FitsBytes, FitsRow}
use Rattle.book.proofs.GroupLemmas.{of-test, number-below, group-own}
use Rattle.book.proofs.RowLemmas.{length-number, length-row}

-- two lists with fronts of one length have the same fronts and the same rests
pub same-parts : (a b x y : List ℕ) → length a ≡ length b → a ++ x ≡ b ++ y → (a ≡ b) × (x ≡ y)
same-parts a b x y long e = (
  sym (take_at a x (length b) long) ∙ ap (take (length b)) e ∙ take_at b y (length b) refl,
  sym (drop_at a x (length b) long) ∙ ap (drop (length b)) e ∙ drop_at b y (length b) refl,
)

-- NUMBERS

pub same-eight : (n m : ℕ) → n < 2 ^ 64 → m < 2 ^ 64 → number_bytes 8 n ≡ number_bytes 8 m → n ≡ m
unfolding number_bytes
same-eight n m small less e = sym (from_be_bytes-to_be_bytes_8 n small) ∙ ap (from_be_bytes w64) e
    ∙ from_be_bytes-to_be_bytes_8 m less

same-four : (n m : ℕ) → n < 2 ^ 32 → m < 2 ^ 32 → number_bytes 4 n ≡ number_bytes 4 m → n ≡ m
unfolding number_bytes
same-four n m small less e = sym (from_be_bytes-to_be_bytes_4 n small) ∙ ap (from_be_bytes w32) e
    ∙ from_be_bytes-to_be_bytes_4 m less

same-two : (n m : ℕ) → n < 2 ^ 16 → m < 2 ^ 16 → number_bytes 2 n ≡ number_bytes 2 m → n ≡ m
unfolding number_bytes
same-two n m small less e = sym (from_be_bytes-to_be_bytes_2 n small) ∙ ap (from_be_bytes w16) e
    ∙ from_be_bytes-to_be_bytes_2 m less

same-one : (n m : ℕ) → n < 2 ^ 8 → m < 2 ^ 8 → number_bytes 1 n ≡ number_bytes 1 m → n ≡ m
unfolding number_bytes
same-one n m small less e = let byte = ap (λ (l : List ℕ). get_or l 0 0) e in omega arith

-- the last number of some bytes, and the bytes before it
pub last-number : (count : ℕ) (a b : List ℕ) (n m : ℕ) → (number_bytes count n ≡ number_bytes count m → n ≡ m)
    → a ++ number_bytes count n ≡ b ++ number_bytes count m → (a ≡ b) × (n ≡ m)
last-number count a b n m one e =
    let whole = ap length e in
    let first = length-append a (number_bytes count n) in
    let second = length-append b (number_bytes count m) in
    let parts = same-parts a b (number_bytes count n) (number_bytes count m)
    (omega (arith, whole, first, second, length-number count n, length-number count m)) e in
    (parts.0, one parts.1)

-- ROWS

pub same-row : (r s : Row) → FitsRow r → FitsRow s → row_bytes r ≡ row_bytes s → r ≡ s
unfolding row_bytes
same-row r s f g e =
    let stamp = last-number 8 _ _ r.stamp s.stamp (same-eight r.stamp s.stamp f.stamp g.stamp) e in
    let notional = last-number 8 _ _ r.notional s.notional (same-eight r.notional s.notional f.notional g.notional)
    stamp.0 in
    let cum = last-number 4 _ _ r.cum s.cum (same-four r.cum s.cum f.cum g.cum) notional.0 in
    let total = last-number 4 _ _ r.total s.total (same-four r.total s.total f.total g.total) cum.0 in
    let price = last-number 4 _ _ r.price s.price (same-four r.price s.price f.price g.price) total.0 in
    let side = last-number 1 _ _ r.side s.side (same-one r.side s.side f.side g.side) price.0 in
    let symbol = last-number 1 _ _ r.symbol s.symbol (same-one r.symbol s.symbol f.symbol g.symbol) side.0 in
    let name = last-number 8 _ _ r.cl_ord_id s.cl_ord_id (same-eight r.cl_ord_id s.cl_ord_id f.cl_ord_id g.cl_ord_id)
    symbol.0 in
    let client = last-number 1 _ _ r.client s.client (same-one r.client s.client f.client g.client) name.0 in
    let id = same-eight r.id s.id f.id g.id client.0 in
    λ i. record {
      id = id i;
      client = client.1 i;
      cl_ord_id = name.1 i;
      symbol = symbol.1 i;
      side = side.1 i;
      price = price.1 i;
      total = total.1 i;
      cum = cum.1 i;
      notional = notional.1 i;
      stamp = stamp.1 i;
    }

-- HEADS

same-names : (xs ys : List ℕ) → length xs ≡ length ys → AllByRecursion (λ n. n < 2 ^ 64) xs
    → AllByRecursion (λ n. n < 2 ^ 64) ys
    → flat_map (number_bytes 8) xs ≡ flat_map (number_bytes 8) ys → xs ≡ ys
same-names [] [] long small less e = refl
same-names [] (y ∷ ys) long small less e = absurd (omega (arith, long))
same-names (x ∷ xs) [] long small less e = absurd (omega (arith, long))
same-names (x ∷ xs) (y ∷ ys) long small less e =
    let parts = same-parts (number_bytes 8 x) (number_bytes 8 y) (flat_map (number_bytes 8) xs)
    (flat_map (number_bytes 8) ys)
    (length-number 8 x ∙ sym (length-number 8 y)) e in
    let first = same-eight x y small.0 less.0 parts.0 in
    let rest = same-names xs ys (omega (arith, long)) small.1 less.1 parts.1 in
    λ i. first i ∷ rest i

pub same-head : (h k : Head) → FitsBytes h → FitsBytes k
    → head_bytes h.commands h.outputs h.greatest h.resting ≡ head_bytes k.commands k.outputs k.greatest k.resting
    → h ≡ k
same-head h k f g e =
    let resting = last-number 2 _ _ h.resting k.resting (same-two h.resting k.resting f.resting g.resting) e in
    let counts = same-parts (number_bytes 8 h.commands ++ number_bytes 8 h.outputs)
    (number_bytes 8 k.commands ++ number_bytes 8 k.outputs)
    (flat_map (number_bytes 8) h.greatest) (flat_map (number_bytes 8) k.greatest)
    (simp (length-append, length-number)) resting.0 in
    let greatest = same-names h.greatest k.greatest (f.clients ∙ sym g.clients) f.names g.names counts.1 in
    let outputs = last-number 8 _ _ h.outputs k.outputs (same-eight h.outputs k.outputs f.outputs g.outputs) counts.0 in
    let commands = same-eight h.commands k.commands f.commands g.commands outputs.0 in
    λ i. record { commands = commands i; outputs = outputs.1 i; greatest = greatest i; resting = resting.1 i }

-- ORDERS

side-small : (side : Side) → side_byte side < 2 ^ 8
side-small Buy = omega arith
side-small Sell = omega arith

pub same-side : (a b : Side) → side_byte a ≡ side_byte b → a ≡ b
same-side Buy Buy e = refl
same-side Sell Sell e = refl
same-side Buy Sell e = absurd (omega (arith, e))
same-side Sell Buy e = absurd (omega (arith, e))

module _ (symbols : Symbols) (table : AreSymbols symbols) where
  -- one symbol of the table and one side have a row each
  pub same-order : (o x : Order) → list_any (bytes_eq o.symbol) symbols ≡ true → o.is_market ≡ false
      → x.is_market ≡ false
      → row_of symbols o ≡ row_of symbols x → o ≡ x
  same-order o x known limit its e =
      let side = same-side o.side x.side (ap (λ (r : Row). r.side) e) in
      let number : symbol_number symbols x.symbol ≡ symbol_number symbols o.symbol =
      ap (λ (r : Row). r.symbol) (sym e) in
      let group : group_of symbols x ≡ group_of symbols o = ap (λ n. 2 * n + side_order x.side) number
      ∙ ap (λ (t : Side). 2 * symbol_number symbols o.symbol + side_order t) (sym side) in
      let of = of-test o.symbol o.side x ((group-own symbols table.differ o known).only x group) in
      let symbol : x.symbol ≡ o.symbol = (bytes_eq-Decides x.symbol o.symbol).0 of.symbol in
      λ i. record {
        id = ap (λ (r : Row). r.id) e i;
        client = ap (λ (r : Row). r.client) e i;
        cl_ord_id = ap (λ (r : Row). r.cl_ord_id) e i;
        symbol = sym symbol i;
        side = side i;
        is_market = (limit ∙ sym its) i;
        price = ap (λ (r : Row). r.price) e i;
        total = ap (λ (r : Row). r.total) e i;
        cum = ap (λ (r : Row). r.cum) e i;
        notional = ap (λ (r : Row). r.notional) e i;
        stamp = ap (λ (r : Row). r.stamp) e i;
      }

module _ (symbols : Symbols) (greatest : List ℕ) (commands : ℕ) (table : AreSymbols symbols)
    (few : commands ≤ 2 ^ 48) where
  pub row-fits : (o : Order) → HasRanges symbols greatest commands o → FitsRow (row_of symbols o)
  row-fits o has =
      let number = number-below symbols o.symbol has.symbol in
      record {
        id = omega (arith, has.id_to, few);
        client = omega (arith, has.client_to);
        cl_ord_id = omega (arith, has.name.1);
        symbol = omega (arith, number, table.most);
        side = side-small o.side;
        price = omega (arith, has.price.1);
        total = omega (arith, has.total.1);
        cum = omega (arith, has.live, has.total.1);
        notional = omega (arith, has.notional, has.live, has.total.1);
        stamp = omega (arith, has.stamp, few);
      }

  -- A list whose orders are in range is spelled by bytes that begin with the rows of others: it begins with these
  -- others, and goes on with an order of the row that follows.
  pub record GoesOn (listed all : List Order) (r : Row) : Type 0 where
    pub order : Order
    pub behind : List Order
    pub split : all ≡ listed ++ order ∷ behind
    pub row : row_of symbols order ≡ r

  pub goes_on : (listed all : List Order) (r : Row) (rest : List ℕ)
      → AllByRecursion (HasRanges symbols greatest commands) listed
      → AllByRecursion (HasRanges symbols greatest commands) all → FitsRow r
      → orders_bytes symbols listed ++ (row_bytes r ++ rest) ≡ orders_bytes symbols all → GoesOn listed all r
  goes_on [] [] r rest each every fits e =
      let long = ap length e in
      let both = length-append (row_bytes r) rest in
      let row = length-row r in
      absurd (omega (arith, long, both, row))
  goes_on [] (o ∷ os) r rest each every fits e =
      let parts = same-parts (row_bytes r) (row_bytes (row_of symbols o)) rest (orders_bytes symbols os)
      (length-row r ∙ sym (length-row (row_of symbols o))) e in
      record {
        order = o;
        behind = os;
        split = refl;
        row = sym (same-row r (row_of symbols o) fits (row-fits o every.0) parts.0);
      }
  goes_on (x ∷ xs) [] r rest each every fits e =
      let long = ap length e in
      let both = length-append (row_bytes (row_of symbols x) ++ orders_bytes symbols xs) (row_bytes r ++ rest) in
      let front = length-append (row_bytes (row_of symbols x)) (orders_bytes symbols xs) in
      let row = length-row (row_of symbols x) in
      absurd (omega (arith, long, both, front, row))
  goes_on (x ∷ xs) (o ∷ os) r rest each every fits e =
      let parts = same-parts (row_bytes (row_of symbols x)) (row_bytes (row_of symbols o))
      (orders_bytes symbols xs ++ (row_bytes r ++ rest)) (orders_bytes symbols os)
      (length-row (row_of symbols x) ∙ sym (length-row (row_of symbols o)))
      (sym (append_assoc (row_bytes (row_of symbols x)) (orders_bytes symbols xs) (row_bytes r ++ rest)) ∙ e) in
      let first : x ≡ o = same-order symbols table x o each.0.symbol each.0.limit every.0.limit
      (same-row (row_of symbols x) (row_of symbols o) (row-fits x each.0) (row-fits o every.0) parts.0) in
      let more = goes_on xs os r rest each.1 every.1 fits parts.1 in
      record {
        order = more.order;
        behind = more.behind;
        split = λ i. (sym first) i ∷ more.split i;
        row = more.row;
      }
