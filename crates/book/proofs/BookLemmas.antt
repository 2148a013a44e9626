-- What stands in the book stands in it after each thing that a request may do.
use Rattle.std.proofs.Common.{◌≡◌, ℕ, suc, ◌+◌, ◌-◌, ◌<◌, ◌≤◌, Bool, true, false, ◌&&◌, not, nat_eq, List, [], ◌∷◌}
use Rattle.std.proofs.Common.{◌++◌, length, map, refl, ap, subst, ◌∙◌, arith, append-nil, zero, length-set}
use Rattle.std.specs.Prelude.{filter, if◌then◌else◌, slice_index, slice_set}
use Rattle.std.specs.List.{AllByRecursion}
use Rattle.std.proofs.lemmas.Bool.{eqb-true}
use Rattle.std.proofs.lemmas.Bool.Decides.{nat_tests}
use Rattle.venue_model.specs.declared.orders.Order.{Order}
use Rattle.venue_model.specs.declared.commands.TimeInForce.{TimeInForce}
use Rattle.venue_model.specs.declared.commands.TimeInForce.TheVariants.{Day, ImmediateOrCancel, FillOrKill}
use Rattle.venue_model.specs.Orders.{leaves, is_live, crosses}
use Rattle.venue_model.specs.Match.{crossing, after_fill, settled, rest, done, matched, can_fill}
use Rattle.venue_model.specs.Requests.{Symbols, is_named}
use Rattle.book.specs.Standing.{IsBookList}
use Rattle.book.specs.Books.{NamedApart, Belongs, IsBook, NoneNamed}
use Rattle.book.proofs.Lists.{each-append, each-map, each-filter, length-without}
use Rattle.book.proofs.StandingLemmas.{standing-filter}
use Rattle.book.proofs.NameLemmas.{IsAmong, others-are}

-- a change of an order that keeps whose it is, its name and its symbol
record Keeps (f : Order → Order) : Type 0 where
  client : (o : Order) → (f o).client ≡ o.client
  name : (o : Order) → (f o).cl_ord_id ≡ o.cl_ord_id
  symbol : (o : Order) → (f o).symbol ≡ o.symbol

-- a fill keeps them
settled-keeps : (i : Order) (queue : List Order) → Keeps (settled i queue)
settled-keeps i queue = record {
  client = λ o. elim (crosses i o) as (λ b. (if b then after_fill (leaves i) queue o else o).client ≡ o.client)
      [ true ↦ refl | false ↦ refl ];
  name = λ o. elim (crosses i o) as (λ b. (if b then after_fill (leaves i) queue o else o).cl_ord_id ≡ o.cl_ord_id)
      [ true ↦ refl | false ↦ refl ];
  symbol = λ o. elim (crosses i o) as (λ b. (if b then after_fill (leaves i) queue o else o).symbol ≡ o.symbol)
      [ true ↦ refl | false ↦ refl ];
}

-- none of a name, changed so and sifted
none-map : (f : Order → Order) → Keeps f → (client name : ℕ) (os : List Order) → NoneNamed client name os
    → NoneNamed client name (map f os)
none-map f keeps client name [] none = tt
none-map f keeps client name (o ∷ os) none =
    (rw (keeps.client o, keeps.name o) none.0, none-map f keeps client name os none.1)

-- those that a match leaves have the names that they had
pub none-rest : (i : Order) (client name : ℕ) (os : List Order) → NoneNamed client name os
    → NoneNamed client name (rest i os)
none-rest i client name os none = each-filter (λ x. is_named client name x ≡ false) is_live
    (map (settled i (crossing i os)) os)
    (none-map (settled i (crossing i os)) (settled-keeps i (crossing i os)) client name os none)

apart-map : (f : Order → Order) → Keeps f → (os : List Order) → NamedApart os → NamedApart (map f os)
apart-map f keeps [] apart = tt
apart-map f keeps (o ∷ os) apart =
    (rw (keeps.client o, keeps.name o) (none-map f keeps o.client o.cl_ord_id os apart.0), apart-map f keeps os apart.1)

pub apart-filter : (p : Order → Bool) (os : List Order) → NamedApart os → NamedApart (filter p os)
apart-filter p [] apart = tt
apart-filter p (o ∷ os) apart = elim (p o) as (λ b. NamedApart (if b then o ∷ filter p os else filter p os)) [
  | true ↦ (each-filter (λ x. is_named o.client o.cl_ord_id x ≡ false) p os apart.0, apart-filter p os apart.1)
  | false ↦ apart-filter p os apart.1
]

pub not-mutual : (o x : Order) → is_named o.client o.cl_ord_id x ≡ false → is_named x.client x.cl_ord_id o ≡ false
not-mutual o x h = grind (arith, nat_tests)

apart-push : (xs : List Order) (o : Order) → NoneNamed o.client o.cl_ord_id xs → NamedApart xs
    → NamedApart (xs ++ o ∷ [])
apart-push [] o none apart = (tt, tt)
apart-push (x ∷ xs) o none apart = (
  each-append (λ y. is_named x.client x.cl_ord_id y ≡ false) xs (o ∷ []) apart.0 (not-mutual o x none.0, tt),
  apart-push xs o none.1 apart.1,
)

different : (a b : ℕ) → a < b → nat_eq a b ≡ false
different a b h = grind (arith, nat_tests)

module _ (symbols : Symbols) (greatest : List ℕ) where
  belongs-same : (o x : Order) → x.client ≡ o.client → x.cl_ord_id ≡ o.cl_ord_id → x.symbol ≡ o.symbol
      → Belongs symbols greatest o → Belongs symbols greatest x
  belongs-same o x client name symbol b = record {
    from = rw client b.from;
    to = rw client b.to;
    name = rw (client, name) b.name;
    symbol = rw symbol b.symbol;
  }

  belongs-map : (f : Order → Order) → Keeps f → (os : List Order) → AllByRecursion (Belongs symbols greatest) os
      → AllByRecursion (Belongs symbols greatest) (map f os)
  belongs-map f keeps [] all = tt
  belongs-map f keeps (o ∷ os) all =
      (belongs-same o (f o) (keeps.client o) (keeps.name o) (keeps.symbol o) all.0, belongs-map f keeps os all.1)

  module _ (i : Order) (os : List Order) (book : IsBook symbols os greatest) (belongs : Belongs symbols greatest i)
      (fresh : NoneNamed i.client i.cl_ord_id os) where
    rest-apart : NamedApart (rest i os)
    rest-apart = apart-filter is_live (map (settled i (crossing i os)) os)
        (apart-map (settled i (crossing i os)) (settled-keeps i (crossing i os)) os book.apart)

    rest-belongs : AllByRecursion (Belongs symbols greatest) (rest i os)
    rest-belongs = each-filter (Belongs symbols greatest) is_live (map (settled i (crossing i os)) os)
        (belongs-map (settled i (crossing i os)) (settled-keeps i (crossing i os)) os book.each)

    matched-apart : (t : TimeInForce) → NamedApart (matched t i os)
    matched-apart Day = elim (is_live (done i os)) as (λ b. NamedApart
        (rest i os ++ (if b then done i os ∷ [] else []))) [
          | true ↦ apart-push (rest i os) (done i os) (none-rest i i.client i.cl_ord_id os fresh) rest-apart
          | false ↦
              rw append-nil rest-apart
        ]
    matched-apart ImmediateOrCancel = rest-apart
    matched-apart FillOrKill = elim (can_fill i os) as (λ b. NamedApart (if b then rest i os else os))
        [ true ↦ rest-apart | false ↦ book.apart ]

    matched-belongs : (t : TimeInForce) → AllByRecursion (Belongs symbols greatest) (matched t i os)
    matched-belongs Day = elim (is_live (done i os)) as (λ b. AllByRecursion (Belongs symbols greatest)
        (rest i os ++ (if b then done i os ∷ [] else []))) [
          | true ↦ each-append (Belongs symbols greatest) (rest i os) (done i os ∷ []) rest-belongs
              (belongs-same i (done i os) refl refl refl belongs, tt)
          | false ↦ rw append-nil rest-belongs
        ]
    matched-belongs ImmediateOrCancel = rest-belongs
    matched-belongs FillOrKill = elim (can_fill i os) as (λ b. AllByRecursion (Belongs symbols greatest)
        (if b then rest i os else os)) [ true ↦ rest-belongs | false ↦ book.each ]

    -- an order came in
    pub book-entered : (t : TimeInForce) → IsBookList (matched t i os) → IsBook symbols (matched t i os) greatest
    book-entered t standing = record {
      standing = standing;
      apart = matched-apart t;
      each = matched-belongs t;
      clients = book.clients;
    }

  -- a name above the client's greatest is no resting order's
  fresh-one : (client n : ℕ) (o : Order) → slice_index greatest (client - 1) < n → Belongs symbols greatest o
      → is_named client n o ≡ false
  fresh-one client n o above b = elim (nat_eq o.client client) as (λ t. nat_eq o.client client ≡ t
      → (t && nat_eq o.cl_ord_id n) ≡ false) [
        | true ↦ λ h. let mine : o.client ≡ client = eqb-true o.client client h in
            let name = subst (λ k. o.cl_ord_id ≤ slice_index greatest (k - 1)) mine b.name in
            different o.cl_ord_id n (omega (arith, name, above))
        | false ↦ λ h. refl
      ] refl

  pub book-fresh : (client n : ℕ) (os : List Order) → slice_index greatest (client - 1) < n
      → AllByRecursion (Belongs symbols greatest) os → NoneNamed client n os
  book-fresh client n os above all = each-map (Belongs symbols greatest) (λ o. is_named client n o ≡ false)
      (λ o b. fresh-one client n o above b) os all

-- a greater ClOrdID in one place leaves none smaller
grows : (greatest : List ℕ) (k j n : ℕ) → slice_index greatest k < n
    → slice_index greatest j ≤ slice_index (slice_set greatest k n) j
grows [] k j n above = omega arith
grows (x ∷ greatest) zero zero n above = omega (arith, above)
grows (x ∷ greatest) zero (suc j) n above = omega arith
grows (x ∷ greatest) (suc k) zero n above = omega arith
grows (x ∷ greatest) (suc k) (suc j) n above = grows greatest k j n above

-- a ClOrdID was accepted
pub book-accepted : (symbols : Symbols) (os : List Order) (greatest : List ℕ) (k n : ℕ) → slice_index greatest k < n →
    IsBook symbols os greatest → IsBook symbols os (slice_set greatest k n)
book-accepted symbols os greatest k n above book = record {
  standing = book.standing;
  apart = book.apart;
  each = each-map (Belongs symbols greatest) (Belongs symbols (slice_set greatest k n)) (λ o b. record {
    from = b.from;
    to = b.to;
    name = let more = grows greatest k (o.client - 1) n above in let name = b.name in omega (arith, more, name);
    symbol = b.symbol;
  }) os book.each;
  clients = length-set greatest k n ∙ book.clients;
}

-- some of the orders
pub book-some : (symbols : Symbols) (greatest : List ℕ) (p : Order → Bool) (os : List Order)
    → IsBook symbols os greatest → IsBook symbols (filter p os) greatest
book-some symbols greatest p os book = record {
  standing = standing-filter p os book.standing;
  apart = apart-filter p os book.apart;
  each = each-filter (Belongs symbols greatest) p os book.each;
  clients = book.clients;
}

-- all but the one of a name
pub one-less : (client name : ℕ) (os : List Order) (o : Order) → IsAmong client name os o →
    length (filter (λ x. not (is_named client name x)) os) + 1 ≡ length os
one-less client name os o its =
    let less = ap (length {A = Order}) (others-are client name os o its) in
    let one = length-without its.before its.behind o in
    let all = ap (length {A = Order}) its.split in
    omega (arith, less, one, all)
