-- Levels and index keep the orders, as one comes and as one leaves.
use Rattle.std.proofs.Common.{◌≡◌, ◌+◌, ◌-◌, ◌<◌, ℕ, zero, suc, Bool, true, false, List, [], ◌∷◌, length, refl}
use Rattle.std.proofs.Common.{ap, sym, subst, ◌∙◌, inl, inr, Option, Some, None, arith, length-append, length-set}
use Rattle.std.proofs.Common.{replicate, get_or-set_same, get_or-set_other}
use Rattle.std.proofs.lemmas.Bool.Decides.{nat_tests}
use Rattle.std.specs.Prelude.{◌≢◌, slice_set, if◌then◌else◌}
use Rattle.std.proofs.lemmas.List.{length-replicate}
use Rattle.venue_model.specs.declared.orders.Order.{Order}
use Rattle.venue_model.specs.Requests.{is_named, most_resting}
use Rattle.price_levels.specs.Places.{Places, at, StandsAt, standing}
use Rattle.price_levels.specs.Stamps.{by_stamp, Comes}
use Rattle.price_levels.specs.StampLaws.{comes, at-set, each-stands, length-listed}
use Rattle.book.specs.declared.order_index.slots.IndexEntry.{IndexEntry}
use Rattle.book.specs.IndexNames.{PlaceOf, place_of, with_name, without_name, same_name}
use Rattle.book.specs.Standing.{Rests, NoneNamed}
use Rattle.book.specs.Keeping.{HasName, AreKept}
use Rattle.book.proofs.NamedLists.{same-names, indexed-as, Sits, sits}
use Rattle.book.proofs.Middles.{some-same}

-- what is kept, and the orders as contracts see them
pub record Shown (places : Places) (entries : List IndexEntry) (count : ℕ) (view : List Order) : Type 0 where
  pub kept : AreKept places entries count
  pub list : by_stamp places ≡ view

same-itself : (c n : ℕ) → same_name c n c n ≡ true
same-itself c n = grind (arith, nat_tests)

pub same-test : (c n x y : ℕ) → x ≡ c → y ≡ n → same_name c n x y ≡ true
same-test c n x y h k = grind (arith, nat_tests)

its-name : (o : Order) (c n : ℕ) → same_name o.client o.cl_ord_id c n ≡ true → is_named c n o ≡ true
its-name o c n h = grind (arith, nat_tests)

pub at-here : (places : Places) (p : ℕ) (v : Option Order) → p < length places → at (slice_set places p v) p ≡ v
at-here places p v within = get_or-set_same places p v None within

pub at-there : (places : Places) (p q : ℕ) (v : Option Order) → q ≢ p → at (slice_set places p v) q ≡ at places q
at-there places p q v other = get_or-set_other places p q v None other

-- an order in the place of another
pub as-many : (places : Places) (p : ℕ) (o y : Order) → StandsAt places p o
    → length (standing (slice_set places p (Some y))) ≡ length (standing places)
as-many [] p o y stands = refl
as-many (None ∷ places) zero o y stands = absurd (let e : None ≡ Some o = stands in cc)
as-many (Some x ∷ places) zero o y stands = refl
as-many (None ∷ places) (suc p) o y stands = as-many places p o y stands
as-many (Some x ∷ places) (suc p) o y stands = ap suc (as-many places p o y stands)

-- nothing stands
pub nothing-listed : (k : ℕ) → by_stamp (replicate k None) ≡ []
nothing-listed zero = refl
nothing-listed (suc k) = nothing-listed k

nothing-at : (k p : ℕ) (o : Order) → StandsAt (replicate k None) p o → ⊥
nothing-at zero p o is = let e : None ≡ Some o = is in cc
nothing-at (suc k) zero o is = let e : None ≡ Some o = is in cc
nothing-at (suc k) (suc p) o is = nothing-at k p o is

pub kept-nothing : (k : ℕ) → k ≡ most_resting → AreKept (replicate k None) [] 0
kept-nothing k is =
    let none = sym (length-listed (replicate k None)) ∙ ap length (nothing-listed k) in
    record {
      size = length-replicate k None ∙ is;
      each = λ p o stands. absurd (nothing-at k p o stands);
      indexed = record {
        named = λ p o stands. absurd (nothing-at k p o stands);
        stands = λ c n p there. let e : None ≡ Some p =
            there in absurd (cc);
      };
      counted = sym none;
      as_many = sym none;
    }

-- an order comes to a free place
module _ (places : Places) (entries new : List IndexEntry) (count : ℕ) (kept : AreKept places entries count) (p : ℕ)
    (o : Order)
    (within : p < length places) (free : at places p ≡ None) (rests : Rests o)
    (fresh : NoneNamed o.client o.cl_ord_id (by_stamp places))
    (places_are : place_of new ≡ with_name o.client o.cl_ord_id p (place_of entries))
    (entries_are : length new ≡ length entries + 1) where
  other : (q : ℕ) (x : Order) → StandsAt places q x → q ≢ p
  other q x stands same = let there : at places p ≡ Some x = ap (at places) (sym same) ∙ stands in cc

  by_name : (c n : ℕ) → place_of new c n ≡ (if same_name o.client o.cl_ord_id c n then Some p else place_of entries c n)
  by_name c n = ap (λ (f : PlaceOf). f c n) places_are

  one-more : length (standing (slice_set places p (Some o))) ≡ length (standing places) + 1
  one-more =
      let all = length-listed (slice_set places p (Some o)) in
      let before = length-listed places in
      let it : Comes o (by_stamp places) (by_stamp (slice_set places p (Some o))) = comes places p o within free in
      let old = ap length it.split in
      let new = ap length it.put in
      let apart = length-append it.before it.behind in
      let around = length-append it.before (o ∷ it.behind) in
      omega (arith, all, before, old, new, apart, around)

  pub kept-insert : AreKept (slice_set places p (Some o)) new (count + 1)
  kept-insert =
      record {
        size = length-set places p (Some o) ∙ kept.size;
        each = λ q x stands. elim (at-set places p q (Some o) x stands) [
          | inl here ↦ subst Rests (some-same here.1) rests
          | inr there ↦ kept.each q x there.1
        ];
        indexed = record {
          named = λ q x stands. elim (at-set places p q (Some o) x stands) [
            | inl here ↦
                let one = some-same here.1 in
                let itself = same-itself o.client o.cl_ord_id in
                subst (λ (y : Order). place_of new y.client y.cl_ord_id ≡ Some q) one
                (by_name o.client o.cl_ord_id ∙ ap (λ b. if b then Some p else place_of entries o.client o.cl_ord_id)
                itself ∙ ap
                (λ k. Some k) (sym here.0))
            | inr there ↦
                let differs = each-stands (λ y. is_named o.client o.cl_ord_id y ≡ false) places fresh q x there.1 in
                by_name x.client x.cl_ord_id ∙ ap (λ b. if b then Some p else place_of entries x.client x.cl_ord_id)
                differs
                ∙ kept.indexed.named q x there.1
          ];
          stands = λ c n q is. by_test c n q (same_name o.client o.cl_ord_id c n) refl (sym (by_name c n) ∙ is);
        };
        counted = ap (λ k. k + 1) kept.counted ∙ sym one-more;
        as_many = entries_are ∙ ap (λ k. k + 1) kept.as_many ∙ sym one-more;
      }
    where
      by_test : (c n q : ℕ) (b : Bool) → same_name o.client o.cl_ord_id c n ≡ b
          → (if b then Some p else place_of entries c n) ≡ Some q
          → HasName (slice_set places p (Some o)) c n q
      by_test c n q true same is =
          let here : p ≡ q = some-same is in
          subst (λ k. HasName (slice_set places p (Some o)) c n k) here
          (record { order = o; stands = at-here places p (Some o) within; is_it = its-name o c n same })
      by_test c n q false same is =
          let there = kept.indexed.stands c n q is in
          record {
            order = there.order;
            stands = at-there places p q (Some o) (other q there.order there.stands)
                ∙ there.stands;
            is_it = there.is_it;
          }

-- an order leaves its place
module _ (places : Places) (entries new : List IndexEntry) (count : ℕ) (kept : AreKept places entries count) (c n p : ℕ)
    (is : place_of entries c n ≡ Some p)
    (places_are : place_of new ≡ without_name c n (place_of entries)) (entries_are : length new + 1 ≡ length entries)
  where
    its : Sits places entries c n p
    its = sits places entries count kept c n p is

    left_name : (x y : ℕ) → place_of new x y ≡ (if same_name c n x y then None else place_of entries x y)
    left_name x y = ap (λ (f : PlaceOf). f x y) places_are

    pub fewer : length (standing (slice_set places p None)) + 1 ≡ length (standing places)
    fewer =
        let all = length-listed (slice_set places p None) in
        let before = length-listed places in
        let one = ap (λ (os : List Order). length os) its.seat.without in
        let two = ap (λ (os : List Order). length os) its.seat.split in
        let three = length-append its.seat.before its.seat.behind in
        let four = length-append its.seat.before (its.order ∷ its.seat.behind) in
        omega (arith, all, before, one, two, three, four)

    pub kept-leave : AreKept (slice_set places p None) new (count - 1)
    kept-leave =
        let less = fewer in
        record {
          size = length-set places p None ∙ kept.size;
          each = λ q x stands. elim (at-set places p q None x stands) [
            | inl here ↦ absurd (let e : None ≡ Some x = here.1 in cc)
            | inr there ↦ kept.each q x there.1
          ];
          indexed = record {
            named = λ q x stands. elim (at-set places p q None x stands) [
              | inl here ↦ absurd (let e : None ≡ Some x = here.1 in cc)
              | inr there ↦ other_name q x there.0 there.1 (same_name c n x.client x.cl_ord_id) refl
            ];
            stands = λ x y q has. by_test x y q (same_name c n x y) refl (sym (left_name x y) ∙ has);
          };
          counted = omega (arith, less, kept.counted);
          as_many = omega (arith, less, kept.as_many, entries_are);
        }
      where
        other_name : (q : ℕ) (x : Order) → q ≢ p → StandsAt places q x → (b : Bool)
            → same_name c n x.client x.cl_ord_id ≡ b
            → place_of new x.client x.cl_ord_id ≡ Some q
        other_name q x other stands true same = absurd (other (some-same
            (sym (indexed-as places entries kept.indexed c n q x stands same) ∙ is)))
        other_name q x other stands false same =
            left_name x.client x.cl_ord_id ∙ ap (λ b. if b then None else place_of entries x.client x.cl_ord_id) same
            ∙ kept.indexed.named q x stands

        by_test : (x y q : ℕ) (b : Bool) → same_name c n x y ≡ b → (if b then None else place_of entries x y) ≡ Some q
            → HasName (slice_set places p None) x y q
        by_test x y q true same has = absurd (let e : None ≡ Some q = has in cc)
        by_test x y q false same has =
            let there = kept.indexed.stands x y q has in
            let other : q ≢ p = λ here.
            let one : there.order ≡ its.order = some-same (sym there.stands ∙ (ap (at places) here ∙ its.stands)) in
            let a = same-names x y its.order (subst (λ o. is_named x y o ≡ true) one there.is_it) in
            let b = same-names c n its.order its.is_it in
            let yes : same_name c n x y ≡ true = same-test c n x y (sym a.0 ∙ b.0) (sym a.1 ∙ b.1) in
            cc in
            record { order = there.order; stands = at-there places p q None other ∙ there.stands; is_it = there.is_it }
