-- One field at a front, and the fields that a run spells.
use Rattle.std.proofs.Common.{◌≡◌, ℕ, ◌<◌, List, [], ◌∷◌, ◌++◌, length, ap, sym, ◌∙◌, arith}
use Rattle.std.specs.Fmt.{decimal}
use Rattle.std.proofs.lemmas.List.{append_assoc}
use Rattle.fix_frame.specs.Ascii.{soh, equals_sign}
use Rattle.fix_frame.specs.Grammar.{Field, IsField, LacksSoh, field_then}
use Rattle.fix_frame.specs.Cuts.{IsTag, BeginsNoTag, BeginsNoField, BeginsField}
use Rattle.fix_frame.proofs.CutLemmas.{one_cut, lacks_append}
use Rattle.fix_frame.proofs.NumberLemmas.{decimal_lacks}

-- a field without the SOH that ends it
abbrev pub piece_of : Field → List ℕ
piece_of f = decimal f.tag ++ equals_sign ∷ f.value

pub piece_lacks : (f : Field) → IsField f → LacksSoh (piece_of f)
piece_lacks f is =
    lacks_append 1 (decimal f.tag) (61 ∷ f.value) (decimal_lacks 1 f.tag (omega (
      arith,
      is.tag_to,
    )) (λ h. omega (arith, h))) ((λ e. omega (arith, e)), is.ends)

pub field_then-piece : (f : Field) (rest : List ℕ) → field_then f rest ≡ piece_of f ++ soh ∷ rest
unfolding field_then
field_then-piece f rest = sym (append_assoc (decimal f.tag) (61 ∷ f.value) (1 ∷ rest))

-- so one field stands at a front
pub one_field : (f g : Field) (rest more : List ℕ) → IsField f → IsField g → field_then f rest ≡ field_then g more →
    (piece_of f ≡ piece_of g) × (rest ≡ more)
one_field f g rest more is is' e =
    one_cut 1 (piece_of f) (piece_of g) rest more (piece_lacks f is) (piece_lacks g is')
    (sym (field_then-piece f rest) ∙ e ∙ field_then-piece g more)

-- with no tag no field stands at the front
pub no_tag : (bytes : List ℕ) → BeginsNoTag bytes → BeginsNoField bytes
unfolding field_then
no_tag bytes none f rest is e = none f.tag (f.value ++ 1 ∷ rest) (is.tag_from, is.tag_to) e

module _ (bytes behind : List ℕ) (tag : ℕ) (is_tag : IsTag tag) (tagged : bytes ≡ decimal tag ++ 61 ∷ behind) where
  -- what stands behind the tag of a field
  behind_is : (f : Field) (rest : List ℕ) → IsField f → bytes ≡ field_then f rest → behind ≡ f.value ++ 1 ∷ rest
  unfolding field_then
  behind_is f rest is e =
      (one_cut 61 (decimal tag) (decimal f.tag) behind (f.value ++ 1 ∷ rest)
      (decimal_lacks 61 tag (omega (arith, is_tag.1)) (λ h. omega (arith, h)))
      (decimal_lacks 61 f.tag (omega (arith, is.tag_to)) (λ h. omega (arith, h))) (sym tagged ∙ e)).1

  -- with no value none does
  pub no_value : (more : List ℕ) → behind ≡ 1 ∷ more → BeginsNoField bytes
  no_value more at_once f rest is e =
      let none = (one_cut 1 [] f.value more rest tt is.ends (sym at_once ∙ behind_is f rest is e)).0 in
      absurd (omega (arith, is.valued, ap length none))

  -- else one does
  pub a_field : (value rest : List ℕ) → LacksSoh value → behind ≡ value ++ 1 ∷ rest → 0 < length value →
      BeginsField bytes (record { tag = tag; value = value }) rest
  unfolding field_then
  a_field value rest ends ended some = record {
    right = record { tag_from = is_tag.0; tag_to = is_tag.1; valued = some; ends = ends };
    spells = tagged ∙ ap (λ k. decimal tag ++ 61 ∷ k) ended;
  }
