-- Fields that are listed one by one.
use Rattle.std.proofs.Common.{◌≡◌, ℕ, zero, suc, ◌+◌, ◌-◌, ◌<◌, ◌≤◌, List, [], ◌∷◌, ◌++◌, length, take, drop, map}
use Rattle.std.proofs.Common.{min, set, ◌||◌, ap, sym, ◌∙◌, arith, length-append, slice_range}
use Rattle.std.proofs.lemmas.List.{take-take, take_more_set, map-append, length-drop, length-take, take_all}
use Rattle.std.proofs.lemmas.List.{drop_at, drop-take, append_assoc}
use Rattle.std.proofs.Math.Seq.{take-append_seam}
use Rattle.fix_frame.specs.Grammar.{Field}
use Rattle.edge_frames.specs.Fields.{ended, piece_field}
use Rattle.edge_frames.specs.Faults.{has_tag, is_good}
use Rattle.edge_frames.specs.Lists.{field_at}
use Rattle.edge_frames.specs.Pieces.{SplitsOff}
use Rattle.edge_frames.specs.declared.list.FieldPlace.{FieldPlace}
use Rattle.edge_frames.proofs.PieceLemmas.{shorter}
use Rattle.edge_frames.proofs.BeginLemmas.{drop-drop}

-- the value of a piece where it stands
pub value_there : (text piece : List ℕ) (from skip : ℕ) → skip ≤ length piece → from + length piece ≤ length text →
    take (length piece) (drop from text) ≡ piece →
    slice_range text (from + skip) (from + skip + (length piece - skip)) ≡ drop skip piece
value_there text piece from skip less within there =
    let k : ℕ = length piece - skip in
    let count : from + skip + k - (from + skip) ≡ k = omega arith in
    let all : skip + k ≡ length piece = omega (arith, less) in
    ap (λ m. take m (drop (from + skip) text)) count ∙
    ap (take k) (drop-drop from skip text (omega (arith, within))) ∙ sym (drop-take skip k (drop from text)) ∙
    ap (λ m. drop skip (take m (drop from text))) all ∙ ap (drop skip) there

-- the first piece of a part stands at its front
pub piece_there : (xs piece rest : List ℕ) (k : ℕ) → SplitsOff (take k xs) piece rest →
    (take (length piece) xs ≡ piece) × (length piece + 1 ≤ k) × (length piece + 1 ≤ length xs)
piece_there xs piece rest k s =
    let less = shorter (take k xs) piece rest s in
    let short = length-take k xs in
    let within : length piece ≤ k = omega (arith, less, short) in (
      sym (take-take (length piece) k xs within) ∙ ap (take (length piece)) s.spells ∙
          take-append_seam piece (1 ∷ rest),
      omega (arith, less, short),
      omega (arith, less, short),
    )

-- and the part goes on behind it
pub part_behind : (xs piece rest : List ℕ) (k : ℕ) → SplitsOff (take k xs) piece rest →
    take (k - (length piece + 1)) (drop (length piece + 1) xs) ≡ rest
part_behind xs piece rest k s =
    let m : ℕ = length piece + 1 in
    let there = piece_there xs piece rest k s in
    let all : m + (k - m) ≡ k = omega (arith, there.1) in
    let front : length (piece ++ 1 ∷ []) ≡ m = omega (arith, length-append piece (1 ∷ [])) in
    sym (drop-take m (k - m) xs) ∙ ap (λ j. drop m (take j xs)) all ∙ ap (drop m) s.spells ∙
    ap (drop m) (sym (append_assoc piece (1 ∷ []) rest)) ∙ drop_at (piece ++ 1 ∷ []) rest m front

-- a list without its first i elements, where one stands at its front
first_behind : (xs ys : List (List ℕ)) (x : List ℕ) (i : ℕ) → i ≤ length xs → x ∷ ys ≡ drop i xs →
    (i < length xs) × (take (i + 1) xs ≡ take i xs ++ x ∷ []) × (ys ≡ drop (i + 1) xs)
first_behind [] ys x zero less e = absurd (cc)
first_behind (z ∷ xs) ys x zero less e =
    let same : x ≡ z = cc in
    let others : ys ≡ xs = cc in
    (omega arith, ap (λ k. k ∷ []) (sym same), others)
first_behind [] ys x (suc i) less e = absurd (omega (arith, less))
first_behind (z ∷ xs) ys x (suc i) less e =
    let r = first_behind xs ys x i (omega (arith, less)) e in
    let k : suc i + 1 ≡ suc (i + 1) = omega arith in
    (omega (arith, r.0), rw k (ap (λ l. z ∷ l) r.1), rw k r.2)

-- all fields are listed where none is left
pub all_listed : (count room : ℕ) (all : List (List ℕ)) → count ≤ room → count ≤ length all → drop count all ≡ [] →
    (count ≡ min room (length all)) × (take count all ≡ take room all)
all_listed count room all few some none =
    let last : length all ≤ count = omega (arith, ap length none, length-drop count all) in
    (omega (arith, few, some, last), take_all count all last ∙ sym (take_all room all (omega (arith, few, last))))

-- a field with its tag and its value
abbrev pub field : ℕ → List ℕ → Field
field tag value = record { tag = tag; value = value }

-- one field more is listed
module _ (text : List ℕ) (at from «end» count : ℕ) (piece rest : List ℕ) (places : List FieldPlace) (place : FieldPlace)
    (high : from ≤ «end») (within : «end» ≤ length text)
    (s : SplitsOff (slice_range text from «end») piece rest) where
  abbrev all : List (List ℕ)
  all = ended (slice_range text at «end»)

  pub next_high : from + (length piece + 1) ≤ «end»
  next_high = let there = piece_there (drop from text) piece rest («end» - from) s in omega (arith, high, there.1)

  next_rest : slice_range text (from + (length piece + 1)) «end» ≡ rest
  next_rest =
      let m : ℕ = length piece + 1 in
      let fewer : «end» - (from + m) ≡ «end» - from - m = omega arith in
      ap (λ k. take k (drop (from + m) text)) fewer ∙
      ap (take («end» - from - m)) (drop-drop from m text (omega (arith, high, within))) ∙
      part_behind (drop from text) piece rest («end» - from) s

  module _ (few : count < length places) (some : count ≤ length all)
      (left : ended (slice_range text from «end») ≡ drop count all)
      (listed : map (field_at text) (take count places) ≡ map piece_field (take count all))
      (placed : field_at text place ≡ piece_field piece) where
    pub behind_first : (count < length all) × (take (count + 1) all ≡ take count all ++ piece ∷ []) ×
        (ended rest ≡ drop (count + 1) all)
    behind_first = first_behind all (ended rest) piece count some (sym s.first ∙ left)

    pub next_left : ended (slice_range text (from + (length piece + 1)) «end») ≡ drop (count + 1) all
    next_left = ap ended next_rest ∙ behind_first.2

    pub next_listed : map (field_at text) (take (count + 1) (set places count place)) ≡
        map piece_field (take (count + 1) all)
    next_listed =
        ap (map (field_at text)) (take_more_set places count place few) ∙
        map-append (field_at text) (take count places) (place ∷ []) ∙
        ap (λ k. k ++ field_at text place ∷ []) listed ∙
        ap (λ k. map piece_field (take count all) ++ k ∷ []) placed ∙
        sym (map-append piece_field (take count all) (piece ∷ [])) ∙ ap (map piece_field) (sym behind_first.1)

-- whether a field is among the first of some
pub has_step : (tag room : ℕ) (bytes piece rest : List ℕ) → SplitsOff bytes piece rest → 0 < room →
    has_tag tag (take room (ended bytes)) ≡ (is_good tag piece || has_tag tag (take (room - 1) (ended rest)))
has_step tag zero bytes piece rest s some = absurd (omega (arith, some))
has_step tag (suc k) bytes piece rest s some =
    let e : suc k - 1 ≡ k = omega arith in
    ap (λ ps. has_tag tag (take (suc k) ps)) s.first ∙
    ap (λ j. is_good tag piece || has_tag tag (take j (ended rest))) (sym e)
