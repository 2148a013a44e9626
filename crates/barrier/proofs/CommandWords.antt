-- The words of one command, loaded one after another.
use Rattle.std.proofs.Common.{◌≡◌, ℕ, suc, ◌+◌, ◌<◌, ◌≤◌, List, [], ◌∷◌, ◌++◌, length, take, set, ap, sym, ◌∙◌, arith}
use Rattle.std.proofs.Common.{append_assoc}
use Rattle.std.proofs.Math.Seq.{take-length}
use Rattle.std.proofs.lemmas.List.{take_more, take_more_set, take-take, length-take-le}
use mathlib.Core.Option.{some}
use lib.ListN.{get_elem?}
use Rattle.venue_model.specs.History.{Message}
use Rattle.venue_model.specs.ListLaws.{read_at}
use Rattle.ring_words.specs.declared.view.Load.{Load}
use Rattle.ring_words.specs.Places.{in_row}
use Rattle.ring_words.specs.Seats.{load_of, looked}
use Rattle.ring_words.specs.At.{At, Steps, seated}
use Rattle.barrier.specs.Commands.{command_loads, after_command}

-- one load more, of the word behind these
one_load_more : (n s k i x : ℕ) (ws : List ℕ) → i ≡ k + length ws
    → command_loads n s k (ws ++ x ∷ []) ≡ command_loads n s k ws ++ load_of (in_row n s (i + 48)) x ∷ []
one_load_more n s k i x [] is = ap (λ (j : ℕ). load_of (in_row n s (j + 48)) x ∷ []) (let g : k ≡ i = omega arith in g)
one_load_more n s k i x (w ∷ ws) is =
    ap (λ (ls : List Load). load_of (in_row n s (k + 48)) w ∷ ls) (one_load_more n s (suc k) i x ws (omega arith))

-- the first words agree, and one word more does
pub agree_more : (words ws : List ℕ) (i x y : ℕ) → take i words ≡ take i ws → i < length words → i < length ws
    → get_elem? ws i ≡ some y → x ≡ y → take (i + 1) (set words i x) ≡ take (i + 1) ws
agree_more words ws i x y same within below there is =
    take_more_set words i x within
    ∙ ap (λ (l : List ℕ). l ++ x ∷ []) same
    ∙ ap (λ (a : ℕ). take i ws ++ a ∷ []) (is ∙ read_at ws i y there)
    ∙ sym (take_more ws i 0 below)

-- where at least as many words agree as the command has, they begin with the command's
pub agree_whole : (words ws : List ℕ) (i count : ℕ) → take i words ≡ take i ws → count ≤ i → count ≡ length ws
    → take count words ≡ ws
agree_whole words ws i count same ended all =
    sym (take-take count i words ended)
    ∙ ap (take count) same
    ∙ take-take count i ws ended
    ∙ ap (λ (j : ℕ). take j ws) all
    ∙ take-length ws

module _ {L : Type 0} (n : ℕ) (v u w : At L) (s : ℕ) where
  -- one word more is loaded
  pub loads_more : (words : List ℕ) (i x : ℕ) → u ≡ seated v (after_command n v.who s (take i words)) → i < length words
      → Steps u (looked u.who (in_row n s (i + 48)) x) w → w
      ≡ seated v (after_command n v.who s (take (i + 1) (set words i x)))
  loads_more words i x so_far within step =
      let ws = take i words in
      let long : i ≡ 0 + length ws = let is = length-take-le i words (omega arith) in
      omega arith in
      rw so_far at step
      ∙ ap (λ (ls : List Load). seated v (record v.who { loads = ls }))
      (append_assoc v.who.loads (command_loads n s 0 ws) _
      ∙ ap (λ (ls : List Load). v.who.loads ++ ls)
      (sym (one_load_more n s 0 i x ws long) ∙ ap (command_loads n s 0) (sym (take_more_set words i x within))))

module _ {L : Type 0} (n : ℕ) (v u : At L) (s : ℕ) (ws : List ℕ) (so_far : u ≡ seated v (after_command n v.who s ws))
  where
    pub seen_stays : (e : Message) → get_elem? v.who.seen s ≡ some e → get_elem? u.who.seen s ≡ some e
    seen_stays e at = ap (λ (y : At L). get_elem? y.who.seen s) so_far ∙ at
