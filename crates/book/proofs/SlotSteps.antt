-- Steps from slot to slot, around the table.
use Rattle.std.proofs.Common.{◌≡◌, ◌+◌, ◌-◌, ◌*◌, ◌%◌, ◌/◌, ◌^◌, ◌<◌, ◌≤◌, ℕ, ap, sym, ◌∙◌, arith}
use Rattle.book.specs.Slots.{home, slot_from, steps_to}

pub home-within : (client name : ℕ) → home client name < 8192
unfolding home
home-within client name =
    let mixed : ℕ = ((name * 8) % 2 ^ 64 + client) % 2 ^ 64 * 0x9E37_79B9_7F4A_7C15 in
    upper mixed
  where
    upper : (x : ℕ) → x % 2 ^ 64 / 2 ^ 51 < 8192
    upper x = omega arith

pub slot-within : (s k : ℕ) → slot_from s k < 8192
unfolding slot_from
slot-within s k = omega arith

pub steps-within : (s t : ℕ) → steps_to s t < 8192
unfolding steps_to
steps-within s t = omega arith

-- so many steps, and then some more
pub slot-add : (s j k : ℕ) → slot_from (slot_from s j) k ≡ slot_from s (j + k)
unfolding slot_from
slot-add s j k = omega arith

-- the steps to a slot lead to it
pub steps-lead : (s t : ℕ) → s < 8192 → t < 8192 → slot_from s (steps_to s t) ≡ t
unfolding slot_from steps_to
steps-lead s t hs ht = omega arith

-- other steps lead to other slots
pub steps-apart : (s j k : ℕ) → j < 8192 → k < 8192 → slot_from s j ≡ slot_from s k → j ≡ k
unfolding slot_from
steps-apart s j k hj hk same = omega arith

pub steps-back : (s k : ℕ) → s < 8192 → k < 8192 → steps_to s (slot_from s k) ≡ k
unfolding slot_from steps_to
steps-back s k hs hk = omega arith

pub no-steps : (s : ℕ) → s < 8192 → slot_from s 0 ≡ s
unfolding slot_from
no-steps s h = omega arith

-- the same number of steps on from one slot
pub same-on : (s j t g k : ℕ) → slot_from s j ≡ slot_from t g → slot_from s (j + k) ≡ slot_from t (g + k)
same-on s j t g k same = sym (slot-add s j k) ∙ ap (λ x. slot_from x k) same ∙ slot-add t g k

-- two ways over two slots are as long between them
pub as-long : (s j d t g i : ℕ) → slot_from s j ≡ slot_from t g → slot_from s d ≡ slot_from t i → j ≤ d → g ≤ i
    → d < 8192 → i < 8192 → d + g ≡ i + j
as-long s j d t g i first last hj hg hd hi =
    let to : slot_from s (j + (d - j)) ≡ slot_from t (g + (d - j)) = same-on s j t g (d - j) first in
    let one : j + (d - j) ≡ d = omega arith in
    let two : slot_from t (g + (d - j)) ≡ slot_from t i = sym to ∙ ap (λ x. slot_from s x) one ∙ last in
    let three : g + (i - g) ≡ i = omega arith in
    let at_gap : slot_from (slot_from t g) (d - j) ≡ slot_from (slot_from t g) (i - g) =
    slot-add t g (d - j) ∙ two ∙ ap (λ x. slot_from t x) (sym three) ∙ sym (slot-add t g (i - g)) in
    let between = steps-apart (slot_from t g) (d - j) (i - g) (omega arith) (omega arith) at_gap in
    omega (arith, between)

-- back by the same number of steps from one slot
pub steps-cancel : (s t k : ℕ) → s < 8192 → t < 8192 → slot_from s k ≡ slot_from t k → s ≡ t
unfolding slot_from
steps-cancel s t k hs ht same = omega arith

-- all the way around
pub around : (s k : ℕ) → slot_from s (8192 + k) ≡ slot_from s k
unfolding slot_from
around s k = omega arith
