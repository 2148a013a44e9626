-- Bytes that are handed out of the front of what is held, or sent out of it.
use Rattle.std.proofs.Common.{◌≡◌, ◌≢◌, ℕ, ◌+◌, ◌-◌, ◌<◌, ◌≤◌, inl, inr, List, [], ◌++◌, length, take, drop, min, refl, sym, ap, ◌∙◌, arith, length-append}
use Rattle.std.specs.List.{slice_range}
use Rattle.std.proofs.lemmas.List.{take-append-drop, append_assoc, drop-take, drop-drop}
use Rattle.wires.specs.declared.buffers.TheConstants.{GATHERED, BACKLOG}
use Rattle.wires.specs.declared.wire.TryWrite.{TryWrite}
use Rattle.wires.specs.declared.wire.TryWrite.TheVariants as write
use Rattle.wires.specs.Gatherings.{SendsSome, TakesFirst, Gathers}
use Rattle.wires.specs.Wires.{Told, grown}
use Rattle.wires.proofs.MemWireLemmas.{take-front}
use Rattle.wires.specs.WireLaws.{grown-append}

-- what is copied into a buffer's front, and what is behind it in what is held, are what is held
pub given_first : (held behind : List ℕ) (n : ℕ) → n ≤ length held
    → held ≡ take n (take n held ++ behind) ++ drop n held
given_first held behind n within =
    sym (take-append-drop n held) ∙ ap (λ xs. xs ++ drop n held) (sym (take-front n held behind within))

-- what stands behind the first bytes between two places stands between a later place and the same
pub drop-slice_range : (n i j : ℕ) (xs : List ℕ) → i + n ≤ j → drop n (slice_range xs i j) ≡ slice_range xs (i + n) j
drop-slice_range n i j xs within =
    let all : j - i ≡ n + (j - (i + n)) = omega arith in
    ap (λ k. drop n (take k (drop i xs))) all
    ∙ drop-take n (j - (i + n)) (drop i xs)
    ∙ ap (take (j - (i + n))) (drop-drop n i xs)

-- what was sent before, and what is sent now, were the first bytes that waited
pub sent_more : (waited put left sent waits : List ℕ) (old mid new : Told) →
    waited ≡ put ++ left → mid ≡ record old { took = grown old.took put } → sent ++ waits ≡ left →
    new ≡ record mid { took = grown mid.took sent } →
    (x : List ℕ) × (waited ≡ x ++ waits) × (new ≡ record old { took = grown old.took x })
sent_more waited put left sent waits old mid new split so_far first more = (
  put ++ sent,
  split ∙ ap (λ l. put ++ l) (sym first) ∙ sym (append_assoc put sent waits),
  more ∙ ap (λ (m : Told). record m { took = grown m.took sent }) so_far
      ∙ ap (λ t. record old { took = t }) (grown-append old.took put sent),
)

-- where many waited, the write in front of another one that didn't fail
pub taken_first : (old new : Told) (waited left : List ℕ) (answer : TryWrite) → GATHERED ≤ length waited
    → SendsSome old new waited left answer → ¬ (answer ≡ write.Failed)
    → (sent : List ℕ) × TakesFirst old new waited sent × (sent ++ left ≡ waited)
taken_first old new waited left (write.Put n) many sends passes =
    (sends.0, (λ few. absurd (omega arith), λ it. inl (sends.1, sends.3)), sends.2)
taken_first old new waited left write.Nothing many sends passes =
    ([], (λ few. absurd (omega arith), λ it. inr (refl, sends.1)), sends.0)
taken_first old new waited left write.Failed many sends passes = absurd (passes refl)

-- and behind it as many bytes are put as there is room for
pub put_behind : (old new : Told) (waited left waits bytes : List ℕ) (n : ℕ)
    → length left ≤ BACKLOG → length left ≢ BACKLOG → 0 < length bytes
    → n ≡ min (BACKLOG - length left) (length bytes) → waits ≡ left ++ take n bytes
    → ((sent : List ℕ) × TakesFirst old new waited sent × (sent ++ left ≡ waited))
    → Gathers old new waited waits bytes (write.Put n)
put_behind old new waited left waits bytes n within room some count puts first =
    let sent = first.0 in
    let long : length sent + length left ≡ length waited = sym (length-append sent left) ∙ ap length first.2 in
    let room_is : BACKLOG - length left ≡ BACKLOG + length sent - length waited = omega arith in (
      sent,
      first.1,
      ap (λ w. sent ++ w) puts ∙ sym (append_assoc sent left (take n bytes)) ∙ ap (λ w. w ++ take n bytes) first.2,
      omega arith,
      count ∙ ap (λ r. min r (length bytes)) room_is,
    )
