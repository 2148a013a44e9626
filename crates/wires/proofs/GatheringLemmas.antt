-- What a wire that gathers tells of a read: what it hands out of the bytes held ahead.
use Rattle.std.proofs.Common.{◌≡◌, inl, inr, ℕ, ◌≤◌, Bool, true, List, [], ◌++◌, length, take, Option}
use Rattle.std.proofs.Common.{refl, sym, ap, ◌∙◌}
use Rattle.wires.specs.declared.counts.Counts.{Counts}
use Rattle.wires.specs.declared.wire.TryRead.{TryRead}
use Rattle.wires.specs.declared.wire.TryRead.TheVariants as read
use Rattle.wires.specs.Counting.{CountsRead}
use Rattle.wires.specs.Gatherings.{HandsOut, IfGot}
use Rattle.wires.specs.GatheringWires.{Gathering, Holding, HoldsElse, ReadsGathering, holding, told_gathering}
use Rattle.wires.specs.WireLaws.{grown-append, grown-nil, before_last-grown}
use Rattle.wires.specs.Wires.{Told, telling, uncounted, grown, before_last, AreLast, ReadTells}

-- the bytes that the wire below gave are those in front of what was held, those handed out, and those left
handed_out : (old : Option (List ℕ)) (front : Option (List ℕ)) (held more out left : List ℕ) → old ≡ grown front held
    → held ++ more ≡ out ++ left → grown old more ≡ grown (grown front out) left
handed_out old front held more out left was split =
    ap (λ t. grown t more) was ∙ grown-append front held more ∙ ap (grown front) split
    ∙ sym (grown-append front out left)

-- the bytes left are the last that the wire below gave, where those held were
pub still_last : (old new : Told) (held left buf : List ℕ) (answer : TryRead) → HandsOut old new held left buf answer
    → AreLast old.gave held → AreLast new.gave left
still_last old new held left buf (read.Got n) hands last = (
  grown last.0 (take n buf),
  ap (λ (t : Told). t.gave) hands.3 ∙ handed_out old.gave last.0 held hands.0 (take n buf) left last.1 hands.2,
)
still_last old new held left buf read.Nothing hands last =
    (last.0, ap (λ (t : Told). t.gave) hands.2.1 ∙ last.1 ∙ ap (grown last.0) (hands.0 ∙ sym hands.1))
still_last old new held left buf read.End hands last =
    (last.0, ap (λ (t : Told). t.gave) hands.2.1 ∙ last.1 ∙ ap (grown last.0) (hands.0 ∙ sym hands.1))
still_last old new held left buf read.Failed hands last =
    (last.0, ap (λ (t : Told). t.gave) hands.2.1 ∙ last.1 ∙ ap (grown last.0) (hands.0 ∙ sym hands.1))

-- what a read hands out is told behind what was handed out before
pub read_told : (old new : Told) (held left waiting buf : List ℕ) (was is : Counts) (quiet : Bool) (answer : TryRead)
    → HandsOut old new held left buf answer → IfGot answer (λ n. (1 ≤ n) × (n ≤ length buf)) → AreLast old.gave held
    → CountsRead was is answer
    → ReadTells (telling (before_last old.gave held) (grown old.took waiting) was quiet)
    (telling (before_last new.gave left) (grown new.took waiting) is quiet) buf answer
read_told old new held left waiting buf was is quiet (read.Got n) hands some last counted =
    let before : before_last old.gave held ≡ last.0 =
    ap (λ t. before_last t held) last.1 ∙ before_last-grown last.0 held in
    let out = take n buf in
    let gave : before_last (grown old.gave hands.0) left ≡ grown (before_last old.gave held) out =
    ap (λ t. before_last t left) (handed_out old.gave last.0 held hands.0 out left last.1 hands.2)
    ∙ before_last-grown (grown last.0 out) left ∙ ap (λ t. grown t out) (sym before) in
    (some.0, some.1, rw (hands.3, counted, gave) refl)
read_told old new held left waiting buf was is quiet read.Nothing hands some last counted =
    (counted.0, rw (hands.0, hands.1, hands.2.1, counted.1) refl)
read_told old new held left waiting buf was is quiet read.End hands some last counted =
    (counted.0, rw (hands.0, hands.1, hands.2.1, counted.1) refl)
read_told old new held left waiting buf was is quiet read.Failed hands some last counted =
    (counted.0, rw (hands.0, hands.1, hands.2.1, counted.1) refl)

-- what a read tells, which hands out what is held ahead, asks the wire below, or asks nobody
pub reading_told : {W : Type 0} (tells : W → Told) (old new : Gathering W) (is : Counts) (buf : List ℕ)
    (answer : TryRead) → ReadsGathering old.quiet (holding tells old) (holding tells new) buf answer
    → IfGot answer (λ n. (1 ≤ n) × (n ≤ length buf)) → HoldsElse old new → AreLast (tells old.below).gave old.ahead
    → CountsRead new.counts is answer
    → ReadTells (told_gathering tells old) (told_gathering tells (record new { counts = is })) buf answer
reading_told tells old new is buf answer (inl (may, none, same)) some others last counted =
    let below : tells new.below ≡ tells old.below = ap (λ (h : Holding). h.below) same in
    let ahead : new.ahead ≡ old.ahead = ap (λ (h : Holding). h.ahead) same in
    let once : CountsRead old.counts is read.Nothing = rw (none, others.counts) at counted in
    rw (none, below, ahead, others.waiting, others.quiet) (once.0, rw once.1 refl)
reading_told tells old new is buf answer (inr (must, asks)) some others last counted =
    let once : CountsRead old.counts is answer = rw others.counts at counted in
    rw (others.waiting, others.quiet)
    (read_told (tells old.below) (tells new.below) old.ahead new.ahead old.waiting buf old.counts is old.quiet answer
    asks.0 some last once)

-- where nothing is held yet it tells what the wire below tells, and counted nothing
pub fresh_told : (gave took : Option (List ℕ)) (ahead waiting : List ℕ) (counts : Counts) → ahead ≡ [] → waiting ≡ []
    → counts ≡ record { failures = 0; empty_reads = 0; full_writes = 0; ends = 0 }
    → telling (before_last gave ahead) (grown took waiting) counts true ≡ uncounted gave took
fresh_told gave took ahead waiting counts none no_more zero =
    let all : before_last gave [] ≡ gave =
    ap (λ t. before_last t []) (sym (grown-nil gave)) ∙ before_last-grown gave [] in
    rw (none, no_more, zero, all, grown-nil took) refl
