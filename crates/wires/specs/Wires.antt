-- What a wire tells of itself, and what each of its calls tells. It may keep its bytes to itself, but not its counts.
use Rattle.std.specs.Prelude.{◌≡◌, ℕ, Bool, true, ◌-◌, ◌≤◌, List, ◌++◌, length, take, Option, Some, None}
use Rattle.venue_model.specs.Counts.{Rose}
use Rattle.wires.specs.declared.counts.Counts.{Counts}
use Rattle.wires.specs.declared.counts.Nothings.{Nothings}
use Rattle.wires.specs.declared.wire.TryRead.{TryRead}
use Rattle.wires.specs.declared.wire.TryRead.TheVariants as read
use Rattle.wires.specs.declared.wire.TryWrite.{TryWrite}
use Rattle.wires.specs.declared.wire.TryWrite.TheVariants as write

-- the bytes that it gave and took, each None where it tells none; the calls that failed; the reads and the writes
-- that answered Nothing; the reads that answered End; and whether it was last told to rest
pub record Told : Type 0 where
  pub gave : Option (List ℕ)
  pub took : Option (List ℕ)
  pub failures : ℕ
  pub empty_reads : ℕ
  pub full_writes : ℕ
  pub ends : ℕ
  pub quiet : Bool

-- of these bytes, counts, and whether it was last told to rest
abbrev pub telling : Option (List ℕ) → Option (List ℕ) → Counts → Bool → Told
telling gave took counts quiet = record {
  gave = gave;
  took = took;
  failures = counts.failures;
  empty_reads = counts.empty_reads;
  full_writes = counts.full_writes;
  ends = counts.ends;
  quiet = quiet;
}

-- before its first call, where it tells these bytes
abbrev pub uncounted : Option (List ℕ) → Option (List ℕ) → Told
uncounted gave took =
    telling gave took (record { failures = 0; empty_reads = 0; full_writes = 0; ends = 0 }) true

-- the reads and the writes that answered Nothing
abbrev pub nothings_of : Told → Nothings
nothings_of t = record { reads = t.empty_reads; writes = t.full_writes }

-- what is told of some bytes, and then of more
abbrev pub grown : Option (List ℕ) → List ℕ → Option (List ℕ)
grown None more = None
grown (Some bytes) more = Some (bytes ++ more)

-- what is told of some bytes, but for these, which are the last
abbrev pub before_last : Option (List ℕ) → List ℕ → Option (List ℕ)
before_last None last = None
before_last (Some bytes) last = Some (take (length bytes - length last) bytes)

-- these are the last of the bytes that are told, where any are
abbrev pub AreLast : Option (List ℕ) → List ℕ → Type 0
AreLast told last = (front : Option (List ℕ)) × (told ≡ grown front last)

-- what a read with this answer tells, where the buffer now holds `buf`
abbrev pub ReadTells : Told → Told → List ℕ → TryRead → Type 0
ReadTells old new buf (read.Got n) =
    (1 ≤ n) × (n ≤ length buf) × (new ≡ record old { gave = grown old.gave (take n buf) })
ReadTells old new buf read.Nothing =
    Rose old.empty_reads new.empty_reads × (new ≡ record old { empty_reads = new.empty_reads })
ReadTells old new buf read.End = Rose old.ends new.ends × (new ≡ record old { ends = new.ends })
ReadTells old new buf read.Failed =
    Rose old.failures new.failures × (new ≡ record old { failures = new.failures })

-- what a write of these bytes with this answer tells
abbrev pub WriteTells : Told → Told → List ℕ → TryWrite → Type 0
WriteTells old new bytes (write.Put n) =
    (1 ≤ n) × (n ≤ length bytes) × (new ≡ record old { took = grown old.took (take n bytes) })
WriteTells old new bytes write.Nothing =
    Rose old.full_writes new.full_writes × (new ≡ record old { full_writes = new.full_writes })
WriteTells old new bytes write.Failed =
    Rose old.failures new.failures × (new ≡ record old { failures = new.failures })
