-- What the answers of a wire add to its counts.
use Rattle.std.specs.Prelude.{◌≡◌}
use Rattle.venue_model.specs.Counts.{Rose}
use Rattle.wires.specs.declared.counts.Counts.{Counts}
use Rattle.wires.specs.declared.counts.Nothings.{Nothings}
use Rattle.wires.specs.declared.wire.TryRead.{TryRead}
use Rattle.wires.specs.declared.wire.TryRead.TheVariants as read
use Rattle.wires.specs.declared.wire.TryWrite.{TryWrite}
use Rattle.wires.specs.declared.wire.TryWrite.TheVariants as write

-- the reads and the writes that answered Nothing
abbrev pub nothings_in : Counts → Nothings
nothings_in c = record { reads = c.empty_reads; writes = c.full_writes }

-- a read that answered so is counted
abbrev pub CountsRead : Counts → Counts → TryRead → Type 0
CountsRead old new (read.Got n) = new ≡ old
CountsRead old new read.Nothing =
    Rose old.empty_reads new.empty_reads × (new ≡ record old { empty_reads = new.empty_reads })
CountsRead old new read.End = Rose old.ends new.ends × (new ≡ record old { ends = new.ends })
CountsRead old new read.Failed = Rose old.failures new.failures × (new ≡ record old { failures = new.failures })

-- a write that answered so is counted
abbrev pub CountsWrite : Counts → Counts → TryWrite → Type 0
CountsWrite old new (write.Put n) = new ≡ old
CountsWrite old new write.Nothing =
    Rose old.full_writes new.full_writes × (new ≡ record old { full_writes = new.full_writes })
CountsWrite old new write.Failed = Rose old.failures new.failures × (new ≡ record old { failures = new.failures })
