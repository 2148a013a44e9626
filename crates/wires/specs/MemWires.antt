-- A wire in memory: what it holds, what it tells, and what its calls answer.
use Rattle.std.specs.Prelude.{◌≡◌, ℕ, Bool, true, List}
use Rattle.std.specs.declared.io.Error.{Error}
use Rattle.std.specs.declared.result.Result.{Result}
use Rattle.wires.specs.declared.counts.Counts.{Counts}
use Rattle.wires.specs.declared.wire.TryRead.{TryRead}
use Rattle.wires.specs.declared.wire.TryWrite.{TryWrite}
use Rattle.wires.specs.Counting.{CountsRead, CountsWrite}
use Rattle.wires.specs.MemStreams.{MemoryStream, new_stream, gave_of, took_of, GivesBytes, TakesBytes, IsShut}
use Rattle.wires.specs.StreamWires.{MeansRead, MeansWrite}
use Rattle.wires.specs.Wires.{Told, telling}

-- its stream, its counts, and whether it was last told to rest
pub record Memory : Type 0 where
  pub stream : MemoryStream
  pub counts : Counts
  pub quiet : Bool

-- as it is made: nothing moved yet, its input comes whole and then ends, and all bytes are taken
abbrev pub new_memory : List ℕ → Memory
new_memory input = record {
  stream = new_stream input;
  counts = record { failures = 0; empty_reads = 0; full_writes = 0; ends = 0 };
  quiet = true;
}

-- it tells all that it gave and took
abbrev pub told_memory : Memory → Told
told_memory m = telling (gave_of m.stream) (took_of m.stream) m.counts m.quiet

-- what a read into so much space does: the stream gives bytes, and the answer is what its own means
abbrev pub ReadsMemory : Memory → Memory → ℕ → TryRead → Type 0
ReadsMemory old new space answer =
    (read : Result ℕ Error) × GivesBytes old.stream new.stream space read × MeansRead read answer
    × CountsRead old.counts new.counts answer × (new.quiet ≡ old.quiet)

-- what a write does: the stream takes bytes, and the answer is what its own means
abbrev pub WritesMemory : Memory → Memory → List ℕ → TryWrite → Type 0
WritesMemory old new bytes answer =
    (written : Result ℕ Error) × TakesBytes old.stream new.stream bytes written × MeansWrite written answer
    × CountsWrite old.counts new.counts answer × (new.quiet ≡ old.quiet)

-- its stream was shut, and nothing else
abbrev pub ShutsMemory : Memory → Memory → Type 0
ShutsMemory old new = IsShut old.stream new.stream × (new ≡ record old { stream = new.stream })
