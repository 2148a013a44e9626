-- A wire over a stream that never waits: what it tells, and what the stream's answers mean.
use Rattle.std.specs.Prelude.{◌≡◌, ℕ, ◌<◌, List, Option, Ok, Err}
use Rattle.std.specs.IoError.{error_kind}
use Rattle.std.specs.declared.io.Error.{Error}
use Rattle.std.specs.declared.result.Result.{Result}
use Rattle.wires.specs.declared.stream_wire.StreamWire.{StreamWire}
use Rattle.wires.specs.declared.wire.TryRead.{TryRead}
use Rattle.wires.specs.declared.wire.TryRead.TheVariants as read
use Rattle.wires.specs.declared.wire.TryWrite.{TryWrite}
use Rattle.wires.specs.declared.wire.TryWrite.TheVariants as write
use Rattle.wires.specs.Wires.{Told, telling}
use Rattle.wires.specs.StdWires.{IsPassing}

-- over streams that gave and took these bytes it tells those, its counts, and whether it was last told to rest
abbrev pub told_stream : {S : Type 0} → (S → Option (List ℕ)) → (S → Option (List ℕ)) → StreamWire S → Told
told_stream gave took w = telling (gave w.stream) (took w.stream) w.counts w.quiet

abbrev pub stream_of : {S : Type 0} → StreamWire S → S
stream_of w = w.stream

-- what a stream's answer to a read into a buffer with room means: no bytes are the end, and an error may pass
abbrev pub MeansRead : Result ℕ Error → TryRead → Type 0
MeansRead (Ok n) answer = (n ≡ 0 → answer ≡ read.End) × (0 < n → answer ≡ read.Got n)
MeansRead (Err error) answer =
    (IsPassing (error_kind error) → answer ≡ read.Nothing) × (¬ IsPassing (error_kind error) → answer ≡ read.Failed)

-- and to a write of some bytes: a stream that takes none without an error is as one that failed
abbrev pub MeansWrite : Result ℕ Error → TryWrite → Type 0
MeansWrite (Ok n) answer = (n ≡ 0 → answer ≡ write.Failed) × (0 < n → answer ≡ write.Put n)
MeansWrite (Err error) answer =
    (IsPassing (error_kind error) → answer ≡ write.Nothing) × (¬ IsPassing (error_kind error) → answer ≡ write.Failed)

-- its stream was shut, and nothing else
abbrev pub ShutsStream : {S : Type 0} → (S → S → Type 0) → StreamWire S → StreamWire S → Type 0
ShutsStream was_shut old new = was_shut old.stream new.stream × (new ≡ record old { stream = new.stream })
