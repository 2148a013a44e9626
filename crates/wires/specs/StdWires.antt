-- A wire over a reader and a writer: what it tells and holds, and what its calls do to the two.
use Rattle.std.specs.Prelude.{◌≡◌, ℕ, ◌<◌, ◌≤◌, ◌⊎◌, Bool, true, false, List, [], ◌++◌, length, take, Option, None}
use Rattle.std.specs.Io.KnownBytes.{Keeps, Appends, Consumes, IsAtEnd}
use Rattle.std.specs.declared.io.ErrorKind.{ErrorKind}
use Rattle.std.specs.declared.io.ErrorKind.TheVariants.{Interrupted, WouldBlock}
use Rattle.wires.specs.declared.wire.TryRead.{TryRead}
use Rattle.wires.specs.declared.wire.TryRead.TheVariants as read
use Rattle.wires.specs.declared.wire.TryWrite.{TryWrite}
use Rattle.wires.specs.declared.wire.TryWrite.TheVariants as write
use Rattle.wires.specs.declared.standard.StdWire.{StdWire}
use Rattle.wires.specs.Wires.{Told, telling}

-- it tells its counts, and whether it was last told to rest
abbrev pub told_standard : {R W : Type 0} → StdWire R W → Told
told_standard w = telling None None w.counts w.quiet

abbrev pub reader_of : {R W : Type 0} → StdWire R W → R
reader_of w = w.reader

abbrev pub writer_of : {R W : Type 0} → StdWire R W → W
writer_of w = w.writer

-- the bytes that the reader gave, and that were not handed out yet
abbrev pub read_ahead_of : {R W : Type 0} → StdWire R W → List ℕ
read_ahead_of w = w.ahead

-- it was made, or told to rest, since bytes were last read or written: the next read hands out what is held, or asks the
-- reader
abbrev pub rested_of : {R W : Type 0} → StdWire R W → Bool
rested_of w = w.rested

-- an error after which the same call may succeed
abbrev pub IsPassing : ErrorKind → Type 0
IsPassing kind = (kind ≡ Interrupted) ⊎ (kind ≡ WouldBlock)

-- what asking a reader once with this answer does to the bytes that it has left, where those are known; those that it
-- gave are held then
abbrev pub AsksReader : Option (List ℕ) → Option (List ℕ) → List ℕ → TryRead → Type 0
AsksReader old new held (read.Got n) = (0 < length held) × Consumes old new held
AsksReader old new held read.End = (held ≡ []) × IsAtEnd old × IsAtEnd new
AsksReader old new held read.Nothing = (held ≡ []) × Keeps old new
AsksReader old new held read.Failed = (held ≡ []) × Keeps old new

-- what a read into the buffer with this answer does to the bytes held, now those left, and to those that the reader has
-- left, where they are known: it hands out the first bytes of those held and, where none was, of what the reader gives
abbrev pub TakesIn : Option (List ℕ) → Option (List ℕ) → List ℕ → List ℕ → List ℕ → TryRead → Type 0
TakesIn old new held left buf (read.Got n) =
    (more : List ℕ) × (0 < length held → more ≡ []) × (held ++ more ≡ take n buf ++ left) × Consumes old new more
TakesIn old new held left buf read.End = (held ≡ []) × (left ≡ []) × IsAtEnd old × IsAtEnd new
TakesIn old new held left buf read.Nothing = (left ≡ held) × Keeps old new
TakesIn old new held left buf read.Failed = (held ≡ []) × (left ≡ []) × Keeps old new

-- what a write of these bytes with this answer does to the bytes that the writer holds, where those are known; one
-- that failed may have sent a front of them
abbrev pub SendsOut : Option (List ℕ) → Option (List ℕ) → List ℕ → TryWrite → Type 0
SendsOut old new bytes (write.Put n) = Appends old new (take n bytes)
SendsOut old new bytes write.Nothing = Keeps old new
SendsOut old new bytes write.Failed = (n : ℕ) × (n ≤ length bytes) × Appends old new (take n bytes)

-- whether the wire rests before and after a read with this answer: one that doesn't answers Nothing, and no read makes
-- it rest
abbrev pub RestsOnRead : Bool → Bool → TryRead → Type 0
RestsOnRead old new (read.Got n) = (old ≡ true) × (new ≡ false)
RestsOnRead old new read.Nothing = new ≡ old
RestsOnRead old new read.End = (old ≡ true) × (new ≡ true)
RestsOnRead old new read.Failed = (old ≡ true) × (new ≡ true)

-- whether it rests before and after a write with this answer
abbrev pub RestsNot : Bool → Bool → TryWrite → Type 0
RestsNot old new (write.Put n) = new ≡ false
RestsNot old new write.Nothing = new ≡ old
RestsNot old new write.Failed = new ≡ old
