-- What a wire over a stream tells of a call: the bytes that the stream moved, and what its answer counts.
use Rattle.std.proofs.Common.{◌≡◌, ℕ, zero, suc, Bool, List, Option, Ok, Err, refl, ◌∙◌, arith}
use Rattle.std.specs.IoError.{error_kind}
use Rattle.std.specs.declared.io.Error.{Error}
use Rattle.std.specs.declared.result.Result.{Result}
use Rattle.wires.specs.declared.counts.Counts.{Counts}
use Rattle.wires.specs.declared.wire.TryRead.{TryRead}
use Rattle.wires.specs.declared.wire.TryRead.TheVariants as read
use Rattle.wires.specs.declared.wire.TryWrite.{TryWrite}
use Rattle.wires.specs.declared.wire.TryWrite.TheVariants as write
use Rattle.wires.specs.Counting.{CountsRead, CountsWrite}
use Rattle.wires.specs.StdWires.{IsPassing}
use Rattle.wires.specs.Streams.{MovesBytes}
use Rattle.wires.specs.StreamWires.{MeansRead, MeansWrite}
use Rattle.wires.specs.Wires.{telling, ReadTells, WriteTells}
use Rattle.wires.specs.WireLaws.{grown-nil}

-- a read of the stream, with what its answer means and counts
pub read_moved : (gave gives took takes : Option (List ℕ)) (was is : Counts) (quiet : Bool) (buf : List ℕ)
    (result : Result ℕ Error) (answer : TryRead)
    → MovesBytes gave gives buf result → takes ≡ took → MeansRead result answer → CountsRead was is answer
    → ReadTells (telling gave took was quiet) (telling gives takes is quiet) buf answer
read_moved gave gives took takes was is quiet buf (Ok zero) answer moved same means counted =
    let end = means.0 refl in
    let counts = rw end at counted in
    rw end (counts.0, rw (moved.1 ∙ grown-nil gave, same, counts.1) refl)
read_moved gave gives took takes was is quiet buf (Ok (suc k)) answer moved same means counted =
    let got = means.1 (omega arith) in
    let counts = rw got at counted in
    rw got (omega arith, moved.0, rw (moved.1, same, counts) refl)
read_moved gave gives took takes was is quiet buf (Err error) (read.Got n) moved same means counted =
    let lasts : ¬ IsPassing (error_kind error) = λ passes. let it = means.0 passes in cc in
    absurd (let it = means.1 lasts in cc)
read_moved gave gives took takes was is quiet buf (Err error) read.End moved same means counted =
    let lasts : ¬ IsPassing (error_kind error) = λ passes. let it = means.0 passes in cc in
    absurd (let it = means.1 lasts in cc)
read_moved gave gives took takes was is quiet buf (Err error) read.Nothing moved same means counted =
    (counted.0, rw (moved, same, counted.1) refl)
read_moved gave gives took takes was is quiet buf (Err error) read.Failed moved same means counted =
    (counted.0, rw (moved, same, counted.1) refl)

-- and a write
pub write_moved : (gave gives took takes : Option (List ℕ)) (was is : Counts) (quiet : Bool) (bytes : List ℕ)
    (result : Result ℕ Error) (answer : TryWrite)
    → MovesBytes took takes bytes result → gives ≡ gave → MeansWrite result answer → CountsWrite was is answer
    → WriteTells (telling gave took was quiet) (telling gives takes is quiet) bytes answer
write_moved gave gives took takes was is quiet bytes (Ok zero) answer moved same means counted =
    let failed = means.0 refl in
    let counts = rw failed at counted in
    rw failed (counts.0, rw (moved.1 ∙ grown-nil took, same, counts.1) refl)
write_moved gave gives took takes was is quiet bytes (Ok (suc k)) answer moved same means counted =
    let put = means.1 (omega arith) in
    let counts = rw put at counted in
    rw put (omega arith, moved.0, rw (moved.1, same, counts) refl)
write_moved gave gives took takes was is quiet bytes (Err error) (write.Put n) moved same means counted =
    let lasts : ¬ IsPassing (error_kind error) = λ passes. let it = means.0 passes in cc in
    absurd (let it = means.1 lasts in cc)
write_moved gave gives took takes was is quiet bytes (Err error) write.Nothing moved same means counted =
    (counted.0, rw (moved, same, counted.1) refl)
write_moved gave gives took takes was is quiet bytes (Err error) write.Failed moved same means counted =
    (counted.0, rw (moved, same, counted.1) refl)
