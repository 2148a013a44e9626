-- Bytes held between a session and the wire below: what moving them does to them, and to what that wire tells.
use Rattle.std.specs.Prelude.{◌≡◌, ◌⊎◌, ℕ, ◌+◌, ◌-◌, ◌<◌, ◌≤◌, List, [], ◌++◌, length, take, min, ⊤}
use Rattle.wires.specs.declared.wire.TryRead.{TryRead}
use Rattle.wires.specs.declared.wire.TryRead.TheVariants as read
use Rattle.wires.specs.declared.wire.TryWrite.{TryWrite}
use Rattle.wires.specs.declared.wire.TryWrite.TheVariants as write
use Rattle.wires.specs.declared.buffers.TheConstants.{GATHERED, BACKLOG}
use Rattle.wires.specs.Wires.{Told, grown, ReadTells, WriteTells}

-- what one read of the wire below with this answer tells, where these bytes are held ahead then, and none were before
abbrev pub ReadsAhead : Told → Told → List ℕ → TryRead → Type 0
ReadsAhead old new held (read.Got n) = (0 < length held) × (new ≡ record old { gave = grown old.gave held })
ReadsAhead old new held read.Nothing = (held ≡ []) × ReadTells old new [] read.Nothing
ReadsAhead old new held read.End = (held ≡ []) × ReadTells old new [] read.End
ReadsAhead old new held read.Failed = (held ≡ []) × ReadTells old new [] read.Failed

-- what a read into the buffer does to the wire below, and to the bytes held ahead, now those left: it hands out the
-- first bytes of these and of what the wire below gives behind them, or it held none and answers as that wire does
abbrev pub HandsOut : Told → Told → List ℕ → List ℕ → List ℕ → TryRead → Type 0
HandsOut old new held left buf (read.Got n) =
    (more : List ℕ) × (0 < length held → more ≡ []) × (held ++ more ≡ take n buf ++ left)
    × (new ≡ record old { gave = grown old.gave more })
HandsOut old new held left buf read.Nothing = (held ≡ []) × (left ≡ []) × ReadTells old new [] read.Nothing
HandsOut old new held left buf read.End = (held ≡ []) × (left ≡ []) × ReadTells old new [] read.End
HandsOut old new held left buf read.Failed = (held ≡ []) × (left ≡ []) × ReadTells old new [] read.Failed

-- what one write of the wire below with this answer does to it, and to the bytes that waited, now those that wait
abbrev pub SendsSome : Told → Told → List ℕ → List ℕ → TryWrite → Type 0
SendsSome old new waited waits (write.Put n) =
    (sent : List ℕ) × (0 < length sent) × (sent ++ waits ≡ waited) × (new ≡ record old { took = grown old.took sent })
SendsSome old new waited waits write.Nothing = (waits ≡ waited) × WriteTells old new [] write.Nothing
SendsSome old new waited waits write.Failed = (waits ≡ waited) × WriteTells old new [] write.Failed

-- what the write of the wire below in front of another one, which is made just where many waited, tells: that wire took
-- these bytes, or none
abbrev pub TakesFirst : Told → Told → List ℕ → List ℕ → Type 0
TakesFirst old new waited sent =
    (length waited < GATHERED → (sent ≡ []) × (new ≡ old))
    × (GATHERED ≤ length waited → ((0 < length sent) × (new ≡ record old { took = grown old.took sent }))
    ⊎ ((sent ≡ []) × WriteTells old new [] write.Nothing))

-- what a write of these bytes does to the wire below, and to the bytes that waited, now those that wait: that wire took
-- the first of them, and the bytes put wait behind the others, all or as many as there is room for; or it failed, or took
-- none where there was no room
abbrev pub Gathers : Told → Told → List ℕ → List ℕ → List ℕ → TryWrite → Type 0
Gathers old new waited waits bytes (write.Put n) =
    (sent : List ℕ) × TakesFirst old new waited sent × (sent ++ waits ≡ waited ++ take n bytes)
    × (1 ≤ n) × (n ≡ min (BACKLOG + length sent - length waited) (length bytes))
Gathers old new waited waits bytes write.Nothing = ⊥
Gathers old new waited waits bytes write.Failed =
    (waits ≡ waited) × (((GATHERED ≤ length waited) × WriteTells old new [] write.Failed)
    ⊎ ((length waited ≡ BACKLOG) × WriteTells old new [] write.Nothing))

-- what holds of the number of bytes that were read
abbrev pub IfGot : TryRead → (ℕ → Type 0) → Type 0
IfGot (read.Got n) P = P n
IfGot read.Nothing P = ⊤
IfGot read.End P = ⊤
IfGot read.Failed P = ⊤
