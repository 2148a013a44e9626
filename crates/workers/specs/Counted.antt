-- What a machine that counts its pauses has counted.
use Rattle.std.specs.Prelude.{ℕ, ◌+◌, ◌-◌, ◌^◌, min}
use Rattle.workers.specs.declared.counted.CountedPauses.{CountedPauses}
use Rattle.workers.specs.declared.rest.Pause.{Pause}
use Rattle.workers.specs.declared.rest.Pause.TheVariants.{Wake, Rouse, Spin, Snooze, Nap, Doze, Park}

-- a count stays at 2^64 - 1
abbrev pub plus : ℕ → ℕ → ℕ
plus count more = min (count + more) (2 ^ 64 - 1)

-- one pause more
abbrev pub counted : CountedPauses → Pause → CountedPauses
counted c Wake = record c { wakes = plus c.wakes 1 }
counted c Rouse = record c { rouses = plus c.rouses 1 }
counted c Spin = record c { spins = plus c.spins 1 }
counted c Snooze = record c { snoozes = plus c.snoozes 1; now = plus c.now c.away }
counted c (Nap micros) = record c { naps = plus c.naps 1; slept = plus c.slept micros }
counted c Doze = record c { dozes = plus c.dozes 1 }
counted c (Park millis) = record c { parks = plus c.parks 1 }
