-- Which workers may have work by what another one did, each by its bit.
use Rattle.std.specs.Prelude.{ℕ, ◌+◌, ◌%◌, ◌^◌}
use Rattle.workers.specs.declared.gate.Station.{Station}
use Rattle.workers.specs.declared.gate.Station.TheVariants.{Unmarshaller, Journaller, Processor, Marshaller, Gateway}

-- where its bit is: those of the stages first, then those of the gateways, of which gateway 8 has the first
abbrev pub bit_number : Station → ℕ
bit_number Unmarshaller = 0
bit_number Journaller = 1
bit_number Processor = 2
bit_number Marshaller = 3
bit_number (Gateway k) = 4 + k % 8

-- its bit
abbrev pub own : Station → ℕ
own worker = 2 ^ bit_number worker

-- The bits of those who may have work by what it did: of a gateway, which published, all stages; of unmarshaller and journaller those behind them; of the
-- processor the marshaller, and of that all gateways.
abbrev pub wakes : Station → ℕ
wakes (Gateway k) = 0xF
wakes Unmarshaller = 0xC
wakes Journaller = 0xC
wakes Processor = 8
wakes Marshaller = 0xFF0
