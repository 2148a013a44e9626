-- The watch over a venue that listens: when it says that all workers have begun, and why it ends.
use Rattle.std.specs.Prelude.{◌≡◌, ℕ, zero, suc, ◌-◌, ◌^◌, ◌<◌, Bool, true, false}
use Rattle.workers.specs.declared.rest.Pause.{Pause}
use Rattle.workers.specs.declared.rest.Pause.TheVariants.{Nap}
use Rattle.venue.specs.declared.stop.Look.{Look}
use Rattle.venue.specs.declared.stop.Look.TheVariants.{There}
use Rattle.venue.specs.declared.watch.WatchEnd.{WatchEnd}
use Rattle.venue.specs.declared.watch.WatchEnd.TheVariants.{Told, Seen, LookedAll}
use Rattle.venue.specs.Stopping.{LooksForStop}

-- what the signals answered: that all workers have begun, that one hasn't, that all are to end
pub record Heard : Type 1 where
  pub begun : Type 0
  pub awaited : Type 0
  pub told : Type 0

abbrev pub signals_say : Type 0 → Type 0 → Type 0 → Heard
signals_say begun awaited told = record { begun = begun; awaited = awaited; told = told }

-- the sign to stop, and the machine on which the watch waits
pub record Watch (S P : Type 0) : Type 0 where
  pub sign : S
  pub pauses : P

abbrev pub watch_of : {S P : Type 0} → S → P → Watch S P
watch_of sign pauses = record { sign = sign; pauses = pauses }

module _ {P : Type 0} (paused : Pause → P → P → Type 0) where
  -- so many naps of 5 milliseconds, one behind the other, and nothing else
  abbrev pub Naps : ℕ → P → P → Type 0
  Naps zero old new = new ≡ old
  Naps (suc k) old new = (mid : P) × Naps k old mid × paused (Nap 5000) mid new

  -- all workers had begun behind fewer than 2,000 naps; or one hadn't, and so many naps were waited for it
  abbrev pub AwaitsWorkers : Heard → Bool → P → P → Type 0
  AwaitsWorkers heard true old new = heard.begun × ((k : ℕ) × (k < 2000) × Naps k old new)
  AwaitsWorkers heard false old new = heard.awaited × ((k : ℕ) × (k ≡ 2000) × Naps k old new)

  module _ {S : Type 0} (looked : Look → S → S → Type 0) where
    -- so many looks that saw no sign, with a nap behind each
    abbrev pub LooksInVain : ℕ → Watch S P → Watch S P → Type 0
    LooksInVain zero old new = new ≡ old
    LooksInVain (suc k) old new = (mid : Watch S P) × LooksInVain k old mid × LooksForStop looked false mid.sign new.sign
        × paused (Nap 5000) mid.pauses new.pauses

    -- Why it ended: the signals said stop; a look saw the sign; or it had looked 2^64 - 1 times.
    abbrev pub EndsWatch : Type 0 → WatchEnd → Watch S P → Watch S P → Type 0
    EndsWatch told Told old new = told × ((k : ℕ) × LooksInVain k old new)
    EndsWatch told Seen old new = (k : ℕ) × (mid : Watch S P) × LooksInVain k old mid × looked There mid.sign new.sign
        × (new.pauses ≡ mid.pauses)
    EndsWatch told LookedAll old new = (k : ℕ) × (k ≡ 2 ^ 64 - 1) × LooksInVain k old new

    -- it says whether all workers have begun; where they have, it goes on until it ends so, and where not it never
    -- looks for the sign
    abbrev pub Watches : Heard → Bool → Watch S P → Watch S P → Type 0
    Watches heard true old new = (mid : P) × AwaitsWorkers heard true old.pauses mid
        × ((why : WatchEnd) × EndsWatch heard.told why (watch_of old.sign mid) new)
    Watches heard false old new = AwaitsWorkers heard false old.pauses new.pauses × (new.sign ≡ old.sign)

    -- so it did on some such machine
    abbrev pub HasWatched : Heard → Bool → S → S → Type 0
    HasWatched heard ready old new = (p : P) × (q : P) × Watches heard ready (watch_of old p) (watch_of new q)
