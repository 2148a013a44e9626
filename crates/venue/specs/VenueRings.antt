-- The venue's rings: who sits at them at the start.
use Rattle.std.specs.Prelude.{◌≡◌, ℕ}
use Rattle.venue_model.specs.Requests.{Limits}
use Rattle.ring_words.specs.At.{Opened, At, at}
use Rattle.ring_words.specs.Rule.{newcomer}
use Rattle.ring_words.specs.declared.view.Role.TheVariants.{Gateway}

-- The seat is that of gateway k of these rings, which knows just the history that they were opened with, and has
-- counted its outputs.
abbrev pub IsNew : Opened Limits → ℕ → At Limits → Type 0
IsNew rings k seat = seat ≡ at rings (newcomer (Gateway k) rings.base rings.base_outputs)

-- that of gateway 1
abbrev pub IsFirstSeat : Opened Limits → At Limits → Type 0
IsFirstSeat rings = IsNew rings 1
