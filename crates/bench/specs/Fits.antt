-- What is known of the chosen commands before they are done.
use Rattle.std.specs.Prelude.{ℕ, ◌≤◌}
use Rattle.venue_model.specs.declared.commands.Command.{Command}
use Rattle.venue_model.specs.Step.{IsCommand}

-- the client is 1 to 8, and the command's numbers are in the ranges of what is read out of messages
abbrev pub Fits : ℕ × Command → Type 0
Fits asked = (1 ≤ asked.0) × (asked.0 ≤ 8) × IsCommand asked.1
