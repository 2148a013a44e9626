-- How long a client has kept its gateway waiting.
use Rattle.std.specs.Prelude.{ℕ, Option, Some, None}

-- since when, where it does so now: since then, if it was known to, and else since now
abbrev pub begun_at : Option ℕ → ℕ → ℕ
begun_at None now = now
begun_at (Some since) now = since
