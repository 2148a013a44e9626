-- What a report of a journal says: which history it is of, and from where on.
use Rattle.std.specs.Prelude.{ℕ, ◌^◌, ◌≤◌, List, Option, length}
use Rattle.std.specs.Io.KnownBytes.{Appends}
use Rattle.venue_model.specs.History.{History}
use Rattle.venue_model.specs.Requests.{Limits}
use Rattle.journal.specs.Format.{HasCut, IsJournal}
use Rattle.replay.specs.declared.job.Subject.{Subject}
use Rattle.replay.specs.declared.job.Subject.TheVariants.{Book, Client}
use Rattle.replay.specs.declared.recovered.Recovered.{Recovered}
use Rattle.replay.specs.Lines.{book_text, client_text}
use Rattle.replay.specs.Recovering.{Recovers, RecoversWhole}

-- One history, of at most 2^48 entries, and the report of the outputs to a client stands behind what `out` held, where that
-- is known. Where the disk is honest, its file is the journal of that history, and market orders are read from the file's
-- cut on.
pub record ReportsClient (honest : Type 0) (file : List ℕ) (limits : Limits) (client : ℕ) (old new : Option (List ℕ)) : Type 0 where
  pub history : History
  pub few : length history ≤ 2 ^ 48
  pub journal : honest → IsJournal file history
  pub cut : ℕ
  pub by_cut : honest → HasCut file cut
  pub printed : Appends old new (client_text (record limits { cut = cut }) history client)

-- The same of the book: what the journal comes to from its newest snapshot on; where all snapshots are true, that is what
-- the whole journal comes to.
pub record ReportsBook (honest : Type 0) (file : List ℕ) (limits : Limits) (old new : Option (List ℕ)) : Type 0 where
  pub recovered : Recovered
  pub recovers : Recovers honest file limits recovered
  pub whole : RecoversWhole honest file limits recovered
  pub printed : Appends old new (book_text recovered)

-- the report of the subject
abbrev pub Reports : Type 0 → List ℕ → Limits → Subject → Option (List ℕ) → Option (List ℕ) → Type 0
Reports honest file limits Book old new = ReportsBook honest file limits old new
Reports honest file limits (Client n) old new = ReportsClient honest file limits n old new
