-- The journaller behind the history that the venue was opened with.
use Rattle.std.specs.Prelude.{◌≡◌, ◌≤◌, ◌++◌, length}
use Rattle.venue_model.specs.History.{History}
use Rattle.ring_words.specs.declared.view.Person.{Person}

-- it knows the history at the start, and has kept it
pub record Behind (base : History) (v : Person) : Type 0 where
  pub rest : History
  pub seen : v.seen ≡ base ++ rest
  pub kept : length base ≤ v.sequence
