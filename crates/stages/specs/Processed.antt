-- The entries that a stage has done.
use Rattle.std.specs.Prelude.{List, take}
use Rattle.venue_model.specs.History.{Message}
use Rattle.ring_words.specs.declared.view.Person.{Person}

-- the first of those that it knows, as many as its own word says
abbrev pub entries_done : Person → List Message
entries_done p = take p.sequence p.seen
