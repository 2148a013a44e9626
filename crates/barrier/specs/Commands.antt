-- Which words the reading of one command loads.
use Rattle.std.specs.Prelude.{ℕ, suc, ◌+◌, List, [], ◌∷◌, ◌++◌}
use Rattle.ring_words.specs.declared.view.Load.{Load}
use Rattle.ring_words.specs.declared.view.Person.{Person}
use Rattle.ring_words.specs.Places.{in_row}
use Rattle.ring_words.specs.Seats.{load_of}

-- one load for each of these words of a command, from word i on, in the row of s of a ring of n rows
abbrev pub command_loads : ℕ → ℕ → ℕ → List ℕ → List Load
command_loads n s i [] = []
command_loads n s i (x ∷ xs) = load_of (in_row n s (i + 48)) x ∷ command_loads n s (suc i) xs

-- the person loaded these words, and nothing else changed
abbrev pub after_command : ℕ → Person → ℕ → List ℕ → Person
after_command n v s ws = record v { loads = v.loads ++ command_loads n s 0 ws }
