-- What names that follow a script show and count.
use Rattle.std.specs.Prelude.{◌≡◌, ◌⊎◌, ◌+◌, ◌-◌, ◌^◌, min, [], ◌∷◌, ◌++◌}
use Rattle.venue.specs.declared.stop.Look.{Look}
use Rattle.venue.specs.declared.stop.Look.TheVariants.{Failed}
use Rattle.venue.specs.declared.scripted.ScriptedNames.{ScriptedNames}

-- the script's next look, which is its last one, or where it is at its end a look that fails
abbrev pub ShowsNext : Look → ScriptedNames → ScriptedNames → Type 0
ShowsNext look old new = (new.removed ≡ old.removed) × ((old.script.items ≡ new.script.items ++ look ∷ [])
    ⊎ ((look ≡ Failed) × (old.script.items ≡ []) × (new.script.items ≡ [])))

-- one file more was removed
abbrev pub Removes : ScriptedNames → ScriptedNames → Type 0
Removes old new = (new.script ≡ old.script) × (new.removed ≡ min (old.removed + 1) (2 ^ 64 - 1))
