-- The wire sends nothing more, as the caller knows.
use Rattle.venue.proofs.leaving.Leaving.shut.Goals as goal

pub shut-requires : goal.shut-requires
shut-requires g c = record { all = c.requires.all }
