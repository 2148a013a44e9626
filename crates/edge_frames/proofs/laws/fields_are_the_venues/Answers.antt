-- By the lemma of this law.
use Rattle.edge_frames.proofs.VenueLemmas.{printed_fields}
use Rattle.edge_frames.proofs.laws.fields_are_the_venues.Goals as goal

pub returns : goal.returns
returns c = printed_fields
