-- What becomes of a framer while a frame is borrowed from it.
use Rattle.std.specs.Prelude.{◌≡◌, ⊤, Option, MatchOption}
use Rattle.std.specs.Borrow.{follows_so, MutBor, Fml}
use mathlib.Core.Option.{none}
use Rattle.fix_frame.specs.Framing.{fresh}
use Rattle.fix_frame.specs.contracts.framer.Framer.{the_row}
use Rattle.fix_frame.specs.declared.framer.Framer.{Framer}
use Rattle.fix_frame.specs.declared.frame.Frame.{Frame}

-- once the frame is let go the framer holds nothing; with no frame it is as before
abbrev pub EndsGiven : MutBor Framer → Option Frame → Fml
EndsGiven s given = follows_so the_row the_row s.ghost_name none (λ _ _. ⊤)
    (λ new. MatchOption given (new ≡ s.now) (λ _. new ≡ fresh))
