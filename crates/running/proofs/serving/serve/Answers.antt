-- Where memory for the symbols is refused, nothing was asked of the disk. Else the venue is one of the words' symbols.
use Rattle.std.proofs.Common.{inl, refl, subst}
use Rattle.stages.specs.Devices.{device}
use Rattle.venue.specs.Headline.{SeenServing, seen}
use Rattle.venue.specs.Serving.{EndsWith}
use Rattle.venue_model.specs.Requests.{Limits}
use Rattle.running.proofs.RunningLemmas.{unasked, unasked_same, unasked_leaves}
use Rattle.running.proofs.serving.serve.Goals as goal

pub returns-in_default-clause-served : goal.returns-in_default-clause-served
returns-in_default-clause-served g c =
    inl (c.say.ensures, inl (unasked _ _ (λ f there left. g.met.D.JournalDisk.only_now c.args.disk f there left)))

pub returns-in_default-clause-seen : goal.returns-in_default-clause-seen
returns-in_default-clause-seen g c =
    inl (
      c.say.ensures,
      refl,
      unasked_same _ _ (λ f there left. g.met.D.JournalDisk.only_now c.args.disk f there left) _,
    )

pub returns-in_default-clause-any_moment : goal.returns-in_default-clause-any_moment
returns-in_default-clause-any_moment g c =
    unasked_leaves _ _ (λ f there left. g.met.D.JournalDisk.only_now c.args.disk f there left)

pub returns-clause-served : goal.returns-clause-served
returns-clause-served g c =
    let D = g.D.JournalDisk in
    subst (λ (l : Limits). EndsWith l (device D.honest D.tells D.failed)
    (record { disk = c.args.disk; wire = g.W.Wire.tells c.args.wire.now })
    (record { disk = c.serve.result.1; wire = g.W.Wire.tells c.serve.new.wire }) c.serve.result.0)
    c.in-Ok.ensures c.serve.ensures.served

pub returns-clause-seen : goal.returns-clause-seen
returns-clause-seen g c =
    let D = g.D.JournalDisk in
    subst (λ (l : Limits). SeenServing l (D.honest c.args.disk)
    (seen (D.tells c.args.disk) (g.W.Wire.tells c.args.wire.now))
    (seen (D.tells c.serve.result.1) (g.W.Wire.tells c.serve.new.wire)) c.serve.result.0)
    c.in-Ok.ensures c.serve.ensures.seen
