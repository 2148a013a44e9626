-- All seats are back: that of the one gateway is alone in its list.
use Rattle.std.proofs.Common.{[], ◌∷◌, ◌++◌, List, ap, arith, length, subst, sym, ◌∙◌}
use Rattle.venue_model.specs.Requests.{Limits}
use Rattle.ring_words.specs.At.{At}
use Rattle.stages.specs.Finishing.{Finished}
use Rattle.venue.proofs.ServingLemmas.{gateways_are, are_spent}
use Rattle.venue.proofs.serving.finish.Goals as goal

pub close-requires : goal.close-requires
close-requires g c =
    let items = c.push_reserved.ensures.items ∙ ap (λ (l : List (At Limits)). l ++ c.args.seat ∷ [])
    c.requires.room.0 in
    let none = ap length c.requires.room.0 in (
      omega arith,
      (
        c.requires.crew,
        (
          gateways_are c.args.rings c.args.seat c.push_reserved.new.self.items items c.requires.seat.0
              c.requires.seat.1,
          (
            omega (arith, c.push_reserved.ensures.len, c.args.gateways.ok.0, none),
            are_spent c.args.rings c.args.seat c.push_reserved.new.self.items items c.requires.spent,
          ),
        ),
      ),
    )

pub returns-clause-finished : goal.returns-clause-finished
returns-clause-finished g c =
    let items = c.push_reserved.ensures.items ∙ ap (λ (l : List (At Limits)). l ++ c.args.seat ∷ [])
    c.requires.room.0 in
    subst (λ (l : List (At Limits)). Finished c.args.rings l c.args.crew (g.D.JournalDisk.honest c.close.result.1)
    (g.D.JournalDisk.tells c.close.result.1) c.close.result.0) items
    (subst (λ (d : g.row.D.Denot). Finished c.args.rings c.push_reserved.new.self.items c.args.crew
    (g.D.JournalDisk.honest d) (g.D.JournalDisk.tells d) c.close.result.0)
    (sym c.close.ensures.disk) c.close.ensures.finished)
