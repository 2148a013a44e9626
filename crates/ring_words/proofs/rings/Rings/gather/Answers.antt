use Rattle.std.proofs.Common.{rules, ◌≡◌, ◌∙◌, [], ◌∷◌, ◌++◌, List, length, ap, sym, subst, refl}
use Rattle.atomic_table.proofs.Lists.{at_last}
use Rattle.venue_model.specs.ListLaws.{stands}
use Rattle.ring_words.specs.At.{Opened, At}
use Rattle.ring_words.specs.Terms.{terms_of}
use Rattle.ring_words.proofs.Seatings.{joins}
use Rattle.ring_words.proofs.Endings.{Gathering, begins_with, gathers_none, gathers_one}
use Rattle.ring_words.proofs.rings.Rings.gather.Goals as goal

pub loop-gateway-init : goal.loop-gateway-init
loop-gateway-init g c = let stages = c.args.stages in
    (c.requires.table.0, c.requires.table.1, gathers_none c.args.gateways.items stages.me.0.people stages.me.0 refl)

pub join_seat-requires : goal.join_seat-requires
join_seat-requires g c = let key = c.self.inside.table.shared.key in
    let inv = c.loop-gateway.invariant in let x = c.in-Some.gateway in let left = c.pop.new.self.items in
    let all = c.loop-gateway.all in let gs = c.args.gateways.items in let firsts = c.args.stages.me.0.people in
    let was : Gathering gs firsts (left ++ x ∷ []) all.me.0 =
    subst (λ (l : List (At g.row.L.Denot)). Gathering gs firsts l all.me.0) c.in-Some.ensures.items inv.2 in
    let at = c.requires.gateways (length left) x (was.others (length left) x (at_last left x (length left) refl)) in
    let seat = c.gateway.inside in let head = stands firsts 0 c.requires.some in (
      search rules,
      ap (λ (s : At g.row.L.Denot). s.table) (c.gateway.view_is ∙ at.0)
          ∙ ap (λ (r : Opened g.row.L.Denot). r.table) (sym c.self.view_is),
      seat.bare,
      search rules,
      joins (terms_of g.L.Logic.reads g.L.Logic.outputs g.L.Logic.text g.L.Logic.nothing g.L.Logic.grows key) all.id
          seat.seat.id all.me.0 seat.seat.me.0 head.0 _ (begins_with all.me.0.people head.0 (was.stage 0 head.0 head.1)),
    )

pub loop-gateway-preserved : goal.loop-gateway-preserved
loop-gateway-preserved g c = let inv = c.loop-gateway.invariant in
    let x = c.in-Some.gateway in let left = c.pop.new.self.items in let all = c.loop-gateway.all in
    let gs = c.args.gateways.items in let firsts = c.args.stages.me.0.people in
    let was : Gathering gs firsts (left ++ x ∷ []) all.me.0 =
    subst (λ (l : List (At g.row.L.Denot)). Gathering gs firsts l all.me.0) c.in-Some.ensures.items inv.2 in
    let me = c.gateway.inside.seat.me.0 in
    let one : me.people ≡ x.who ∷ [] = c.gateway.inside.alone
    ∙ ap (λ (s : At g.row.L.Denot). s.who ∷ []) c.gateway.view_is in
    (search rules, search rules, rw c.join_seat.ensures.2 (gathers_one gs firsts left x all.me.0 me one was))
