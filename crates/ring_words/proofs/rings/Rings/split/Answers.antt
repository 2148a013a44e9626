use Rattle.std.proofs.Common.{rules}
use Rattle.venue_model.specs.ListLaws.{stands}
use Rattle.ring_words.specs.Terms.{terms_of}
use Rattle.ring_words.proofs.Seatings.{splits}
use Rattle.ring_words.proofs.Endings.{begins_with}
use Rattle.ring_words.proofs.rings.Rings.split.Goals as goal

pub split_seat-requires : goal.split_seat-requires
split_seat-requires g c = let key = c.self.inside.table.shared.key in
    let v = c.args.first.now.me.0 in
    let head = stands v.people 0 c.requires.some in (
      search rules,
      search rules,
      splits
          (terms_of g.L.Logic.reads g.L.Logic.outputs g.L.Logic.text g.L.Logic.nothing g.L.Logic.grows key) _ v head.0 _
          (begins_with v.people head.0 head.1),
    )
