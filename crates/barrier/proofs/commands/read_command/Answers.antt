use Rattle.std.proofs.Common.{◌∙◌, ℕ, [], ◌∷◌, refl, ap, rules, arith}
use Rattle.std.proofs.lemmas.List.{length-set}
use Rattle.venue_model.specs.ListLaws.{stands}
use Rattle.command_words.specs.Packing.{command_words}
use Rattle.barrier.proofs.CommandWords.{agree_more, agree_whole, loads_more, seen_stays}
use Rattle.barrier.proofs.commands.read_command.Goals as goal

pub loop-index-init : goal.loop-index-init
loop-index-init g c = let head = c.load_command-head.ensures in (
  search rules,
  refl,
  head.step,
  λ e at.
      let is = head.command _ e at refl in
      (is.1, ap (λ (x : ℕ). x ∷ []) is.0, c.words_of-count.ensures.count e.gateway _ is.1 is.0),
)

pub loop-index-preserved : goal.loop-index-preserved
loop-index-preserved g c =
    let known = c.loop-index.invariant in let i = c.loop-index.index in let words = c.loop-index.words in
    let s = c.args.sequence in
    let v = c.args.seat.now in let u = c.loop-index.seat in let word = c.load_command.ensures in (
      search rules,
      length-set words i _ ∙ known.1,
      loads_more g.row.N v u _ s words i _ known.2 (omega arith) word.step,
      λ e at.
          let before = known.3 e at in let ws = command_words e.gateway (g.L.Logic.reads c.args.rings.now.logic s e) in
          let next = stands ws i (omega arith) in
          let is = word.command next.0 e (seen_stays g.row.N v u s _ known.2 e at) next.1 in
          (is.1, agree_more words ws i _ _ before.1 (omega arith) (omega arith) next.1 is.0, before.2),
    )

pub returns-clause-command : goal.returns-clause-command
returns-clause-command g c = λ e at.
    let known = c.loop-index.invariant.3 e at in
    let ws = command_words e.gateway (g.L.Logic.reads c.args.rings.now.logic c.args.sequence e) in
    let unpacked = c.unpack.ensures e.gateway _ known.0
    (agree_whole c.loop-index.words ws c.loop-index.index c.words_of-count.result known.1 c.loop-index-test.false
    known.2) in
    (unpacked.0, unpacked.1, (c.load_command-head.ensures.command _ e at refl).2)
