use Rattle.std.proofs.Common.{◌≡◌, length, take}
use mathlib.Core.Option.{some}
use lib.ListN.{get_elem?}
use Rattle.venue_model.specs.History.{Message}
use Rattle.command_words.specs.Packing.{command_words, IsPackable}
use Rattle.ring_words.specs.At.{IsAt, seated}
use Rattle.barrier.specs.Commands.{after_command}
use Rattle.barrier.proofs.commands.read_command.Given as goal

abbrev pub invariant-loop-index : goal.invariant-loop-index
invariant-loop-index g l = let v = l.fn.seat in
    (IsAt l.rings l.seat) × (length l.words ≡ 5)
    × (l.seat ≡ seated v (after_command g.row.N v.who l.sequence (take l.index l.words)))
    × ((e : Message) → get_elem? v.who.seen l.sequence ≡ some e
    → IsPackable e.gateway (g.L.Logic.reads l.rings.logic l.sequence e)
    × (take l.index l.words ≡ take l.index (command_words e.gateway (g.L.Logic.reads l.rings.logic l.sequence e)))
    × (l.count ≡ length (command_words e.gateway (g.L.Logic.reads l.rings.logic l.sequence e))))
