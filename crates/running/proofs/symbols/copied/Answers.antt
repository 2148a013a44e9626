-- One more word is the same.
use Rattle.std.proofs.Common.{◌∙◌}
use Rattle.std.specs.Prelude.{string_bytes}
use Rattle.running.proofs.RunningLemmas.{mapped_on}
use Rattle.running.proofs.symbols.copied.Goals as goal

pub loop-word-preserved : goal.loop-word-preserved
loop-word-preserved c =
    mapped_on string_bytes c.args.words.now c.loop-word.copy.items _ c.loop-word.word-index _ c.word-item.result
    c.loop-word-test.true c.in_ok-push.ensures.items (c.in_ok-from_str.ensures.ok ∙ c.as_str.ensures.value)
    c.word-item.is c.loop-word.invariant
