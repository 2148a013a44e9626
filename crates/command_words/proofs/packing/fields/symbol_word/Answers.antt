use Rattle.std.proofs.Common.{rules}
use Rattle.command_words.specs.Packing.{symbol_word}
use Rattle.command_words.proofs.Packings.{padded_is}
use Rattle.command_words.proofs.packing.fields.symbol_word.Goals as goal

pub returns-clause-value : goal.returns-clause-value
unfolding symbol_word
returns-clause-value c = search (rules, padded_is)
