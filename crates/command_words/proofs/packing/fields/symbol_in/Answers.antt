use Rattle.command_words.proofs.Packings.{symbol_back}
use Rattle.command_words.proofs.packing.fields.symbol_in.Goals as goal

pub returns : goal.returns
returns c = λ name spelling is.
    symbol_back c.args.word name c.to_be_bytes-bytes.result c.name_length.result c.new.result spelling is
    c.to_be_bytes-bytes.ensures c.name_length.ensures.count c.new.ensures
