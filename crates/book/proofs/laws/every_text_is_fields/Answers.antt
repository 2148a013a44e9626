use Rattle.book.proofs.LawTexts.{texts-fields}
use Rattle.book.proofs.laws.every_text_is_fields.Goals as goal

pub returns : goal.returns
returns c = texts-fields
