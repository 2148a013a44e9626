use Rattle.fix_frame.proofs.FieldsOf.{fields_of-print_fields}
use Rattle.fix_frame.proofs.laws.fields_are_spelled_once.Goals as goal

pub returns : goal.returns
returns c = fields_of-print_fields
