use Rattle.edit_parts.proofs.Once.{one_piece}
use Rattle.edit_parts.proofs.laws.a_text_begins_with_one_piece.Goals as goal

pub returns : goal.returns
returns c = one_piece
