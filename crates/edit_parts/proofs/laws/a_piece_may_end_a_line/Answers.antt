use Rattle.edit_parts.proofs.Closes.{piece_ends_line}
use Rattle.edit_parts.proofs.laws.a_piece_may_end_a_line.Goals as goal

pub returns : goal.returns
returns c = piece_ends_line
