use Rattle.rune_gap.proofs.Ends.{none_back}
use Rattle.rune_gap.proofs.text.RuneText.put_at_end.Goals as goal

pub note-requires-clause-behind : goal.note-requires-clause-behind
note-requires-clause-behind c = none_back _ _
