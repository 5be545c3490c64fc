use Rattle.std.proofs.Common.{◌≡◌, length}
use Rattle.edit_files.proofs.NameLemmas.{Reads}
use Rattle.edit_files.proofs.names.read_names.Given as goal

abbrev pub invariant-loop-at : goal.invariant-loop-at
invariant-loop-at l = Reads l.one l.text l.from l.at l.all l.name × (l.at-end ≡ length l.text)
