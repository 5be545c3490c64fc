use Rattle.core_across.proofs.OtherWindows.{are_only_said}
use Rattle.core_across.proofs.laws.faults_are_only_said.Goals as goal

pub returns : goal.returns
returns c = are_only_said
