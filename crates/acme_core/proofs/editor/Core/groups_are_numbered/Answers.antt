use Rattle.acme_core.proofs.Goes.{groups_numbered}
use Rattle.acme_core.proofs.editor.Core.groups_are_numbered.Goals as goal

pub returns : goal.returns
returns c = groups_numbered c.group_numbers_never_fall.ensures c.args.self.now.journal
