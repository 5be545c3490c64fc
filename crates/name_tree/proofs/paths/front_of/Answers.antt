use Rattle.std.proofs.Common.{sym, ◌∙◌}
use Rattle.name_tree.proofs.BelowLemmas.{root_prefix}
use Rattle.name_tree.proofs.paths.front_of.Goals as goal

pub returns-then-is_root : goal.returns-then-is_root
returns-then-is_root c = root_prefix c.args.path.now (sym c.is_root.ensures ∙ c.if-is_root.true)
