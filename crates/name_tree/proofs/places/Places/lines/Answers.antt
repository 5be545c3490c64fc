use Rattle.std.proofs.Common.{rules}
use Rattle.name_tree.specs.Lines.{names_in}
use Rattle.name_tree.proofs.LineLemmas.{sorted_empty}
use Rattle.name_tree.proofs.places.Places.lines.Goals as goal

pub returns-in_default-clause-ordered : goal.returns-in_default-clause-ordered
returns-in_default-clause-ordered c = sorted_empty (names_in c.args.self.now.names c.args.place) (search rules)

pub returns-in-None-clause-ordered : goal.returns-in-None-clause-ordered
returns-in-None-clause-ordered c = sorted_empty (names_in c.args.self.now.names c.args.place) (search rules)
