use Rattle.name_tree.specs.Shape.{keys}
use Rattle.name_tree.proofs.TrieLemmas.{entries_ordered}
use Rattle.name_tree.proofs.places.Places.len.Goals as goal

pub returns-clause-ordered : goal.returns-clause-ordered
returns-clause-ordered c = entries_ordered (keys c.args.self.now.origins) c.args.self.now.nodes
