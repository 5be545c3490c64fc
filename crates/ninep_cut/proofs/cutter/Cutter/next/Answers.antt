use Rattle.std.proofs.Common.{◌∙◌, ap, rules}
use Rattle.ninep_cut.specs.Cuts.{size_of}
use Rattle.ninep_cut.proofs.Streams.{takes_whole}
use Rattle.ninep_cut.proofs.cutter.Cutter.next.Goals as goal

pub returns-in_ok-into-in-Whole-clause-takes : goal.returns-in_ok-into-in-Whole-clause-takes
returns-in_ok-into-in-Whole-clause-takes c =
    takes_whole c.self.inside.held.items _ _ c.self.inside.given _ c.self.view_is (search rules) (search rules)
    (c.first_of-message.ensures.len ∙ ap size_of c.left-left.ensures)
