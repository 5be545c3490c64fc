use Rattle.std.proofs.Common.{ap, ◌∙◌, map}
use Rattle.std.proofs.lemmas.Result.{IfOk-weaker}
use Rattle.addr_syntax.specs.Tree as address
use Rattle.edit_parts.specs.Tree.{Action}
use Rattle.sam_syntax.specs.Joined.{in_loops}
use Rattle.sam_syntax.specs.Read.{head_of}
use Rattle.sam_syntax.proofs.Blocks.{block_commands}
use Rattle.sam_syntax.proofs.reading.block_of.Goals as goal

pub returns : goal.returns
returns c =
    let b = c.args.block in
    IfOk-weaker c.in_loops.result _ _ (λ new h. h ∙ ap (λ (a : Action). in_loops (map head_of b.heads.items)
    (address.tree_of b.addr, a)) (block_commands b.commands)) c.in_loops.ensures
