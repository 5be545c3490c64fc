use Rattle.std.proofs.Common.{◌≡◌, ◌∙◌, ap, false, length, arith}
use Rattle.re_syntax.specs.Tree.{tree}
use Rattle.re_sets.specs.Numbers.{letters}
use Rattle.re_machine.specs.Leaves.{leaves_of}
use Rattle.re_machine.proofs.Building.{leaves_len}
use Rattle.re_machine.proofs.leaves.letter_count.Goals as goal

pub returns : goal.returns
returns c =
    let n : length c.in_ok-leaves.leaves.items ≡ letters (tree c.args.re.now) = leaves_len false (tree c.args.re.now)
    c.in_ok-leaves.leaves.items (c.in_ok-leaves.ensures ∙ ap leaves_of c.in_ok-nodes.ensures.tree) in
    omega (arith, n, c.len.ensures)
