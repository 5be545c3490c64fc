-- A block of the program and its commands.
use Rattle.std.proofs.Common.{◌≡◌, map, refl, ap, rules, Vec, Global}
use Rattle.addr_syntax.specs.Tree as address
use Rattle.edit_parts.specs.Tree.{Commands, Block, Then, action, commands, command}
use Rattle.edit_parts.specs.declared.command.Cmd.{Cmd}
use Rattle.edit_parts.specs.declared.command.Act as act
use Rattle.edit_parts.specs.declared.command.Act.{Row_of-Cmd, end_of-Cmd, more_of-Cmd, items-the_row-Cmd, the_lemmas}
use Rattle.sam_syntax.specs.Joined.{commands_of}

pub row_commands : (n : _) (k : Row_of-Cmd n) → commands k ≡ commands_of (map command (items-the_row-Cmd n k))
row_commands n end_of-Cmd = refl
row_commands n (more_of-Cmd {n = m} addr x rest) = ap (λ (l : Commands). Then (address.tree_of addr) (action x) l)
    (row_commands m rest)

pub block_commands : (v : Vec Cmd Global) → action (act.Block v) ≡ Block (commands_of (map command v.items))
block_commands v = search (rules, the_lemmas, row_commands)
