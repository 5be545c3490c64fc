use Rattle.std.proofs.Common.{◌≡◌, ◌++◌}
use Rattle.name_tree.specs.Lines.{lines_in}
use Rattle.name_tree.proofs.EntryLemmas.{shown}
use Rattle.name_tree.proofs.names.Names.lines.Given as goal

abbrev pub invariant-loop-name : goal.invariant-loop-name
invariant-loop-name l =
    l.text ++ lines_in l.nodes (shown (λ v. v.items) l.name-iterator)
    ≡ lines_in l.initial.nodes (shown (λ v. v.items) l.initial.name-iterator)
