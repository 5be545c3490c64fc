use Rattle.std.proofs.Common.{◌≡◌, ◌∙◌, ap, subst, length, arith}
use Rattle.re_syntax.specs.Tree.{Tree, tree}
use Rattle.re_sets.specs.Numbers.{letters}
use Rattle.re_sets.specs.Readings.{read_as}
use Rattle.re_sets.proofs.Mirrored.{read_letters}
use Rattle.re_machine.specs.Leaves.{leaves_of}
use Rattle.re_machine.specs.Contexts.{AreContexts}
use Rattle.re_machine.specs.Listed.{tree_of}
use Rattle.re_machine.proofs.Building.{leaves_len, table_is}
use Rattle.re_machine.proofs.tables.Tables.build.Goals as goal

pub build-requires-2-clause-count : goal.build-requires-2-clause-count
build-requires-2-clause-count g c =
    let n : length c.in_ok-leaves.leaves.items ≡ letters (tree c.args.re.now) = leaves_len c.args.back
    (tree c.args.re.now) c.in_ok-leaves.leaves.items (c.in_ok-leaves.ensures ∙ ap leaves_of
    c.in_ok-nodes.ensures.tree) in
    let m : letters (tree_of c.in_ok-nodes.nodes) ≡ letters (tree c.args.re.now) = ap letters c.in_ok-nodes.ensures.tree
    ∙ read_letters c.args.back (tree c.args.re.now) in
    omega (arith, n, m, c.len.ensures)

pub build-requires-2-clause-size : goal.build-requires-2-clause-size
build-requires-2-clause-size g c =
    let n : length c.in_ok-leaves.leaves.items ≡ letters (tree c.args.re.now) = leaves_len c.args.back
    (tree c.args.re.now) c.in_ok-leaves.leaves.items (c.in_ok-leaves.ensures ∙ ap leaves_of
    c.in_ok-nodes.ensures.tree) in
    omega (arith, n, c.len.ensures, c.requires)

pub ascii_of-requires : goal.ascii_of-requires
ascii_of-requires g c =
    let n : length c.in_ok-leaves.leaves.items ≡ letters (tree c.args.re.now) = leaves_len c.args.back
    (tree c.args.re.now) c.in_ok-leaves.leaves.items (c.in_ok-leaves.ensures ∙ ap leaves_of
    c.in_ok-nodes.ensures.tree) in
    omega (arith, n, c.requires, c.deref.ensures.len)

pub returns-clause-whole : goal.returns-clause-whole
returns-clause-whole g c =
    let n : length c.in_ok-leaves.leaves.items ≡ letters (tree c.args.re.now) = leaves_len c.args.back
    (tree c.args.re.now) c.in_ok-leaves.leaves.items (c.in_ok-leaves.ensures ∙ ap leaves_of
    c.in_ok-nodes.ensures.tree) in
    record {
      few = omega (arith, n, c.requires);
      ascii_len = c.in_ok-ascii.ensures.len;
      ascii_is = rw c.deref.ensures.value at c.in_ok-ascii.ensures.sets;
      firsts_is = c.firsts-firsts.ensures;
      begins_len = (rw c.deref-2.ensures.value at c.in_ok-begins.ensures.len) ∙ c.in_ok-ascii.ensures.len;
      begins_is = rw c.deref-2.ensures.value at c.in_ok-begins.ensures.begins;
      never_null = c.is_ever_null-is_ever_null.ensures;
    }

pub returns-clause-table : goal.returns-clause-table
returns-clause-table g c =
    table_is g.S.LetterSet.bits g.S.LetterSet.SIZE (read_as c.args.back (tree c.args.re.now))
    (record {
      contexts = c.in_ok-contexts.contexts;
      leaves = c.in_ok-leaves.leaves;
      ascii = c.in_ok-ascii.ascii;
      firsts = c.firsts-firsts.result;
      begins = c.in_ok-begins.begins;
      is_ever_null =
          c.is_ever_null-is_ever_null.result;
    }) (omega (arith, read_letters c.args.back (tree c.args.re.now), c.requires))
    (subst (λ (z : Tree). AreContexts g.S.LetterSet.bits z c.in_ok-contexts.contexts) c.in_ok-nodes.ensures.tree
    c.in_ok-contexts.ensures) (c.in_ok-leaves.ensures ∙ ap leaves_of c.in_ok-nodes.ensures.tree)
