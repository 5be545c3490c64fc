use Rattle.std.proofs.Common.{sym, ap, arith}
use Rattle.std.specs.Option.{option_map}
use Rattle.std.proofs.lemmas.List.{length-map}
use Rattle.core_windows.specs.Shapes.{shapes_of, shape_if_live}
use Rattle.core_windows.specs.Trail.{addr_of, all_undone}
use Rattle.core_windows.proofs.KeptLemmas.{kept_length, none_past}
use Rattle.core_windows.proofs.looks.kept_addr.Goals as goal

pub overflow_sub-panes : goal.overflow_sub-panes
overflow_sub-panes c = omega (
  arith,
  c.all_unmade.ensures,
  kept_length c.args.trail.now (shapes_of c.args.panes.now)
      c.requires,
  length-map c.args.panes.now shape_if_live,
)

pub old_addr-requires-clause-within : goal.old_addr-requires-clause-within
old_addr-requires-clause-within c = omega (
  arith,
  c.if-at-panes.true,
  c.all_unmade.ensures,
  kept_length c.args.trail.now (shapes_of c.args.panes.now) c.requires,
  length-map c.args.panes.now shape_if_live,
)

pub returns-else-at-panes : goal.returns-else-at-panes
returns-else-at-panes c = sym (ap (option_map addr_of) (none_past c.args.at
    (all_undone c.args.trail.now (shapes_of c.args.panes.now)) (omega (
      arith,
      c.if-at-panes.false,
      c.all_unmade.ensures,
      kept_length c.args.trail.now (shapes_of c.args.panes.now) c.requires,
      length-map c.args.panes.now shape_if_live,
    ))))
