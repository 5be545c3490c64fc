use Rattle.std.proofs.Common.{◌≡◌, length, drop}
use Rattle.edit_parts.specs.Tree.{command}
use Rattle.edit_run.specs.Ranges.{AreInside}
use Rattle.edit_run.specs.Lines.{IsCursorOf}
use Rattle.edit_run.specs.Meaning.{meaning, for_each, do_list}
use Rattle.edit_run.specs.Within.{IsWithin}
use Rattle.edit_run.specs.Kept.{AreOf}
use Rattle.edit_run.proofs.running.+command.Given as goal

abbrev pub invariant-run_all-loop-cmd : goal.invariant-run_all-loop-cmd
invariant-run_all-loop-cmd g l =
    let t = g.T.Letters.letters l.over.text.now in
    record {
      kept : AreOf l.rest (drop l.cmd-index l.commands);
      cursor : IsCursorOf t l.doing.cursor;
      within : IsWithin t l.doing.effects;
      same : do_list (drop l.cmd-index l.commands) t l.over.site.now l.dot l.doing.effects ≡ do_list l.commands t
          l.over.site.now l.dot l.fn.doing.effects;
    }

abbrev pub invariant-run_each-loop-rest : goal.invariant-run_each-loop-rest
invariant-run_each-loop-rest g l =
    let t = g.T.Letters.letters l.over.text.now in
    let body = meaning (command l.cmd) t l.over.site.now in
    record {
      ranges : AreInside t l.rest;
      cursor : IsCursorOf t l.doing.cursor;
      within : IsWithin t l.doing.effects;
      same : for_each body l.rest l.doing.effects ≡ for_each body l.ranges l.fn.doing.effects;
    }

abbrev pub decreases-run_each-loop-rest : goal.decreases-run_each-loop-rest
decreases-run_each-loop-rest g l = length l.rest
