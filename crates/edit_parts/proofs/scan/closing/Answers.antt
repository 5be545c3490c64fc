use Rattle.std.proofs.Common.{arith, false, drop}
use Rattle.std.proofs.lemmas.List.{length-drop}
use Rattle.edit_parts.proofs.Ends.{body_short, closed_at, never_closed}
use Rattle.edit_parts.proofs.scan.closing.Goals as goal

pub returns-then-end-text-clause-ok : goal.returns-then-end-text-clause-ok
returns-then-end-text-clause-ok c = closed_at c.args.text.now c.args.from c.delimiter_at-end.result c.requires
    c.delimiter_at-end.ensures c.if-end-text.true

pub returns-else-end-text-clause-err : goal.returns-else-end-text-clause-err
returns-else-end-text-clause-err c =
    never_closed c.args.text.now c.args.from c.delimiter_at-end.result c.requires c.delimiter_at-end.ensures
    (omega (
      arith,
      c.requires,
      c.if-end-text.false,
      c.delimiter_at-end.ensures,
      body_short false (drop c.args.from c.args.text.now),
      length-drop c.args.from c.args.text.now,
    ))
