use Rattle.std.proofs.Common.{ap}
use Rattle.std.specs.Option.{option_map}
use Rattle.std.proofs.lemmas.Result.{err_from_is_err_and}
use Rattle.edit_parts.specs.Tree.{command}
use Rattle.edit_files.specs.Command.{One}
use Rattle.edit_files.proofs.EditLemmas.{sam_fails, edit_small}
use Rattle.edit_files.proofs.reader.sam_at.Goals as goal

pub returns-in_err-edit_at-clause-err : goal.returns-in_err-edit_at-clause-err
returns-in_err-edit_at-clause-err c =
    let p = err_from_is_err_and c.from_residual.result c.from_residual.ensures.1 in
    rw (p.1, p.2) (sam_fails c.args.text.now c.args.from c.in_err-edit_at.field-0.0 c.in_err-edit_at.ensures.err
    c.requires)

pub returns-clause-ok : goal.returns-clause-ok
returns-clause-ok c = ap (option_map One) c.in_ok-edit_at.ensures.ok

pub returns-clause-small : goal.returns-clause-small
returns-clause-small c = edit_small (command c.in_ok-edit_at.field-0) c.in_ok-edit_at.ensures.small
