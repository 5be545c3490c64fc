use Rattle.std.proofs.lemmas.Result.{err_from_is_err_and}
use Rattle.edit_files.proofs.NameLemmas.{lone_fails}
use Rattle.edit_files.proofs.names.lone_name.Goals as goal

pub returns-in_err-names-clause-err : goal.returns-in_err-names-clause-err
returns-in_err-names-clause-err c =
    let p = err_from_is_err_and c.from_residual.result c.from_residual.ensures.1 in
    rw (p.1, p.2) (lone_fails c.args.text.now c.args.from c.in_err-names.field-0.0 c.requires
    c.in_err-names.ensures.err)
