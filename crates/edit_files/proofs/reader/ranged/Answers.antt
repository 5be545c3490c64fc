use Rattle.std.proofs.Common.{Some, ap, sym, ◌∙◌}
use Rattle.std.specs.Option.{option_map}
use Rattle.std.proofs.lemmas.Result.{IfOk-weaker, IfErr-weaker}
use Rattle.edit_files.specs.Files.{file_of}
use Rattle.edit_files.proofs.FileLemmas.{limit_fails, name_fails}
use Rattle.edit_files.proofs.reader.ranged.Goals as goal

pub returns-in-Ok-clause-ok : goal.returns-in-Ok-clause-ok
returns-in-Ok-clause-ok c =
    IfOk-weaker c.in_limits.result _ _ (λ x h. λ a l.
    (ap (option_map (file_of c.args.reads_in a)) c.in-Ok.ensures.ok ∙ ap Some (sym (h a l).0), (h a l).1))
    c.in_limits.ensures.ok

pub returns-in-Ok-clause-err : goal.returns-in-Ok-clause-err
returns-in-Ok-clause-err c =
    IfErr-weaker c.in_limits.result _ _ (λ e h. λ a l.
    limit_fails c.args.reads_in a c.in-Ok.name c.args.text.now c.args.from e c.in-Ok.ensures.ok (h a l))
    c.in_limits.ensures.err

pub returns-in-Err-clause-err : goal.returns-in-Err-clause-err
returns-in-Err-clause-err c = λ a l.
    name_fails c.args.reads_in a c.args.text.now c.args.from c.in-Err.fault c.requires c.in-Err.ensures.err
