use Rattle.std.proofs.Common.{◌+◌, Some, ap, length, ◌∙◌, arith}
use Rattle.std.proofs.lemmas.Result.{err_from_is_err_and}
use Rattle.edit_files.specs.Files.{with_name}
use Rattle.edit_files.specs.Command.{Open}
use Rattle.edit_files.specs.declared.letter.Letter.TheVariants as letter
use Rattle.edit_files.proofs.LetterLemmas.{letter_reads, letter_bad, letter_fails}
use Rattle.edit_files.proofs.FileLemmas.{opens, open_leads, open_fails, open_short}
use Rattle.edit_files.proofs.reader.open_at.Goals as goal

pub returns-in_err-name-clause-err : goal.returns-in_err-name-clause-err
returns-in_err-name-clause-err c =
    let p = err_from_is_err_and c.from_residual.result c.from_residual.ensures.1 in
    rw (p.1, p.2) (letter_fails letter.Open opens (λ x. x) open_leads c.args.text.now c.args.at c.requires.here
    c.requires.letter c.in_err-name.field-0.0 (open_fails c.args.text.now (c.args.at + 1)
    c.in_err-name.field-0.0 c.in_err-name.ensures.err))

pub returns-in-Some-clause-ok : goal.returns-in-Some-clause-ok
returns-in-Some-clause-ok c =
    letter_reads letter.Open opens (λ x. x) open_leads c.args.text.now c.args.at c.requires.here c.requires.letter
    (Open c.in-Some.name) (ap with_name (c.in_ok-name.ensures.ok ∙ ap Some c.in-Some.is))

pub returns-in-None-clause-err : goal.returns-in-None-clause-err
returns-in-None-clause-err c =
    letter_bad letter.Open opens (λ x. x) open_leads c.args.text.now c.args.at c.requires.here c.requires.letter
    (length c.args.text.now) (open_short c.args.text.now (c.args.at + 1) (omega (arith, c.requires.here))
    (c.in_ok-name.ensures.ok ∙ ap Some c.in-None.is))
