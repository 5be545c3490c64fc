use Rattle.std.proofs.lemmas.Result.{err_from_is_err_and}
use Rattle.edit_files.specs.Files.{name_of}
use Rattle.edit_files.specs.Command.{Enter}
use Rattle.edit_files.specs.declared.letter.Letter.TheVariants as letter
use Rattle.edit_files.proofs.LetterLemmas.{letter_reads, letter_fails}
use Rattle.edit_files.proofs.FileLemmas.{enter_leads}
use Rattle.edit_files.proofs.reader.enter_at.Goals as goal

pub returns-in_err-lone_name-clause-err : goal.returns-in_err-lone_name-clause-err
returns-in_err-lone_name-clause-err c =
    let p = err_from_is_err_and c.from_residual.result c.from_residual.ensures.1 in
    rw (p.1, p.2) (letter_fails letter.Enter name_of Enter enter_leads c.args.text.now c.args.at c.requires.here
    c.requires.letter c.in_err-lone_name.field-0.0 c.in_err-lone_name.ensures.err)

pub returns-clause-ok : goal.returns-clause-ok
returns-clause-ok c =
    letter_reads letter.Enter name_of Enter enter_leads c.args.text.now c.args.at c.requires.here c.requires.letter
    c.in_ok-lone_name.field-0 c.in_ok-lone_name.ensures.ok
