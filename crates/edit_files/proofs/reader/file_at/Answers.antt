use Rattle.std.proofs.Common.{sym, ap, ◌∙◌, Some}
use Rattle.std.proofs.lemmas.Result.{err_from_is_err_and}
use Rattle.addr_syntax.specs.Tree.{Missing}
use Rattle.edit_files.specs.Letters.{file_letter}
use Rattle.edit_files.specs.Files.{name_of, file_of}
use Rattle.edit_files.specs.Command.{files_command}
use Rattle.edit_files.proofs.LetterLemmas.{letter_reads, letter_fails}
use Rattle.edit_files.proofs.FileLemmas.{file_leads, file_small}
use Rattle.edit_files.proofs.reader.file_at.Goals as goal

pub returns-in_err-name-clause-err : goal.returns-in_err-name-clause-err
returns-in_err-name-clause-err c =
    let p = err_from_is_err_and c.from_residual.result c.from_residual.ensures.1 in
    rw (p.1, p.2) (letter_fails (file_letter c.args.reads_in) name_of (file_of c.args.reads_in Missing)
    (file_leads c.args.reads_in) c.args.text.now c.args.at c.requires.here c.requires.letter c.in_err-name.field-0.0
    c.in_err-name.ensures.err)

pub returns-clause-ok : goal.returns-clause-ok
returns-clause-ok c =
    letter_reads (file_letter c.args.reads_in) name_of (file_of c.args.reads_in Missing) (file_leads c.args.reads_in)
    c.args.text.now c.args.at c.requires.here c.requires.letter c.in_ok-name.name c.in_ok-name.ensures.ok
    ∙ ap Some (sym c.file.ensures)

pub returns-clause-small : goal.returns-clause-small
returns-clause-small c = file_small c.args.reads_in c.in_ok-name.name (files_command c.file.result) c.file.ensures
