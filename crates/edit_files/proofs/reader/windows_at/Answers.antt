use Rattle.std.proofs.Common.{Option, subst, sym}
use Rattle.std.proofs.lemmas.Result.{err_from_is_err_and}
use Rattle.addr_syntax.specs.declared.address.SynFault.{SynFault}
use Rattle.re_syntax.specs.declared.re.Re.{Re}
use Rattle.edit_parts.specs.Answer.{IsBuiltExpression}
use Rattle.edit_parts.specs.Tree.{command}
use Rattle.edit_files.specs.Command.{files_command}
use Rattle.edit_files.specs.Files.{solid_files}
use Rattle.edit_files.specs.Answer.{FilesFails}
use Rattle.edit_files.proofs.WindowLemmas.{begun, quoted_fails, behind_quoted, past_fails, inner_refused, windows_read}
use Rattle.edit_files.proofs.WindowLemmas.{windows_limits}
use Rattle.edit_files.proofs.reader.windows_at.Goals as goal

pub returns-in_err-re-clause-err : goal.returns-in_err-re-clause-err
returns-in_err-re-clause-err c =
    let p = err_from_is_err_and c.from_residual.result c.from_residual.ensures.1 in
    let b = begun c.args.with_match c.args.text.now c.args.at c.after_blanks.result c.requires.here c.requires.letter
    c.after_blanks.ensures.order c.after_blanks.ensures.within c.after_blanks.ensures.behind in
    rw (p.1, p.2) (quoted_fails c.args.with_match c.args.text.now c.args.at c.after_blanks.result c.in_err-re.field-0.0
    b c.in_err-re.ensures.err)

pub returns-in_default-clause-err : goal.returns-in_default-clause-err
returns-in_default-clause-err c =
    let b = begun c.args.with_match c.args.text.now c.args.at c.after_blanks.result c.requires.here c.requires.letter
    c.after_blanks.ensures.order c.after_blanks.ensures.within c.after_blanks.ensures.behind in
    let q = c.in_ok-re.ensures.ok in
    let there =
    behind_quoted c.args.with_match q.0 c.args.text.now c.args.at c.after_blanks.result c.in_ok-re.end b q.2 in
    let large = subst (λ (o : Option Re). IsBuiltExpression o q.0) c.in_default.is q.1 in
    subst (λ (e : SynFault). FilesFails solid_files c.args.text.now c.args.at e) (sym c.past.ensures)
    (past_fails c.args.with_match q.0 c.args.text.now c.args.at c.in_ok-re.end there large c.inner-found.result
    c.inner-found.ensures.ok c.inner-found.ensures.err)

pub returns-in_err-found-clause-err : goal.returns-in_err-found-clause-err
returns-in_err-found-clause-err c =
    let p = err_from_is_err_and c.from_residual-in_err-found.result c.from_residual-in_err-found.ensures.1 in
    let b = begun c.args.with_match c.args.text.now c.args.at c.after_blanks.result c.requires.here c.requires.letter
    c.after_blanks.ensures.order c.after_blanks.ensures.within c.after_blanks.ensures.behind in
    let q = c.in_ok-re.ensures.ok in
    let there =
    behind_quoted c.args.with_match q.0 c.args.text.now c.args.at c.after_blanks.result c.in_ok-re.end b q.2 in
    let built = subst (λ (o : Option Re). IsBuiltExpression o q.0) c.in-Some.is q.1 in
    rw (p.1, p.2) (inner_refused c.args.with_match c.in-Some.re q.0 c.args.text.now c.args.at c.in_ok-re.end there built
    c.in_err-found.field-0.0 c.in_err-found.ensures.err)

pub returns-clause-ok : goal.returns-clause-ok
returns-clause-ok c =
    let b = begun c.args.with_match c.args.text.now c.args.at c.after_blanks.result c.requires.here c.requires.letter
    c.after_blanks.ensures.order c.after_blanks.ensures.within c.after_blanks.ensures.behind in
    let q = c.in_ok-re.ensures.ok in
    let there =
    behind_quoted c.args.with_match q.0 c.args.text.now c.args.at c.after_blanks.result c.in_ok-re.end b q.2 in
    let built = subst (λ (o : Option Re). IsBuiltExpression o q.0) c.in-Some.is q.1 in
    windows_read c.args.with_match c.in-Some.re q.0 (command c.in_ok-found.field-0) c.args.text.now c.args.at
    c.in_ok-re.end (files_command c.in_windows.result) there built c.in_ok-found.ensures.ok c.in_windows.ensures

pub returns-clause-small : goal.returns-clause-small
returns-clause-small c =
    let q = c.in_ok-re.ensures.ok in
    let built = subst (λ (o : Option Re). IsBuiltExpression o q.0) c.in-Some.is q.1 in
    windows_limits c.args.with_match c.in-Some.re q.0 (command c.in_ok-found.field-0)
    (files_command c.in_windows.result)
    built c.in_ok-found.ensures.small c.in_windows.ensures
