use Rattle.std.proofs.Common.{◌≡◌, None, sym, ap, subst, ◌∙◌}
use Rattle.ninep_trace.specs.declared.unread.Unread.{Unread}
use Rattle.ninep_trace.specs.Fields.{Fails}
use Rattle.ninep_trace.specs.Reading.{line_of}
use Rattle.ninep_trace.proofs.LineLaws.{words-again, words-is}
use Rattle.ninep_trace.proofs.reading.read_words.Goals as goal

pub returns-in-Ok-clause-found : goal.returns-in-Ok-clause-found
returns-in-Ok-clause-found c = words-is c.args.line.now c.in-Ok.read c.in-Ok.ensures

pub returns-in-Ok-clause-only : goal.returns-in-Ok-clause-only
returns-in-Ok-clause-only c = λ l w e. sym c.in-Ok.ensures ∙ ap line_of e ∙ words-again l w

pub returns-in-Err-NotWords-clause-only : goal.returns-in-Err-NotWords-clause-only
returns-in-Err-NotWords-clause-only c = λ l w e.
    let none : line_of c.args.line.now ≡ None = subst (λ (u : Unread). Fails u (line_of c.args.line.now))
    c.in-Err-NotWords.field-0-is c.in-Err-NotWords.ensures in
    absurd (let k = sym none ∙ ap line_of e ∙ words-again l w in cc)
