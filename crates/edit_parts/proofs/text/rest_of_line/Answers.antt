use Rattle.std.proofs.Common.{List, ℕ, sym, subst}
use Rattle.edit_parts.specs.Texts.{RestOfLine}
use Rattle.edit_parts.specs.Read.{IsReadBy}
use Rattle.edit_parts.proofs.Ends.{line_read}
use Rattle.edit_parts.proofs.text.rest_of_line.Goals as goal

pub returns : goal.returns
returns c =
    subst (λ (t : List ℕ). IsReadBy (RestOfLine t) c.args.text.now c.args.from c.line_end-end.result)
    (sym c.in_ok-copied.ensures)
    (line_read c.args.text.now c.args.from c.line_end-end.result c.requires c.line_end-end.ensures.exact
    c.line_end-end.ensures.within)
