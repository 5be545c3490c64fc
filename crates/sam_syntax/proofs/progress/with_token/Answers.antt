use Rattle.std.proofs.Common.{refl}
use Rattle.edit_parts.specs.Pieces.{EndsLine, Closes}
use Rattle.sam_syntax.proofs.Follow.{alone_joins}
use Rattle.sam_syntax.proofs.progress.with_token.Goals as goal

pub returns-in_ok-end_line-in-EndsLine : goal.returns-in_ok-end_line-in-EndsLine
returns-in_ok-end_line-in-EndsLine c = λ p x l.
    let r = c.in_ok-end_line-in-EndsLine in
    rw c.whole_if.ensures (alone_joins c.args.sheet p EndsLine c.args.next r.field-0 (rw c.in-EndsLine.is at x)
    r.ensures.some r.ensures.none refl refl refl)

pub returns-in_ok-close_block-in-Closes : goal.returns-in_ok-close_block-in-Closes
returns-in_ok-close_block-in-Closes c = λ p x l.
    let r = c.in_ok-close_block-in-Closes in
    rw c.whole_if-in-Closes.ensures (alone_joins c.args.sheet p Closes c.args.next r.field-0 (rw c.in-Closes.is at x)
    r.ensures.some r.ensures.none refl refl refl)
