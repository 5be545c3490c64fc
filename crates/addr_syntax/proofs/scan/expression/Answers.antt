use Rattle.std.proofs.Common.{◌≡◌, ℕ, sym, subst}
use Rattle.std.specs.Prelude.{Some}
use Rattle.re_syntax.specs.Answer.{IsRead}
use Rattle.addr_syntax.proofs.Bodies.{read_ends}
use Rattle.addr_syntax.proofs.scan.expression.Goals as goal

pub returns-in-Err-Nodes-clause-ok : goal.returns-in-Err-Nodes-clause-ok
returns-in-Err-Nodes-clause-ok c =
    let large = rw c.in-Err-Nodes.field-0-is at c.in-Err-Nodes.ensures.refused in
    let same : large.0 ≡ c.delimiter_at.result = read_ends c.args.delimiter c.args.text.now c.args.from large.0 large.1
    large.2 c.delimiter_at.result (sym c.delimiter_at.ensures) in (
      large.1,
      subst (λ (end : ℕ). IsRead (Some c.args.delimiter) c.args.text.now c.args.from end large.1) same large.2,
      large.3,
    )
