use Rattle.std.proofs.Common.{ap, ◌∙◌}
use Rattle.std.proofs.lemmas.Result.{IfOk-weaker}
use Rattle.addr_syntax.specs.Joined.{after_piece, join_part}
use Rattle.addr_syntax.proofs.Rows.{stands_joins, begins_joins, some_weaker}
use Rattle.addr_syntax.proofs.reading.join.Goals as goal

pub returns-in_ok-with_stands-in-Stands-clause-some : goal.returns-in_ok-with_stands-in-Stands-clause-some
returns-in_ok-with_stands-in-Stands-clause-some c = λ r p f t.
    let token = rw c.in-Stands.is at t in (
      join_part r token.0,
      ap (after_piece r) token.1 ∙ stands_joins r token.0 token.3,
      c.in_ok-with_stands-in-Stands.ensures r token.0 f token.2,
    )

pub returns-in-Begins-clause-some : goal.returns-in-Begins-clause-some
returns-in-Begins-clause-some c =
    IfOk-weaker c.with_begins.result _ _ (λ o h. some_weaker o _ _ (λ new k r p f t.
    let token = rw c.in-Begins.is at t in
    let on = k r token.0 f token.2 in
    (join_part r token.0, ap (after_piece r) token.1 ∙ begins_joins r token.0 on.0, on.1)) h) c.with_begins.ensures.some
