use Rattle.std.proofs.Common.{◌≡◌, ◌+◌, ◌≤◌, take, max}
use Rattle.std.specs.Prelude.{◌==◌}
use Rattle.std.specs.List.{count_by}
use Rattle.edit_run.proofs.line_cursor.newlines.Given as goal

abbrev pub invariant-loop-at : goal.invariant-loop-at
invariant-loop-at g l =
    let t = g.T.Letters.letters l.text in
    record {
      bound : l.at ≤ max l.from l.to;
      few : l.count + l.from ≤ l.at;
      counted : count_by (λ c. c == 10) (take l.at t) ≡ count_by (λ c. c == 10) (take l.from t) + l.count;
    }
