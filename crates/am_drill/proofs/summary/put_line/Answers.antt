use Rattle.std.proofs.Common.{◌++◌, List, ℕ, ap, ◌∙◌}
use Rattle.am_drill.proofs.Ended.{line_put}
use Rattle.am_drill.proofs.summary.put_line.Goals as goal

pub returns : goal.returns
returns c =
    line_put c.args.out.now c.append.new.self c.append-2.new.self c.append-3.new.self c.args.name.now c.args.number
    c.in_ok-append.ensures.ok
    (c.in_ok-append-2.ensures.ok ∙ ap (λ (x : List ℕ). c.append.new.self ++ x)
    (c.as_slice-2.ensures ∙ c.in_ok-decimal.ensures))
    c.in_ok-append-3.ensures.ok
