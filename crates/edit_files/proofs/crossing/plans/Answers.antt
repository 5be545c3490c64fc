use Rattle.std.proofs.Common.{arith}
use Rattle.re_syntax.specs.Tree.{tree}
use Rattle.edit_parts.specs.Tree.{command}
use Rattle.edit_files.specs.Across.{takes}
use Rattle.edit_files.proofs.PlanLemmas.{next_plan, all_plans, all_suit}
use Rattle.edit_files.proofs.crossing.plans.Goals as goal

pub returns-clause-ok : goal.returns-clause-ok
returns-clause-ok g c =
    all_plans (λ k. g.W.Windows.runs c.args.windows.now k (command c.args.cmd.now))
    (takes c.args.with_match (tree c.args.re.now)) (g.W.Windows.names c.args.windows.now) c.loop-k.k c.loop-k.all _
    (omega (arith, c.loop-k.invariant.0)) c.loop-k.invariant.1

pub loop-k-preserved : goal.loop-k-preserved
loop-k-preserved g c = (
  c.loop-k.invariant.0,
  next_plan (λ k. g.W.Windows.runs c.args.windows.now k (command c.args.cmd.now))
      (takes c.args.with_match (tree c.args.re.now)) (g.W.Windows.names c.args.windows.now) c.loop-k.k c.loop-k.all
      c.put.new.all c.in_ok-plan.plan _
      (omega (arith, c.loop-k-test.true, c.loop-k.invariant.0)) c.in_ok-plan.ensures.ok c.in-Ok.ensures
      c.loop-k.invariant.1,
  all_suit (g.W.Windows.suits c.args.windows.now) c.loop-k.k c.loop-k.all c.put.new.all c.in_ok-plan.plan
      c.in-Ok.ensures c.in_ok-plan.ensures.suits c.loop-k.invariant.2,
)
