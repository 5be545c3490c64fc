use Rattle.rule_syntax.proofs.ExpressionLemmas.{fit_is, edges_are}
use Rattle.rule_syntax.proofs.expression.expression_judged.Goals as goal

pub returns-clause-fit : goal.returns-clause-fit
returns-clause-fit c = fit_is c.args.text.now c.parse_re-parsed.result c.in_ok-fit.fit c.in_ok-fit.ensures
    c.parse_re-parsed.ensures.read c.parse_re-parsed.ensures.small c.parse_re-parsed.ensures.refused

pub returns-clause-edges : goal.returns-clause-edges
returns-clause-edges c = edges_are c.args.text.now c.parse_re-parsed.result c.in_ok-edges.edges c.in_ok-edges.ensures
    c.parse_re-parsed.ensures.read
