use Rattle.std.proofs.Common.{◌∙◌}
use Rattle.rule_syntax.proofs.ExpressionLemmas.{literal_edges}
use Rattle.rule_syntax.proofs.verbs.literal_judged.Goals as goal

pub returns-clause-edges : goal.returns-clause-edges
returns-clause-edges c = literal_edges c.args.pieces.now c.as_slice.result.now c.in_ok-judged.judged.edges c.requires
    (c.as_slice.ensures ∙ c.in_ok-text.ensures) c.in_ok-judged.ensures.edges
