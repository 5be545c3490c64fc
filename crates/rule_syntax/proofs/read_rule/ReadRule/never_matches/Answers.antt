use Rattle.std.proofs.Common.{◌∙◌, sym, ap, subst, not}
use Rattle.rule_syntax.specs.Edged.{NeverMatches}
use Rattle.rule_syntax.specs.declared.rule.Rule.{Rule}
use Rattle.rule_syntax.proofs.ExpressionLemmas.{never_by}
use Rattle.rule_syntax.proofs.read_rule.ReadRule.never_matches.Goals as goal

pub returns-in-Some : goal.returns-in-Some
returns-in-Some c = λ h. subst (λ (r : Rule). NeverMatches r.argument c.args.text.now) c.self.view_is
    (never_by c.self.inside.rule.argument c.self.inside.edges c.in-Some.edges c.args.text.now c.in-Some.is
    c.self.invariant (ap not (sym c.may_be_whole.ensures) ∙ h))
