use Rattle.plumb_rules.proofs.Refused.{refused}
use Rattle.plumb_rules.proofs.verbs.field_refused.Goals as goal

pub returns : goal.returns
returns c = λ h. refused c.args.state.now c.args.rule.now c.args.field c.requires.field c.requires.keeps
    (c.in_ok-never.ensures h)
