use Rattle.core_addresses.proofs.Fitted.{given_fits}
use Rattle.core_addresses.proofs.data.whole_runes.Goals as goal

pub returns-clause-small : goal.returns-clause-small
returns-clause-small c =
    given_fits c.args.body.now.state.text c.args.from c.args.to c.args.count c.runes_within-runes.result
    c.in_ok-text.text c.in_ok-encode.field-0
    c.runes_within-runes.ensures.exact c.runes_within-runes.ensures.within c.in_ok-text.ensures c.in_ok-encode.ensures
