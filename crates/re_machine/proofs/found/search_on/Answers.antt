use Rattle.re_machine.proofs.Stepping.{finds_first}
use Rattle.re_machine.proofs.found.search_on.Goals as goal

pub returns : goal.returns
returns g c = λ r is. finds_first r (g.T.Letters.letters c.args.text.now) c.args.from c.args.end c.args.no_null
    c.in_ok-found.found (c.in_ok-found.ensures r is)
