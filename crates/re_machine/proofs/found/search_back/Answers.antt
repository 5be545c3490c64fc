use Rattle.re_sets.specs.Readings.{mirrored}
use Rattle.re_machine.proofs.Stepping.{finds_last}
use Rattle.re_machine.proofs.found.search_back.Goals as goal

pub returns : goal.returns
returns g c = λ r is.
    let f = rw (c.from_end.ensures, c.len-count.ensures) at c.in_ok-found.ensures (mirrored r) is in
    rw (c.found_from_end.ensures, c.len-count.ensures) (finds_last r (g.T.Letters.letters c.args.text.now) c.args.start
    c.args.to c.args.no_null c.in_ok-found.found c.requires.order c.requires.within f)
