use Rattle.std.proofs.Common.{◌≡◌, ◌<◌, ◌-◌, length, arith}
use Rattle.std.proofs.lemmas.Bool.Decides.{nat_tests}
use Rattle.plumb_msg.proofs.GrowLemmas.{data_now}
use Rattle.plumb_msg.proofs.begun.in_data.Goals as goal

pub returns-clause-more : goal.returns-clause-more
returns-clause-more c =
    let short : length c.args.text.now - c.args.at < c.args.size = grind (arith, nat_tests) in
    data_now c.args.text.now c.args.at c.args.size c.requires short
