use Rattle.std.proofs.Common.{◌≡◌, ap, ◌∙◌, rules}
use Rattle.std.specs.Prelude.{nat_lt}
use Rattle.ninep_client.proofs.client.is_above.Goals as goal

pub returns : goal.returns
returns c = rw (c.t_size.ensures.exact, c.spellings_have_their_size.ensures.t c.args.message.now) (search rules)
