use Rattle.ninep_client.proofs.Books.{gives_each_once}
use Rattle.ninep_client.proofs.laws.replies_are_given_once.Goals as goal

pub returns : goal.returns
returns c = gives_each_once
