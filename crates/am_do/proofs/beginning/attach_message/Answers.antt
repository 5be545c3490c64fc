use Rattle.std.proofs.Common.{◌≡◌, [], sym, subst, rules}
use Rattle.ninep_types.specs.declared.message.TBody.{TBody}
use Rattle.ninep_types.specs.declared.message.TBody.TheVariants as t
use Rattle.ninep_client.specs.Asking.{MaySend}
use Rattle.am_do.specs.Talks.{attach_of}
use Rattle.am_do.proofs.Begun.{attach_may}
use Rattle.am_do.proofs.beginning.attach_message.Goals as goal

pub returns-clause-may : goal.returns-clause-may
returns-clause-may c =
    let same : t.Attach 0 4294967295 c.in_ok-uname.uname c.in_ok-aname.aname ≡ attach_of c.args.tree.now =
    search rules in
    subst (λ (b : TBody). MaySend [] b) (sym same) (attach_may c.args.tree.now c.requires)
