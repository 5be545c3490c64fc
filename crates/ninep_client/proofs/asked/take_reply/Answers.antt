use Rattle.std.proofs.Common.{◌≡◌, true, sym, ap, ◌∙◌}
use Rattle.std.specs.Prelude.{is_some}
use Rattle.ninep_client.proofs.Kept.{reply_there}
use Rattle.ninep_client.proofs.asked.take_reply.Goals as goal

pub unreachable-requires : goal.unreachable-requires
unreachable-requires c =
    let there = reply_there c.args.tag c.args.asked.now.items c.args.at c.remove.result c.requires
    c.remove.ensures.member in
    let no = sym (ap is_some c.in-None.is) ∙ there in
    cc
