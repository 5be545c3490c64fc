use Rattle.std.proofs.Common.{sym, subst, ◌∙◌}
use Rattle.core_events.specs.Responses.{AreSaid}
use Rattle.core_steps.specs.Order.{place_in}
use Rattle.core_steps.proofs.Rows.{put_said, left_said}
use Rattle.core_steps.proofs.ordering.merged.Goals as goal

pub joined-requires-clause-said : goal.joined-requires-clause-said
joined-requires-clause-said c =
    put_said (place_in c.args.sessions.now.present) c.others.all c.others.others.items c.others.row.items
    c.args.others c.args.row c.requires.row c.requires.others c.others.invariant

pub joined-requires-clause-more : goal.joined-requires-clause-more
joined-requires-clause-more c =
    subst AreSaid (sym (c.from_vec.ensures ∙ c.into_vec-3.ensures.items))
    (left_said (place_in c.args.sessions.now.present) c.others.all c.others.others.items c.others.row.items
    c.args.others c.args.row c.requires.row c.requires.others c.others.invariant)
