use Rattle.core_laws.proofs.Lawful.{all_laws}
use Rattle.core_laws.proofs.journals.journals_are_lawful.Goals as goal

pub returns : goal.returns
returns c = all_laws c.deeds_show.ensures c.ranges_are_inside.ensures c.group_numbers_never_fall.ensures
    c.messages_are_answered.ensures
