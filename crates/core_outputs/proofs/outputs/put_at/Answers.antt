use Rattle.std.proofs.Common.{length}
use Rattle.core_outputs.proofs.Places.{touched_wider}
use Rattle.core_outputs.proofs.outputs.put_at.Goals as goal

pub returns-in_err-put-clause-touched : goal.returns-in_err-put-clause-touched
returns-in_err-put-clause-touched c =
    touched_wider c.args.touched.now c.with_place.result c.args.all.now c.args.place c.put.new.self
    c.with_place.ensures.before c.with_place.ensures.from c.with_place.ensures.behind c.with_place.ensures.past
    (c.with_place.ensures.within (length c.args.all.now) c.requires.touched.within c.if-place-all.true)
    c.requires.touched

pub returns-in_ok-put-clause-touched : goal.returns-in_ok-put-clause-touched
returns-in_ok-put-clause-touched c =
    touched_wider c.args.touched.now c.with_place.result c.args.all.now c.args.place c.put.new.self
    c.with_place.ensures.before c.with_place.ensures.from c.with_place.ensures.behind c.with_place.ensures.past
    (c.with_place.ensures.within (length c.args.all.now) c.requires.touched.within c.if-place-all.true)
    c.requires.touched
