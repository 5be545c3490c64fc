use Rattle.std.proofs.Common.{◌∙◌, sym, refl}
use Rattle.re_machine.proofs.Stepping.{is_alone}
use Rattle.re_machine.proofs.alone.alone.Goals as goal

pub returns : goal.returns
returns g c =
    let bits = g.S.LetterSet.bits in
    is_alone bits g.S.LetterSet.SIZE c.args.context.now (bits c.args.takes) (bits c.args.lone.set) c.args.lone.is_idle
    (bits c.both-next.result) (sym c.ends.ensures ∙ c.if-ends.false)
    (rw (c.both-next.ensures, c.join.ensures, c.as_slice.ensures.value) refl)
    (sym c.is_none.ensures.is ∙ c.if-is_none.false) (sym c.begins.ensures ∙ c.if-begins.false)
