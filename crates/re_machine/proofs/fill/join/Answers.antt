use Rattle.std.specs.Prelude.{slice_index, map}
use Rattle.re_machine.proofs.Joining.{joining_more, joining_done}
use Rattle.re_machine.proofs.fill.join.Goals as goal

pub letters-preserved : goal.letters-preserved
letters-preserved g c =
    let bits = g.S.LetterSet.bits in
    joining_more (slice_index (map bits c.args.rows.now)) g.S.LetterSet.SIZE (bits c.args.set) (bits c.letters.left)
    (bits c.letters.all) c.in-Some.n (bits c.without-left.result) (bits c.with_row-all.result) c.letters.invariant
    c.in-Some.ensures.some.0 c.in-Some.ensures.some.1 c.without-left.ensures c.with_row-all.ensures

pub returns : goal.returns
returns g c =
    let bits = g.S.LetterSet.bits in
    joining_done (slice_index (map bits c.args.rows.now)) g.S.LetterSet.SIZE (bits c.args.set) (bits c.letters.left)
    (bits c.letters.all) c.letters.invariant c.in_default.ensures.none
