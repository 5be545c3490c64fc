use Rattle.std.proofs.Common.{arith}
use Rattle.std.specs.Prelude.{◌<◌, length, map}
use Rattle.re_machine.proofs.Joining.{len}
use Rattle.re_machine.proofs.Adding.{adding_begun, adding_more, adding_done}
use Rattle.re_machine.proofs.fill.add.Goals as goal

pub letters-init : goal.letters-init
letters-init g c = λ h. adding_begun (map g.S.LetterSet.bits c.args.rows.now) (g.S.LetterSet.bits c.args.from)
    (g.S.LetterSet.bits c.args.to)

pub letters-preserved : goal.letters-preserved
letters-preserved g c = λ h.
    let bits = g.S.LetterSet.bits in
    let has = c.in-Some.ensures.some.1 in
    let adding = c.letters.invariant h in
    let inside : c.in-Some.n < length c.letters.rows = omega (
      arith,
      h c.in-Some.n (adding.inside c.in-Some.n has),
      c.letters.auto.rows,
    ) in
    adding_more (map bits c.args.rows.now) (map bits c.letters.rows) (map bits c.put_row.new.rows) (bits c.args.from)
    (bits c.args.to) (bits c.letters.left) c.in-Some.n (bits c.without-left.result) adding
    (omega (arith, inside, len bits c.letters.rows)) has c.without-left.ensures (c.put_row.ensures.row inside)

pub returns-clause-added : goal.returns-clause-added
returns-clause-added g c = λ h. adding_done (map g.S.LetterSet.bits c.args.rows.now)
    (map g.S.LetterSet.bits c.letters.rows) (g.S.LetterSet.bits c.args.from) (g.S.LetterSet.bits c.args.to)
    (g.S.LetterSet.bits c.letters.left) (c.letters.invariant h) c.in_default.ensures.none
