use Rattle.std.proofs.Common.{◌≡◌, length, arith}
use Rattle.re_machine.specs.Ways.{reading}
use Rattle.re_machine.proofs.Stepping.{idle_is, glide_known}
use Rattle.re_machine.proofs.alone.glide.Goals as goal

pub returns-clause-known : goal.returns-clause-known
returns-clause-known g c = λ r is known.
    let bits = g.S.LetterSet.bits in
    let xs = c.args.threads.now.rows.items in
    let best = c.args.threads.now.best in
    let one : length xs ≡ 1 = omega (arith, c.len.ensures, c.if-len-ne1.false, c.args.threads.now.rows.ok.0) in
    glide_known bits r (reading c.args.cursor.way (g.T.Letters.letters c.args.text.now)) c.args.bounds.no_null
    c.args.bounds.low c.args.cursor.at c.stay_alone-at.result.0 xs c.index.result.now c.index_mut-row.result.now
    c.stay_alone-at.result.1 best one c.index.ensures c.index_mut-row.ensures.value
    (λ start. c.stay_alone-at.ensures.known r c.args.bounds.no_null c.args.bounds.low start best is c.requires.low
    (idle_is c.is_none.result best c.is_none.ensures)) known
