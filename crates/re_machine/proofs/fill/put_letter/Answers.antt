use Rattle.std.proofs.Common.{◌+◌, map, arith, refl}
use Rattle.re_machine.proofs.Joining.{len}
use Rattle.re_machine.proofs.Parts.{leaf_room, leaf_more}
use Rattle.re_machine.proofs.fill.put_letter.Goals as goal

pub returns-in_ok-push_front : goal.returns-in_ok-push_front
returns-in_ok-push_front g c = λ x t is old r left i.
    leaf_more g.S.LetterSet.bits x old r left t c.args.filling.now
    (record { parts = c.push_front.new.self; next = c.args.filling.now.next + 1 })
    (map g.S.LetterSet.bits c.args.rows.now) c.letter.result is i c.in_ok-push_front.ensures.items refl
    c.letter.ensures.null c.letter.ensures.first c.letter.ensures.last

pub returns-else-n-rows : goal.returns-else-n-rows
returns-else-n-rows g c = λ x t is old r left i.
    absurd (omega (
      arith,
      leaf_room g.S.LetterSet.bits x old r left t c.args.filling.now
          (map g.S.LetterSet.bits c.args.rows.now) is i,
      len g.S.LetterSet.bits c.args.rows.now,
      c.if-n-rows.false,
    ))
