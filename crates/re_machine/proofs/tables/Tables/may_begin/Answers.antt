use Rattle.std.proofs.Common.{◌≡◌, ◌<◌, ◌∙◌, sym, length, map, arith}
use Rattle.std.specs.Prelude.{false, slice_index, slice_index_or}
use Rattle.re_machine.proofs.Building.{none_begins, same_default}
use Rattle.re_machine.proofs.tables.Tables.may_begin.Goals as goal

pub returns-then-n-len : goal.returns-then-n-len
returns-then-n-len g c = λ e.
    let bits = g.S.LetterSet.bits in
    let l : c.args.rune < length c.args.self.now.begins.items = omega (arith, c.if-n-len.true, c.len.ensures) in
    let there : slice_index_or c.args.self.now.begins.items c.args.rune false ≡ false =
    same_default c.args.self.now.begins.items c.args.rune false c.index.result.now l ∙ sym c.index.ensures ∙ e in
    none_begins bits g.S.LetterSet.SIZE c.args.self.now c.args.rune
    (slice_index (map bits c.args.self.now.ascii.items) c.args.rune) c.requires
    (c.requires.ascii_is c.args.rune (omega (arith, l, c.requires.begins_len)))
    (c.requires.begins_is c.args.rune l there)

pub returns-else-n-len : goal.returns-else-n-len
returns-else-n-len g c = λ e.
    none_begins g.S.LetterSet.bits g.S.LetterSet.SIZE c.args.self.now c.args.rune (g.S.LetterSet.bits c.taking.result)
    c.requires (rw c.deref.ensures.value at c.taking.ensures) (c.meets.ensures.none e)
