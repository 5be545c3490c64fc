use Rattle.std.proofs.Common.{refl, sym, ◌∙◌}
use Rattle.re_sets.specs.Tables.{meet}
use Rattle.re_machine.specs.Threads.{rows_of}
use Rattle.re_machine.proofs.Threading.{start_there, none_ended, row_ended, seen_kept, seen_null, seen_none}
use Rattle.re_machine.proofs.rows.Threads.see.Goals as goal

pub returns-in-Some : goal.returns-in-Some
returns-in-Some g c =
    let bits = g.S.LetterSet.bits in
    let f = rw c.as_slice.ensures.value at c.in-Some.ensures in
    let e = row_ended bits (λ x. meet g.S.LetterSet.SIZE x (bits c.args.last)) c.args.self.now.rows.items c.in-Some.n
    f in
    let start = start_there bits c.args.self.now.rows.items c.in-Some.n c.index.result.now f.0 c.index.ensures in
    rw (e, c.truncate.ensures.items, start) refl

pub returns-then-is_some : goal.returns-then-is_some
returns-then-is_some g c =
    let bits = g.S.LetterSet.bits in
    let e = none_ended bits (λ x. meet g.S.LetterSet.SIZE x (bits c.args.last)) c.args.self.now.rows.items
    (rw c.as_slice.ensures.value at c.in_default.ensures) in
    rw e (seen_kept c.args.k c.args.null (rows_of bits c.args.self.now.rows.items) c.args.self.now.best
    (sym c.is_some.ensures ∙ c.if-is_some.true))

pub returns-then-null : goal.returns-then-null
returns-then-null g c =
    let bits = g.S.LetterSet.bits in
    let e = none_ended bits (λ x. meet g.S.LetterSet.SIZE x (bits c.args.last)) c.args.self.now.rows.items
    (rw c.as_slice.ensures.value at c.in_default.ensures) in
    rw e (seen_null c.args.k c.args.null (rows_of bits c.args.self.now.rows.items) c.args.self.now.best
    (sym c.is_some.ensures ∙ c.if-is_some.false) c.if-null.true)

pub returns-else-null : goal.returns-else-null
returns-else-null g c =
    let bits = g.S.LetterSet.bits in
    let e = none_ended bits (λ x. meet g.S.LetterSet.SIZE x (bits c.args.last)) c.args.self.now.rows.items
    (rw c.as_slice.ensures.value at c.in_default.ensures) in
    rw e (seen_none c.args.k c.args.null (rows_of bits c.args.self.now.rows.items) c.args.self.now.best
    (sym c.is_some.ensures ∙ c.if-is_some.false) c.if-null.false)
