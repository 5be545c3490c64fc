use Rattle.std.proofs.Common.{◌≡◌, true, false, subst, sym}
use Rattle.event_book.specs.Table.{present_of, is_at, has_window}
use Rattle.event_book.proofs.TableLemmas.{present_at, file_absent}
use Rattle.event_book.proofs.file_table.FileTable.file.Goals as goal

pub returns-in-Some : goal.returns-in-Some
returns-in-Some c =
    let at = subst (λ rs. is_at c.args.window c.in-Some.place rs ≡ true) c.as_slice.ensures.value
    c.in-Some.ensures.some in
    rw (← c.self.view_is)
    (sym (present_at c.args.window c.in-Some.place c.self.inside.all.items c.index.result.now c.self.invariant.rises at
    c.index.ensures))

pub returns-in-None : goal.returns-in-None
returns-in-None c =
    let none = subst (λ rs. has_window c.args.window rs ≡ false) c.as_slice.ensures.value c.in-None.ensures.none in
    rw (← c.self.view_is) (sym (file_absent present_of c.args.window c.self.inside.all.items none))
