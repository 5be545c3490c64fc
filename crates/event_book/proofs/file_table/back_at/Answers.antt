use Rattle.std.proofs.Common.{refl, sym, false, subst, true, ◌≡◌}
use Rattle.event_book.specs.Table.{with_kept, is_at, has_window}
use Rattle.event_book.proofs.TableLemmas.{back_one, changed_absent}
use Rattle.event_book.proofs.file_table.back_at.Goals as goal

pub returns-in-Some : goal.returns-in-Some
returns-in-Some c =
    let at = subst (λ rs. is_at c.args.window c.in-Some.place rs ≡ true) c.as_slice.ensures.value
    c.in-Some.ensures.some in
    back_one c.args.window c.in-Some.place c.args.all.now.items c.index_mut-at.result.now _ c.requires at
    c.index_mut-at.ensures.value refl refl c.back.ensures

pub returns-in_default : goal.returns-in_default
returns-in_default c =
    let none = subst (λ rs. has_window c.args.window rs ≡ false) c.as_slice.ensures.value c.in_default.ensures.none in
    sym (changed_absent c.args.window with_kept c.args.all.now.items none)
