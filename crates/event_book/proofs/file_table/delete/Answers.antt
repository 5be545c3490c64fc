use Rattle.std.proofs.Common.{refl, arith, false, subst, true, ◌≡◌}
use Rattle.event_book.specs.WindowFiles.{deleted}
use Rattle.event_book.specs.Table.{is_at, has_window}
use Rattle.event_book.proofs.TableLemmas.{replaced_as, replaced_absent}
use Rattle.event_book.proofs.file_table.delete.Goals as goal

pub returns-in-Some : goal.returns-in-Some
returns-in-Some c =
    let at = subst (λ rs. is_at c.args.window c.in-Some.place rs ≡ true) c.as_slice.ensures.value
    c.in-Some.ensures.some in
    replaced_as (λ f. deleted f c.args.at) c.args.window c.in-Some.place c.args.all.now.items
    c.index_mut-found.result.now _ c.requires.rises at c.index_mut-found.ensures.value
    (omega (arith, c.in-Some.ensures.within)) c.requires.steady refl refl c.delete.ensures

pub returns-in_default : goal.returns-in_default
returns-in_default c =
    let none = subst (λ rs. has_window c.args.window rs ≡ false) c.as_slice.ensures.value c.in_default.ensures.none in
    replaced_absent (λ f. deleted f c.args.at) c.args.window c.args.all.now.items c.requires.rises none
    c.requires.steady refl
