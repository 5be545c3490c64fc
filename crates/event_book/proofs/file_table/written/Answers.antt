use Rattle.std.proofs.Common.{refl, arith, false, subst, true, ◌≡◌}
use Rattle.event_book.specs.WindowFiles.{with_written}
use Rattle.event_book.proofs.FileLemmas.{written-unopened}
use Rattle.event_book.specs.Table.{is_at, has_window}
use Rattle.event_book.proofs.TableLemmas.{replaced_as, replaced_absent, steady_at}
use Rattle.event_book.proofs.file_table.written.Goals as goal

pub returns-in-Some : goal.returns-in-Some
returns-in-Some c =
    let at = subst (λ rs. is_at c.args.window c.in-Some.place rs ≡ true) c.as_slice.ensures.value
    c.in-Some.ensures.some in
    replaced_as (λ f. with_written f c.args.number c.args.at) c.args.window c.in-Some.place c.args.all.now.items
    c.index_mut-found.result.now _ c.requires.rises at c.index_mut-found.ensures.value
    (omega (arith, c.in-Some.ensures.within)) c.requires.steady refl refl c.written.ensures

pub returns-in_default : goal.returns-in_default
returns-in_default c =
    let none = subst (λ rs. has_window c.args.window rs ≡ false) c.as_slice.ensures.value c.in_default.ensures.none in
    replaced_absent (λ f. with_written f c.args.number c.args.at) c.args.window c.args.all.now.items c.requires.rises
    none c.requires.steady (written-unopened c.args.number c.args.at)

pub written-requires : goal.written-requires
written-requires c =
    let at = subst (λ rs. is_at c.args.window c.in-Some.place rs ≡ true) c.as_slice.ensures.value
    c.in-Some.ensures.some in
    steady_at c.args.window c.in-Some.place c.args.all.now.items c.index_mut-found.result.now c.requires.rises at
    c.index_mut-found.ensures.value c.requires.steady
