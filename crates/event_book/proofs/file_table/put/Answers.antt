use Rattle.std.proofs.Common.{◌≡◌, true, refl, subst, sym, false}
use Rattle.std.proofs.lemmas.Result.{on_ok_weaker}
use Rattle.event_book.specs.Table.{is_touched, IsTable, is_at, has_window}
use Rattle.event_book.specs.WindowFiles.{with_item}
use Rattle.event_book.proofs.TableLemmas.{touched-last, pushed_table, grown_table, grown_from, grown_kept, kept_either}
use Rattle.event_book.proofs.TableLemmas.{present_at, open_absent}
use Rattle.event_book.proofs.file_table.put.Goals as goal

pub returns-clause-table : goal.returns-clause-table
returns-clause-table c =
    let at = subst (λ rs. is_at c.args.window c.in-Some.place rs ≡ true) c.as_slice.ensures.value
    c.in-Some.ensures.some in
    let touched = subst (λ ws. is_touched ws c.args.window ≡ true) (sym c.in_ok-push.ensures.items)
    (touched-last c.args.touched.now.items c.args.window) in
    let table = subst (λ ws. IsTable ws c.args.all.now.items) (sym c.in_ok-push.ensures.items)
    (pushed_table c.args.touched.now.items c.args.window c.args.all.now.items c.requires.table) in
    grown_table _ c.args.window c.in-Some.place c.args.all.now.items c.index_mut-at.result.now _ table touched
    c.index_mut-at.ensures.value refl at refl

pub returns-clause-ok : goal.returns-clause-ok
returns-clause-ok c =
    let at = subst (λ rs. is_at c.args.window c.in-Some.place rs ≡ true) c.as_slice.ensures.value
    c.in-Some.ensures.some in
    on_ok_weaker c.put.result
    (λ e. grown_from (λ f. with_item f c.args.item) c.args.window c.in-Some.place c.args.all.now.items _
    c.index_mut-at.result.now _ refl c.requires.table.rises at c.index_mut-at.ensures.value refl e)
    c.put.ensures.ok

pub returns-clause-kept : goal.returns-clause-kept
returns-clause-kept c =
    grown_kept c.in-Some.place c.args.all.now.items c.index_mut-at.result.now _ c.index_mut-at.ensures.value refl
    (kept_either c.put.result c.index_mut-at.result.now.file c.put.new.self _ c.put.ensures.ok c.put.ensures.err)

pub unreachable-requires : goal.unreachable-requires
unreachable-requires c =
    let none = subst (λ rs. has_window c.args.window rs ≡ false) c.as_slice.ensures.value c.in_default.ensures.none in
    open_absent c.args.window c.args.all.now.items none c.requires.is_open

pub returns-clause-number : goal.returns-clause-number
returns-clause-number c =
    let at = subst (λ rs. is_at c.args.window c.in-Some.place rs ≡ true) c.as_slice.ensures.value
    c.in-Some.ensures.some in
    rw (present_at c.args.window c.in-Some.place c.args.all.now.items c.index_mut-at.result.now c.requires.table.rises
    at c.index_mut-at.ensures.value)
    c.put.ensures.number
