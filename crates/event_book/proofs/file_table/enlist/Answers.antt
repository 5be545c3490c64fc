use Rattle.std.proofs.Common.{◌≡◌, true, refl, sym, subst, ◌∙◌}
use Rattle.std.proofs.lemmas.Result.{on_ok_weaker}
use Rattle.event_book.specs.WindowFiles.{enlisted}
use Rattle.event_book.specs.Table.{files_in, present_of, is_touched, IsTable}
use Rattle.event_book.proofs.TableLemmas.{touched-last, pushed_table, grown_table, grown_from, grown_kept, kept_either}
use Rattle.event_book.proofs.file_table.enlist.Goals as goal

pub place_or_insert-requires : goal.place_or_insert-requires
place_or_insert-requires c =
    subst (λ ws. IsTable ws c.args.all.now.items) (sym (c.as_slice.ensures.value ∙ c.in_ok-push.ensures.items))
    (pushed_table c.args.touched.now.items c.args.window c.args.all.now.items c.requires)

pub returns-clause-table : goal.returns-clause-table
returns-clause-table c =
    let table = subst (λ ws. IsTable ws c.place_or_insert.new.all.items) c.as_slice.ensures.value
    c.place_or_insert.ensures.table in
    let touched = subst (λ ws. is_touched ws c.args.window ≡ true) (sym c.in_ok-push.ensures.items)
    (touched-last c.args.touched.now.items c.args.window) in
    grown_table _ c.args.window c.in_ok-place.place c.place_or_insert.new.all.items c.index_mut-at.result.now _ table
    touched c.index_mut-at.ensures.value refl c.in_ok-place.ensures.place refl

pub returns-clause-ok : goal.returns-clause-ok
returns-clause-ok c =
    on_ok_weaker c.enlist.result
    (λ e. grown_from (λ f. enlisted f c.args.opening) c.args.window c.in_ok-place.place c.place_or_insert.new.all.items
    (files_in present_of c.args.all.now.items) c.index_mut-at.result.now _ c.place_or_insert.ensures.present
    c.place_or_insert.ensures.table.rises c.in_ok-place.ensures.place c.index_mut-at.ensures.value refl e)
    c.enlist.ensures.ok

pub returns-clause-kept : goal.returns-clause-kept
returns-clause-kept c =
    grown_kept c.in_ok-place.place c.place_or_insert.new.all.items c.index_mut-at.result.now _
    c.index_mut-at.ensures.value refl
    (kept_either c.enlist.result c.index_mut-at.result.now.file c.enlist.new.self _ c.enlist.ensures.ok
    c.enlist.ensures.err)
    ∙ c.place_or_insert.ensures.kept
