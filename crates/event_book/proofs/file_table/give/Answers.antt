use Rattle.std.proofs.Common.{◌≡◌, true, false, refl, subst, sym}
use Rattle.std.proofs.lemmas.Result.{on_ok_weaker}
use Rattle.event_book.specs.Table.{is_touched, IsTable, is_at, has_window}
use Rattle.wait_queue.specs.WaitState.{must_wait}
use Rattle.event_book.specs.WindowFiles.{given, is_enlisted, queue_of}
use Rattle.event_book.proofs.TableLemmas.{touched-last, pushed_table, grown_table, grown_from, grown_kept, kept_either}
use Rattle.event_book.proofs.TableLemmas.{present_at, living_absent}
use Rattle.event_book.proofs.file_table.give.Goals as goal

pub returns-clause-table : goal.returns-clause-table
returns-clause-table c =
    let at = subst (λ rs. is_at c.args.window c.in-Some.place rs ≡ true) c.as_slice.ensures.value
    c.in-Some.ensures.some in
    let touched = subst (λ ws. is_touched ws c.args.window ≡ true) (sym c.in_ok-push.ensures.items)
    (touched-last c.args.touched.now.items c.args.window) in
    let table = subst (λ ws. IsTable ws c.args.all.now.items) (sym c.in_ok-push.ensures.items)
    (pushed_table c.args.touched.now.items c.args.window c.args.all.now.items c.requires.table) in
    grown_table _ c.args.window c.in-Some.place c.args.all.now.items c.index_mut-found.result.now _ table touched
    c.index_mut-found.ensures.value refl at refl

pub returns-clause-ok : goal.returns-clause-ok
returns-clause-ok c =
    let at = subst (λ rs. is_at c.args.window c.in-Some.place rs ≡ true) c.as_slice.ensures.value
    c.in-Some.ensures.some in
    on_ok_weaker c.give.result
    (λ e. grown_from (λ f. given f c.args.asker c.args.at) c.args.window c.in-Some.place c.args.all.now.items _
    c.index_mut-found.result.now _ refl c.requires.table.rises at c.index_mut-found.ensures.value refl e)
    c.give.ensures.ok

pub returns-clause-kept : goal.returns-clause-kept
returns-clause-kept c =
    grown_kept c.in-Some.place c.args.all.now.items c.index_mut-found.result.now _ c.index_mut-found.ensures.value refl
    (kept_either c.give.result c.index_mut-found.result.now.file c.give.new.self _ c.give.ensures.ok c.give.ensures.err)

pub unreachable-requires : goal.unreachable-requires
unreachable-requires c =
    let none = subst (λ rs. has_window c.args.window rs ≡ false) c.as_slice.ensures.value c.in_default.ensures.none in
    living_absent c.args.window c.args.asker.opening c.args.all.now.items none c.requires.living

pub give-requires-clause-living : goal.give-requires-clause-living
give-requires-clause-living c =
    let at = subst (λ rs. is_at c.args.window c.in-Some.place rs ≡ true) c.as_slice.ensures.value
    c.in-Some.ensures.some in
    subst (λ f. is_enlisted f c.args.asker.opening ≡ true)
    (present_at c.args.window c.in-Some.place c.args.all.now.items c.index_mut-found.result.now c.requires.table.rises
    at c.index_mut-found.ensures.value)
    c.requires.living

pub give-requires-clause-ready : goal.give-requires-clause-ready
give-requires-clause-ready c =
    let at = subst (λ rs. is_at c.args.window c.in-Some.place rs ≡ true) c.as_slice.ensures.value
    c.in-Some.ensures.some in
    subst (λ f. must_wait (queue_of f) c.args.asker ≡ false)
    (present_at c.args.window c.in-Some.place c.args.all.now.items c.index_mut-found.result.now c.requires.table.rises
    at c.index_mut-found.ensures.value)
    c.requires.ready

pub returns-clause-piece : goal.returns-clause-piece
returns-clause-piece c =
    let at = subst (λ rs. is_at c.args.window c.in-Some.place rs ≡ true) c.as_slice.ensures.value
    c.in-Some.ensures.some in
    rw (present_at c.args.window c.in-Some.place c.args.all.now.items c.index_mut-found.result.now
    c.requires.table.rises at c.index_mut-found.ensures.value)
    c.give.ensures.piece
