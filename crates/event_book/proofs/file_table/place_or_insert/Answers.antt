use Rattle.std.proofs.Common.{◌≡◌, true, false, arith, refl, sym, ap, subst, ◌∙◌}
use Rattle.std.specs.List.{insert}
use Rattle.am_text.specs.Twice.{Twice}
use Rattle.event_book.specs.WindowFiles.{EventFile}
use Rattle.event_book.specs.Table.{present_of, kept_of, place_of, is_at, has_window, IsTable}
use Rattle.event_book.proofs.TableLemmas.{place-within, inserted_table, inserted, at-insert, within-at, at_of}
use Rattle.event_book.proofs.file_table.place_or_insert.Goals as goal

pub insert-requires : goal.insert-requires
insert-requires c =
    let within = place-within c.args.window c.as_slice-2.result.now in
    omega (arith, within, c.place_of-place.ensures, c.as_slice-2.ensures.len)

pub returns-clause-table : goal.returns-clause-table
returns-clause-table c =
    let place = c.place_of-place.ensures ∙ ap (place_of c.args.window) c.as_slice-2.ensures.value in
    let none = subst (λ rs. has_window c.args.window rs ≡ false) c.as_slice.ensures.value c.in_default.ensures.none in
    let new = at_of c.args.window false c.new.result in
    rw c.in_ok-insert.ensures.items
    (subst (λ k. IsTable c.args.touched.now (insert c.args.all.now.items k new)) (sym place)
    (inserted_table c.args.touched.now c.args.window c.args.all.now.items new c.requires none refl refl c.new.ensures))

pub returns-clause-present : goal.returns-clause-present
returns-clause-present c =
    rw c.in_ok-insert.ensures.items
    (inserted present_of c.place_of-place.result c.args.all.now.items (at_of c.args.window false c.new.result)
    (ap (λ (t : Twice EventFile). t.present) c.new.ensures))

pub returns-clause-kept : goal.returns-clause-kept
returns-clause-kept c =
    rw c.in_ok-insert.ensures.items
    (inserted kept_of c.place_of-place.result c.args.all.now.items (at_of c.args.window false c.new.result)
    (ap (λ (t : Twice EventFile). t.kept) c.new.ensures))

pub returns-clause-within : goal.returns-clause-within
returns-clause-within c =
    let place = c.place_of-place.ensures ∙ ap (place_of c.args.window) c.as_slice-2.ensures.value in
    let new = at_of c.args.window false c.new.result in
    rw c.in_ok-insert.ensures.items
    (within-at c.args.window c.place_of-place.result (insert c.args.all.now.items c.place_of-place.result new)
    (subst (λ k. is_at c.args.window k (insert c.args.all.now.items k new) ≡ true) (sym place)
    (at-insert c.args.window c.args.all.now.items new refl)))

pub returns-clause-place : goal.returns-clause-place
returns-clause-place c =
    let place = c.place_of-place.ensures ∙ ap (place_of c.args.window) c.as_slice-2.ensures.value in
    let new = at_of c.args.window false c.new.result in
    rw c.in_ok-insert.ensures.items
    (subst (λ k. is_at c.args.window k (insert c.args.all.now.items k new) ≡ true) (sym place)
    (at-insert c.args.window c.args.all.now.items new refl))
