use Rattle.std.proofs.Common.{◌≡◌, false, subst, sym, ◌∙◌}
use Rattle.event_book.specs.Table.{is_at}
use Rattle.event_book.proofs.TableLemmas.{within-at, absent}
use Rattle.event_book.proofs.file_table.place_in.Goals as goal

pub returns-then-is_at-clause-within : goal.returns-then-is_at-clause-within
returns-then-is_at-clause-within c = within-at c.args.window c.place_of-place.result c.args.all.now
    (sym c.is_at.ensures ∙ c.if-is_at.true)

pub returns-clause-none : goal.returns-clause-none
returns-clause-none c =
    absent 0 c.args.window c.args.all.now c.requires
    (subst (λ k. is_at c.args.window k c.args.all.now ≡ false) c.place_of-place.ensures
    (sym c.is_at.ensures ∙ c.if-is_at.false))
