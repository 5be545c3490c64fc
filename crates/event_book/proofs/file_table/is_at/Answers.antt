use Rattle.std.proofs.Common.{sym}
use Rattle.event_book.proofs.TableLemmas.{at-read, at-past}
use Rattle.event_book.proofs.file_table.is_at.Goals as goal

pub returns-then-place-all : goal.returns-then-place-all
returns-then-place-all c = sym (at-past c.args.window c.args.place c.args.all.now c.if-place-all.true)

pub returns : goal.returns
returns c = sym (at-read c.args.window c.args.place c.args.all.now c.index-all-place.result c.if-place-all.false)
