use Rattle.std.proofs.Common.{sym, ◌∙◌}
use Rattle.am_serve.proofs.Passing.{looks_same}
use Rattle.am_serve.proofs.scripting.do_line.Goals as goal

pub returns-else-await_window-clause-does : goal.returns-else-await_window-clause-does
returns-else-await_window-clause-does g c = (
  c.await_window.ensures.looks,
  (
    c.in-Ok-Awaits.window,
    sym (rw c.in-Ok-Awaits.field-0-is at c.in-Ok-Awaits.ensures.exact),
    sym c.await_window.ensures.open ∙ c.if-await_window.false,
    c.await_window.ensures.ended c.if-await_window.false,
  ),
)

pub returns-in-Ok-Faulty-clause-does : goal.returns-in-Ok-Faulty-clause-does
returns-in-Ok-Faulty-clause-does g c = (
  looks_same (g.C.Counter.known c.args.seat.now),
  sym (rw c.in-Ok-Faulty.field-0-is at c.in-Ok-Faulty.ensures.exact),
)

pub returns-in-Err-clause-does : goal.returns-in-Err-clause-does
returns-in-Err-clause-does g c = looks_same (g.C.Counter.known c.args.seat.now)
