use Rattle.std.proofs.Common.{sym}
use Rattle.am_replay.proofs.Replied.{line_more}
use Rattle.am_replay.proofs.script.replies_text.Goals as goal

pub loop-conn-preserved : goal.loop-conn-preserved
loop-conn-preserved c =
    rw (c.in_ok-append.ensures.ok, c.as_slice.ensures, c.in_ok-reply_line.ensures, c.loop-conn.invariant)
    (sym (line_more _ c.loop-conn.k _ c.in-Some.ensures.exact))
