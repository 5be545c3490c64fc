use Rattle.std.proofs.Common.{refl}
use Rattle.am_replay.specs.Traces.{HasWords}
use Rattle.am_replay.proofs.Traced.{text_more, all_more}
use Rattle.am_replay.proofs.tracing.put_replies.Goals as goal

pub loop-conn-preserved : goal.loop-conn-preserved
loop-conn-preserved c = record {
  text = text_more _ _ _ _ _ c.loop-conn.k _ c.in-Some.ensures.exact c.loop-conn.invariant.text
      c.in_ok-put_reply.ensures.line refl;
  worded = all_more HasWords _ c.loop-conn.k _ c.in-Some.ensures.exact c.loop-conn.invariant.worded
      c.in_ok-put_reply.ensures.worded;
}
