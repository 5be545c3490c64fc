use Rattle.std.proofs.Common.{arith}
use Rattle.am_drill.proofs.Replies.{one_more, one_within}
use Rattle.am_drill.proofs.counting.last_count.Goals as goal

pub overflow_add-bytes : goal.overflow_add-bytes
overflow_add-bytes c = omega (
  arith,
  (one_within _ c.loop-reply.k _ c.in-Some.ensures.exact).1,
  c.loop-reply.invariant.bytes,
  c.requires.bytes,
)

pub loop-reply-preserved : goal.loop-reply-preserved
loop-reply-preserved c = record {
  within = omega (arith, (one_within _ c.loop-reply.k _ c.in-Some.ensures.exact).0);
  bytes = omega (arith, one_more _ c.loop-reply.k _ c.in-Some.ensures.exact, c.loop-reply.invariant.bytes);
}

pub loop-reply-smaller : goal.loop-reply-smaller
loop-reply-smaller c = omega (arith, (one_within _ c.loop-reply.k _ c.in-Some.ensures.exact).0)
