use Rattle.std.proofs.Common.{arith}
use Rattle.core_fids.specs.declared.refusal.Refusal.TheVariants as refusal
use Rattle.core_events.specs.Waits.{is_of_fid}
use Rattle.core_events.proofs.Looked.{said_more, said_all}
use Rattle.core_events.proofs.waits.clunked_reads.Goals as goal

pub loop-k-preserved : goal.loop-k-preserved
loop-k-preserved c = record {
  exact = said_more refusal.FidClunked c.args.sessions.now.present (is_of_fid c.args.conn c.args.fid)
      c.args.sessions.now.present.waiting c.loop-k.k c.loop-k.said c.answer_clunked.new.said c.loop-k.invariant.exact
      c.in_ok-answer_clunked.ensures.ok;
  said = c.in_ok-answer_clunked.ensures.said;
}

pub returns-clause-exact : goal.returns-clause-exact
returns-clause-exact c =
    said_all refusal.FidClunked c.args.sessions.now.present (is_of_fid c.args.conn c.args.fid)
    c.args.sessions.now.present.waiting c.loop-k.k c.loop-k.said (omega arith) c.loop-k.invariant.exact
