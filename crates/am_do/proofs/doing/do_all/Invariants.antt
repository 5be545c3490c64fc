use Rattle.std.proofs.Common.{◌≡◌, ◌≤◌}
use Rattle.am_base.specs.Seen.{seen}
use Rattle.am_do.specs.Lawful.{AreLawful}
use Rattle.am_do.specs.Went.{IsReady}
use Rattle.am_do.proofs.Lines.{SoFar}
use Rattle.am_do.proofs.doing.do_all.Given as goal

abbrev pub invariant-loop-line : goal.invariant-loop-line
invariant-loop-line g l = record {
  ready : IsReady l.client.talk;
  most : l.client.talk.msize ≡ l.fn.client.talk.msize;
  lawful : AreLawful l.line-iterator.rest.items;
  sink : (g.W.Sink.told l.fn.client.sink).faults ≤ (g.W.Sink.told l.client.sink).faults;
  source : (g.R.Source.told l.fn.client.source).faults ≤ (g.R.Source.told l.client.source).faults;
  far : SoFar l.fn.client.talk.msize l.fn.lines l.line-iterator.rest.items l.fn.client.talk l.client.talk
      (g.W.Sink.told l.fn.client.sink).bytes (g.W.Sink.told l.client.sink).bytes
      (g.R.Source.told l.fn.client.source).bytes (g.R.Source.told l.client.source).bytes
      l.failed (seen (g.O.Sink.told l.fn.output) (g.O.Sink.told l.output));
}
