use Rattle.std.proofs.Common.{[], refl}
use Rattle.am_base.specs.Seen.{seen}
use Rattle.am_do.specs.Went.{ends}
use Rattle.am_do.proofs.Lines.{comes_begun, halted_beginning, wrote_none}
use Rattle.am_do.proofs.doing.do_lines.Goals as goal

pub returns-in-Ok : goal.returns-in-Ok
returns-in-Ok g c =
    record {
      comes = comes_begun (g.W.Sink.told c.args.client.now.sink).is_ended
          (g.R.Source.told c.args.client.now.source).is_ended c.do_all.result.stop c.args.tree.now c.args.lines
          c.do_all.result.failed (seen (g.O.Sink.told c.args.output.now) (g.O.Sink.told c.do_all.new.output))
          (g.W.Sink.told c.args.client.now.sink).faults (g.R.Source.told c.args.client.now.source).faults
          (ends (g.W.Sink.told c.begin.new.client.sink) (g.W.Sink.told c.do_all.new.client.sink)
          (g.R.Source.told c.begin.new.client.source) (g.R.Source.told c.do_all.new.client.source))
          c.in-Ok.ensures.ok refl refl c.begin.ensures.later_sink c.begin.ensures.later_source c.do_all.ensures.comes;
    }

pub returns-in-Err : goal.returns-in-Err
returns-in-Err g c =
    record {
      comes = record {
        text = [];
        halted = halted_beginning c.args.tree.now c.args.lines c.in-Err.ensures.err;
        wrote = wrote_none (g.O.Sink.told c.args.output.now);
      };
    }
