use Rattle.am_base.specs.Seen.{seen}
use Rattle.am_do.specs.Ends.{peer}
use Rattle.am_do.proofs.Ran.{says_read}
use Rattle.am_do.proofs.running.do_path.Goals as goal

pub returns-in-Ok-clause-says : goal.returns-in-Ok-clause-says
returns-in-Ok-clause-says g c =
    says_read (peer g.H.G.L.Link.told g.H.G.L.R.Source.told g.H.G.L.W.Sink.told) c.args.tree.now c.in-Ok.bytes
    c.as_slice.result.now
    (g.I.Source.told c.args.input.now) (g.I.Source.told c.read_to_end.new.source) (g.H.Host.told c.args.host.now)
    (g.H.Host.told c.do_input.new.host)
    (seen (g.O.Sink.told c.args.output.now) (g.O.Sink.told c.do_input.new.output)) c.do_input.result c.as_slice.ensures
    c.in-Ok.ensures.told c.in-Ok.ensures.fits c.do_input.ensures.reads
