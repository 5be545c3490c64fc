use Rattle.am_base.specs.Seen.{seen}
use Rattle.am_do.specs.Ends.{peer}
use Rattle.am_do.proofs.Ran.{talked_linked}
use Rattle.am_do.proofs.running.dial_and_talk.Goals as goal

pub returns-in-Ok-clause-untouched : goal.returns-in-Ok-clause-untouched
returns-in-Ok-clause-untouched g c = λ none other.
    absurd (talked_linked (peer g.H.G.L.Link.told g.H.G.L.R.Source.told g.H.G.L.W.Sink.told) _ _
    (seen (g.O.Sink.told c.args.output.now) (g.O.Sink.told c.talk.new.output)) _ c.talk.ensures.talks none)
