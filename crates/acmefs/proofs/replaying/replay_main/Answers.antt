use Rattle.am_replay.proofs.OwnText.{says_own}
use Rattle.am_replay.proofs.RoundTrip.{says_played, says_trips}
use Rattle.acmefs.proofs.replaying.replay_main.Goals as goal

pub returns-clause-own_text : goal.returns-clause-own_text
returns-clause-own_text g c = (
  c.replay-ended.result.end,
  c.status_of.ensures,
  says_own c.replay-ended.result.end _ _ _ _ c.replay-ended.ensures.says,
)

pub returns-clause-journal : goal.returns-clause-journal
returns-clause-journal g c = record {
  played = says_played c.replay-ended.result.end _ _ _ _ c.replay-ended.ensures.says;
  round_trip = says_trips c.replay-ended.result.end _ _ _ _ c.replay-ended.ensures.says;
  laws = c.replay-ended.ensures.laws;
}

pub returns-clause-events : goal.returns-clause-events
returns-clause-events g c = c.events_are_lawful.ensures _

pub returns-clause-ports : goal.returns-clause-ports
returns-clause-ports g c = c.ports_are_lawful.ensures _
