use Rattle.core_watch.proofs.Sounds.{sound_line, sound_request}
use Rattle.core_watch.proofs.laws.stays_sound.Goals as goal

pub returns-clause-lines : goal.returns-clause-lines
returns-clause-lines c = sound_line

pub returns-clause-requests : goal.returns-clause-requests
returns-clause-requests c = sound_request
