use Rattle.core_events.proofs.Sounds.{sound_left, sound_both}
use Rattle.core_events.proofs.closing.close_opening.Goals as goal

pub returns-then-is_living-clause-sound : goal.returns-then-is_living-clause-sound
returns-then-is_living-clause-sound c =
    sound_both c.args.at c.leave.new.self _ c.leave.ensures (sound_left c.args.at c.args.book.now.present
    c.in-Some.opening c.requires.sound)
