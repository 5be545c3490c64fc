use Rattle.core_events.proofs.Sounds.{sound_written, sound_both}
use Rattle.core_events.proofs.closing.write_back.Goals as goal

pub returns-then-is_taken-clause-sound : goal.returns-then-is_taken-clause-sound
returns-then-is_taken-clause-sound c =
    sound_both c.args.at c.written.new.self _ c.written.ensures (sound_written c.args.at c.args.book.now.present
    c.in-Some.item.window c.in-Some.item.number c.requires.sound)
