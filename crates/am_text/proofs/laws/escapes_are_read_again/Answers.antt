use Rattle.am_text.proofs.Unescaped.{reads_again, reads_only}
use Rattle.am_text.proofs.laws.escapes_are_read_again.Goals as goal

pub returns : goal.returns
returns c = record { again = reads_again; only = reads_only }
