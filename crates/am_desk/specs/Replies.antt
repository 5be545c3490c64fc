-- Whom the last entry of a journal replied to.
use Rattle.std.specs.Prelude.{ℕ, List, map}
use Rattle.am_journal.specs.declared.event.Event.{Event}
use Rattle.am_journal.specs.declared.event.Format.{Format}
use Rattle.am_journal.specs.declared.event.Journal.{Journal}
use Rattle.am_journal.specs.Journal.{journal_in}
use Rattle.core_outputs.specs.declared.reply.Reply.{Reply}
use Rattle.acme_core.specs.Run.{run}

-- the connections that the last entry replied to, in the order of its replies
abbrev pub told_by : Journal → List ℕ
told_by journal = map (λ (reply : Reply). reply.conn) (run journal).replies

-- the same, of the events of a journal of this format
abbrev pub told_in : Format → List Event → List ℕ
told_in format events = told_by (journal_in format events)
