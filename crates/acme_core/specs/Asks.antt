-- The answers to what is asked of the editor after a journal.
use Rattle.std.specs.Prelude.{Bool, List}
use Rattle.am_journal.specs.declared.event.Event.{Event}
use Rattle.am_journal.specs.declared.event.Format.{Format}
use Rattle.am_journal.specs.declared.event.Journal.{Journal}
use Rattle.am_journal.specs.Journal.{journal_in}
use Rattle.am_counter.specs.declared.ask.Ask.{Ask}
use Rattle.core_closing.specs.Asks.{answer_in}
use Rattle.acme_core.specs.Run.{present_after}

-- the answer after a journal
abbrev pub answer_at : Journal → Ask → Bool
answer_at journal asked = answer_in (present_after journal) asked

-- the answer after the events of a journal of this format
abbrev pub answers_in : Format → List Event → Ask → Bool
answers_in format events asked = answer_at (journal_in format events) asked
