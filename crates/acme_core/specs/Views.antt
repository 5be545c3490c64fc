-- What the report tells of the editor after a journal.
use Rattle.std.specs.Prelude.{List, length}
use Rattle.am_journal.specs.declared.event.Journal.{Journal}
use Rattle.am_journal.specs.declared.view.ItemView.{ItemView}
use Rattle.am_journal.specs.declared.view.View.{View}
use Rattle.event_book.specs.WindowFiles.{ledger_of}
use Rattle.core_closing.specs.Views.{view_at}
use Rattle.acme_core.specs.Run.{run, present_after}

-- each item that was ever made, with its life, by window and number
abbrev pub ledger : Journal → List ItemView
ledger journal = ledger_of (run journal).scene.book.files

-- what the report tells after a journal
unfoldable pub view_of : Journal → View
view_of journal = view_at (length journal.events) (present_after journal)
