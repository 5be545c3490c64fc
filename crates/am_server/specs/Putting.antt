-- Where writing stops before the end of a text.
use Rattle.std.specs.Prelude.{◌≡◌, ◌⊎◌, ℕ, List, ◌++◌, take}
use Rattle.std.specs.List.{concat}
use Rattle.am_base.specs.Seen.{Seen}
use Rattle.am_base.specs.Written.{IsWhole, IsCut}
use Rattle.am_journal.specs.declared.event.Journal.{Journal}
use Rattle.am_journal.specs.Journal.{journal_in, journal_text}
use Rattle.am_journal.specs.Report.{report_text}
use Rattle.am_journal.specs.Sections.{report_parts}
use Rattle.acme_core.specs.Views.{view_of}
use Rattle.am_serve.specs.declared.scripting.ScriptEnd.{ScriptEnd}
use Rattle.am_slots.specs.declared.slot.Slot.{Slot}
use Rattle.am_server.specs.Texts.{host_text, served_text}
use Rattle.am_server.specs.declared.texts.Stop.{Stop}
use Rattle.am_server.specs.declared.texts.Stop.TheVariants as stop

-- An output got a front of a text. Where it has failed its count of faults has risen; where memory ran out it got one
-- of these fronts whole.
abbrev pub StopsIn : Stop → Seen → List ℕ → (ℕ → List ℕ) → Type 0
StopsIn stop.Failed o text front = IsCut o text
StopsIn stop.NoMemory o text front = (n : ℕ) × IsWhole o (front n)

module _ {G L S K : Type 0} where
  -- An output got the heading and the lines of a front of the journal; or all of them, and a front of the report's
  -- parts; or all of these, and the lines `host` of a front of the slots.
  abbrev pub IsLeft : Seen → Journal → List (Slot G L S K) → Type 0
  IsLeft o journal slots =
      ((n : ℕ) × IsWhole o (journal_text (journal_in journal.format (take n journal.events))))
      ⊎ ((n : ℕ) × IsWhole o (journal_text journal ++ concat (take n (report_parts (view_of journal)))))
      ⊎ ((n : ℕ) × IsWhole o (journal_text journal ++ report_text (view_of journal) ++ host_text 0 (take n slots)))

  -- where the whole text stops
  abbrev pub StopsAt : Stop → Seen → Journal → List (Slot G L S K) → ScriptEnd → Type 0
  StopsAt stop.Failed o journal slots end = IsCut o (served_text journal slots end)
  StopsAt stop.NoMemory o journal slots end = IsLeft o journal slots
