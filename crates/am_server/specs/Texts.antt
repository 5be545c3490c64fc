-- What serving writes.
use Rattle.std.specs.Prelude.{ℕ, ◌+◌, Bool, true, false, List, [], ◌∷◌, ◌++◌, codes, if◌then◌else◌}
use Rattle.std.specs.Fmt.{decimal}
use Rattle.am_journal.specs.declared.event.Journal.{Journal}
use Rattle.am_journal.specs.Journal.{journal_text}
use Rattle.am_journal.specs.Report.{report_text}
use Rattle.am_journal.specs.Texts.{refused_text}
use Rattle.am_serve.specs.Faults.{fault_word}
use Rattle.am_serve.specs.declared.scripting.ScriptEnd.{ScriptEnd}
use Rattle.am_serve.specs.declared.scripting.ScriptEnd.TheVariants as script
use Rattle.acme_core.specs.Views.{view_of}
use Rattle.am_slots.specs.declared.slot.Slot.{Slot}
use Rattle.am_slots.specs.declared.slot.Slot.TheVariants as slot
use Rattle.am_text.specs.Ascii.{newline}

-- the line `refused`, where a line of the script is
abbrev pub refusal_text : ScriptEnd → List ℕ
refusal_text script.Done = []
refusal_text (script.Refused line why) = refused_text line (fault_word why)
refusal_text script.NoMemory = []

-- the line of a slot whose host failed
abbrev pub host_line : ℕ → List ℕ
host_line n = codes "host " ++ decimal n ++ newline ∷ []

module _ {G L S K : Type 0} where
  -- the slot's gate could not be bound, its gate gave no link, or its link gave no halves
  abbrev pub has_failed : Slot G L S K → Bool
  has_failed slot.Unbound = true
  has_failed (slot.Bound gate) = false
  has_failed (slot.Unlinked gate) = true
  has_failed (slot.Unhalved gate link) = true
  has_failed (slot.Undialled x refused) = false
  has_failed (slot.Served x read wrote) = false

  -- a line for each slot that has failed, from this number on
  abbrev pub host_text : ℕ → List (Slot G L S K) → List ℕ
  host_text n [] = []
  host_text n (s ∷ slots) = (if has_failed s then host_line n else []) ++ host_text (n + 1) slots

  -- the whole text: the journal's lines, the report of its run, the lines `host`, and the line `refused`
  abbrev pub served_text : Journal → List (Slot G L S K) → ScriptEnd → List ℕ
  served_text journal slots end = journal_text journal ++ report_text (view_of journal) ++ host_text 0 slots
      ++ refusal_text end
