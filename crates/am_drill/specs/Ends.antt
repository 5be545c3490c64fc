-- How a drill ends.
use Rattle.std.specs.Prelude.{◌≡◌, ℕ, ◌≤◌, List}
use Rattle.am_base.specs.Seen.{Seen}
use Rattle.am_base.specs.Written.{IsWhole, IsCut}
use Rattle.am_journal.specs.declared.event.Journal.{Journal}
use Rattle.am_drill.specs.declared.driving.DrillEnd.{DrillEnd}
use Rattle.am_drill.specs.declared.driving.DrillEnd.TheVariants.{Done, WriteFault, NoMemory}
use Rattle.am_drill.specs.Brief.{IsBegun}
use Rattle.am_drill.specs.Drill.{drill_journal}
use Rattle.am_drill.specs.Summary.{summary}

-- nothing was put
abbrev pub IsIdle : Seen → Type 0
IsIdle o = (o.now.bytes ≡ o.before.bytes) × (o.now.faults ≡ o.before.faults)

-- what writing a text comes to
abbrev pub Wrote : DrillEnd → Seen → List ℕ → Type 0
Wrote Done o text = IsWhole o text × (o.before.faults ≤ o.now.faults)
Wrote WriteFault o text = IsCut o text
Wrote NoMemory o text = ⊥

-- What each end says of so many rounds, the output and the journal. Done: the journal is the drill's, and the
-- output got the whole summary of their run. WriteFault: the same journal, and the output got a front of the summary,
-- and its count of faults has risen. NoMemory: the journal has the first of its events, and nothing was put.
abbrev pub DrillSays : DrillEnd → ℕ → Seen → Journal → Type 0
DrillSays Done rounds o journal =
    (journal ≡ drill_journal rounds) × IsWhole o (summary (drill_journal rounds)) × (o.before.faults ≤ o.now.faults)
DrillSays WriteFault rounds o journal = (journal ≡ drill_journal rounds) × IsCut o (summary (drill_journal rounds))
DrillSays NoMemory rounds o journal = IsBegun journal (drill_journal rounds) × IsIdle o
