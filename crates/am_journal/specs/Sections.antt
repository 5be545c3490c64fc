-- The parts that a report is written in.
use Rattle.std.specs.Prelude.{◌≡◌, ℕ, ◌+◌, List, [], ◌∷◌, map, length, codes}
use Rattle.std.specs.List.{concat, flat_map}
use Rattle.am_text.specs.declared.job.Job.{Job}
use Rattle.am_text.specs.declared.job.JobLife.{JobLife}
use Rattle.am_journal.specs.declared.event.Format.{Format}
use Rattle.am_journal.specs.declared.parts.Section.{Section}
use Rattle.am_journal.specs.declared.parts.Section.TheVariants as section
use Rattle.am_journal.specs.declared.view.View.{View}
use Rattle.am_journal.specs.Report.{title, count_line, conn_line, window_lines, item_line, request_told}
use Rattle.am_journal.specs.Report.{report_text}

-- all sections, in their order
unfoldable pub sections : List Section
sections = section.Title ∷ section.Journal ∷ section.Connections ∷ section.Windows ∷ section.Items ∷ section.Requests
    ∷ []

-- the first line of a section: the title, or how many there are
abbrev pub first_line : View → Section → List ℕ
first_line v section.Title = title
first_line v section.Journal = count_line (codes "journal ") v.entries
first_line v section.Connections = count_line (codes "connections ") (length v.conns)
first_line v section.Windows = count_line (codes "windows ") (length v.windows)
first_line v section.Items = count_line (codes "items ") (length v.items)
first_line v section.Requests = count_line (codes "requests ") (length v.jobs)

-- the lines of each request from this place on
abbrev pub request_parts : Format → List JobLife → ℕ → List Job → List (List ℕ)
request_parts format lives k [] = []
request_parts format lives k (job ∷ jobs) = request_told format lives k job ∷ request_parts format lives (k + 1) jobs

-- the lines of each member of a section
abbrev pub member_parts : View → Section → List (List ℕ)
member_parts v section.Title = []
member_parts v section.Journal = []
member_parts v section.Connections = map (conn_line v.format) v.conns
member_parts v section.Windows = map window_lines v.windows
member_parts v section.Items = map item_line v.items
member_parts v section.Requests = request_parts v.format v.lives 0 v.jobs

-- the parts of a section
unfoldable pub section_parts : View → Section → List (List ℕ)
section_parts v s = first_line v s ∷ member_parts v s

-- the parts of a report
abbrev pub report_parts : View → List (List ℕ)
report_parts v = flat_map (section_parts v) sections

-- A report is its parts, joined.
abbrev pub AreReports : Type 0
AreReports = (v : View) → concat (report_parts v) ≡ report_text v
