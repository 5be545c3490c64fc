-- The report on the editor.
use Rattle.std.specs.Prelude.{ℕ, ◌+◌, Bool, true, false, List, [], ◌∷◌, ◌++◌, length, Option, Some, None, codes}
use Rattle.std.specs.Prelude.{get_or}
use Rattle.std.specs.List.{flat_map}
use Rattle.am_text.specs.Ascii.{newline, space}
use Rattle.am_text.specs.Fields.{around, text_end}
use Rattle.am_text.specs.Requests.{request_lines}
use Rattle.std.specs.Fmt.{decimal}
use Rattle.am_text.specs.Utf8.{decode}
use Rattle.am_text.specs.declared.range.Range.{Range}
use Rattle.am_text.specs.declared.job.Job.{Job}
use Rattle.am_text.specs.declared.job.JobLife.{JobLife}
use Rattle.am_text.specs.declared.job.JobLife.TheVariants.{Waiting, Taken, Answered, Lost}
use Rattle.win_events.specs.declared.item.Life.{Life}
use Rattle.win_events.specs.declared.item.Life.TheVariants as life
use Rattle.am_journal.specs.declared.ending.Ending.{Ending}
use Rattle.am_journal.specs.declared.event.Format.{Format}
use Rattle.am_journal.specs.declared.event.Format.TheVariants.{One, Two}
use Rattle.am_journal.specs.declared.view.ConnView.{ConnView}
use Rattle.am_journal.specs.declared.view.WindowView.{WindowView}
use Rattle.am_journal.specs.declared.view.ItemView.{ItemView}
use Rattle.am_journal.specs.declared.view.View.{View}
use Rattle.am_journal.specs.Causes.{cause}

-- ---- connections

-- live, or ended with the cause
unfoldable pub conn_state : Option Ending → List ℕ
conn_state None = codes "live"
conn_state (Some e) = codes "ended " ++ cause e

-- ---- the lines

-- `name n`
abbrev pub count_line : List ℕ → ℕ → List ℕ
count_line name n = around name n (newline ∷ [])

-- the end of a connection's line: in format 2 it tells its user
abbrev pub user_end : Format → List ℕ → List ℕ
user_end One user = newline ∷ []
user_end Two user = space ∷ text_end (decode user)

-- `connection C live`, or `connection C ended CAUSE`, in format 2 with ` :USER` behind it
unfoldable pub conn_line : Format → ConnView → List ℕ
conn_line format v =
    around (codes "connection ") v.conn (space ∷ []) ++ conn_state v.ending ++ user_end format v.user

-- 0 or 1, with a blank after it
abbrev pub modified_word : Bool → List ℕ
modified_word false = codes "0 "
modified_word true = codes "1 "

-- two decimals, each with a blank after it
unfoldable pub dot_words : Range → List ℕ
dot_words dot = around [] dot.q0 (space ∷ []) ++ around [] dot.q1 (space ∷ [])

-- `window W MODIFIED DOT0 DOT1 :NAME`
unfoldable pub window_line : WindowView → List ℕ
window_line w = around (codes "window ") w.id (space ∷ []) ++ modified_word w.modified ++ dot_words w.dot
    ++ text_end w.name

-- `body :TEXT`
unfoldable pub body_line : WindowView → List ℕ
body_line w = codes "body " ++ text_end w.body

-- the two lines of a window
abbrev pub window_lines : WindowView → List ℕ
window_lines w = window_line w ++ body_line w

-- ---- items

-- `taken OPENING ENTRY`: what an opening read, and at which entry
unfoldable pub taken_words : ℕ → ℕ → List ℕ
taken_words opening at = around (codes "taken ") opening (space ∷ []) ++ decimal at

-- `NAME OPENING ENTRY END`: what an opening read, and at which entry that ended
unfoldable pub spent_words : List ℕ → ℕ → ℕ → ℕ → List ℕ
spent_words name opening at end = around name opening (space ∷ []) ++ (around [] at (space ∷ []) ++ decimal end)

-- the life of an item
unfoldable pub life_words : Life → List ℕ
life_words life.Pending = codes "pending"
life_words (life.Taken opening at) = taken_words opening at
life_words (life.Back opening at back) = spent_words (codes "back ") opening at back
life_words (life.Dropped at) = codes "dropped " ++ decimal at

-- `item W K LIFE :SPELLING`
unfoldable pub item_line : ItemView → List ℕ
item_line v = around (codes "item ") v.window (space ∷ []) ++ (around [] v.number (space ∷ [])
    ++ (life_words v.life ++ space ∷ text_end (decode v.spelled)))

-- ---- requests

-- whether it was done or failed, with a blank before it
abbrev pub good_word : Bool → List ℕ
good_word false = codes " fail"
good_word true = codes " ok"

-- the life of a request: it waits, an opening took it, and answered it or closed before
unfoldable pub state_words : JobLife → List ℕ
state_words Waiting = codes "waiting"
state_words (Taken opening at) = taken_words opening at
state_words (Answered opening at answer good) = spent_words (codes "answered ") opening at answer ++ good_word good
state_words (Lost opening at close) = spent_words (codes "lost ") opening at close

-- `state LIFE`, which format 2 tells
unfoldable pub state_line : Format → JobLife → List ℕ
state_line One life = []
state_line Two life = codes "state " ++ (state_words life ++ newline ∷ [])

-- the life at this place: one that has none waits
abbrev pub life_at : List JobLife → ℕ → JobLife
life_at lives k = get_or lives k Waiting

-- the lines of the request at this place: its number is one more
unfoldable pub request_told : Format → List JobLife → ℕ → Job → List ℕ
request_told format lives k job = request_lines (k + 1) job ++ state_line format (life_at lives k)

-- the lines of those from this place on
abbrev pub requests_from : Format → List JobLife → ℕ → List Job → List ℕ
requests_from format lives k [] = []
requests_from format lives k (job ∷ jobs) = request_told format lives k job ++ requests_from format lives (k + 1) jobs

-- ---- the report

-- the line that ends a transcript, and begins a report
unfoldable pub title : List ℕ
title = codes "report" ++ newline ∷ []

-- the connections
unfoldable pub conns_part : View → List ℕ
conns_part v = count_line (codes "connections ") (length v.conns) ++ flat_map (conn_line v.format) v.conns

-- the windows
unfoldable pub windows_part : View → List ℕ
windows_part v = count_line (codes "windows ") (length v.windows) ++ flat_map window_lines v.windows

-- the items of event files
unfoldable pub items_part : View → List ℕ
items_part v = count_line (codes "items ") (length v.items) ++ flat_map item_line v.items

-- the requests
unfoldable pub requests_part : View → List ℕ
requests_part v = count_line (codes "requests ") (length v.jobs) ++ requests_from v.format v.lives 0 v.jobs

-- the report
abbrev pub report_text : View → List ℕ
report_text v = title ++ count_line (codes "journal ") v.entries ++ conns_part v ++ windows_part v ++ items_part v
    ++ requests_part v
