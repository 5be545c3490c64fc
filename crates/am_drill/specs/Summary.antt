-- The summary of a drill.
use Rattle.std.specs.Prelude.{ℕ, ◌==◌, Bool, true, false, List, [], ◌∷◌, ◌++◌, length, sum_by, count_by, codes}
use Rattle.std.specs.Prelude.{if◌then◌else◌}
use Rattle.std.specs.Fmt.{decimal}
use Rattle.am_journal.specs.declared.event.Event.{Event}
use Rattle.am_journal.specs.declared.event.Journal.{Journal}
use Rattle.am_journal.specs.declared.view.WindowView.{WindowView}
use Rattle.am_journal.specs.declared.view.ItemView.{ItemView}
use Rattle.am_journal.specs.declared.view.View.{View}
use Rattle.win_events.specs.declared.item.Life.{Life}
use Rattle.win_events.specs.declared.item.Life.TheVariants.{Pending, Taken, Back, Dropped}
use Rattle.core_outputs.specs.declared.reply.Reply.{Reply}
use Rattle.acme_core.specs.Run.{step}
use Rattle.core_parts.specs.States.{State, start_of}
use Rattle.acme_core.specs.Views.{view_of}
use Rattle.am_text.specs.Ascii.{newline}
use Rattle.am_drill.specs.declared.counting.Count.{Count}

-- ---- replies

-- the replies of all events, each behind those before it, from a state on
unfoldable pub replies_from : State → List Event → List Reply
replies_from s [] = []
replies_from s (e ∷ es) = (step s e).replies ++ replies_from (step s e) es

-- all replies of a journal
abbrev pub replies_of : Journal → List Reply
replies_of journal = replies_from (start_of journal.format) journal.events

-- the bytes of a reply
abbrev pub bytes_in : Reply → ℕ
bytes_in reply = length reply.bytes

-- how many there are, and their bytes in all
abbrev pub count_of : List Reply → Count
count_of replies = record { replies = length replies; bytes = sum_by bytes_in replies }

-- the count of a journal's replies
abbrev pub count_at : Journal → Count
count_at journal = count_of (replies_of journal)

-- ---- what the view tells

-- how many runes the body of a window has, where it lives
abbrev pub runes_of : ℕ → List WindowView → ℕ
runes_of w [] = 0
runes_of w (view ∷ views) = if view.id == w then length view.body else runes_of w views

-- an item that was taken, and isn't written back
abbrev pub is_taken : Life → Bool
is_taken Pending = false
is_taken (Taken opening at) = true
is_taken (Back opening at back) = false
is_taken (Dropped at) = false

-- a pending item
abbrev pub is_pending : Life → Bool
is_pending Pending = true
is_pending (Taken opening at) = false
is_pending (Back opening at back) = false
is_pending (Dropped at) = false

-- whether an item of the report was taken
abbrev pub has_taken : ItemView → Bool
has_taken item = is_taken item.life

-- whether an item of the report is pending
abbrev pub has_pending : ItemView → Bool
has_pending item = is_pending item.life

-- ---- the text

-- `name n`
abbrev pub line : List ℕ → ℕ → List ℕ
line name n = name ++ (decimal n ++ newline ∷ [])

-- the summary
unfoldable pub summary_text : View → Count → List ℕ
summary_text view count =
    line (codes "entries ") view.entries
    ++ line (codes "replies ") count.replies
    ++ line (codes "reply bytes ") count.bytes
    ++ line (codes "body runes ") (runes_of 1 view.windows)
    ++ line (codes "items ") (length view.items)
    ++ line (codes "taken ") (count_by has_taken view.items)
    ++ line (codes "pending ") (count_by has_pending view.items)

-- the summary of the run of a journal
unfoldable pub summary : Journal → List ℕ
summary journal = summary_text (view_of journal) (count_at journal)
