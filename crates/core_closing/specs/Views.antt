-- What the report tells of the editor as it stands.
use Rattle.std.specs.Prelude.{ℕ, ◌+◌, List, [], ◌∷◌, Option, Some, None, slice_index_or}
use Rattle.am_text.specs.declared.job.Job.{Job}
use Rattle.am_text.specs.declared.job.JobLife.{JobLife}
use Rattle.am_text.specs.declared.job.JobLife.TheVariants.{Waiting}
use Rattle.acme_watch.specs.Jobs.{JobsState, life_of}
use Rattle.am_journal.specs.declared.view.ConnView.{ConnView}
use Rattle.am_journal.specs.declared.view.WindowView.{WindowView}
use Rattle.am_journal.specs.declared.view.View.{View}
use Rattle.am_journal.specs.declared.ending.Ending.{Ending}
use Rattle.core_windows.specs.Windows.{Window}
use Rattle.core_parts.specs.declared.connection.Connection.{Connection}
use Rattle.core_parts.specs.declared.connection.Connection.TheVariants.{Undialed, Live, Ended}
use Rattle.event_book.specs.WindowFiles.{ledger_of}
use Rattle.core_parts.specs.States.{Present, format_of}

-- the user of a connection
abbrev pub user_at : List (List ℕ) → ℕ → List ℕ
user_at users conn = slice_index_or users conn []

-- what the report tells of a connection
abbrev pub conn_view : List (List ℕ) → ℕ → Option Ending → ConnView
conn_view users c ending = record { conn = c; ending = ending; user = user_at users c }

-- the dialled connections, of which the first has this number
unfoldable pub conn_views : List (List ℕ) → ℕ → List Connection → List ConnView
conn_views users c [] = []
conn_views users c (Undialed ∷ cs) = conn_views users (c + 1) cs
conn_views users c (Live ∷ cs) = conn_view users c None ∷ conn_views users (c + 1) cs
conn_views users c (Ended why ∷ cs) = conn_view users c (Some why) ∷ conn_views users (c + 1) cs

-- what the report tells of a window
abbrev pub window_view : ℕ → Window → WindowView
window_view w window = record {
  id = w;
  modified = window.modified;
  dot = window.body.dot;
  name = window.name;
  body = window.body.text;
}

-- the live windows, of which the first in the list has this number
unfoldable pub window_views : ℕ → List (Option Window) → List WindowView
window_views w [] = []
window_views w (None ∷ ws) = window_views (w + 1) ws
window_views w (Some window ∷ ws) = window_view w window ∷ window_views (w + 1) ws

-- a request that has no other life waits
abbrev pub or_waiting : Option JobLife → JobLife
or_waiting None = Waiting
or_waiting (Some life) = life

-- the life of each of these requests, before which there are so many
unfoldable pub lives_from : JobsState → ℕ → List Job → List JobLife
lives_from j before [] = []
lives_from j before (job ∷ jobs) = or_waiting (life_of j (before + 1)) ∷ lives_from j (before + 1) jobs

-- what the report tells
abbrev pub view_at : ℕ → Present → View
view_at entries s = record {
  format = format_of s;
  entries = entries;
  conns = conn_views s.users 0 s.connections;
  windows = window_views 1 s.scene.windows;
  items = ledger_of s.scene.book.files;
  jobs = s.scene.jobs;
  lives = lives_from s.scene.watch.jobs 0 s.scene.jobs;
}
