-- The editor as it stands, and by all that was ever done.
use Rattle.std.specs.Prelude.{ℕ, ◌+◌, Bool, true, false, List, [], replicate, Option}
use Rattle.fid_table.specs.Tables.{Tables, nothing}
use Rattle.am_journal.specs.declared.event.Format.{Format}
use Rattle.am_journal.specs.declared.event.Format.TheVariants.{One, Two}
use Rattle.core_scene.specs.Scenes.{SceneState, no_scene}
use Rattle.core_windows.specs.Stories.{WindowStory, shown_windows}
use Rattle.am_journal.specs.Limits.{connection_count}
use Rattle.core_parts.specs.declared.connection.Connection.{Connection}
use Rattle.core_parts.specs.declared.connection.Connection.TheVariants.{Undialed}
use Rattle.core_outputs.specs.declared.reply.Reply.{Reply}
use Rattle.core_outputs.specs.Unsent.{Unsent, nothing_unsent, unsent_at}

-- the editor as it stands: how many entries were done, its 64 connections, the user of each, their sessions, fids and
-- waiting reads, the scene that steps play on, the unsent replies of each connection, and the replies that the last
-- entry made users: the uname of the connection's last Tattach that was answered by Rattach, empty where there is none
pub record Present : Type 0 where
  pub entries : ℕ
  pub connections : List Connection
  pub users : List (List ℕ)
  pub tables : Tables
  pub scene : SceneState
  pub unsent : List Unsent
  pub replies : List Reply

-- the editor with its windows by all edits that were ever made; the rest of the scene, whose windows are left out, is
-- as it stands
pub record State : Type 0 where
  pub entries : ℕ
  pub connections : List Connection
  pub users : List (List ℕ)
  pub tables : Tables
  pub windows : List (Option WindowStory)
  pub scene : SceneState
  pub unsent : List Unsent
  pub replies : List Reply

-- the story as it stands
abbrev pub present : State → Present
present s = record {
  entries = s.entries;
  connections = s.connections;
  users = s.users;
  tables = s.tables;
  scene = record s.scene { windows = shown_windows s.windows };
  unsent = s.unsent;
  replies = s.replies;
}

-- whether the editor has the files `log` and `jobs`
abbrev pub is_watched : Format → Bool
is_watched One = false
is_watched Two = true

-- the empty editor of a format
abbrev pub start_of : Format → State
start_of format = record {
  entries = 0;
  connections = replicate connection_count Undialed;
  users = replicate connection_count [];
  tables = nothing format;
  windows = [];
  scene = no_scene (is_watched format);
  unsent = replicate connection_count nothing_unsent;
  replies = [];
}

-- the format of the journal, by which the limits go
abbrev pub format_of : Present → Format
format_of s = s.tables.format

-- how many unsent replies a connection has
abbrev pub unsent_count : Present → ℕ → ℕ
unsent_count s conn = (unsent_at s.unsent conn).count

-- the number of the entry that comes
abbrev pub next_entry : Present → ℕ
next_entry s = s.entries + 1
