-- The editor in a drill: what stands fixed from round to round, and the facts that change.
use Rattle.std.specs.Prelude.{ℕ, false, List, [], ◌∷◌, codes, replicate, Some, None}
use Rattle.fid_table.specs.declared.types.Fid.{Fid}
use Rattle.fid_table.specs.declared.session.Waiting.{Waiting}
use Rattle.fid_table.specs.Tables.{Tables}
use Rattle.acme_tree.specs.declared.node.Node.TheVariants.{Root, File}
use Rattle.acme_tree.specs.declared.node.WinFile.TheVariants as file
use Rattle.core_fids.specs.Fids.{fresh, opened_fid}
use Rattle.core_scene.specs.Scenes.{no_scene}
use Rattle.core_windows.specs.Stories.{WindowStory}
use Rattle.event_book.specs.declared.lives.Recorded.{Recorded}
use Rattle.event_book.specs.BookState.{BookState}
use Rattle.event_book.specs.WindowFiles.{EventFile}
use Rattle.wait_queue.specs.declared.types.Asker.{Asker}
use Rattle.core_parts.specs.declared.connection.Connection.TheVariants.{Undialed, Live}
use Rattle.core_outputs.specs.declared.reply.Reply.{Reply}
use Rattle.am_journal.specs.declared.event.Format.TheVariants.{One}
use Rattle.core_parts.specs.States.{State}
use Rattle.core_outputs.specs.Unsent.{Unsent, nothing_unsent}

-- ---- what stands fixed: fid 0 is the root, fid 1 the body of window 1, fid 2 its event file

abbrev pub body_fid : Fid
body_fid = opened_fid (fresh (File 1 file.Body)) 2 None

abbrev pub event_fid : Fid
event_fid = opened_fid (fresh (File 1 file.Event)) 0 (Some 1)

abbrev pub fids : List (ℕ × Fid)
fids = (0, fresh Root) ∷ (1, body_fid) ∷ (2, event_fid) ∷ []

abbrev pub tables_with : List Waiting → Tables
tables_with waiting = record {
  format = One;
  sessions = record { conn = 0; msize = Some 8192; fids = fids } ∷ [];
  waiting = waiting;
}

-- ---- what changes

pub record Facts : Type 0 where
  pub entries : ℕ
  pub story : WindowStory
  pub items : List Recorded
  pub carry : List ℕ
  pub latest : ℕ
  pub unsent : Unsent
  pub replies : List Reply

abbrev pub file_with : List Recorded → List ℕ → EventFile
file_with items carry = record { items = items; openings = record { opening = 1; carry = carry } ∷ [] }

abbrev pub book_with : List Asker → Facts → BookState
book_with reads f = record {
  files = record { window = 1; file = file_with f.items f.carry } ∷ [];
  owners = 1 ∷ [];
  reads = reads;
  latest = f.latest;
}

-- the editor between two events of a drill
abbrev pub standing : List Waiting → List Asker → Facts → State
standing waiting reads f = record {
  entries = f.entries;
  connections = Live ∷ replicate 63 Undialed;
  users = codes "u" ∷ replicate 63 [];
  tables = tables_with waiting;
  windows = Some f.story ∷ [];
  scene = record (no_scene false) { book = book_with reads f };
  unsent = f.unsent ∷ replicate 63 nothing_unsent;
  replies = f.replies;
}
