-- Reading a line in words from left to right.
use Rattle.std.specs.Prelude.{ℕ, ◌+◌, ◌^◌, ◌&&◌, nat_le, ◌==◌, List, [], ◌∷◌, length, Option, Some, None, if◌then◌else◌}
use Rattle.std.specs.Prelude.{codes}
use Rattle.std.specs.Str.{bytes_eq}
use Rattle.ninep_types.specs.declared.message.TMsg.{TMsg}
use Rattle.ninep_types.specs.declared.message.TBody.{TBody}
use Rattle.ninep_types.specs.declared.message.TBody.TheVariants as t
use Rattle.ninep_types.specs.declared.message.RMsg.{RMsg}
use Rattle.ninep_types.specs.declared.message.RBody.{RBody}
use Rattle.ninep_types.specs.declared.message.RBody.TheVariants as r
use Rattle.ninep_types.specs.Limits.{max_msize}
use Rattle.ninep_types.specs.Spelling.{size_t, size_r}
use Rattle.am_journal.specs.declared.event.Event.{Event}
use Rattle.am_journal.specs.declared.event.Event.TheVariants as event
use Rattle.am_text.specs.Ascii.{space}
use Rattle.am_text.specs.Front.{after_front}
use Rattle.am_journal.specs.Limits.{connection_count}
use Rattle.am_text.specs.Lines.{first_field, after_field}
use Rattle.am_journal.specs.Line.{event_of}
use Rattle.ninep_trace.specs.declared.line.Line.{Line}
use Rattle.ninep_trace.specs.declared.line.Line.TheVariants as line
use Rattle.ninep_trace.specs.Fields.{◌>>=◌, small_at, number_at, text_at, bytes_in_hex_at, qid_at, qid_field_at}
use Rattle.ninep_trace.specs.Fields.{quoted_at, listed_at}

-- the first of the readers that has this name
abbrev pub read_by : {B : Type 0} → List (List ℕ × (List ℕ → Option (B × List ℕ))) → List ℕ → List ℕ
    → Option (B × List ℕ)
read_by [] name bytes = None
read_by (r ∷ rs) name bytes = if bytes_eq name r.0 then r.1 bytes else read_by rs name bytes

-- ---- messages to the server

-- the fields of Tversion, and the bytes after them
unfoldable pub t_version_at : List ℕ → Option (TBody × List ℕ)
t_version_at input = do
  msize ← number_at (codes " msize=") (2 ^ 32) input
  version ← text_at (codes " version=") msize.1
  Some (t.Version msize.0 version.0, version.1)

-- the fields of Tauth, and the bytes after them
unfoldable pub t_auth_at : List ℕ → Option (TBody × List ℕ)
t_auth_at input = do
  afid ← number_at (codes " afid=") (2 ^ 32) input
  uname ← text_at (codes " uname=") afid.1
  aname ← text_at (codes " aname=") uname.1
  Some (t.Auth afid.0 uname.0 aname.0, aname.1)

-- the fields of Tflush, and the bytes after them
unfoldable pub t_flush_at : List ℕ → Option (TBody × List ℕ)
t_flush_at input = do
  oldtag ← number_at (codes " oldtag=") (2 ^ 16) input
  Some (t.Flush oldtag.0, oldtag.1)

-- the fields of Tattach, and the bytes after them
unfoldable pub t_attach_at : List ℕ → Option (TBody × List ℕ)
t_attach_at input = do
  fid ← number_at (codes " fid=") (2 ^ 32) input
  afid ← number_at (codes " afid=") (2 ^ 32) fid.1
  uname ← text_at (codes " uname=") afid.1
  aname ← text_at (codes " aname=") uname.1
  Some (t.Attach fid.0 afid.0 uname.0 aname.0, aname.1)

-- the fields of Twalk, and the bytes after them
unfoldable pub t_walk_at : List ℕ → Option (TBody × List ℕ)
t_walk_at input = do
  fid ← number_at (codes " fid=") (2 ^ 32) input
  newfid ← number_at (codes " newfid=") (2 ^ 32) fid.1
  names ← listed_at (codes " names=") quoted_at newfid.1
  Some (t.Walk fid.0 newfid.0 names.0, names.1)

-- the fields of Topen, and the bytes after them
unfoldable pub t_open_at : List ℕ → Option (TBody × List ℕ)
t_open_at input = do
  fid ← number_at (codes " fid=") (2 ^ 32) input
  mode ← number_at (codes " mode=") (2 ^ 8) fid.1
  Some (t.Open fid.0 mode.0, mode.1)

-- the fields of Tcreate, and the bytes after them
unfoldable pub t_create_at : List ℕ → Option (TBody × List ℕ)
t_create_at input = do
  fid ← number_at (codes " fid=") (2 ^ 32) input
  name ← text_at (codes " name=") fid.1
  perm ← number_at (codes " perm=") (2 ^ 32) name.1
  mode ← number_at (codes " mode=") (2 ^ 8) perm.1
  Some (t.Create fid.0 name.0 perm.0 mode.0, mode.1)

-- the fields of Tread, and the bytes after them
unfoldable pub t_read_at : List ℕ → Option (TBody × List ℕ)
t_read_at input = do
  fid ← number_at (codes " fid=") (2 ^ 32) input
  offset ← number_at (codes " offset=") (2 ^ 64) fid.1
  count ← number_at (codes " count=") (2 ^ 32) offset.1
  Some (t.Read fid.0 offset.0 count.0, count.1)

-- the fields of Twrite, and the bytes after them
unfoldable pub t_write_at : List ℕ → Option (TBody × List ℕ)
t_write_at input = do
  fid ← number_at (codes " fid=") (2 ^ 32) input
  offset ← number_at (codes " offset=") (2 ^ 64) fid.1
  bytes ← bytes_in_hex_at (codes " data=") (max_msize + 1) offset.1
  Some (t.Write fid.0 offset.0 bytes.0, bytes.1)

-- the fields of Tclunk, and the bytes after them
unfoldable pub t_clunk_at : List ℕ → Option (TBody × List ℕ)
t_clunk_at input = do
  fid ← number_at (codes " fid=") (2 ^ 32) input
  Some (t.Clunk fid.0, fid.1)

-- the fields of Tremove, and the bytes after them
unfoldable pub t_remove_at : List ℕ → Option (TBody × List ℕ)
t_remove_at input = do
  fid ← number_at (codes " fid=") (2 ^ 32) input
  Some (t.Remove fid.0, fid.1)

-- the fields of Tstat, and the bytes after them
unfoldable pub t_stat_at : List ℕ → Option (TBody × List ℕ)
t_stat_at input = do
  fid ← number_at (codes " fid=") (2 ^ 32) input
  Some (t.Stat fid.0, fid.1)

-- the fields of Twstat, and the bytes after them
unfoldable pub t_wstat_at : List ℕ → Option (TBody × List ℕ)
t_wstat_at input = do
  fid ← number_at (codes " fid=") (2 ^ 32) input
  stat ← bytes_in_hex_at (codes " stat=") (2 ^ 16) fid.1
  Some (t.Wstat fid.0 stat.0, stat.1)

-- the readers of the fields, by the name of the message
abbrev pub t_readers : List (List ℕ × (List ℕ → Option (TBody × List ℕ)))
t_readers =
    (codes "Tversion", t_version_at)
    ∷ (codes "Tauth", t_auth_at)
    ∷ (codes "Tflush", t_flush_at)
    ∷ (codes "Tattach", t_attach_at)
    ∷ (codes "Twalk", t_walk_at)
    ∷ (codes "Topen", t_open_at)
    ∷ (codes "Tcreate", t_create_at)
    ∷ (codes "Tread", t_read_at)
    ∷ (codes "Twrite", t_write_at)
    ∷ (codes "Tclunk", t_clunk_at)
    ∷ (codes "Tremove", t_remove_at)
    ∷ (codes "Tstat", t_stat_at)
    ∷ (codes "Twstat", t_wstat_at) ∷ []

-- the fields of the message of a name
unfoldable pub t_body_at : List ℕ → List ℕ → Option (TBody × List ℕ)
t_body_at name bytes = read_by t_readers name bytes

-- all bytes are read, and the message has at most 65,560 bytes
abbrev pub whole_t : TMsg → List ℕ → Option TMsg
whole_t m rest = if length rest == 0 && nat_le (size_t m.body) max_msize then Some m else None

-- from the name on
unfoldable pub t_message_at : List ℕ → Option TMsg
t_message_at bytes = do
  tag ← number_at (codes "tag=") (2 ^ 16) (after_field bytes)
  body ← t_body_at (first_field bytes) tag.1
  whole_t (record { tag = tag.0; body = body.0 }) body.1

-- from the connection on
unfoldable pub t_line_at : List ℕ → Option Line
t_line_at bytes = do
  conn ← small_at connection_count bytes
  rest ← after_front (space ∷ []) conn.1
  m ← t_message_at rest
  Some (line.Event (event.Msg conn.0 m))

-- ---- messages from the server

-- the fields of Rversion, and the bytes after them
unfoldable pub r_version_at : List ℕ → Option (RBody × List ℕ)
r_version_at input = do
  msize ← number_at (codes " msize=") (2 ^ 32) input
  version ← text_at (codes " version=") msize.1
  Some (r.Version msize.0 version.0, version.1)

-- the fields of Rauth, and the bytes after them
unfoldable pub r_auth_at : List ℕ → Option (RBody × List ℕ)
r_auth_at input = do
  aqid ← qid_field_at (codes " aqid=") input
  Some (r.Auth aqid.0, aqid.1)

-- the fields of Rerror, and the bytes after them
unfoldable pub r_error_at : List ℕ → Option (RBody × List ℕ)
r_error_at input = do
  ename ← text_at (codes " ename=") input
  Some (r.Error ename.0, ename.1)

-- the fields of Rflush, and the bytes after them
abbrev pub r_flush_at : List ℕ → Option (RBody × List ℕ)
r_flush_at input = Some (r.Flush, input)

-- the fields of Rattach, and the bytes after them
unfoldable pub r_attach_at : List ℕ → Option (RBody × List ℕ)
r_attach_at input = do
  qid ← qid_field_at (codes " qid=") input
  Some (r.Attach qid.0, qid.1)

-- the fields of Rwalk, and the bytes after them
unfoldable pub r_walk_at : List ℕ → Option (RBody × List ℕ)
r_walk_at input = do
  qids ← listed_at (codes " qids=") qid_at input
  Some (r.Walk qids.0, qids.1)

-- the fields of Ropen, and the bytes after them
unfoldable pub r_open_at : List ℕ → Option (RBody × List ℕ)
r_open_at input = do
  qid ← qid_field_at (codes " qid=") input
  iounit ← number_at (codes " iounit=") (2 ^ 32) qid.1
  Some (r.Open qid.0 iounit.0, iounit.1)

-- the fields of Rcreate, and the bytes after them
unfoldable pub r_create_at : List ℕ → Option (RBody × List ℕ)
r_create_at input = do
  qid ← qid_field_at (codes " qid=") input
  iounit ← number_at (codes " iounit=") (2 ^ 32) qid.1
  Some (r.Create qid.0 iounit.0, iounit.1)

-- the fields of Rread, and the bytes after them
unfoldable pub r_read_at : List ℕ → Option (RBody × List ℕ)
r_read_at input = do
  bytes ← bytes_in_hex_at (codes " data=") (max_msize + 1) input
  Some (r.Read bytes.0, bytes.1)

-- the fields of Rwrite, and the bytes after them
unfoldable pub r_write_at : List ℕ → Option (RBody × List ℕ)
r_write_at input = do
  count ← number_at (codes " count=") (2 ^ 32) input
  Some (r.Write count.0, count.1)

-- the fields of Rclunk, and the bytes after them
abbrev pub r_clunk_at : List ℕ → Option (RBody × List ℕ)
r_clunk_at input = Some (r.Clunk, input)

-- the fields of Rremove, and the bytes after them
abbrev pub r_remove_at : List ℕ → Option (RBody × List ℕ)
r_remove_at input = Some (r.Remove, input)

-- the fields of Rstat, and the bytes after them
unfoldable pub r_stat_at : List ℕ → Option (RBody × List ℕ)
r_stat_at input = do
  stat ← bytes_in_hex_at (codes " stat=") (2 ^ 16) input
  Some (r.Stat stat.0, stat.1)

-- the fields of Rwstat, and the bytes after them
abbrev pub r_wstat_at : List ℕ → Option (RBody × List ℕ)
r_wstat_at input = Some (r.Wstat, input)

-- the readers of the fields, by the name of the message
abbrev pub r_readers : List (List ℕ × (List ℕ → Option (RBody × List ℕ)))
r_readers =
    (codes "Rversion", r_version_at)
    ∷ (codes "Rauth", r_auth_at)
    ∷ (codes "Rerror", r_error_at)
    ∷ (codes "Rflush", r_flush_at)
    ∷ (codes "Rattach", r_attach_at)
    ∷ (codes "Rwalk", r_walk_at)
    ∷ (codes "Ropen", r_open_at)
    ∷ (codes "Rcreate", r_create_at)
    ∷ (codes "Rread", r_read_at)
    ∷ (codes "Rwrite", r_write_at)
    ∷ (codes "Rclunk", r_clunk_at)
    ∷ (codes "Rremove", r_remove_at)
    ∷ (codes "Rstat", r_stat_at)
    ∷ (codes "Rwstat", r_wstat_at) ∷ []

-- the fields of the message of a name
unfoldable pub r_body_at : List ℕ → List ℕ → Option (RBody × List ℕ)
r_body_at name bytes = read_by r_readers name bytes

-- all bytes are read, and the message has at most 65,560 bytes
abbrev pub whole_r : RMsg → List ℕ → Option RMsg
whole_r m rest = if length rest == 0 && nat_le (size_r m.body) max_msize then Some m else None

-- from the name on
unfoldable pub r_message_at : List ℕ → Option RMsg
r_message_at bytes = do
  tag ← number_at (codes "tag=") (2 ^ 16) (after_field bytes)
  body ← r_body_at (first_field bytes) tag.1
  whole_r (record { tag = tag.0; body = body.0 }) body.1

-- from the connection on
unfoldable pub r_line_at : List ℕ → Option Line
r_line_at bytes = do
  conn ← small_at connection_count bytes
  rest ← after_front (space ∷ []) conn.1
  m ← r_message_at rest
  Some (line.Reply conn.0 m)

-- ---- lines

-- an event as a line
abbrev pub event_line : Option Event → Option Line
event_line None = None
event_line (Some e) = Some (line.Event e)

-- what the bytes after a front give, if the front was found, or else what the others give
abbrev pub with_front : Option (List ℕ) → (List ℕ → Option Line) → Option Line → Option Line
with_front None read others = others
with_front (Some rest) read others = read rest

-- the event or the reply that a line without its newline spells, if it is in words
unfoldable pub line_of : List ℕ → Option Line
line_of bs =
    with_front (after_front (codes "msg ") bs) t_line_at
    (with_front (after_front (codes "reply ") bs) r_line_at (event_line (event_of bs)))
