-- Reading a message from left to right, with the first fault that is met.
use Rattle.std.specs.Prelude.{ℕ, List, length, take, drop, Result, Ok, Err, nat_lt, ◌==◌, if◌then◌else◌, slice_index}
use Rattle.std.specs.Prelude.{[], ◌∷◌}
use Rattle.std.specs.Int.{w16, w32, w64, from_le_bytes}
use Rattle.ninep_types.specs.declared.fault.WireFault.{WireFault}
use Rattle.ninep_types.specs.declared.fault.WireFault.TheVariants.{Size, Kind, Long}
use Rattle.ninep_types.specs.declared.message.TMsg.{TMsg}
use Rattle.ninep_types.specs.declared.message.TBody.{TBody}
use Rattle.ninep_types.specs.declared.message.TBody.TheVariants as t
use Rattle.ninep_types.specs.declared.message.RMsg.{RMsg}
use Rattle.ninep_types.specs.declared.message.RBody.{RBody}
use Rattle.ninep_types.specs.declared.message.RBody.TheVariants as r
use Rattle.ninep_types.specs.Limits.{head_size}
use Rattle.ninep_types.specs.Kinds.{tversion, tauth, tattach, tflush, twalk, topen, tcreate, tread, twrite, tclunk}
use Rattle.ninep_types.specs.Kinds.{tremove, tstat, twstat}
use Rattle.ninep_types.specs.Kinds.{rversion, rauth, rattach, rerror, rflush, rwalk, ropen, rcreate, rread, rwrite}
use Rattle.ninep_types.specs.Kinds.{rclunk, rremove, rstat, rwstat}
use Rattle.ninep_types.specs.Fields.{◌>>=◌, number_at, byte_at, string_at, counted_at, qid_at, listed_at}

-- the type byte, the tag, and the bytes after them, where the size is the number of bytes
unfoldable pub head_at : List ℕ → Result (ℕ × ℕ × List ℕ) WireFault
head_at bytes = if nat_lt (length bytes) head_size then Err Size
    else (if from_le_bytes w32 (take 4 bytes) == length bytes
    then Ok (slice_index bytes 4, from_le_bytes w16 (take 2 (drop 5 bytes)), drop head_size bytes) else Err Size)

-- the first of the readers that has this type byte
abbrev pub read_by : {B : Type 0} → List (ℕ × (List ℕ → Result (B × List ℕ) WireFault)) → ℕ → List ℕ
    → Result (B × List ℕ) WireFault
read_by [] kind bytes = Err Kind
read_by (reader ∷ readers) kind bytes = if kind == reader.0 then reader.1 bytes else read_by readers kind bytes

-- ---- messages to the server

-- the fields of Tversion, and the bytes after them
unfoldable pub t_version_at : List ℕ → Result (TBody × List ℕ) WireFault
t_version_at input = do
  msize ← number_at w32 input
  version ← string_at msize.1
  Ok (t.Version msize.0 version.0, version.1)

-- the fields of Tauth, and the bytes after them
unfoldable pub t_auth_at : List ℕ → Result (TBody × List ℕ) WireFault
t_auth_at input = do
  afid ← number_at w32 input
  uname ← string_at afid.1
  aname ← string_at uname.1
  Ok (t.Auth afid.0 uname.0 aname.0, aname.1)

-- the fields of Tflush, and the bytes after them
unfoldable pub t_flush_at : List ℕ → Result (TBody × List ℕ) WireFault
t_flush_at input = do
  oldtag ← number_at w16 input
  Ok (t.Flush oldtag.0, oldtag.1)

-- the fields of Tattach, and the bytes after them
unfoldable pub t_attach_at : List ℕ → Result (TBody × List ℕ) WireFault
t_attach_at input = do
  fid ← number_at w32 input
  afid ← number_at w32 fid.1
  uname ← string_at afid.1
  aname ← string_at uname.1
  Ok (t.Attach fid.0 afid.0 uname.0 aname.0, aname.1)

-- the fields of Twalk, and the bytes after them
unfoldable pub t_walk_at : List ℕ → Result (TBody × List ℕ) WireFault
t_walk_at input = do
  fid ← number_at w32 input
  newfid ← number_at w32 fid.1
  names ← listed_at string_at newfid.1
  Ok (t.Walk fid.0 newfid.0 names.0, names.1)

-- the fields of Topen, and the bytes after them
unfoldable pub t_open_at : List ℕ → Result (TBody × List ℕ) WireFault
t_open_at input = do
  fid ← number_at w32 input
  mode ← byte_at fid.1
  Ok (t.Open fid.0 mode.0, mode.1)

-- the fields of Tcreate, and the bytes after them
unfoldable pub t_create_at : List ℕ → Result (TBody × List ℕ) WireFault
t_create_at input = do
  fid ← number_at w32 input
  name ← string_at fid.1
  perm ← number_at w32 name.1
  mode ← byte_at perm.1
  Ok (t.Create fid.0 name.0 perm.0 mode.0, mode.1)

-- the fields of Tread, and the bytes after them
unfoldable pub t_read_at : List ℕ → Result (TBody × List ℕ) WireFault
t_read_at input = do
  fid ← number_at w32 input
  offset ← number_at w64 fid.1
  count ← number_at w32 offset.1
  Ok (t.Read fid.0 offset.0 count.0, count.1)

-- the fields of Twrite, and the bytes after them
unfoldable pub t_write_at : List ℕ → Result (TBody × List ℕ) WireFault
t_write_at input = do
  fid ← number_at w32 input
  offset ← number_at w64 fid.1
  bytes ← counted_at w32 offset.1
  Ok (t.Write fid.0 offset.0 bytes.0, bytes.1)

-- the fields of Tclunk, and the bytes after them
unfoldable pub t_clunk_at : List ℕ → Result (TBody × List ℕ) WireFault
t_clunk_at input = do
  fid ← number_at w32 input
  Ok (t.Clunk fid.0, fid.1)

-- the fields of Tremove, and the bytes after them
unfoldable pub t_remove_at : List ℕ → Result (TBody × List ℕ) WireFault
t_remove_at input = do
  fid ← number_at w32 input
  Ok (t.Remove fid.0, fid.1)

-- the fields of Tstat, and the bytes after them
unfoldable pub t_stat_at : List ℕ → Result (TBody × List ℕ) WireFault
t_stat_at input = do
  fid ← number_at w32 input
  Ok (t.Stat fid.0, fid.1)

-- the fields of Twstat, and the bytes after them
unfoldable pub t_wstat_at : List ℕ → Result (TBody × List ℕ) WireFault
t_wstat_at input = do
  fid ← number_at w32 input
  stat ← counted_at w16 fid.1
  Ok (t.Wstat fid.0 stat.0, stat.1)

-- the readers of the fields, by the type byte
abbrev pub t_readers : List (ℕ × (List ℕ → Result (TBody × List ℕ) WireFault))
t_readers =
    (tversion, t_version_at) ∷ (tauth, t_auth_at) ∷ (tattach, t_attach_at) ∷ (tflush, t_flush_at) ∷ (twalk, t_walk_at)
    ∷ (topen, t_open_at) ∷ (tcreate, t_create_at) ∷ (tread, t_read_at) ∷ (twrite, t_write_at) ∷ (tclunk, t_clunk_at)
    ∷ (tremove, t_remove_at) ∷ (tstat, t_stat_at) ∷ (twstat, t_wstat_at) ∷ []

-- the fields of the message of a type byte
unfoldable pub t_body_at : ℕ → List ℕ → Result (TBody × List ℕ) WireFault
t_body_at kind bytes = read_by t_readers kind bytes

-- the message to the server that the bytes are
unfoldable pub t_of : List ℕ → Result TMsg WireFault
t_of bytes = do
  head ← head_at bytes
  body ← t_body_at head.0 head.2
  if length body.1 == 0 then Ok (record { tag = head.1; body = body.0 }) else Err Long

-- ---- messages from the server

-- the fields of Rversion, and the bytes after them
unfoldable pub r_version_at : List ℕ → Result (RBody × List ℕ) WireFault
r_version_at input = do
  msize ← number_at w32 input
  version ← string_at msize.1
  Ok (r.Version msize.0 version.0, version.1)

-- the fields of Rauth, and the bytes after them
unfoldable pub r_auth_at : List ℕ → Result (RBody × List ℕ) WireFault
r_auth_at input = do
  aqid ← qid_at input
  Ok (r.Auth aqid.0, aqid.1)

-- the fields of Rerror, and the bytes after them
unfoldable pub r_error_at : List ℕ → Result (RBody × List ℕ) WireFault
r_error_at input = do
  ename ← string_at input
  Ok (r.Error ename.0, ename.1)

-- the fields of Rflush, and the bytes after them
abbrev pub r_flush_at : List ℕ → Result (RBody × List ℕ) WireFault
r_flush_at input = Ok (r.Flush, input)

-- the fields of Rattach, and the bytes after them
unfoldable pub r_attach_at : List ℕ → Result (RBody × List ℕ) WireFault
r_attach_at input = do
  qid ← qid_at input
  Ok (r.Attach qid.0, qid.1)

-- the fields of Rwalk, and the bytes after them
unfoldable pub r_walk_at : List ℕ → Result (RBody × List ℕ) WireFault
r_walk_at input = do
  qids ← listed_at qid_at input
  Ok (r.Walk qids.0, qids.1)

-- the fields of Ropen, and the bytes after them
unfoldable pub r_open_at : List ℕ → Result (RBody × List ℕ) WireFault
r_open_at input = do
  qid ← qid_at input
  iounit ← number_at w32 qid.1
  Ok (r.Open qid.0 iounit.0, iounit.1)

-- the fields of Rcreate, and the bytes after them
unfoldable pub r_create_at : List ℕ → Result (RBody × List ℕ) WireFault
r_create_at input = do
  qid ← qid_at input
  iounit ← number_at w32 qid.1
  Ok (r.Create qid.0 iounit.0, iounit.1)

-- the fields of Rread, and the bytes after them
unfoldable pub r_read_at : List ℕ → Result (RBody × List ℕ) WireFault
r_read_at input = do
  bytes ← counted_at w32 input
  Ok (r.Read bytes.0, bytes.1)

-- the fields of Rwrite, and the bytes after them
unfoldable pub r_write_at : List ℕ → Result (RBody × List ℕ) WireFault
r_write_at input = do
  count ← number_at w32 input
  Ok (r.Write count.0, count.1)

-- the fields of Rclunk, and the bytes after them
abbrev pub r_clunk_at : List ℕ → Result (RBody × List ℕ) WireFault
r_clunk_at input = Ok (r.Clunk, input)

-- the fields of Rremove, and the bytes after them
abbrev pub r_remove_at : List ℕ → Result (RBody × List ℕ) WireFault
r_remove_at input = Ok (r.Remove, input)

-- the fields of Rstat, and the bytes after them
unfoldable pub r_stat_at : List ℕ → Result (RBody × List ℕ) WireFault
r_stat_at input = do
  stat ← counted_at w16 input
  Ok (r.Stat stat.0, stat.1)

-- the fields of Rwstat, and the bytes after them
abbrev pub r_wstat_at : List ℕ → Result (RBody × List ℕ) WireFault
r_wstat_at input = Ok (r.Wstat, input)

-- the readers of the fields, by the type byte
abbrev pub r_readers : List (ℕ × (List ℕ → Result (RBody × List ℕ) WireFault))
r_readers =
    (rversion, r_version_at) ∷ (rauth, r_auth_at) ∷ (rattach, r_attach_at) ∷ (rerror, r_error_at) ∷ (rflush, r_flush_at)
    ∷ (rwalk, r_walk_at) ∷ (ropen, r_open_at) ∷ (rcreate, r_create_at) ∷ (rread, r_read_at) ∷ (rwrite, r_write_at)
    ∷ (rclunk, r_clunk_at) ∷ (rremove, r_remove_at) ∷ (rstat, r_stat_at) ∷ (rwstat, r_wstat_at) ∷ []

-- the fields of the message of a type byte
unfoldable pub r_body_at : ℕ → List ℕ → Result (RBody × List ℕ) WireFault
r_body_at kind bytes = read_by r_readers kind bytes

-- the message from the server that the bytes are
unfoldable pub r_of : List ℕ → Result RMsg WireFault
r_of bytes = do
  head ← head_at bytes
  body ← r_body_at head.0 head.2
  if length body.1 == 0 then Ok (record { tag = head.1; body = body.0 }) else Err Long
