-- The one spelling of each message in words, of each line in words, and which lines have one.
use Rattle.std.specs.Prelude.{ℕ, ◌<◌, ◌≤◌, List, [], ◌∷◌, ◌++◌, length, codes}
use Rattle.am_text.specs.Ascii.{space}
use Rattle.ninep_types.specs.declared.message.TMsg.{TMsg}
use Rattle.ninep_types.specs.declared.message.TBody.{TBody}
use Rattle.ninep_types.specs.declared.message.TBody.TheVariants as t
use Rattle.ninep_types.specs.declared.message.RMsg.{RMsg}
use Rattle.ninep_types.specs.declared.message.RBody.{RBody}
use Rattle.ninep_types.specs.declared.message.RBody.TheVariants as r
use Rattle.ninep_types.specs.Limits.{max_msize}
use Rattle.ninep_types.specs.Spelling.{spelling_r, Fits_r, InRange_r}
use Rattle.am_journal.specs.declared.event.Event.{Event}
use Rattle.am_journal.specs.declared.event.Event.TheVariants as event
use Rattle.am_journal.specs.Lawful.{AreBytes, IsLawful, IsInRange}
use Rattle.am_journal.specs.Limits.{connection_count}
use Rattle.am_journal.specs.Line.{line_text}
use Rattle.am_text.specs.Fields.{around}
use Rattle.ninep_trace.specs.declared.line.Line.{Line}
use Rattle.ninep_trace.specs.declared.line.Line.TheVariants as line
use Rattle.ninep_trace.specs.Fields.{number, text, bytes_in_hex, qid_text, qid_field, quoted, listed}

-- ---- messages to the server

-- the name
abbrev pub name_t : TBody → List ℕ
name_t (t.Version msize version) = codes "Tversion"
name_t (t.Auth afid uname aname) = codes "Tauth"
name_t (t.Flush oldtag) = codes "Tflush"
name_t (t.Attach fid afid uname aname) = codes "Tattach"
name_t (t.Walk fid newfid names) = codes "Twalk"
name_t (t.Open fid mode) = codes "Topen"
name_t (t.Create fid name perm mode) = codes "Tcreate"
name_t (t.Read fid offset count) = codes "Tread"
name_t (t.Write fid offset bytes) = codes "Twrite"
name_t (t.Clunk fid) = codes "Tclunk"
name_t (t.Remove fid) = codes "Tremove"
name_t (t.Stat fid) = codes "Tstat"
name_t (t.Wstat fid stat) = codes "Twstat"

-- the fields after the tag
abbrev pub fields_t : TBody → List ℕ
fields_t (t.Version msize version) = number (codes " msize=") msize ++ text (codes " version=") version
fields_t (t.Auth afid uname aname) =
    number (codes " afid=") afid ++ (text (codes " uname=") uname ++ text (codes " aname=") aname)
fields_t (t.Flush oldtag) = number (codes " oldtag=") oldtag
fields_t (t.Attach fid afid uname aname) =
    number (codes " fid=") fid ++ (number (codes " afid=") afid
    ++ (text (codes " uname=") uname ++ text (codes " aname=") aname))
fields_t (t.Walk fid newfid names) =
    number (codes " fid=") fid ++ (number (codes " newfid=") newfid ++ listed (codes " names=") quoted names)
fields_t (t.Open fid mode) = number (codes " fid=") fid ++ number (codes " mode=") mode
fields_t (t.Create fid name perm mode) =
    number (codes " fid=") fid ++ (text (codes " name=") name
    ++ (number (codes " perm=") perm ++ number (codes " mode=") mode))
fields_t (t.Read fid offset count) =
    number (codes " fid=") fid ++ (number (codes " offset=") offset ++ number (codes " count=") count)
fields_t (t.Write fid offset bytes) =
    number (codes " fid=") fid ++ (number (codes " offset=") offset ++ bytes_in_hex (codes " data=") bytes)
fields_t (t.Clunk fid) = number (codes " fid=") fid
fields_t (t.Remove fid) = number (codes " fid=") fid
fields_t (t.Stat fid) = number (codes " fid=") fid
fields_t (t.Wstat fid stat) = number (codes " fid=") fid ++ bytes_in_hex (codes " stat=") stat

-- `msg C NAME tag=N FIELDS`
unfoldable pub words_t : ℕ → TMsg → List ℕ
words_t c m =
    around (codes "msg ") c (space ∷ []) ++ (name_t m.body ++ space ∷ (number (codes "tag=") m.tag ++ fields_t m.body))

-- ---- messages from the server

-- the name
abbrev pub name_r : RBody → List ℕ
name_r (r.Version msize version) = codes "Rversion"
name_r (r.Auth aqid) = codes "Rauth"
name_r (r.Error ename) = codes "Rerror"
name_r r.Flush = codes "Rflush"
name_r (r.Attach qid) = codes "Rattach"
name_r (r.Walk qids) = codes "Rwalk"
name_r (r.Open qid iounit) = codes "Ropen"
name_r (r.Create qid iounit) = codes "Rcreate"
name_r (r.Read bytes) = codes "Rread"
name_r (r.Write count) = codes "Rwrite"
name_r r.Clunk = codes "Rclunk"
name_r r.Remove = codes "Rremove"
name_r (r.Stat stat) = codes "Rstat"
name_r r.Wstat = codes "Rwstat"

-- the fields after the tag
abbrev pub fields_r : RBody → List ℕ
fields_r (r.Version msize version) = number (codes " msize=") msize ++ text (codes " version=") version
fields_r (r.Auth aqid) = qid_field (codes " aqid=") aqid
fields_r (r.Error ename) = text (codes " ename=") ename
fields_r r.Flush = []
fields_r (r.Attach qid) = qid_field (codes " qid=") qid
fields_r (r.Walk qids) = listed (codes " qids=") qid_text qids
fields_r (r.Open qid iounit) = qid_field (codes " qid=") qid ++ number (codes " iounit=") iounit
fields_r (r.Create qid iounit) = qid_field (codes " qid=") qid ++ number (codes " iounit=") iounit
fields_r (r.Read bytes) = bytes_in_hex (codes " data=") bytes
fields_r (r.Write count) = number (codes " count=") count
fields_r r.Clunk = []
fields_r r.Remove = []
fields_r (r.Stat stat) = bytes_in_hex (codes " stat=") stat
fields_r r.Wstat = []

-- `reply C NAME tag=N FIELDS`
unfoldable pub words_r : ℕ → RMsg → List ℕ
words_r c m =
    around (codes "reply ") c (space ∷ []) ++ (name_r m.body ++ space
    ∷ (number (codes "tag=") m.tag ++ fields_r m.body))

-- ---- lines

-- The line of an event: a message is in words, every other event is as in a transcript.
abbrev pub event_words : Event → List ℕ
event_words (event.Dial c) = line_text (event.Dial c)
event_words (event.Msg c m) = words_t c m
event_words (event.Hang c why) = line_text (event.Hang c why)
event_words (event.Took c) = line_text (event.Took c)
event_words event.New = line_text event.New
event_words (event.Key w on text) = line_text (event.Key w on text)
event_words (event.Sel w range) = line_text (event.Sel w range)
event_words (event.Exec at) = line_text (event.Exec at)
event_words (event.Arg at chord) = line_text (event.Arg at chord)
event_words (event.Look at) = line_text (event.Look at)
event_words (event.File path text) = line_text (event.File path text)
event_words (event.Dir path) = line_text (event.Dir path)

-- the line of an event or a reply, without its newline
abbrev pub line_words : Line → List ℕ
line_words (line.Event e) = event_words e
line_words (line.Reply c m) = words_r c m

-- a message to a connection that has words: one of 64 connections, and a spelling of at most 65,560 bytes
pub record IsReply (c : ℕ) (m : RMsg) : Type 0 where
  pub conn : c < connection_count
  pub fits : Fits_r m
  pub short : length (spelling_r m) ≤ max_msize

-- each number of it fits its field, as each of a value of the program does
pub record IsReplyInRange (m : RMsg) : Type 0 where
  pub numbers : InRange_r m
  pub bytes : AreBytes (spelling_r m)

-- lines that have words: of lawful events, and of such messages
abbrev pub IsWorded : Line → Type 0
IsWorded (line.Event e) = IsLawful e × IsInRange e
IsWorded (line.Reply c m) = IsReply c m × IsReplyInRange m
