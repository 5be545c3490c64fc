-- What a client of `do` asks and answers, as a function of the bytes that come.
use Rattle.std.specs.Prelude.{ℕ, ◌&&◌, List, [], ◌∷◌, ◌++◌, length, Option, Some, None, Result, Ok, Err, nat_lt, nat_le}
use Rattle.std.specs.Prelude.{if◌then◌else◌, codes}
use Rattle.std.specs.List.{flat_map}
use Rattle.std.specs.Fmt.{decimal}
use Rattle.std.specs.Str.{bytes_eq}
use Rattle.am_text.specs.Ascii.{newline}
use Rattle.am_text.specs.Lines.{escaped}
use Rattle.am_text.specs.Utf8.{decode}
use Rattle.ninep_types.specs.declared.fault.WireFault.TheVariants.{Size}
use Rattle.ninep_types.specs.declared.message.TBody.{TBody}
use Rattle.ninep_types.specs.declared.message.TBody.TheVariants as t
use Rattle.ninep_types.specs.declared.message.RBody.{RBody}
use Rattle.ninep_types.specs.declared.message.RBody.TheVariants as r
use Rattle.ninep_types.specs.Limits.{max_msize, min_msize, no_fid, version_name}
use Rattle.ninep_types.specs.Spelling.{size_t}
use Rattle.ninep_cut.specs.declared.cut.Cut.{Cut}
use Rattle.ninep_cut.specs.declared.cut.Cut.TheVariants.{Whole, More, Broken}
use Rattle.ninep_cut.specs.Cuts.{cut_of, first_of, behind_first}
use Rattle.ninep_client.specs.declared.fault.CallFault.{CallFault}
use Rattle.ninep_client.specs.declared.fault.CallFault.TheVariants as fault
use Rattle.ninep_client.specs.Alone.{spelled, reply_to}
use Rattle.am_do.specs.declared.line.DoLine.{DoLine}
use Rattle.am_do.specs.declared.line.DoLine.TheVariants as line
use Rattle.am_do.specs.Limits.{asked_msize}

-- What came of a part of a talk: a value, with the bytes behind the messages that were read; the next reply isn't there
-- whole; the next message, or its size, is at fault; the server doesn't take the talk.
pub data Got (A : Type 0) : Type 0 where
  Value : A → List ℕ → Got A
  Lacks : Got A
  Faulty : CallFault → Got A
  Refused : Got A

-- the bytes that are sent, the text that is written, and what comes
pub record Told (A : Type 0) : Type 0 where
  pub sent : List ℕ
  pub text : List ℕ
  pub got : Got A

module _ {A B : Type 0} where
  -- goes on with a value, where there is one
  abbrev pub then_got : List ℕ → List ℕ → Got A → (A → List ℕ → Told B) → Told B
  then_got sent text (Value a rest) go = record {
    sent = sent ++ (go a rest).sent;
    text = text ++ (go a rest).text;
    got = (go a rest).got;
  }
  then_got sent text Lacks go = record { sent = sent; text = text; got = Lacks }
  then_got sent text (Faulty e) go = record { sent = sent; text = text; got = Faulty e }
  then_got sent text Refused go = record { sent = sent; text = text; got = Refused }

  -- a part, and then the next by its value
  abbrev pub and_then : Told A → (A → List ℕ → Told B) → Told B
  and_then told go = then_got told.sent told.text told.got go

-- nothing is sent and nothing is written
abbrev pub gives : {A : Type 0} → A → List ℕ → Told A
gives a bytes = record { sent = []; text = []; got = Value a bytes }

-- a text is written
abbrev pub says : List ℕ → List ℕ → Told (Unit {0})
says text bytes = record { sent = []; text = text; got = Value tt bytes }

-- the server doesn't take the talk
abbrev pub refuses : {A : Type 0} → Told A
refuses = record { sent = []; text = []; got = Refused }

-- ---- one message and its reply

-- a reply, or the text of an error
abbrev pub Reply : Type 0
Reply = Result RBody (List ℕ)

-- a reply, or why there is none
abbrev pub reply_got : Result RBody CallFault → List ℕ → Got Reply
reply_got (Ok reply) rest = Value (Ok reply) rest
reply_got (Err (fault.Remote text)) rest = Value (Err text) rest
reply_got (Err fault.Large) rest = Faulty fault.Large
reply_got (Err fault.Tags) rest = Faulty fault.Tags
reply_got (Err fault.Closed) rest = Faulty fault.Closed
reply_got (Err fault.WriteFault) rest = Faulty fault.WriteFault
reply_got (Err fault.ReadFault) rest = Faulty fault.ReadFault
reply_got (Err fault.Ended) rest = Faulty fault.Ended
reply_got (Err fault.Torn) rest = Faulty fault.Torn
reply_got (Err (fault.Wire f)) rest = Faulty (fault.Wire f)
reply_got (Err (fault.Unasked n)) rest = Faulty (fault.Unasked n)
reply_got (Err (fault.Kind kind)) rest = Faulty (fault.Kind kind)
reply_got (Err fault.NoMemory) rest = Faulty fault.NoMemory

-- the reply that stands at the front, by its cut
abbrev pub front_got : Cut → TBody → List ℕ → Got Reply
front_got Whole body bytes = reply_got (reply_to body (first_of bytes)) (behind_first bytes)
front_got More body bytes = Lacks
front_got (Broken size) body bytes = Faulty (fault.Wire Size)

-- A message is sent, and the next message is the reply to it; one above the most bytes isn't sent.
unfoldable pub asks : ℕ → TBody → List ℕ → Told Reply
asks most body bytes =
    if nat_lt most (size_t body) then gives (Err (codes "message too large")) bytes
    else record { sent = spelled body; text = []; got = front_got (cut_of bytes) body bytes }

-- ---- the lines that are written

-- bytes as a text in one line
abbrev pub shown : List ℕ → List ℕ
shown bytes = flat_map escaped (decode bytes)

-- the answer that all went well
unfoldable pub ok_line : List ℕ
ok_line = codes "ok" ++ newline ∷ []

-- the answer of a write: how many bytes were written
unfoldable pub count_line : ℕ → List ℕ
count_line count = codes "ok " ++ (decimal count ++ newline ∷ [])

-- the answer of a read: the bytes
unfoldable pub data_line : List ℕ → List ℕ
data_line bytes = codes "data :" ++ (shown bytes ++ newline ∷ [])

-- the answer of what the server refused
unfoldable pub error_line : List ℕ → List ℕ
error_line text = codes "error :" ++ (shown text ++ newline ∷ [])

-- ---- what replies hold; one of another type never comes

-- how many names a walk went
abbrev pub walked : RBody → ℕ
walked (r.Walk qids) = length qids
walked (r.Version msize version) = 0
walked (r.Auth aqid) = 0
walked (r.Error text) = 0
walked r.Flush = 0
walked (r.Attach qid) = 0
walked (r.Open qid iounit) = 0
walked (r.Create qid iounit) = 0
walked (r.Read bytes) = 0
walked (r.Write count) = 0
walked r.Clunk = 0
walked r.Remove = 0
walked (r.Stat stat) = 0
walked r.Wstat = 0

-- the bytes that were read
abbrev pub data_in : RBody → List ℕ
data_in (r.Read bytes) = bytes
data_in (r.Version msize version) = []
data_in (r.Auth aqid) = []
data_in (r.Error text) = []
data_in r.Flush = []
data_in (r.Attach qid) = []
data_in (r.Walk qids) = []
data_in (r.Open qid iounit) = []
data_in (r.Create qid iounit) = []
data_in (r.Write count) = []
data_in r.Clunk = []
data_in r.Remove = []
data_in (r.Stat stat) = []
data_in r.Wstat = []

-- how many bytes were written
abbrev pub written : RBody → ℕ
written (r.Write count) = count
written (r.Version msize version) = 0
written (r.Auth aqid) = 0
written (r.Error text) = 0
written r.Flush = 0
written (r.Attach qid) = 0
written (r.Walk qids) = 0
written (r.Open qid iounit) = 0
written (r.Create qid iounit) = 0
written (r.Read bytes) = 0
written r.Clunk = 0
written r.Remove = 0
written (r.Stat stat) = 0
written r.Wstat = 0

-- ---- one line

-- the line that answers a reply which holds nothing
abbrev pub ok_or_error : Reply → List ℕ
ok_or_error (Ok reply) = ok_line
ok_or_error (Err text) = error_line text

-- the line that answers the reply to a read
abbrev pub read_answer : Reply → List ℕ
read_answer (Ok reply) = data_line (data_in reply)
read_answer (Err text) = error_line text

-- the line that answers the reply to a write
abbrev pub write_answer : Reply → List ℕ
write_answer (Ok reply) = count_line (written reply)
write_answer (Err text) = error_line text

-- a fid whose opening was refused is given back
unfoldable pub back_told : ℕ → ℕ → List ℕ → List ℕ → Told (Unit {0})
back_told most fid text bytes = and_then (asks most (t.Clunk fid) bytes) (λ _ rest. says (error_line text) rest)

-- behind the reply to a Topen: a refusal frees the fid
abbrev pub after_open : ℕ → ℕ → Reply → List ℕ → Told (Unit {0})
after_open most fid (Ok reply) bytes = says ok_line bytes
after_open most fid (Err text) bytes = back_told most fid text bytes

-- a fid that was walked to is opened
unfoldable pub open_told : ℕ → ℕ → ℕ → List ℕ → Told (Unit {0})
open_told most fid mode bytes = and_then (asks most (t.Open fid mode) bytes) (after_open most fid)

-- a walk that stops in the middle is an error
abbrev pub after_walk : ℕ → ℕ → List (List ℕ) → ℕ → Reply → List ℕ → Told (Unit {0})
after_walk most fid names mode (Ok reply) bytes =
    if nat_lt (walked reply) (length names) then says (error_line (codes "walk stopped")) bytes
    else open_told most fid mode bytes
after_walk most fid names mode (Err text) bytes = says (error_line text) bytes

-- a file is walked to and opened
unfoldable pub walk_told : ℕ → ℕ → List (List ℕ) → ℕ → List ℕ → Told (Unit {0})
walk_told most fid names mode bytes = and_then (asks most (t.Walk 0 fid names) bytes) (after_walk most fid names mode)

-- what a line `read` asks and answers
unfoldable pub read_told : ℕ → ℕ → ℕ → ℕ → List ℕ → Told (Unit {0})
read_told most fid offset count bytes = and_then (asks most (t.Read fid offset count) bytes)
    (λ reply rest. says (read_answer reply) rest)

-- what a line `write` asks and answers
unfoldable pub write_told : ℕ → ℕ → ℕ → List ℕ → List ℕ → Told (Unit {0})
write_told most fid offset text bytes = and_then (asks most (t.Write fid offset text) bytes)
    (λ reply rest. says (write_answer reply) rest)

-- what a line `close` asks and answers
unfoldable pub close_told : ℕ → ℕ → List ℕ → Told (Unit {0})
close_told most fid bytes = and_then (asks most (t.Clunk fid) bytes) (λ reply rest. says (ok_or_error reply) rest)

-- what is asked for a line, and the line that answers it
abbrev pub line_told : ℕ → DoLine → List ℕ → Told (Unit {0})
line_told most (line.Open fid names mode) = walk_told most fid names mode
line_told most (line.Read fid offset count) = read_told most fid offset count
line_told most (line.Write fid offset text) = write_told most fid offset text
line_told most (line.Close fid) = close_told most fid

-- ---- the beginning

-- the most bytes of a message on which both agree
abbrev pub agreed_in : RBody → Option ℕ
agreed_in (r.Version msize version) = if bytes_eq version version_name
    && (nat_le min_msize msize && nat_le msize asked_msize) then Some msize else None
agreed_in (r.Auth aqid) = None
agreed_in (r.Error text) = None
agreed_in r.Flush = None
agreed_in (r.Attach qid) = None
agreed_in (r.Walk qids) = None
agreed_in (r.Open qid iounit) = None
agreed_in (r.Create qid iounit) = None
agreed_in (r.Read bytes) = None
agreed_in (r.Write count) = None
agreed_in r.Clunk = None
agreed_in r.Remove = None
agreed_in (r.Stat stat) = None
agreed_in r.Wstat = None

-- the most bytes of a message on which a reply agrees
abbrev pub agreed : Reply → Option ℕ
agreed (Ok reply) = agreed_in reply
agreed (Err text) = None

-- behind the reply to a Tattach
abbrev pub after_attach : ℕ → Reply → List ℕ → Told ℕ
after_attach most (Ok reply) bytes = gives most bytes
after_attach most (Err text) bytes = refuses

-- the root of a tree is attached as fid 0, without authentication
abbrev pub attach_of : List ℕ → TBody
attach_of tree = t.Attach 0 no_fid (codes "acmefs") tree

-- what the attaching of a tree asks
unfoldable pub attach_told : ℕ → List ℕ → List ℕ → Told ℕ
attach_told most tree bytes = and_then (asks most (attach_of tree) bytes) (after_attach most)

-- a tree is attached where the version was agreed on
abbrev pub attached : List ℕ → Option ℕ → List ℕ → Told ℕ
attached tree None bytes = refuses
attached tree (Some most) bytes = attach_told most tree bytes

-- behind the reply to a Tversion
abbrev pub after_version : List ℕ → Reply → List ℕ → Told ℕ
after_version tree reply bytes = attached tree (agreed reply) bytes

-- the version is agreed on, and the root of a tree is attached as fid 0
unfoldable pub begins : List ℕ → List ℕ → Told ℕ
begins tree bytes = and_then (asks max_msize (t.Version asked_msize version_name) bytes) (after_version tree)

-- ---- all lines

-- the lines in order
unfoldable pub lines_told : ℕ → List DoLine → List ℕ → Told (Unit {0})
lines_told most [] bytes = gives tt bytes
lines_told most (line ∷ lines) bytes = and_then (line_told most line bytes) (λ _ rest. lines_told most lines rest)

-- what is sent and written where these bytes come: the version, the tree, and the lines in order
unfoldable pub told_of : List ℕ → List DoLine → List ℕ → Told (Unit {0})
told_of tree lines bytes = and_then (begins tree bytes) (λ most rest. lines_told most lines rest)
