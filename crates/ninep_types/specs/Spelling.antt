-- The one spelling of each message, and which messages have one.
use Rattle.std.specs.Prelude.{◌≤◌, ◌≡◌, ℕ, ◌+◌, ◌*◌, ◌<◌, ◌^◌, true, List, ◌∷◌, ◌++◌, length, [], All}
use Rattle.std.specs.List.{flat_map}
use Rattle.std.specs.Int.{w16, w32, w64, to_le_bytes}
use Rattle.ninep_types.specs.declared.message.Qid.{Qid}
use Rattle.ninep_types.specs.declared.message.TMsg.{TMsg}
use Rattle.ninep_types.specs.declared.message.TBody.{TBody}
use Rattle.ninep_types.specs.declared.message.TBody.TheVariants as t
use Rattle.ninep_types.specs.declared.message.RMsg.{RMsg}
use Rattle.ninep_types.specs.declared.message.RBody.{RBody}
use Rattle.ninep_types.specs.declared.message.RBody.TheVariants as r
use Rattle.ninep_types.specs.Limits.{head_size, max_names}
use Rattle.ninep_types.specs.Kinds.{tversion, tauth, tattach, tflush, twalk, topen, tcreate, tread, twrite, tclunk}
use Rattle.ninep_types.specs.Kinds.{tremove, tstat, twstat}
use Rattle.ninep_types.specs.Kinds.{rversion, rauth, rattach, rerror, rflush, rwalk, ropen, rcreate, rread, rwrite}
use Rattle.ninep_types.specs.Kinds.{rclunk, rremove, rstat, rwstat}
use Rattle.ninep_types.specs.Fields.{string, counted, listed, qid_bytes, is_text}

-- size, type and tag
abbrev pub head : ℕ → ℕ → ℕ → List ℕ
head size kind tag = to_le_bytes w32 size ++ kind ∷ to_le_bytes w16 tag

-- size, type, tag and fields; the size counts its own four bytes
abbrev pub framed : ℕ → ℕ → List ℕ → List ℕ
framed kind tag fields = head (head_size + length fields) kind tag ++ fields

-- UTF-8 without NUL, of fewer than 2 ^ 16 bytes
pub record IsString (bytes : List ℕ) : Type 0 where
  pub text : is_text bytes ≡ true
  pub len : length bytes < 2 ^ 16

-- at most 16 strings
abbrev pub AreNames : List (List ℕ) → Type 0
AreNames names = (length names ≤ max_names) × All IsString names

-- a qid's numbers fit their fields
pub record IsQid (q : Qid) : Type 0 where
  pub kind : q.kind < 2 ^ 8
  pub vers : q.vers < 2 ^ 32
  pub path : q.path < 2 ^ 64

-- ---- messages to the server

-- the type byte
abbrev pub kind_t : TBody → ℕ
kind_t (t.Version msize version) = tversion
kind_t (t.Auth afid uname aname) = tauth
kind_t (t.Flush oldtag) = tflush
kind_t (t.Attach fid afid uname aname) = tattach
kind_t (t.Walk fid newfid names) = twalk
kind_t (t.Open fid mode) = topen
kind_t (t.Create fid name perm mode) = tcreate
kind_t (t.Read fid offset count) = tread
kind_t (t.Write fid offset bytes) = twrite
kind_t (t.Clunk fid) = tclunk
kind_t (t.Remove fid) = tremove
kind_t (t.Stat fid) = tstat
kind_t (t.Wstat fid stat) = twstat

-- the fields after the tag
abbrev pub fields_t : TBody → List ℕ
fields_t (t.Version msize version) = to_le_bytes w32 msize ++ string version
fields_t (t.Auth afid uname aname) = to_le_bytes w32 afid ++ (string uname ++ string aname)
fields_t (t.Flush oldtag) = to_le_bytes w16 oldtag
fields_t (t.Attach fid afid uname aname) =
    to_le_bytes w32 fid ++ (to_le_bytes w32 afid ++ (string uname ++ string aname))
fields_t (t.Walk fid newfid names) = to_le_bytes w32 fid ++ (to_le_bytes w32 newfid ++ listed string names)
fields_t (t.Open fid mode) = to_le_bytes w32 fid ++ (mode ∷ [])
fields_t (t.Create fid name perm mode) = to_le_bytes w32 fid ++ (string name ++ (to_le_bytes w32 perm ++ (mode ∷ [])))
fields_t (t.Read fid offset count) = to_le_bytes w32 fid ++ (to_le_bytes w64 offset ++ to_le_bytes w32 count)
fields_t (t.Write fid offset bytes) = to_le_bytes w32 fid ++ (to_le_bytes w64 offset ++ counted w32 bytes)
fields_t (t.Clunk fid) = to_le_bytes w32 fid
fields_t (t.Remove fid) = to_le_bytes w32 fid
fields_t (t.Stat fid) = to_le_bytes w32 fid
fields_t (t.Wstat fid stat) = to_le_bytes w32 fid ++ counted w16 stat

-- how many bytes the whole message has
abbrev pub size_t : TBody → ℕ
size_t (t.Version msize version) = 13 + length version
size_t (t.Auth afid uname aname) = 15 + length uname + length aname
size_t (t.Flush oldtag) = 9
size_t (t.Attach fid afid uname aname) = 19 + length uname + length aname
size_t (t.Walk fid newfid names) = 17 + length (flat_map string names)
size_t (t.Open fid mode) = 12
size_t (t.Create fid name perm mode) = 18 + length name
size_t (t.Read fid offset count) = 23
size_t (t.Write fid offset bytes) = 23 + length bytes
size_t (t.Clunk fid) = 11
size_t (t.Remove fid) = 11
size_t (t.Stat fid) = 11
size_t (t.Wstat fid stat) = 13 + length stat

-- the bytes of a message to the server
abbrev pub spelling_t : TMsg → List ℕ
spelling_t m = framed (kind_t m.body) m.tag (fields_t m.body)

-- its strings, lists and data fit their fields
abbrev pub BodyFits_t : TBody → Type 0
BodyFits_t (t.Version msize version) = IsString version
BodyFits_t (t.Auth afid uname aname) = IsString uname × IsString aname
BodyFits_t (t.Flush oldtag) = Unit {0}
BodyFits_t (t.Attach fid afid uname aname) = IsString uname × IsString aname
BodyFits_t (t.Walk fid newfid names) = AreNames names
BodyFits_t (t.Open fid mode) = Unit {0}
BodyFits_t (t.Create fid name perm mode) = IsString name
BodyFits_t (t.Read fid offset count) = Unit {0}
BodyFits_t (t.Write fid offset bytes) = length bytes < 2 ^ 32
BodyFits_t (t.Clunk fid) = Unit {0}
BodyFits_t (t.Remove fid) = Unit {0}
BodyFits_t (t.Stat fid) = Unit {0}
BodyFits_t (t.Wstat fid stat) = length stat < 2 ^ 16

-- its numbers fit their fields
abbrev pub BodyInRange_t : TBody → Type 0
BodyInRange_t (t.Version msize version) = msize < 2 ^ 32
BodyInRange_t (t.Auth afid uname aname) = afid < 2 ^ 32
BodyInRange_t (t.Flush oldtag) = oldtag < 2 ^ 16
BodyInRange_t (t.Attach fid afid uname aname) = (fid < 2 ^ 32) × (afid < 2 ^ 32)
BodyInRange_t (t.Walk fid newfid names) = (fid < 2 ^ 32) × (newfid < 2 ^ 32)
BodyInRange_t (t.Open fid mode) = (fid < 2 ^ 32) × (mode < 2 ^ 8)
BodyInRange_t (t.Create fid name perm mode) = (fid < 2 ^ 32) × (perm < 2 ^ 32) × (mode < 2 ^ 8)
BodyInRange_t (t.Read fid offset count) = (fid < 2 ^ 32) × (offset < 2 ^ 64) × (count < 2 ^ 32)
BodyInRange_t (t.Write fid offset bytes) = (fid < 2 ^ 32) × (offset < 2 ^ 64)
BodyInRange_t (t.Clunk fid) = fid < 2 ^ 32
BodyInRange_t (t.Remove fid) = fid < 2 ^ 32
BodyInRange_t (t.Stat fid) = fid < 2 ^ 32
BodyInRange_t (t.Wstat fid stat) = fid < 2 ^ 32

-- what a message has to be to have a spelling
pub record Fits_t (m : TMsg) : Type 0 where
  pub body : BodyFits_t m.body
  pub size : size_t m.body < 2 ^ 32

-- each number fits its field, as each of a value of the program does
pub record InRange_t (m : TMsg) : Type 0 where
  pub tag : m.tag < 2 ^ 16
  pub body : BodyInRange_t m.body

-- ---- messages from the server

-- the type byte
abbrev pub kind_r : RBody → ℕ
kind_r (r.Version msize version) = rversion
kind_r (r.Auth aqid) = rauth
kind_r (r.Error ename) = rerror
kind_r r.Flush = rflush
kind_r (r.Attach qid) = rattach
kind_r (r.Walk qids) = rwalk
kind_r (r.Open qid iounit) = ropen
kind_r (r.Create qid iounit) = rcreate
kind_r (r.Read bytes) = rread
kind_r (r.Write count) = rwrite
kind_r r.Clunk = rclunk
kind_r r.Remove = rremove
kind_r (r.Stat stat) = rstat
kind_r r.Wstat = rwstat

-- the fields after the tag
abbrev pub fields_r : RBody → List ℕ
fields_r (r.Version msize version) = to_le_bytes w32 msize ++ string version
fields_r (r.Auth aqid) = qid_bytes aqid
fields_r (r.Error ename) = string ename
fields_r r.Flush = []
fields_r (r.Attach qid) = qid_bytes qid
fields_r (r.Walk qids) = listed qid_bytes qids
fields_r (r.Open qid iounit) = qid_bytes qid ++ to_le_bytes w32 iounit
fields_r (r.Create qid iounit) = qid_bytes qid ++ to_le_bytes w32 iounit
fields_r (r.Read bytes) = counted w32 bytes
fields_r (r.Write count) = to_le_bytes w32 count
fields_r r.Clunk = []
fields_r r.Remove = []
fields_r (r.Stat stat) = counted w16 stat
fields_r r.Wstat = []

-- how many bytes the whole message has
abbrev pub size_r : RBody → ℕ
size_r (r.Version msize version) = 13 + length version
size_r (r.Auth aqid) = 20
size_r (r.Error ename) = 9 + length ename
size_r r.Flush = 7
size_r (r.Attach qid) = 20
size_r (r.Walk qids) = 9 + 13 * length qids
size_r (r.Open qid iounit) = 24
size_r (r.Create qid iounit) = 24
size_r (r.Read bytes) = 11 + length bytes
size_r (r.Write count) = 11
size_r r.Clunk = 7
size_r r.Remove = 7
size_r (r.Stat stat) = 9 + length stat
size_r r.Wstat = 7

-- the bytes of a message from the server
abbrev pub spelling_r : RMsg → List ℕ
spelling_r m = framed (kind_r m.body) m.tag (fields_r m.body)

-- its strings, lists and data fit their fields
abbrev pub BodyFits_r : RBody → Type 0
BodyFits_r (r.Version msize version) = IsString version
BodyFits_r (r.Auth aqid) = Unit {0}
BodyFits_r (r.Error ename) = IsString ename
BodyFits_r r.Flush = Unit {0}
BodyFits_r (r.Attach qid) = Unit {0}
BodyFits_r (r.Walk qids) = length qids ≤ max_names
BodyFits_r (r.Open qid iounit) = Unit {0}
BodyFits_r (r.Create qid iounit) = Unit {0}
BodyFits_r (r.Read bytes) = length bytes < 2 ^ 32
BodyFits_r (r.Write count) = Unit {0}
BodyFits_r r.Clunk = Unit {0}
BodyFits_r r.Remove = Unit {0}
BodyFits_r (r.Stat stat) = length stat < 2 ^ 16
BodyFits_r r.Wstat = Unit {0}

-- its numbers fit their fields
abbrev pub BodyInRange_r : RBody → Type 0
BodyInRange_r (r.Version msize version) = msize < 2 ^ 32
BodyInRange_r (r.Auth aqid) = IsQid aqid
BodyInRange_r (r.Error ename) = Unit {0}
BodyInRange_r r.Flush = Unit {0}
BodyInRange_r (r.Attach qid) = IsQid qid
BodyInRange_r (r.Walk qids) = All IsQid qids
BodyInRange_r (r.Open qid iounit) = IsQid qid × (iounit < 2 ^ 32)
BodyInRange_r (r.Create qid iounit) = IsQid qid × (iounit < 2 ^ 32)
BodyInRange_r (r.Read bytes) = Unit {0}
BodyInRange_r (r.Write count) = count < 2 ^ 32
BodyInRange_r r.Clunk = Unit {0}
BodyInRange_r r.Remove = Unit {0}
BodyInRange_r (r.Stat stat) = Unit {0}
BodyInRange_r r.Wstat = Unit {0}

-- what a message has to be to have a spelling
pub record Fits_r (m : RMsg) : Type 0 where
  pub body : BodyFits_r m.body
  pub size : size_r m.body < 2 ^ 32

-- each number fits its field, as each of a value of the program does
pub record InRange_r (m : RMsg) : Type 0 where
  pub tag : m.tag < 2 ^ 16
  pub body : BodyInRange_r m.body
