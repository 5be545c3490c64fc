-- How many bytes a message has.
use Rattle.std.proofs.Common.{◌≡◌, ◌+◌, ◌*◌, List, [], ◌∷◌, ◌++◌, length, refl, arith, length-append}
use Rattle.std.specs.List.{flat_map}
use Rattle.std.specs.Int.{w16, w32, w64, to_le_bytes}
use Rattle.ninep_types.specs.declared.message.Qid.{Qid}
use Rattle.ninep_types.specs.declared.message.TMsg.{TMsg}
use Rattle.ninep_types.specs.declared.message.TBody.{TBody}
use Rattle.ninep_types.specs.declared.message.TBody.TheVariants as t
use Rattle.ninep_types.specs.declared.message.RMsg.{RMsg}
use Rattle.ninep_types.specs.declared.message.RBody.{RBody}
use Rattle.ninep_types.specs.declared.message.RBody.TheVariants as r
use Rattle.ninep_types.specs.Fields.{string, counted, listed, qid_bytes}
use Rattle.ninep_types.specs.Spelling.{size_t, fields_t, spelling_t, size_r, fields_r, spelling_r}

qids_len : (qids : List Qid) → length (flat_map qid_bytes qids) ≡ 13 * length qids
qids_len [] = refl
qids_len (q ∷ qids) = omega (arith, length-append (qid_bytes q) (flat_map qid_bytes qids), qids_len qids)

pub size_t-is : (body : TBody) → size_t body ≡ 7 + length (fields_t body)
size_t-is (t.Version msize version) = omega (
  arith,
  length-append (to_le_bytes w32 msize) (string version),
  length-append (to_le_bytes w16 (length version)) version,
)
size_t-is (t.Auth afid uname aname) = omega (
  arith,
  length-append (to_le_bytes w32 afid) (string uname ++ string aname),
  length-append (string uname) (string aname),
  length-append (to_le_bytes w16 (length uname)) uname,
  length-append (to_le_bytes w16 (length aname)) aname,
)
size_t-is (t.Flush oldtag) = omega (arith)
size_t-is (t.Attach fid afid uname aname) = omega (
  arith,
  length-append (to_le_bytes w32 fid)
      (to_le_bytes w32 afid ++ (string uname ++ string aname)),
  length-append (to_le_bytes w32 afid)
      (string uname ++ string aname),
  length-append (string uname) (string aname),
  length-append (to_le_bytes w16 (length uname)) uname,
  length-append (to_le_bytes w16 (length aname)) aname,
)
size_t-is (t.Walk fid newfid names) = omega (
  arith,
  length-append (to_le_bytes w32 fid)
      (to_le_bytes w32 newfid ++ listed string names),
  length-append (to_le_bytes w32 newfid) (listed string names),
  length-append (to_le_bytes w16 (length names)) (flat_map string names),
)
size_t-is (t.Open fid mode) = omega (arith, length-append (to_le_bytes w32 fid) (mode ∷ []))
size_t-is (t.Create fid name perm mode) = omega (
  arith,
  length-append (to_le_bytes w32 fid)
      (string name ++ (to_le_bytes w32 perm ++ (mode ∷ []))),
  length-append (string name)
      (to_le_bytes w32 perm ++ (mode ∷ [])),
  length-append (to_le_bytes w32 perm) (mode ∷ []),
  length-append (to_le_bytes w16 (length name)) name,
)
size_t-is (t.Read fid offset count) = omega (
  arith,
  length-append (to_le_bytes w32 fid)
      (to_le_bytes w64 offset ++ to_le_bytes w32 count),
  length-append (to_le_bytes w64 offset) (to_le_bytes w32 count),
)
size_t-is (t.Write fid offset bytes) = omega (
  arith,
  length-append (to_le_bytes w32 fid)
      (to_le_bytes w64 offset ++ counted w32 bytes),
  length-append (to_le_bytes w64 offset) (counted w32 bytes),
  length-append (to_le_bytes w32 (length bytes)) bytes,
)
size_t-is (t.Clunk fid) = omega (arith)
size_t-is (t.Remove fid) = omega (arith)
size_t-is (t.Stat fid) = omega (arith)
size_t-is (t.Wstat fid stat) = omega (
  arith,
  length-append (to_le_bytes w32 fid) (counted w16 stat),
  length-append (to_le_bytes w16 (length stat)) stat,
)

pub t_has_size : (m : TMsg) → length (spelling_t m) ≡ size_t m.body
t_has_size m = omega (arith, size_t-is m.body)

pub ruleset t_sizes = (size_t-is, t_has_size)

pub size_r-is : (body : RBody) → size_r body ≡ 7 + length (fields_r body)
size_r-is (r.Version msize version) = omega (
  arith,
  length-append (to_le_bytes w32 msize) (string version),
  length-append (to_le_bytes w16 (length version)) version,
)
size_r-is (r.Auth aqid) = omega (arith)
size_r-is (r.Error ename) = omega (arith, length-append (to_le_bytes w16 (length ename)) ename)
size_r-is r.Flush = omega (arith)
size_r-is (r.Attach qid) = omega (arith)
size_r-is (r.Walk qids) = omega (
  arith,
  length-append (to_le_bytes w16 (length qids)) (flat_map qid_bytes qids),
  qids_len qids,
)
size_r-is (r.Open qid iounit) = omega (arith, length-append (qid_bytes qid) (to_le_bytes w32 iounit))
size_r-is (r.Create qid iounit) = omega (arith, length-append (qid_bytes qid) (to_le_bytes w32 iounit))
size_r-is (r.Read bytes) = omega (arith, length-append (to_le_bytes w32 (length bytes)) bytes)
size_r-is (r.Write count) = omega (arith)
size_r-is r.Clunk = omega (arith)
size_r-is r.Remove = omega (arith)
size_r-is (r.Stat stat) = omega (arith, length-append (to_le_bytes w16 (length stat)) stat)
size_r-is r.Wstat = omega (arith)

pub r_has_size : (m : RMsg) → length (spelling_r m) ≡ size_r m.body
r_has_size m = omega (arith, size_r-is m.body)

pub ruleset r_sizes = (size_r-is, r_has_size)
