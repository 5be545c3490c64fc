-- Bodies of messages to the server: what is read is spelled so, and what is spelled so is read.
use Rattle.std.proofs.Common.{◌≡◌, ℕ, ◌^◌, ◌<◌, ◌≤◌, List, [], ◌∷◌, ◌++◌, length, codes, Some, refl, subst, arith}
use Rattle.std.specs.Int.{w16, w32, w64, to_le_bytes}
use Rattle.ninep_types.specs.declared.message.TBody.{TBody}
use Rattle.ninep_types.specs.declared.message.TBody.TheVariants as t
use Rattle.ninep_types.specs.Fields.{string, counted}
use Rattle.ninep_types.specs.Fields as spelled
use Rattle.ninep_types.specs.Spelling as wire
use Rattle.ninep_types.specs.Spelling.{size_t, BodyFits_t, BodyInRange_t}
use Rattle.am_journal.specs.Lawful.{AreBytes}
use Rattle.am_text.specs.Lines.{first_field, after_field}
use Rattle.ninep_trace.specs.Fields.{◌>>=◌, number, number_at, text, text_at, bytes_in_hex, bytes_in_hex_at, quoted}
use Rattle.ninep_trace.specs.Fields.{quoted_at, listed, listed_at}
use Rattle.ninep_trace.specs.Reading.{t_readers, t_body_at, t_version_at, t_auth_at, t_flush_at, t_attach_at, t_walk_at}
use Rattle.ninep_trace.specs.Reading.{t_open_at, t_create_at, t_read_at, t_write_at, t_clunk_at, t_remove_at, t_stat_at}
use Rattle.ninep_trace.specs.Reading.{t_wstat_at}
use Rattle.ninep_trace.specs.Words.{name_t, fields_t}
use Rattle.ninep_trace.proofs.ByteLists.{no_bytes, bytes_cons, bytes_append, bytes_behind, bytes_16, bytes_32, bytes_64}
use Rattle.ninep_trace.proofs.ByteLists.{string_bytes, data_bytes, stat_bytes, names_bytes, names_short}
use Rattle.ninep_trace.proofs.FieldLaws.{some_is, bind_some, Takes, takes_then, stops_then, stops_end, number_takes}
use Rattle.ninep_trace.proofs.FieldLaws.{number_again, number_last, number_stops, text_takes, text_again, text_last}
use Rattle.ninep_trace.proofs.FieldLaws.{text_stops, bytes_in_hex_takes, bytes_in_hex_last, bytes_in_hex_stops}
use Rattle.ninep_trace.proofs.ListLaws.{names_takes, names_last, names_stops}
use Rattle.ninep_trace.proofs.Readers.{read_by_takes}

-- the data is of bytes
abbrev pub HasBytes_t : TBody → Type 0
HasBytes_t (t.Version msize version) = Unit {0}
HasBytes_t (t.Auth afid uname aname) = Unit {0}
HasBytes_t (t.Flush oldtag) = Unit {0}
HasBytes_t (t.Attach fid afid uname aname) = Unit {0}
HasBytes_t (t.Walk fid newfid names) = Unit {0}
HasBytes_t (t.Open fid mode) = Unit {0}
HasBytes_t (t.Create fid name perm mode) = Unit {0}
HasBytes_t (t.Read fid offset count) = Unit {0}
HasBytes_t (t.Write fid offset bytes) = AreBytes bytes
HasBytes_t (t.Clunk fid) = Unit {0}
HasBytes_t (t.Remove fid) = Unit {0}
HasBytes_t (t.Stat fid) = Unit {0}
HasBytes_t (t.Wstat fid stat) = AreBytes stat

-- what was read of a body is spelled so, and fits
pub record TakesBody (name bytes : List ℕ) (body : TBody) (rest : List ℕ) : Type 0 where
  pub name_is : name ≡ name_t body
  pub takes : Takes bytes (fields_t body) rest
  pub fits : BodyFits_t body
  pub in_range : BodyInRange_t body
  pub short : size_t body < 2 ^ 32
  pub bytes_are : HasBytes_t body

t_version_takes : (input : List ℕ) (x : TBody × List ℕ) → t_version_at input ≡ Some x
    → TakesBody (codes "Tversion") input x.0 x.1
unfolding t_version_at
t_version_takes input x e =
    let b0 = bind_some (number_at (codes " msize=") (2 ^ 32) input)
    (λ msize. text_at (codes " version=") msize.1 >>= λ version. Some (t.Version msize.0 version.0, version.1)) x
    e in
    let b1 = bind_some (text_at (codes " version=") b0.0.1) (λ version. Some (t.Version b0.0.0 version.0, version.1)) x
    b0.2 in
    let t0 = number_takes (codes " msize=") (2 ^ 32) input b0.0.0 b0.0.1 b0.1 in
    let t1 = text_takes (codes " version=") b0.0.1 b1.0.0 b1.0.1 b1.1 in
    let j0 = takes_then input (number (codes " msize=") b0.0.0) b0.0.1 (text (codes " version=") b1.0.0) b1.0.1 t0.0
    t1.0 in
    let made : TBody × List ℕ = (t.Version b0.0.0 b1.0.0, b1.0.1) in
    subst (λ (y : TBody × List ℕ). TakesBody (codes "Tversion") input y.0 y.1) (some_is made x b1.2)
    (record {
      name_is = refl;
      takes = j0;
      fits = t1.1;
      in_range = t0.1;
      short = omega (arith, t1.1.len);
      bytes_are =
          tt;
    })

t_auth_takes : (input : List ℕ) (x : TBody × List ℕ) → t_auth_at input ≡ Some x
    → TakesBody (codes "Tauth") input x.0 x.1
unfolding t_auth_at
t_auth_takes input x e =
    let b0 = bind_some (number_at (codes " afid=") (2 ^ 32) input)
    (λ afid. text_at (codes " uname=") afid.1 >>= λ uname. text_at (codes " aname=") uname.1 >>=
    λ aname. Some (t.Auth afid.0 uname.0 aname.0, aname.1)) x e in
    let b1 = bind_some (text_at (codes " uname=") b0.0.1) (λ uname. text_at (codes " aname=") uname.1 >>=
    λ aname. Some (t.Auth b0.0.0 uname.0 aname.0, aname.1)) x b0.2 in
    let b2 = bind_some (text_at (codes " aname=") b1.0.1) (λ aname. Some (t.Auth b0.0.0 b1.0.0 aname.0, aname.1)) x
    b1.2 in
    let t0 = number_takes (codes " afid=") (2 ^ 32) input b0.0.0 b0.0.1 b0.1 in
    let t1 = text_takes (codes " uname=") b0.0.1 b1.0.0 b1.0.1 b1.1 in
    let t2 = text_takes (codes " aname=") b1.0.1 b2.0.0 b2.0.1 b2.1 in
    let j1 = takes_then b0.0.1 (text (codes " uname=") b1.0.0) b1.0.1 (text (codes " aname=") b2.0.0) b2.0.1 t1.0
    t2.0 in
    let j0 = takes_then input (number (codes " afid=") b0.0.0) b0.0.1
    (text (codes " uname=") b1.0.0 ++ text (codes " aname=") b2.0.0) b2.0.1 t0.0 j1 in
    let made : TBody × List ℕ = (t.Auth b0.0.0 b1.0.0 b2.0.0, b2.0.1) in
    subst (λ (y : TBody × List ℕ). TakesBody (codes "Tauth") input y.0 y.1) (some_is made x b2.2)
    (record {
      name_is = refl;
      takes = j0;
      fits = (t1.1, t2.1);
      in_range = t0.1;
      short =
          omega (arith, t1.1.len, t2.1.len);
      bytes_are = tt;
    })

t_flush_takes : (input : List ℕ) (x : TBody × List ℕ) → t_flush_at input ≡ Some x
    → TakesBody (codes "Tflush") input x.0 x.1
unfolding t_flush_at
t_flush_takes input x e =
    let b0 = bind_some (number_at (codes " oldtag=") (2 ^ 16) input) (λ oldtag. Some (t.Flush oldtag.0, oldtag.1)) x
    e in
    let t0 = number_takes (codes " oldtag=") (2 ^ 16) input b0.0.0 b0.0.1 b0.1 in
    let made : TBody × List ℕ = (t.Flush b0.0.0, b0.0.1) in
    subst (λ (y : TBody × List ℕ). TakesBody (codes "Tflush") input y.0 y.1) (some_is made x b0.2)
    (record { name_is = refl; takes = t0.0; fits = tt; in_range = t0.1; short = omega arith; bytes_are = tt })

t_attach_takes : (input : List ℕ) (x : TBody × List ℕ) → t_attach_at input ≡ Some x
    → TakesBody (codes "Tattach") input x.0 x.1
unfolding t_attach_at
t_attach_takes input x e =
    let b0 = bind_some (number_at (codes " fid=") (2 ^ 32) input) (λ fid. number_at (codes " afid=") (2 ^ 32) fid.1 >>=
    λ afid. text_at (codes " uname=") afid.1 >>= λ uname. text_at (codes " aname=") uname.1 >>=
    λ aname. Some (t.Attach fid.0 afid.0 uname.0 aname.0, aname.1)) x e in
    let b1 = bind_some (number_at (codes " afid=") (2 ^ 32) b0.0.1)
    (λ afid. text_at (codes " uname=") afid.1 >>= λ uname. text_at (codes " aname=") uname.1 >>=
    λ aname. Some (t.Attach b0.0.0 afid.0 uname.0 aname.0, aname.1)) x b0.2 in
    let b2 = bind_some (text_at (codes " uname=") b1.0.1) (λ uname. text_at (codes " aname=") uname.1 >>=
    λ aname. Some (t.Attach b0.0.0 b1.0.0 uname.0 aname.0, aname.1)) x b1.2 in
    let b3 = bind_some (text_at (codes " aname=") b2.0.1) (λ aname. Some (
      t.Attach b0.0.0 b1.0.0 b2.0.0 aname.0,
      aname.1,
    )) x b2.2 in
    let t0 = number_takes (codes " fid=") (2 ^ 32) input b0.0.0 b0.0.1 b0.1 in
    let t1 = number_takes (codes " afid=") (2 ^ 32) b0.0.1 b1.0.0 b1.0.1 b1.1 in
    let t2 = text_takes (codes " uname=") b1.0.1 b2.0.0 b2.0.1 b2.1 in
    let t3 = text_takes (codes " aname=") b2.0.1 b3.0.0 b3.0.1 b3.1 in
    let j2 = takes_then b1.0.1 (text (codes " uname=") b2.0.0) b2.0.1 (text (codes " aname=") b3.0.0) b3.0.1 t2.0
    t3.0 in
    let j1 = takes_then b0.0.1 (number (codes " afid=") b1.0.0) b1.0.1
    (text (codes " uname=") b2.0.0 ++ text (codes " aname=") b3.0.0) b3.0.1 t1.0 j2 in
    let j0 = takes_then input (number (codes " fid=") b0.0.0) b0.0.1
    (number (codes " afid=") b1.0.0 ++ (text (codes " uname=") b2.0.0 ++ text (codes " aname=") b3.0.0)) b3.0.1 t0.0
    j1 in
    let made : TBody × List ℕ = (t.Attach b0.0.0 b1.0.0 b2.0.0 b3.0.0, b3.0.1) in
    subst (λ (y : TBody × List ℕ). TakesBody (codes "Tattach") input y.0 y.1) (some_is made x b3.2)
    (record {
      name_is = refl;
      takes = j0;
      fits = (t2.1, t3.1);
      in_range = (t0.1, t1.1);
      short =
          omega (arith, t2.1.len, t3.1.len);
      bytes_are = tt;
    })

t_walk_takes : (input : List ℕ) (x : TBody × List ℕ) → t_walk_at input ≡ Some x
    → TakesBody (codes "Twalk") input x.0 x.1
unfolding t_walk_at
t_walk_takes input x e =
    let b0 = bind_some (number_at (codes " fid=") (2 ^ 32) input) (λ fid. number_at (codes " newfid=") (2 ^ 32) fid.1
    >>= λ newfid. listed_at (codes " names=") quoted_at newfid.1 >>=
    λ names. Some (t.Walk fid.0 newfid.0 names.0, names.1)) x e in
    let b1 = bind_some (number_at (codes " newfid=") (2 ^ 32) b0.0.1)
    (λ newfid. listed_at (codes " names=") quoted_at newfid.1 >>=
    λ names. Some (t.Walk b0.0.0 newfid.0 names.0, names.1)) x b0.2 in
    let b2 = bind_some (listed_at (codes " names=") quoted_at b1.0.1)
    (λ names. Some (t.Walk b0.0.0 b1.0.0 names.0, names.1)) x b1.2 in
    let t0 = number_takes (codes " fid=") (2 ^ 32) input b0.0.0 b0.0.1 b0.1 in
    let t1 = number_takes (codes " newfid=") (2 ^ 32) b0.0.1 b1.0.0 b1.0.1 b1.1 in
    let t2 = names_takes (codes " names=") b1.0.1 b2.0.0 b2.0.1 b2.1 in
    let j1 = takes_then b0.0.1 (number (codes " newfid=") b1.0.0) b1.0.1 (listed (codes " names=") quoted b2.0.0) b2.0.1
    t1.0 t2.0 in
    let j0 = takes_then input (number (codes " fid=") b0.0.0) b0.0.1
    (number (codes " newfid=") b1.0.0 ++ listed (codes " names=") quoted b2.0.0) b2.0.1 t0.0 j1 in
    let made : TBody × List ℕ = (t.Walk b0.0.0 b1.0.0 b2.0.0, b2.0.1) in
    subst (λ (y : TBody × List ℕ). TakesBody (codes "Twalk") input y.0 y.1) (some_is made x b2.2)
    (record {
      name_is = refl;
      takes = j0;
      fits = t2.1;
      in_range = (t0.1, t1.1);
      short =
          omega (arith, names_short b2.0.0 t2.1);
      bytes_are = tt;
    })

t_open_takes : (input : List ℕ) (x : TBody × List ℕ) → t_open_at input ≡ Some x
    → TakesBody (codes "Topen") input x.0 x.1
unfolding t_open_at
t_open_takes input x e =
    let b0 = bind_some (number_at (codes " fid=") (2 ^ 32) input) (λ fid. number_at (codes " mode=") (2 ^ 8) fid.1 >>=
    λ mode. Some (t.Open fid.0 mode.0, mode.1)) x e in
    let b1 = bind_some (number_at (codes " mode=") (2 ^ 8) b0.0.1) (λ mode. Some (t.Open b0.0.0 mode.0, mode.1)) x
    b0.2 in
    let t0 = number_takes (codes " fid=") (2 ^ 32) input b0.0.0 b0.0.1 b0.1 in
    let t1 = number_takes (codes " mode=") (2 ^ 8) b0.0.1 b1.0.0 b1.0.1 b1.1 in
    let j0 = takes_then input (number (codes " fid=") b0.0.0) b0.0.1 (number (codes " mode=") b1.0.0) b1.0.1 t0.0
    t1.0 in
    let made : TBody × List ℕ = (t.Open b0.0.0 b1.0.0, b1.0.1) in
    subst (λ (y : TBody × List ℕ). TakesBody (codes "Topen") input y.0 y.1) (some_is made x b1.2)
    (record { name_is = refl; takes = j0; fits = tt; in_range = (t0.1, t1.1); short = omega arith; bytes_are = tt })

t_create_takes : (input : List ℕ) (x : TBody × List ℕ) → t_create_at input ≡ Some x
    → TakesBody (codes "Tcreate") input x.0 x.1
unfolding t_create_at
t_create_takes input x e =
    let b0 = bind_some (number_at (codes " fid=") (2 ^ 32) input) (λ fid. text_at (codes " name=") fid.1 >>=
    λ name. number_at (codes " perm=") (2 ^ 32) name.1 >>= λ perm. number_at (codes " mode=") (2 ^ 8) perm.1 >>=
    λ mode. Some (t.Create fid.0 name.0 perm.0 mode.0, mode.1)) x e in
    let b1 = bind_some (text_at (codes " name=") b0.0.1) (λ name. number_at (codes " perm=") (2 ^ 32) name.1 >>=
    λ perm. number_at (codes " mode=") (2 ^ 8) perm.1 >>= λ mode. Some (
      t.Create b0.0.0 name.0 perm.0 mode.0,
      mode.1,
    )) x b0.2 in
    let b2 = bind_some (number_at (codes " perm=") (2 ^ 32) b1.0.1)
    (λ perm. number_at (codes " mode=") (2 ^ 8) perm.1 >>= λ mode. Some (
      t.Create b0.0.0 b1.0.0 perm.0 mode.0,
      mode.1,
    )) x b1.2 in
    let b3 = bind_some (number_at (codes " mode=") (2 ^ 8) b2.0.1)
    (λ mode. Some (t.Create b0.0.0 b1.0.0 b2.0.0 mode.0, mode.1)) x b2.2 in
    let t0 = number_takes (codes " fid=") (2 ^ 32) input b0.0.0 b0.0.1 b0.1 in
    let t1 = text_takes (codes " name=") b0.0.1 b1.0.0 b1.0.1 b1.1 in
    let t2 = number_takes (codes " perm=") (2 ^ 32) b1.0.1 b2.0.0 b2.0.1 b2.1 in
    let t3 = number_takes (codes " mode=") (2 ^ 8) b2.0.1 b3.0.0 b3.0.1 b3.1 in
    let j2 = takes_then b1.0.1 (number (codes " perm=") b2.0.0) b2.0.1 (number (codes " mode=") b3.0.0) b3.0.1 t2.0
    t3.0 in
    let j1 = takes_then b0.0.1 (text (codes " name=") b1.0.0) b1.0.1
    (number (codes " perm=") b2.0.0 ++ number (codes " mode=") b3.0.0) b3.0.1 t1.0 j2 in
    let j0 = takes_then input (number (codes " fid=") b0.0.0) b0.0.1
    (text (codes " name=") b1.0.0 ++ (number (codes " perm=") b2.0.0 ++ number (codes " mode=") b3.0.0)) b3.0.1 t0.0
    j1 in
    let made : TBody × List ℕ = (t.Create b0.0.0 b1.0.0 b2.0.0 b3.0.0, b3.0.1) in
    subst (λ (y : TBody × List ℕ). TakesBody (codes "Tcreate") input y.0 y.1) (some_is made x b3.2)
    (record {
      name_is = refl;
      takes = j0;
      fits = t1.1;
      in_range = (t0.1, t2.1, t3.1);
      short = omega (arith, t1.1.len);
      bytes_are = tt;
    })

t_read_takes : (input : List ℕ) (x : TBody × List ℕ) → t_read_at input ≡ Some x
    → TakesBody (codes "Tread") input x.0 x.1
unfolding t_read_at
t_read_takes input x e =
    let b0 = bind_some (number_at (codes " fid=") (2 ^ 32) input) (λ fid. number_at (codes " offset=") (2 ^ 64) fid.1
    >>= λ offset. number_at (codes " count=") (2 ^ 32) offset.1 >>=
    λ count. Some (t.Read fid.0 offset.0 count.0, count.1)) x e in
    let b1 = bind_some (number_at (codes " offset=") (2 ^ 64) b0.0.1)
    (λ offset. number_at (codes " count=") (2 ^ 32) offset.1 >>=
    λ count. Some (t.Read b0.0.0 offset.0 count.0, count.1)) x b0.2 in
    let b2 = bind_some (number_at (codes " count=") (2 ^ 32) b1.0.1)
    (λ count. Some (t.Read b0.0.0 b1.0.0 count.0, count.1)) x b1.2 in
    let t0 = number_takes (codes " fid=") (2 ^ 32) input b0.0.0 b0.0.1 b0.1 in
    let t1 = number_takes (codes " offset=") (2 ^ 64) b0.0.1 b1.0.0 b1.0.1 b1.1 in
    let t2 = number_takes (codes " count=") (2 ^ 32) b1.0.1 b2.0.0 b2.0.1 b2.1 in
    let j1 = takes_then b0.0.1 (number (codes " offset=") b1.0.0) b1.0.1 (number (codes " count=") b2.0.0) b2.0.1 t1.0
    t2.0 in
    let j0 = takes_then input (number (codes " fid=") b0.0.0) b0.0.1
    (number (codes " offset=") b1.0.0 ++ number (codes " count=") b2.0.0) b2.0.1 t0.0 j1 in
    let made : TBody × List ℕ = (t.Read b0.0.0 b1.0.0 b2.0.0, b2.0.1) in
    subst (λ (y : TBody × List ℕ). TakesBody (codes "Tread") input y.0 y.1) (some_is made x b2.2)
    (record {
      name_is = refl;
      takes = j0;
      fits = tt;
      in_range = (t0.1, t1.1, t2.1);
      short = omega arith;
      bytes_are =
          tt;
    })

t_write_takes : (input : List ℕ) (x : TBody × List ℕ) → t_write_at input ≡ Some x
    → TakesBody (codes "Twrite") input x.0 x.1
unfolding t_write_at
t_write_takes input x e =
    let b0 = bind_some (number_at (codes " fid=") (2 ^ 32) input) (λ fid. number_at (codes " offset=") (2 ^ 64) fid.1
    >>= λ offset. bytes_in_hex_at (codes " data=") 65561 offset.1 >>=
    λ bytes. Some (t.Write fid.0 offset.0 bytes.0, bytes.1)) x e in
    let b1 = bind_some (number_at (codes " offset=") (2 ^ 64) b0.0.1)
    (λ offset. bytes_in_hex_at (codes " data=") 65561 offset.1 >>=
    λ bytes. Some (t.Write b0.0.0 offset.0 bytes.0, bytes.1)) x b0.2 in
    let b2 = bind_some (bytes_in_hex_at (codes " data=") 65561 b1.0.1)
    (λ bytes. Some (t.Write b0.0.0 b1.0.0 bytes.0, bytes.1)) x b1.2 in
    let t0 = number_takes (codes " fid=") (2 ^ 32) input b0.0.0 b0.0.1 b0.1 in
    let t1 = number_takes (codes " offset=") (2 ^ 64) b0.0.1 b1.0.0 b1.0.1 b1.1 in
    let t2 = bytes_in_hex_takes (codes " data=") 65561 b1.0.1 b2.0.0 b2.0.1 b2.1 in
    let j1 = takes_then b0.0.1 (number (codes " offset=") b1.0.0) b1.0.1 (bytes_in_hex (codes " data=") b2.0.0) b2.0.1
    t1.0 t2.takes in
    let j0 = takes_then input (number (codes " fid=") b0.0.0) b0.0.1
    (number (codes " offset=") b1.0.0 ++ bytes_in_hex (codes " data=") b2.0.0) b2.0.1 t0.0 j1 in
    let made : TBody × List ℕ = (t.Write b0.0.0 b1.0.0 b2.0.0, b2.0.1) in
    subst (λ (y : TBody × List ℕ). TakesBody (codes "Twrite") input y.0 y.1) (some_is made x b2.2)
    (record {
      name_is = refl;
      takes = j0;
      fits = omega (arith, t2.few);
      in_range = (t0.1, t1.1);
      short =
          omega (arith, t2.few);
      bytes_are = t2.bytes_are;
    })

t_clunk_takes : (input : List ℕ) (x : TBody × List ℕ) → t_clunk_at input ≡ Some x
    → TakesBody (codes "Tclunk") input x.0 x.1
unfolding t_clunk_at
t_clunk_takes input x e =
    let b0 = bind_some (number_at (codes " fid=") (2 ^ 32) input) (λ fid. Some (t.Clunk fid.0, fid.1)) x e in
    let t0 = number_takes (codes " fid=") (2 ^ 32) input b0.0.0 b0.0.1 b0.1 in
    let made : TBody × List ℕ = (t.Clunk b0.0.0, b0.0.1) in
    subst (λ (y : TBody × List ℕ). TakesBody (codes "Tclunk") input y.0 y.1) (some_is made x b0.2)
    (record { name_is = refl; takes = t0.0; fits = tt; in_range = t0.1; short = omega arith; bytes_are = tt })

t_remove_takes : (input : List ℕ) (x : TBody × List ℕ) → t_remove_at input ≡ Some x
    → TakesBody (codes "Tremove") input x.0 x.1
unfolding t_remove_at
t_remove_takes input x e =
    let b0 = bind_some (number_at (codes " fid=") (2 ^ 32) input) (λ fid. Some (t.Remove fid.0, fid.1)) x e in
    let t0 = number_takes (codes " fid=") (2 ^ 32) input b0.0.0 b0.0.1 b0.1 in
    let made : TBody × List ℕ = (t.Remove b0.0.0, b0.0.1) in
    subst (λ (y : TBody × List ℕ). TakesBody (codes "Tremove") input y.0 y.1) (some_is made x b0.2)
    (record { name_is = refl; takes = t0.0; fits = tt; in_range = t0.1; short = omega arith; bytes_are = tt })

t_stat_takes : (input : List ℕ) (x : TBody × List ℕ) → t_stat_at input ≡ Some x
    → TakesBody (codes "Tstat") input x.0 x.1
unfolding t_stat_at
t_stat_takes input x e =
    let b0 = bind_some (number_at (codes " fid=") (2 ^ 32) input) (λ fid. Some (t.Stat fid.0, fid.1)) x e in
    let t0 = number_takes (codes " fid=") (2 ^ 32) input b0.0.0 b0.0.1 b0.1 in
    let made : TBody × List ℕ = (t.Stat b0.0.0, b0.0.1) in
    subst (λ (y : TBody × List ℕ). TakesBody (codes "Tstat") input y.0 y.1) (some_is made x b0.2)
    (record { name_is = refl; takes = t0.0; fits = tt; in_range = t0.1; short = omega arith; bytes_are = tt })

t_wstat_takes : (input : List ℕ) (x : TBody × List ℕ) → t_wstat_at input ≡ Some x
    → TakesBody (codes "Twstat") input x.0 x.1
unfolding t_wstat_at
t_wstat_takes input x e =
    let b0 = bind_some (number_at (codes " fid=") (2 ^ 32) input) (λ fid. bytes_in_hex_at (codes " stat=") (2 ^ 16)
    fid.1 >>= λ stat. Some (t.Wstat fid.0 stat.0, stat.1)) x e in
    let b1 = bind_some (bytes_in_hex_at (codes " stat=") (2 ^ 16) b0.0.1) (λ stat. Some (t.Wstat b0.0.0 stat.0, stat.1))
    x b0.2 in
    let t0 = number_takes (codes " fid=") (2 ^ 32) input b0.0.0 b0.0.1 b0.1 in
    let t1 = bytes_in_hex_takes (codes " stat=") (2 ^ 16) b0.0.1 b1.0.0 b1.0.1 b1.1 in
    let j0 = takes_then input (number (codes " fid=") b0.0.0) b0.0.1 (bytes_in_hex (codes " stat=") b1.0.0) b1.0.1 t0.0
    t1.takes in
    let made : TBody × List ℕ = (t.Wstat b0.0.0 b1.0.0, b1.0.1) in
    subst (λ (y : TBody × List ℕ). TakesBody (codes "Twstat") input y.0 y.1) (some_is made x b1.2)
    (record {
      name_is = refl;
      takes = j0;
      fits = t1.few;
      in_range = t0.1;
      short = omega (arith, t1.few);
      bytes_are =
          t1.bytes_are;
    })

pub t_body_takes : (name bytes : List ℕ) (x : TBody × List ℕ) → t_body_at name bytes ≡ Some x
    → TakesBody name bytes x.0 x.1
unfolding t_body_at
t_body_takes name bytes x e = read_by_takes TakesBody t_readers (
  t_version_takes,
  (
    t_auth_takes,
    (
      t_flush_takes,
      (
        t_attach_takes,
        (
          t_walk_takes,
          (
            t_open_takes,
            (
              t_create_takes,
              (
                t_read_takes,
                (
                  t_write_takes,
                  (t_clunk_takes, (t_remove_takes, (t_stat_takes, (t_wstat_takes, tt)))),
                ),
              ),
            ),
          ),
        ),
      ),
    ),
  ),
) name bytes x e

-- ---- what is spelled is read

t_version_again : (msize : ℕ) (version : List ℕ) → BodyFits_t (t.Version msize version)
    → BodyInRange_t (t.Version msize version) → size_t (t.Version msize version) ≤ 65560
    → HasBytes_t (t.Version msize version) → t_version_at (fields_t (t.Version msize version))
    ≡ Some (t.Version msize version, [])
unfolding t_version_at
t_version_again msize version fits in_range short bytes_are =
    rw (
      number_again (codes " msize=") (2 ^ 32) msize (text (codes " version=") version) in_range
          (omega (arith, in_range)) (stops_end (text (codes " version=") version)
          (text_stops (codes " version=") version refl)),
      text_last (codes " version=") version fits,
    ) refl

t_auth_again : (afid : ℕ) (uname : List ℕ) (aname : List ℕ) → BodyFits_t (t.Auth afid uname aname)
    → BodyInRange_t (t.Auth afid uname aname) → size_t (t.Auth afid uname aname) ≤ 65560
    → HasBytes_t (t.Auth afid uname aname) → t_auth_at (fields_t (t.Auth afid uname aname))
    ≡ Some (t.Auth afid uname aname, [])
unfolding t_auth_at
t_auth_again afid uname aname fits in_range short bytes_are =
    rw (
      number_again (codes " afid=") (2 ^ 32) afid (text (codes " uname=") uname ++ text (codes " aname=") aname)
          in_range (omega (arith, in_range)) (stops_end (text (codes " uname=") uname ++ text (codes " aname=") aname)
          (stops_then (text (codes " uname=") uname) (text (codes " aname=") aname)
          (text_stops (codes " uname=") uname refl))),
      text_again (codes " uname=") uname (text (codes " aname=") aname) fits.0,
      text_last (codes " aname=") aname fits.1,
    ) refl

t_flush_again : (oldtag : ℕ) → BodyFits_t (t.Flush oldtag) → BodyInRange_t (t.Flush oldtag)
    → size_t (t.Flush oldtag) ≤ 65560 → HasBytes_t (t.Flush oldtag)
    → t_flush_at (fields_t (t.Flush oldtag)) ≡ Some (t.Flush oldtag, [])
unfolding t_flush_at
t_flush_again oldtag fits in_range short bytes_are =
    rw (number_last (codes " oldtag=") (2 ^ 16) oldtag in_range (omega (arith, in_range))) refl

t_attach_again : (fid : ℕ) (afid : ℕ) (uname : List ℕ) (aname : List ℕ) → BodyFits_t (t.Attach fid afid uname aname)
    → BodyInRange_t (t.Attach fid afid uname aname) → size_t (t.Attach fid afid uname aname) ≤ 65560
    → HasBytes_t (t.Attach fid afid uname aname) → t_attach_at (fields_t (t.Attach fid afid uname aname))
    ≡ Some (t.Attach fid afid uname aname, [])
unfolding t_attach_at
t_attach_again fid afid uname aname fits in_range short bytes_are =
    rw (
      number_again (codes " fid=") (2 ^ 32) fid (number (codes " afid=") afid
          ++ (text (codes " uname=") uname ++ text (codes " aname=") aname)) in_range.0 (omega (arith, in_range.0))
          (stops_end (number (codes " afid=") afid ++ (text (codes " uname=") uname ++ text (codes " aname=") aname))
          (stops_then (number (codes " afid=") afid) (text (codes " uname=") uname ++ text (codes " aname=") aname)
          (number_stops (codes " afid=") afid refl))),
      number_again (codes " afid=") (2 ^ 32) afid (text (codes " uname=") uname ++ text (codes " aname=") aname)
          in_range.1 (omega (arith, in_range.1)) (stops_end (text (codes " uname=") uname
          ++ text (codes " aname=") aname) (stops_then (text (codes " uname=") uname) (text (codes " aname=") aname)
          (text_stops (codes " uname=") uname refl))),
      text_again (codes " uname=") uname (text (codes " aname=") aname) fits.0,
      text_last (codes " aname=") aname fits.1,
    ) refl

t_walk_again : (fid : ℕ) (newfid : ℕ) (names : List (List ℕ)) → BodyFits_t (t.Walk fid newfid names)
    → BodyInRange_t (t.Walk fid newfid names) → size_t (t.Walk fid newfid names) ≤ 65560
    → HasBytes_t (t.Walk fid newfid names) → t_walk_at (fields_t (t.Walk fid newfid names))
    ≡ Some (t.Walk fid newfid names, [])
unfolding t_walk_at
t_walk_again fid newfid names fits in_range short bytes_are =
    rw (
      number_again (codes " fid=") (2 ^ 32) fid (number (codes " newfid=") newfid
          ++ listed (codes " names=") quoted names) in_range.0 (omega (arith, in_range.0))
          (stops_end (number (codes " newfid=") newfid ++ listed (codes " names=") quoted names)
          (stops_then (number (codes " newfid=") newfid) (listed (codes " names=") quoted names)
          (number_stops (codes " newfid=") newfid refl))),
      number_again (codes " newfid=") (2 ^ 32) newfid (listed (codes " names=") quoted names) in_range.1
          (omega (arith, in_range.1)) (stops_end (listed (codes " names=") quoted names)
          (names_stops (codes " names=") names refl)),
      names_last (codes " names=") names fits,
    ) refl

t_open_again : (fid : ℕ) (mode : ℕ) → BodyFits_t (t.Open fid mode) → BodyInRange_t (t.Open fid mode)
    → size_t (t.Open fid mode) ≤ 65560 → HasBytes_t (t.Open fid mode)
    → t_open_at (fields_t (t.Open fid mode)) ≡ Some (t.Open fid mode, [])
unfolding t_open_at
t_open_again fid mode fits in_range short bytes_are =
    rw (
      number_again (codes " fid=") (2 ^ 32) fid (number (codes " mode=") mode) in_range.0 (omega (arith, in_range.0))
          (stops_end (number (codes " mode=") mode) (number_stops (codes " mode=") mode refl)),
      number_last (codes " mode=") (2 ^ 8) mode in_range.1 (omega (arith, in_range.1)),
    ) refl

t_create_again : (fid : ℕ) (name : List ℕ) (perm : ℕ) (mode : ℕ) → BodyFits_t (t.Create fid name perm mode)
    → BodyInRange_t (t.Create fid name perm mode) → size_t (t.Create fid name perm mode) ≤ 65560
    → HasBytes_t (t.Create fid name perm mode) → t_create_at (fields_t (t.Create fid name perm mode))
    ≡ Some (t.Create fid name perm mode, [])
unfolding t_create_at
t_create_again fid name perm mode fits in_range short bytes_are =
    rw (
      number_again (codes " fid=") (2 ^ 32) fid (text (codes " name=") name
          ++ (number (codes " perm=") perm ++ number (codes " mode=") mode)) in_range.0 (omega (arith, in_range.0))
          (stops_end (text (codes " name=") name ++ (number (codes " perm=") perm ++ number (codes " mode=") mode))
          (stops_then (text (codes " name=") name) (number (codes " perm=") perm ++ number (codes " mode=") mode)
          (text_stops (codes " name=") name refl))),
      text_again (codes " name=") name (number (codes " perm=") perm ++ number (codes " mode=") mode) fits,
      number_again (codes " perm=") (2 ^ 32) perm (number (codes " mode=") mode) in_range.1 (omega (arith, in_range.1))
          (stops_end (number (codes " mode=") mode) (number_stops (codes " mode=") mode refl)),
      number_last (codes " mode=") (2 ^ 8) mode in_range.2 (omega (arith, in_range.2)),
    ) refl

t_read_again : (fid : ℕ) (offset : ℕ) (count : ℕ) → BodyFits_t (t.Read fid offset count)
    → BodyInRange_t (t.Read fid offset count) → size_t (t.Read fid offset count) ≤ 65560
    → HasBytes_t (t.Read fid offset count) → t_read_at (fields_t (t.Read fid offset count))
    ≡ Some (t.Read fid offset count, [])
unfolding t_read_at
t_read_again fid offset count fits in_range short bytes_are =
    rw (
      number_again (codes " fid=") (2 ^ 32) fid (number (codes " offset=") offset ++ number (codes " count=") count)
          in_range.0 (omega (arith, in_range.0)) (stops_end (number (codes " offset=") offset
          ++ number (codes " count=") count) (stops_then (number (codes " offset=") offset)
          (number (codes " count=") count) (number_stops (codes " offset=") offset refl))),
      number_again (codes " offset=") (2 ^ 64) offset (number (codes " count=") count) in_range.1 in_range.1
          (stops_end (number (codes " count=") count) (number_stops (codes " count=") count refl)),
      number_last (codes " count=") (2 ^ 32) count in_range.2 (omega (arith, in_range.2)),
    ) refl

t_write_again : (fid : ℕ) (offset : ℕ) (bytes : List ℕ) → BodyFits_t (t.Write fid offset bytes)
    → BodyInRange_t (t.Write fid offset bytes) → size_t (t.Write fid offset bytes) ≤ 65560
    → HasBytes_t (t.Write fid offset bytes) → t_write_at (fields_t (t.Write fid offset bytes))
    ≡ Some (t.Write fid offset bytes, [])
unfolding t_write_at
t_write_again fid offset bytes fits in_range short bytes_are =
    rw (
      number_again (codes " fid=") (2 ^ 32) fid (number (codes " offset=") offset
          ++ bytes_in_hex (codes " data=") bytes) in_range.0 (omega (arith, in_range.0))
          (stops_end (number (codes " offset=") offset ++ bytes_in_hex (codes " data=") bytes)
          (stops_then (number (codes " offset=") offset) (bytes_in_hex (codes " data=") bytes)
          (number_stops (codes " offset=") offset refl))),
      number_again (codes " offset=") (2 ^ 64) offset (bytes_in_hex (codes " data=") bytes) in_range.1 in_range.1
          (stops_end (bytes_in_hex (codes " data=") bytes) (bytes_in_hex_stops (codes " data=") bytes refl)),
      bytes_in_hex_last (codes " data=") 65561 bytes (omega (arith, short)) bytes_are,
    ) refl

t_clunk_again : (fid : ℕ) → BodyFits_t (t.Clunk fid) → BodyInRange_t (t.Clunk fid) → size_t (t.Clunk fid) ≤ 65560
    → HasBytes_t (t.Clunk fid) → t_clunk_at (fields_t (t.Clunk fid)) ≡ Some (t.Clunk fid, [])
unfolding t_clunk_at
t_clunk_again fid fits in_range short bytes_are =
    rw (number_last (codes " fid=") (2 ^ 32) fid in_range (omega (arith, in_range))) refl

t_remove_again : (fid : ℕ) → BodyFits_t (t.Remove fid) → BodyInRange_t (t.Remove fid) → size_t (t.Remove fid) ≤ 65560
    → HasBytes_t (t.Remove fid) → t_remove_at (fields_t (t.Remove fid)) ≡ Some (t.Remove fid, [])
unfolding t_remove_at
t_remove_again fid fits in_range short bytes_are =
    rw (number_last (codes " fid=") (2 ^ 32) fid in_range (omega (arith, in_range))) refl

t_stat_again : (fid : ℕ) → BodyFits_t (t.Stat fid) → BodyInRange_t (t.Stat fid) → size_t (t.Stat fid) ≤ 65560
    → HasBytes_t (t.Stat fid) → t_stat_at (fields_t (t.Stat fid)) ≡ Some (t.Stat fid, [])
unfolding t_stat_at
t_stat_again fid fits in_range short bytes_are =
    rw (number_last (codes " fid=") (2 ^ 32) fid in_range (omega (arith, in_range))) refl

t_wstat_again : (fid : ℕ) (stat : List ℕ) → BodyFits_t (t.Wstat fid stat) → BodyInRange_t (t.Wstat fid stat)
    → size_t (t.Wstat fid stat) ≤ 65560 → HasBytes_t (t.Wstat fid stat)
    → t_wstat_at (fields_t (t.Wstat fid stat)) ≡ Some (t.Wstat fid stat, [])
unfolding t_wstat_at
t_wstat_again fid stat fits in_range short bytes_are =
    rw (
      number_again (codes " fid=") (2 ^ 32) fid (bytes_in_hex (codes " stat=") stat) in_range (omega (arith, in_range))
          (stops_end (bytes_in_hex (codes " stat=") stat) (bytes_in_hex_stops (codes " stat=") stat refl)),
      bytes_in_hex_last (codes " stat=") (2 ^ 16) stat fits bytes_are,
    ) refl

pub t_body_again : (body : TBody) → BodyFits_t body → BodyInRange_t body → size_t body ≤ 65560 → HasBytes_t body
    → t_body_at (name_t body) (fields_t body) ≡ Some (body, [])
unfolding t_body_at
t_body_again (t.Version msize version) fits in_range short bytes_are = t_version_again msize version fits in_range short
    bytes_are
t_body_again (t.Auth afid uname aname) fits in_range short bytes_are = t_auth_again afid uname aname fits in_range short
    bytes_are
t_body_again (t.Flush oldtag) fits in_range short bytes_are = t_flush_again oldtag fits in_range short bytes_are
t_body_again (t.Attach fid afid uname aname) fits in_range short bytes_are = t_attach_again fid afid uname aname fits
    in_range short bytes_are
t_body_again (t.Walk fid newfid names) fits in_range short bytes_are = t_walk_again fid newfid names fits in_range short
    bytes_are
t_body_again (t.Open fid mode) fits in_range short bytes_are = t_open_again fid mode fits in_range short bytes_are
t_body_again (t.Create fid name perm mode) fits in_range short bytes_are = t_create_again fid name perm mode fits
    in_range short bytes_are
t_body_again (t.Read fid offset count) fits in_range short bytes_are = t_read_again fid offset count fits in_range short
    bytes_are
t_body_again (t.Write fid offset bytes) fits in_range short bytes_are = t_write_again fid offset bytes fits in_range
    short bytes_are
t_body_again (t.Clunk fid) fits in_range short bytes_are = t_clunk_again fid fits in_range short bytes_are
t_body_again (t.Remove fid) fits in_range short bytes_are = t_remove_again fid fits in_range short bytes_are
t_body_again (t.Stat fid) fits in_range short bytes_are = t_stat_again fid fits in_range short bytes_are
t_body_again (t.Wstat fid stat) fits in_range short bytes_are = t_wstat_again fid stat fits in_range short bytes_are

-- the name is cut off at the blank
pub t_name_first : (body : TBody) (rest : List ℕ) → first_field (name_t body ++ 32 ∷ rest) ≡ name_t body
t_name_first (t.Version msize version) rest = refl
t_name_first (t.Auth afid uname aname) rest = refl
t_name_first (t.Flush oldtag) rest = refl
t_name_first (t.Attach fid afid uname aname) rest = refl
t_name_first (t.Walk fid newfid names) rest = refl
t_name_first (t.Open fid mode) rest = refl
t_name_first (t.Create fid name perm mode) rest = refl
t_name_first (t.Read fid offset count) rest = refl
t_name_first (t.Write fid offset bytes) rest = refl
t_name_first (t.Clunk fid) rest = refl
t_name_first (t.Remove fid) rest = refl
t_name_first (t.Stat fid) rest = refl
t_name_first (t.Wstat fid stat) rest = refl

pub t_name_after : (body : TBody) (rest : List ℕ) → after_field (name_t body ++ 32 ∷ rest) ≡ rest
t_name_after (t.Version msize version) rest = refl
t_name_after (t.Auth afid uname aname) rest = refl
t_name_after (t.Flush oldtag) rest = refl
t_name_after (t.Attach fid afid uname aname) rest = refl
t_name_after (t.Walk fid newfid names) rest = refl
t_name_after (t.Open fid mode) rest = refl
t_name_after (t.Create fid name perm mode) rest = refl
t_name_after (t.Read fid offset count) rest = refl
t_name_after (t.Write fid offset bytes) rest = refl
t_name_after (t.Clunk fid) rest = refl
t_name_after (t.Remove fid) rest = refl
t_name_after (t.Stat fid) rest = refl
t_name_after (t.Wstat fid stat) rest = refl

-- the spelling in bytes is one of bytes
pub t_fields_bytes : (body : TBody) → BodyFits_t body → BodyInRange_t body → HasBytes_t body
    → AreBytes (wire.fields_t body)
t_fields_bytes (t.Version msize version) fits in_range bytes_are = bytes_append (to_le_bytes w32 msize) (string version)
    (bytes_32 msize) (string_bytes version fits)
t_fields_bytes (t.Auth afid uname aname) fits in_range bytes_are = bytes_append (to_le_bytes w32 afid)
    (string uname ++ string aname) (bytes_32 afid) (bytes_append (string uname) (string aname)
    (string_bytes uname fits.0) (string_bytes aname fits.1))
t_fields_bytes (t.Flush oldtag) fits in_range bytes_are = bytes_16 oldtag
t_fields_bytes (t.Attach fid afid uname aname) fits in_range bytes_are = bytes_append (to_le_bytes w32 fid)
    (to_le_bytes w32 afid ++ (string uname ++ string aname)) (bytes_32 fid)
    (bytes_append (to_le_bytes w32 afid) (string uname ++ string aname) (bytes_32 afid)
    (bytes_append (string uname) (string aname) (string_bytes uname fits.0) (string_bytes aname fits.1)))
t_fields_bytes (t.Walk fid newfid names) fits in_range bytes_are = bytes_append (to_le_bytes w32 fid)
    (to_le_bytes w32 newfid ++ spelled.listed string names) (bytes_32 fid)
    (bytes_append (to_le_bytes w32 newfid) (spelled.listed string names) (bytes_32 newfid) (names_bytes names fits))
t_fields_bytes (t.Open fid mode) fits in_range bytes_are = bytes_append (to_le_bytes w32 fid) ((mode ∷ []))
    (bytes_32 fid) (bytes_cons mode [] in_range.1 no_bytes)
t_fields_bytes (t.Create fid name perm mode) fits in_range bytes_are = bytes_append (to_le_bytes w32 fid)
    (string name ++ (to_le_bytes w32 perm ++ (mode ∷ []))) (bytes_32 fid)
    (bytes_append (string name) (to_le_bytes w32 perm ++ (mode ∷ [])) (string_bytes name fits)
    (bytes_append (to_le_bytes w32 perm) ((mode ∷ [])) (bytes_32 perm) (bytes_cons mode [] in_range.2 no_bytes)))
t_fields_bytes (t.Read fid offset count) fits in_range bytes_are = bytes_append (to_le_bytes w32 fid)
    (to_le_bytes w64 offset ++ to_le_bytes w32 count) (bytes_32 fid)
    (bytes_append (to_le_bytes w64 offset) (to_le_bytes w32 count) (bytes_64 offset) (bytes_32 count))
t_fields_bytes (t.Write fid offset bytes) fits in_range bytes_are = bytes_append (to_le_bytes w32 fid)
    (to_le_bytes w64 offset ++ counted w32 bytes) (bytes_32 fid) (bytes_append (to_le_bytes w64 offset)
    (counted w32 bytes) (bytes_64 offset) (data_bytes bytes bytes_are))
t_fields_bytes (t.Clunk fid) fits in_range bytes_are = bytes_32 fid
t_fields_bytes (t.Remove fid) fits in_range bytes_are = bytes_32 fid
t_fields_bytes (t.Stat fid) fits in_range bytes_are = bytes_32 fid
t_fields_bytes (t.Wstat fid stat) fits in_range bytes_are = bytes_append (to_le_bytes w32 fid) (counted w16 stat)
    (bytes_32 fid) (stat_bytes stat bytes_are)

-- and so is the data in it
pub t_data_bytes : (body : TBody) → AreBytes (wire.fields_t body) → HasBytes_t body
t_data_bytes (t.Version msize version) h = tt
t_data_bytes (t.Auth afid uname aname) h = tt
t_data_bytes (t.Flush oldtag) h = tt
t_data_bytes (t.Attach fid afid uname aname) h = tt
t_data_bytes (t.Walk fid newfid names) h = tt
t_data_bytes (t.Open fid mode) h = tt
t_data_bytes (t.Create fid name perm mode) h = tt
t_data_bytes (t.Read fid offset count) h = tt
t_data_bytes (t.Write fid offset bytes) h = bytes_behind (to_le_bytes w32 (length bytes)) bytes
    (bytes_behind (to_le_bytes w64 offset) (counted w32 bytes) (bytes_behind (to_le_bytes w32 fid)
    (to_le_bytes w64 offset ++ counted w32 bytes) h))
t_data_bytes (t.Clunk fid) h = tt
t_data_bytes (t.Remove fid) h = tt
t_data_bytes (t.Stat fid) h = tt
t_data_bytes (t.Wstat fid stat) h = bytes_behind (to_le_bytes w16 (length stat)) stat
    (bytes_behind (to_le_bytes w32 fid) (counted w16 stat) h)
