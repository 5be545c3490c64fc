-- Bodies of messages from the server: what is read is spelled so, and what is spelled so is read.
use Rattle.std.proofs.Common.{◌≡◌, ℕ, ◌^◌, ◌<◌, ◌≤◌, List, [], ◌∷◌, ◌++◌, length, codes, Some, refl, subst, arith}
use Rattle.std.specs.Int.{w16, w32, to_le_bytes}
use Rattle.ninep_types.specs.declared.message.Qid.{Qid}
use Rattle.ninep_types.specs.declared.message.RBody.{RBody}
use Rattle.ninep_types.specs.declared.message.RBody.TheVariants as r
use Rattle.ninep_types.specs.Fields.{string, qid_bytes}
use Rattle.ninep_types.specs.Spelling as wire
use Rattle.ninep_types.specs.Spelling.{size_r, BodyFits_r, BodyInRange_r}
use Rattle.am_journal.specs.Lawful.{AreBytes}
use Rattle.am_text.specs.Lines.{first_field, after_field}
use Rattle.ninep_trace.specs.Fields.{◌>>=◌, number, number_at, text, text_at, bytes_in_hex_at, qid_at, qid_field}
use Rattle.ninep_trace.specs.Fields.{qid_field_at, listed_at}
use Rattle.ninep_trace.specs.Reading.{r_readers, r_body_at, r_version_at, r_auth_at, r_error_at, r_flush_at}
use Rattle.ninep_trace.specs.Reading.{r_attach_at, r_walk_at, r_open_at, r_create_at, r_read_at, r_write_at, r_clunk_at}
use Rattle.ninep_trace.specs.Reading.{r_remove_at, r_stat_at, r_wstat_at}
use Rattle.ninep_trace.specs.Words.{name_r, fields_r}
use Rattle.ninep_trace.proofs.ByteLists.{no_bytes, bytes_append, bytes_behind, bytes_32, string_bytes, data_bytes}
use Rattle.ninep_trace.proofs.ByteLists.{stat_bytes, qid_are, qids_are}
use Rattle.ninep_trace.proofs.FieldLaws.{some_is, bind_some, Takes, takes_then, stops_end, number_takes, number_again}
use Rattle.ninep_trace.proofs.FieldLaws.{number_last, number_stops, text_takes, text_last, text_stops}
use Rattle.ninep_trace.proofs.FieldLaws.{bytes_in_hex_takes, bytes_in_hex_last}
use Rattle.ninep_trace.proofs.ListLaws.{qid_field_takes, qid_field_again, qid_field_last, qids_takes, qids_last}
use Rattle.ninep_trace.proofs.Readers.{read_by_takes}

-- the data is of bytes
abbrev pub HasBytes_r : RBody → Type 0
HasBytes_r (r.Version msize version) = Unit {0}
HasBytes_r (r.Auth aqid) = Unit {0}
HasBytes_r (r.Error ename) = Unit {0}
HasBytes_r r.Flush = Unit {0}
HasBytes_r (r.Attach qid) = Unit {0}
HasBytes_r (r.Walk qids) = Unit {0}
HasBytes_r (r.Open qid iounit) = Unit {0}
HasBytes_r (r.Create qid iounit) = Unit {0}
HasBytes_r (r.Read bytes) = AreBytes bytes
HasBytes_r (r.Write count) = Unit {0}
HasBytes_r r.Clunk = Unit {0}
HasBytes_r r.Remove = Unit {0}
HasBytes_r (r.Stat stat) = AreBytes stat
HasBytes_r r.Wstat = Unit {0}

-- what was read of a body is spelled so, and fits
pub record TakesBody (name bytes : List ℕ) (body : RBody) (rest : List ℕ) : Type 0 where
  pub name_is : name ≡ name_r body
  pub takes : Takes bytes (fields_r body) rest
  pub fits : BodyFits_r body
  pub in_range : BodyInRange_r body
  pub short : size_r body < 2 ^ 32
  pub bytes_are : HasBytes_r body

r_version_takes : (input : List ℕ) (x : RBody × List ℕ) → r_version_at input ≡ Some x
    → TakesBody (codes "Rversion") input x.0 x.1
unfolding r_version_at
r_version_takes input x e =
    let b0 = bind_some (number_at (codes " msize=") (2 ^ 32) input)
    (λ msize. text_at (codes " version=") msize.1 >>= λ version. Some (r.Version msize.0 version.0, version.1)) x
    e in
    let b1 = bind_some (text_at (codes " version=") b0.0.1) (λ version. Some (r.Version b0.0.0 version.0, version.1)) x
    b0.2 in
    let t0 = number_takes (codes " msize=") (2 ^ 32) input b0.0.0 b0.0.1 b0.1 in
    let t1 = text_takes (codes " version=") b0.0.1 b1.0.0 b1.0.1 b1.1 in
    let j0 = takes_then input (number (codes " msize=") b0.0.0) b0.0.1 (text (codes " version=") b1.0.0) b1.0.1 t0.0
    t1.0 in
    let made : RBody × List ℕ = (r.Version b0.0.0 b1.0.0, b1.0.1) in
    subst (λ (y : RBody × List ℕ). TakesBody (codes "Rversion") input y.0 y.1) (some_is made x b1.2)
    (record {
      name_is = refl;
      takes = j0;
      fits = t1.1;
      in_range = t0.1;
      short = omega (arith, t1.1.len);
      bytes_are =
          tt;
    })

r_auth_takes : (input : List ℕ) (x : RBody × List ℕ) → r_auth_at input ≡ Some x
    → TakesBody (codes "Rauth") input x.0 x.1
unfolding r_auth_at
r_auth_takes input x e =
    let b0 = bind_some (qid_field_at (codes " aqid=") input) (λ aqid. Some (r.Auth aqid.0, aqid.1)) x e in
    let t0 = qid_field_takes (codes " aqid=") input b0.0.0 b0.0.1 b0.1 in
    let made : RBody × List ℕ = (r.Auth b0.0.0, b0.0.1) in
    subst (λ (y : RBody × List ℕ). TakesBody (codes "Rauth") input y.0 y.1) (some_is made x b0.2)
    (record { name_is = refl; takes = t0.0; fits = tt; in_range = t0.1; short = omega arith; bytes_are = tt })

r_error_takes : (input : List ℕ) (x : RBody × List ℕ) → r_error_at input ≡ Some x
    → TakesBody (codes "Rerror") input x.0 x.1
unfolding r_error_at
r_error_takes input x e =
    let b0 = bind_some (text_at (codes " ename=") input) (λ ename. Some (r.Error ename.0, ename.1)) x e in
    let t0 = text_takes (codes " ename=") input b0.0.0 b0.0.1 b0.1 in
    let made : RBody × List ℕ = (r.Error b0.0.0, b0.0.1) in
    subst (λ (y : RBody × List ℕ). TakesBody (codes "Rerror") input y.0 y.1) (some_is made x b0.2)
    (record {
      name_is = refl;
      takes = t0.0;
      fits = t0.1;
      in_range = tt;
      short = omega (arith, t0.1.len);
      bytes_are =
          tt;
    })

r_flush_takes : (input : List ℕ) (x : RBody × List ℕ) → r_flush_at input ≡ Some x
    → TakesBody (codes "Rflush") input x.0 x.1
r_flush_takes input x e =
    let made : RBody × List ℕ = (r.Flush, input) in
    subst (λ (y : RBody × List ℕ). TakesBody (codes "Rflush") input y.0 y.1) (some_is made x e)
    (record { name_is = refl; takes = refl; fits = tt; in_range = tt; short = omega arith; bytes_are = tt })

r_attach_takes : (input : List ℕ) (x : RBody × List ℕ) → r_attach_at input ≡ Some x
    → TakesBody (codes "Rattach") input x.0 x.1
unfolding r_attach_at
r_attach_takes input x e =
    let b0 = bind_some (qid_field_at (codes " qid=") input) (λ qid. Some (r.Attach qid.0, qid.1)) x e in
    let t0 = qid_field_takes (codes " qid=") input b0.0.0 b0.0.1 b0.1 in
    let made : RBody × List ℕ = (r.Attach b0.0.0, b0.0.1) in
    subst (λ (y : RBody × List ℕ). TakesBody (codes "Rattach") input y.0 y.1) (some_is made x b0.2)
    (record { name_is = refl; takes = t0.0; fits = tt; in_range = t0.1; short = omega arith; bytes_are = tt })

r_walk_takes : (input : List ℕ) (x : RBody × List ℕ) → r_walk_at input ≡ Some x
    → TakesBody (codes "Rwalk") input x.0 x.1
unfolding r_walk_at
r_walk_takes input x e =
    let b0 = bind_some (listed_at (codes " qids=") qid_at input) (λ qids. Some (r.Walk qids.0, qids.1)) x e in
    let t0 = qids_takes (codes " qids=") input b0.0.0 b0.0.1 b0.1 in
    let made : RBody × List ℕ = (r.Walk b0.0.0, b0.0.1) in
    subst (λ (y : RBody × List ℕ). TakesBody (codes "Rwalk") input y.0 y.1) (some_is made x b0.2)
    (record { name_is = refl; takes = t0.0; fits = t0.1; in_range = t0.2; short = omega (arith, t0.1); bytes_are = tt })

r_open_takes : (input : List ℕ) (x : RBody × List ℕ) → r_open_at input ≡ Some x
    → TakesBody (codes "Ropen") input x.0 x.1
unfolding r_open_at
r_open_takes input x e =
    let b0 = bind_some (qid_field_at (codes " qid=") input) (λ qid. number_at (codes " iounit=") (2 ^ 32) qid.1 >>=
    λ iounit. Some (r.Open qid.0 iounit.0, iounit.1)) x e in
    let b1 = bind_some (number_at (codes " iounit=") (2 ^ 32) b0.0.1)
    (λ iounit. Some (r.Open b0.0.0 iounit.0, iounit.1)) x b0.2 in
    let t0 = qid_field_takes (codes " qid=") input b0.0.0 b0.0.1 b0.1 in
    let t1 = number_takes (codes " iounit=") (2 ^ 32) b0.0.1 b1.0.0 b1.0.1 b1.1 in
    let j0 = takes_then input (qid_field (codes " qid=") b0.0.0) b0.0.1 (number (codes " iounit=") b1.0.0) b1.0.1 t0.0
    t1.0 in
    let made : RBody × List ℕ = (r.Open b0.0.0 b1.0.0, b1.0.1) in
    subst (λ (y : RBody × List ℕ). TakesBody (codes "Ropen") input y.0 y.1) (some_is made x b1.2)
    (record { name_is = refl; takes = j0; fits = tt; in_range = (t0.1, t1.1); short = omega arith; bytes_are = tt })

r_create_takes : (input : List ℕ) (x : RBody × List ℕ) → r_create_at input ≡ Some x
    → TakesBody (codes "Rcreate") input x.0 x.1
unfolding r_create_at
r_create_takes input x e =
    let b0 = bind_some (qid_field_at (codes " qid=") input) (λ qid. number_at (codes " iounit=") (2 ^ 32) qid.1 >>=
    λ iounit. Some (r.Create qid.0 iounit.0, iounit.1)) x e in
    let b1 = bind_some (number_at (codes " iounit=") (2 ^ 32) b0.0.1)
    (λ iounit. Some (r.Create b0.0.0 iounit.0, iounit.1)) x b0.2 in
    let t0 = qid_field_takes (codes " qid=") input b0.0.0 b0.0.1 b0.1 in
    let t1 = number_takes (codes " iounit=") (2 ^ 32) b0.0.1 b1.0.0 b1.0.1 b1.1 in
    let j0 = takes_then input (qid_field (codes " qid=") b0.0.0) b0.0.1 (number (codes " iounit=") b1.0.0) b1.0.1 t0.0
    t1.0 in
    let made : RBody × List ℕ = (r.Create b0.0.0 b1.0.0, b1.0.1) in
    subst (λ (y : RBody × List ℕ). TakesBody (codes "Rcreate") input y.0 y.1) (some_is made x b1.2)
    (record { name_is = refl; takes = j0; fits = tt; in_range = (t0.1, t1.1); short = omega arith; bytes_are = tt })

r_read_takes : (input : List ℕ) (x : RBody × List ℕ) → r_read_at input ≡ Some x
    → TakesBody (codes "Rread") input x.0 x.1
unfolding r_read_at
r_read_takes input x e =
    let b0 = bind_some (bytes_in_hex_at (codes " data=") 65561 input) (λ bytes. Some (r.Read bytes.0, bytes.1)) x e in
    let t0 = bytes_in_hex_takes (codes " data=") 65561 input b0.0.0 b0.0.1 b0.1 in
    let made : RBody × List ℕ = (r.Read b0.0.0, b0.0.1) in
    subst (λ (y : RBody × List ℕ). TakesBody (codes "Rread") input y.0 y.1) (some_is made x b0.2)
    (record {
      name_is = refl;
      takes = t0.takes;
      fits = omega (arith, t0.few);
      in_range = tt;
      short =
          omega (arith, t0.few);
      bytes_are = t0.bytes_are;
    })

r_write_takes : (input : List ℕ) (x : RBody × List ℕ) → r_write_at input ≡ Some x
    → TakesBody (codes "Rwrite") input x.0 x.1
unfolding r_write_at
r_write_takes input x e =
    let b0 = bind_some (number_at (codes " count=") (2 ^ 32) input) (λ count. Some (r.Write count.0, count.1)) x e in
    let t0 = number_takes (codes " count=") (2 ^ 32) input b0.0.0 b0.0.1 b0.1 in
    let made : RBody × List ℕ = (r.Write b0.0.0, b0.0.1) in
    subst (λ (y : RBody × List ℕ). TakesBody (codes "Rwrite") input y.0 y.1) (some_is made x b0.2)
    (record { name_is = refl; takes = t0.0; fits = tt; in_range = t0.1; short = omega arith; bytes_are = tt })

r_clunk_takes : (input : List ℕ) (x : RBody × List ℕ) → r_clunk_at input ≡ Some x
    → TakesBody (codes "Rclunk") input x.0 x.1
r_clunk_takes input x e =
    let made : RBody × List ℕ = (r.Clunk, input) in
    subst (λ (y : RBody × List ℕ). TakesBody (codes "Rclunk") input y.0 y.1) (some_is made x e)
    (record { name_is = refl; takes = refl; fits = tt; in_range = tt; short = omega arith; bytes_are = tt })

r_remove_takes : (input : List ℕ) (x : RBody × List ℕ) → r_remove_at input ≡ Some x
    → TakesBody (codes "Rremove") input x.0 x.1
r_remove_takes input x e =
    let made : RBody × List ℕ = (r.Remove, input) in
    subst (λ (y : RBody × List ℕ). TakesBody (codes "Rremove") input y.0 y.1) (some_is made x e)
    (record { name_is = refl; takes = refl; fits = tt; in_range = tt; short = omega arith; bytes_are = tt })

r_stat_takes : (input : List ℕ) (x : RBody × List ℕ) → r_stat_at input ≡ Some x
    → TakesBody (codes "Rstat") input x.0 x.1
unfolding r_stat_at
r_stat_takes input x e =
    let b0 = bind_some (bytes_in_hex_at (codes " stat=") (2 ^ 16) input) (λ stat. Some (r.Stat stat.0, stat.1)) x e in
    let t0 = bytes_in_hex_takes (codes " stat=") (2 ^ 16) input b0.0.0 b0.0.1 b0.1 in
    let made : RBody × List ℕ = (r.Stat b0.0.0, b0.0.1) in
    subst (λ (y : RBody × List ℕ). TakesBody (codes "Rstat") input y.0 y.1) (some_is made x b0.2)
    (record {
      name_is = refl;
      takes = t0.takes;
      fits = t0.few;
      in_range = tt;
      short = omega (arith, t0.few);
      bytes_are =
          t0.bytes_are;
    })

r_wstat_takes : (input : List ℕ) (x : RBody × List ℕ) → r_wstat_at input ≡ Some x
    → TakesBody (codes "Rwstat") input x.0 x.1
r_wstat_takes input x e =
    let made : RBody × List ℕ = (r.Wstat, input) in
    subst (λ (y : RBody × List ℕ). TakesBody (codes "Rwstat") input y.0 y.1) (some_is made x e)
    (record { name_is = refl; takes = refl; fits = tt; in_range = tt; short = omega arith; bytes_are = tt })

pub r_body_takes : (name bytes : List ℕ) (x : RBody × List ℕ) → r_body_at name bytes ≡ Some x
    → TakesBody name bytes x.0 x.1
unfolding r_body_at
r_body_takes name bytes x e = read_by_takes TakesBody r_readers (
  r_version_takes,
  (
    r_auth_takes,
    (
      r_error_takes,
      (
        r_flush_takes,
        (
          r_attach_takes,
          (
            r_walk_takes,
            (
              r_open_takes,
              (
                r_create_takes,
                (
                  r_read_takes,
                  (
                    r_write_takes,
                    (r_clunk_takes, (r_remove_takes, (r_stat_takes, (r_wstat_takes, tt)))),
                  ),
                ),
              ),
            ),
          ),
        ),
      ),
    ),
  ),
) name bytes x e

-- ---- what is spelled is read

r_version_again : (msize : ℕ) (version : List ℕ) → BodyFits_r (r.Version msize version)
    → BodyInRange_r (r.Version msize version) → size_r (r.Version msize version) ≤ 65560
    → HasBytes_r (r.Version msize version) → r_version_at (fields_r (r.Version msize version))
    ≡ Some (r.Version msize version, [])
unfolding r_version_at
r_version_again msize version fits in_range short bytes_are =
    rw (
      number_again (codes " msize=") (2 ^ 32) msize (text (codes " version=") version) in_range
          (omega (arith, in_range)) (stops_end (text (codes " version=") version)
          (text_stops (codes " version=") version refl)),
      text_last (codes " version=") version fits,
    ) refl

r_auth_again : (aqid : Qid) → BodyFits_r (r.Auth aqid) → BodyInRange_r (r.Auth aqid) → size_r (r.Auth aqid) ≤ 65560
    → HasBytes_r (r.Auth aqid) → r_auth_at (fields_r (r.Auth aqid)) ≡ Some (r.Auth aqid, [])
unfolding r_auth_at
r_auth_again aqid fits in_range short bytes_are =
    rw (qid_field_last (codes " aqid=") aqid in_range) refl

r_error_again : (ename : List ℕ) → BodyFits_r (r.Error ename) → BodyInRange_r (r.Error ename)
    → size_r (r.Error ename) ≤ 65560 → HasBytes_r (r.Error ename) →
    r_error_at (fields_r (r.Error ename)) ≡ Some (r.Error ename, [])
unfolding r_error_at
r_error_again ename fits in_range short bytes_are =
    rw (text_last (codes " ename=") ename fits) refl

r_attach_again : (qid : Qid) → BodyFits_r (r.Attach qid) → BodyInRange_r (r.Attach qid) → size_r (r.Attach qid) ≤ 65560
    → HasBytes_r (r.Attach qid) → r_attach_at (fields_r (r.Attach qid)) ≡ Some (r.Attach qid, [])
unfolding r_attach_at
r_attach_again qid fits in_range short bytes_are =
    rw (qid_field_last (codes " qid=") qid in_range) refl

r_walk_again : (qids : List Qid) → BodyFits_r (r.Walk qids) → BodyInRange_r (r.Walk qids) → size_r (r.Walk qids) ≤ 65560
    → HasBytes_r (r.Walk qids) → r_walk_at (fields_r (r.Walk qids)) ≡ Some (r.Walk qids, [])
unfolding r_walk_at
r_walk_again qids fits in_range short bytes_are =
    rw (qids_last (codes " qids=") qids fits in_range) refl

r_open_again : (qid : Qid) (iounit : ℕ) → BodyFits_r (r.Open qid iounit) → BodyInRange_r (r.Open qid iounit)
    → size_r (r.Open qid iounit) ≤ 65560 → HasBytes_r (r.Open qid iounit)
    → r_open_at (fields_r (r.Open qid iounit)) ≡ Some (r.Open qid iounit, [])
unfolding r_open_at
r_open_again qid iounit fits in_range short bytes_are =
    rw (
      qid_field_again (codes " qid=") qid (number (codes " iounit=") iounit) in_range.0
          (stops_end (number (codes " iounit=") iounit) (number_stops (codes " iounit=") iounit refl)),
      number_last (codes " iounit=") (2 ^ 32) iounit in_range.1 (omega (arith, in_range.1)),
    ) refl

r_create_again : (qid : Qid) (iounit : ℕ) → BodyFits_r (r.Create qid iounit) → BodyInRange_r (r.Create qid iounit)
    → size_r (r.Create qid iounit) ≤ 65560 → HasBytes_r (r.Create qid iounit)
    → r_create_at (fields_r (r.Create qid iounit)) ≡ Some (r.Create qid iounit, [])
unfolding r_create_at
r_create_again qid iounit fits in_range short bytes_are =
    rw (
      qid_field_again (codes " qid=") qid (number (codes " iounit=") iounit) in_range.0
          (stops_end (number (codes " iounit=") iounit) (number_stops (codes " iounit=") iounit refl)),
      number_last (codes " iounit=") (2 ^ 32) iounit in_range.1 (omega (arith, in_range.1)),
    ) refl

r_read_again : (bytes : List ℕ) → BodyFits_r (r.Read bytes) → BodyInRange_r (r.Read bytes)
    → size_r (r.Read bytes) ≤ 65560 → HasBytes_r (r.Read bytes) → r_read_at (fields_r (r.Read bytes))
    ≡ Some (r.Read bytes, [])
unfolding r_read_at
r_read_again bytes fits in_range short bytes_are =
    rw (bytes_in_hex_last (codes " data=") 65561 bytes (omega (arith, short)) bytes_are) refl

r_write_again : (count : ℕ) → BodyFits_r (r.Write count) → BodyInRange_r (r.Write count)
    → size_r (r.Write count) ≤ 65560 → HasBytes_r (r.Write count) →
    r_write_at (fields_r (r.Write count)) ≡ Some (r.Write count, [])
unfolding r_write_at
r_write_again count fits in_range short bytes_are =
    rw (number_last (codes " count=") (2 ^ 32) count in_range (omega (arith, in_range))) refl

r_stat_again : (stat : List ℕ) → BodyFits_r (r.Stat stat) → BodyInRange_r (r.Stat stat) → size_r (r.Stat stat) ≤ 65560
    → HasBytes_r (r.Stat stat) → r_stat_at (fields_r (r.Stat stat)) ≡ Some (r.Stat stat, [])
unfolding r_stat_at
r_stat_again stat fits in_range short bytes_are =
    rw (bytes_in_hex_last (codes " stat=") (2 ^ 16) stat fits bytes_are) refl

pub r_body_again : (body : RBody) → BodyFits_r body → BodyInRange_r body → size_r body ≤ 65560 → HasBytes_r body
    → r_body_at (name_r body) (fields_r body) ≡ Some (body, [])
unfolding r_body_at
r_body_again (r.Version msize version) fits in_range short bytes_are = r_version_again msize version fits in_range short
    bytes_are
r_body_again (r.Auth aqid) fits in_range short bytes_are = r_auth_again aqid fits in_range short bytes_are
r_body_again (r.Error ename) fits in_range short bytes_are = r_error_again ename fits in_range short bytes_are
r_body_again r.Flush fits in_range short bytes_are = refl
r_body_again (r.Attach qid) fits in_range short bytes_are = r_attach_again qid fits in_range short bytes_are
r_body_again (r.Walk qids) fits in_range short bytes_are = r_walk_again qids fits in_range short bytes_are
r_body_again (r.Open qid iounit) fits in_range short bytes_are = r_open_again qid iounit fits in_range short bytes_are
r_body_again (r.Create qid iounit) fits in_range short bytes_are = r_create_again qid iounit fits in_range short
    bytes_are
r_body_again (r.Read bytes) fits in_range short bytes_are = r_read_again bytes fits in_range short bytes_are
r_body_again (r.Write count) fits in_range short bytes_are = r_write_again count fits in_range short bytes_are
r_body_again r.Clunk fits in_range short bytes_are = refl
r_body_again r.Remove fits in_range short bytes_are = refl
r_body_again (r.Stat stat) fits in_range short bytes_are = r_stat_again stat fits in_range short bytes_are
r_body_again r.Wstat fits in_range short bytes_are = refl

-- the name is cut off at the blank
pub r_name_first : (body : RBody) (rest : List ℕ) → first_field (name_r body ++ 32 ∷ rest) ≡ name_r body
r_name_first (r.Version msize version) rest = refl
r_name_first (r.Auth aqid) rest = refl
r_name_first (r.Error ename) rest = refl
r_name_first r.Flush rest = refl
r_name_first (r.Attach qid) rest = refl
r_name_first (r.Walk qids) rest = refl
r_name_first (r.Open qid iounit) rest = refl
r_name_first (r.Create qid iounit) rest = refl
r_name_first (r.Read bytes) rest = refl
r_name_first (r.Write count) rest = refl
r_name_first r.Clunk rest = refl
r_name_first r.Remove rest = refl
r_name_first (r.Stat stat) rest = refl
r_name_first r.Wstat rest = refl

pub r_name_after : (body : RBody) (rest : List ℕ) → after_field (name_r body ++ 32 ∷ rest) ≡ rest
r_name_after (r.Version msize version) rest = refl
r_name_after (r.Auth aqid) rest = refl
r_name_after (r.Error ename) rest = refl
r_name_after r.Flush rest = refl
r_name_after (r.Attach qid) rest = refl
r_name_after (r.Walk qids) rest = refl
r_name_after (r.Open qid iounit) rest = refl
r_name_after (r.Create qid iounit) rest = refl
r_name_after (r.Read bytes) rest = refl
r_name_after (r.Write count) rest = refl
r_name_after r.Clunk rest = refl
r_name_after r.Remove rest = refl
r_name_after (r.Stat stat) rest = refl
r_name_after r.Wstat rest = refl

-- the spelling in bytes is one of bytes
pub r_fields_bytes : (body : RBody) → BodyFits_r body → BodyInRange_r body → HasBytes_r body
    → AreBytes (wire.fields_r body)
r_fields_bytes (r.Version msize version) fits in_range bytes_are = bytes_append (to_le_bytes w32 msize) (string version)
    (bytes_32 msize) (string_bytes version fits)
r_fields_bytes (r.Auth aqid) fits in_range bytes_are = qid_are aqid in_range
r_fields_bytes (r.Error ename) fits in_range bytes_are = string_bytes ename fits
r_fields_bytes r.Flush fits in_range bytes_are = no_bytes
r_fields_bytes (r.Attach qid) fits in_range bytes_are = qid_are qid in_range
r_fields_bytes (r.Walk qids) fits in_range bytes_are = qids_are qids in_range
r_fields_bytes (r.Open qid iounit) fits in_range bytes_are = bytes_append (qid_bytes qid) (to_le_bytes w32 iounit)
    (qid_are qid in_range.0) (bytes_32 iounit)
r_fields_bytes (r.Create qid iounit) fits in_range bytes_are = bytes_append (qid_bytes qid) (to_le_bytes w32 iounit)
    (qid_are qid in_range.0) (bytes_32 iounit)
r_fields_bytes (r.Read bytes) fits in_range bytes_are = data_bytes bytes bytes_are
r_fields_bytes (r.Write count) fits in_range bytes_are = bytes_32 count
r_fields_bytes r.Clunk fits in_range bytes_are = no_bytes
r_fields_bytes r.Remove fits in_range bytes_are = no_bytes
r_fields_bytes (r.Stat stat) fits in_range bytes_are = stat_bytes stat bytes_are
r_fields_bytes r.Wstat fits in_range bytes_are = no_bytes

-- and so is the data in it
pub r_data_bytes : (body : RBody) → AreBytes (wire.fields_r body) → HasBytes_r body
r_data_bytes (r.Version msize version) h = tt
r_data_bytes (r.Auth aqid) h = tt
r_data_bytes (r.Error ename) h = tt
r_data_bytes r.Flush h = tt
r_data_bytes (r.Attach qid) h = tt
r_data_bytes (r.Walk qids) h = tt
r_data_bytes (r.Open qid iounit) h = tt
r_data_bytes (r.Create qid iounit) h = tt
r_data_bytes (r.Read bytes) h = bytes_behind (to_le_bytes w32 (length bytes)) bytes h
r_data_bytes (r.Write count) h = tt
r_data_bytes r.Clunk h = tt
r_data_bytes r.Remove h = tt
r_data_bytes (r.Stat stat) h = bytes_behind (to_le_bytes w16 (length stat)) stat h
r_data_bytes r.Wstat h = tt
