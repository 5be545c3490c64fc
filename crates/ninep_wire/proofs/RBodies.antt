-- Bodies of messages from the server: what is read is spelled so, and what is spelled so is read.
use Rattle.std.proofs.Common.{◌≡◌, ℕ, ◌^◌, List, [], ◌++◌, Ok, refl, ap, subst, ◌∙◌, append_assoc}
use Rattle.std.specs.Int.{w16, w32, to_le_bytes}
use Rattle.ninep_types.specs.declared.message.Qid.{Qid}
use Rattle.ninep_types.specs.declared.message.RBody.{RBody}
use Rattle.ninep_types.specs.declared.message.RBody.TheVariants as r
use Rattle.ninep_types.specs.Fields.{◌>>=◌, number_at, string_at, counted_at, qid_at, listed_at, string, qid_bytes}
use Rattle.ninep_types.specs.Reading.{r_readers, r_body_at, r_version_at, r_auth_at, r_error_at, r_flush_at}
use Rattle.ninep_types.specs.Reading.{r_attach_at, r_walk_at, r_open_at, r_create_at, r_read_at, r_write_at, r_clunk_at}
use Rattle.ninep_types.specs.Reading.{r_remove_at, r_stat_at, r_wstat_at}
use Rattle.ninep_types.specs.Spelling.{kind_r, fields_r, BodyFits_r, BodyInRange_r}
use Rattle.ninep_wire.proofs.FieldLaws.{IsBytes, bind_ok, done, ok_is, Takes, Takes-then, wide16, wide32, number_takes}
use Rattle.ninep_wire.proofs.FieldLaws.{number_again, string_takes, string_again, counted_takes, counted_again}
use Rattle.ninep_wire.proofs.FieldLaws.{qid_takes, qid_again, qids_takes, qids_again}
use Rattle.ninep_wire.proofs.Heads.{read_by_takes}

-- what was read of a body is spelled so, and fits
pub record TakesBody (kind : ℕ) (bytes : List ℕ) (body : RBody) (rest : List ℕ) : Type 0 where
  pub kind_is : kind ≡ kind_r body
  pub takes : Takes bytes (fields_r body) rest
  pub fits : BodyFits_r body
  pub in_range : BodyInRange_r body

-- a message without fields
takes_nothing : (made : RBody) (input : List ℕ) (x : RBody × List ℕ) → fields_r made ≡ [] → BodyFits_r made
    → BodyInRange_r made → IsBytes input → done (made, input) ≡ done x → TakesBody (kind_r made) input x.0 x.1
takes_nothing made input x nothing fits in_range bytes e =
    let whole : RBody × List ℕ = (made, input) in
    subst (λ (y : RBody × List ℕ). TakesBody (kind_r made) input y.0 y.1) (ok_is whole x e)
    (record {
      kind_is = refl;
      takes = record { parts = rw nothing refl; rest_fits = bytes };
      fits = fits;
      in_range =
          in_range;
    })

r_version_takes : (input : List ℕ) (x : RBody × List ℕ) → IsBytes input → r_version_at input ≡ Ok x
    → TakesBody 101 input x.0 x.1
unfolding r_version_at
r_version_takes input x fits e =
    let b0 = bind_ok (number_at w32 input) (λ msize. string_at msize.1 >>=
    λ version. Ok (r.Version msize.0 version.0, version.1)) x e in
    let b1 = bind_ok (string_at b0.0.1) (λ version. Ok (r.Version b0.0.0 version.0, version.1)) x b0.2 in
    let t0 = number_takes w32 (2 ^ 32) wide32 input b0.0.0 b0.0.1 fits b0.1 in
    let t1 = string_takes b0.0.1 b1.0.0 b1.0.1 t0.0.rest_fits b1.1 in
    let j0 = Takes-then input (to_le_bytes w32 b0.0.0) b0.0.1 (string b1.0.0) b1.0.1 t0.0 t1.0 in
    let made : RBody × List ℕ = (r.Version b0.0.0 b1.0.0, b1.0.1) in
    subst (λ (y : RBody × List ℕ). TakesBody 101 input y.0 y.1) (ok_is made x b1.2)
    (record { kind_is = refl; takes = j0; fits = t1.1; in_range = t0.1 })

r_auth_takes : (input : List ℕ) (x : RBody × List ℕ) → IsBytes input → r_auth_at input ≡ Ok x
    → TakesBody 103 input x.0 x.1
unfolding r_auth_at
r_auth_takes input x fits e =
    let b0 = bind_ok (qid_at input) (λ aqid. Ok (r.Auth aqid.0, aqid.1)) x e in
    let t0 = qid_takes input b0.0.0 b0.0.1 fits b0.1 in
    let made : RBody × List ℕ = (r.Auth b0.0.0, b0.0.1) in
    subst (λ (y : RBody × List ℕ). TakesBody 103 input y.0 y.1) (ok_is made x b0.2)
    (record { kind_is = refl; takes = t0.0; fits = tt; in_range = t0.1 })

r_error_takes : (input : List ℕ) (x : RBody × List ℕ) → IsBytes input → r_error_at input ≡ Ok x
    → TakesBody 107 input x.0 x.1
unfolding r_error_at
r_error_takes input x fits e =
    let b0 = bind_ok (string_at input) (λ ename. Ok (r.Error ename.0, ename.1)) x e in
    let t0 = string_takes input b0.0.0 b0.0.1 fits b0.1 in
    let made : RBody × List ℕ = (r.Error b0.0.0, b0.0.1) in
    subst (λ (y : RBody × List ℕ). TakesBody 107 input y.0 y.1) (ok_is made x b0.2)
    (record { kind_is = refl; takes = t0.0; fits = t0.1; in_range = tt })

r_flush_takes : (input : List ℕ) (x : RBody × List ℕ) → IsBytes input → r_flush_at input ≡ Ok x
    → TakesBody 109 input x.0 x.1
r_flush_takes input x fits e = takes_nothing r.Flush input x refl tt tt fits e

r_attach_takes : (input : List ℕ) (x : RBody × List ℕ) → IsBytes input → r_attach_at input ≡ Ok x
    → TakesBody 105 input x.0 x.1
unfolding r_attach_at
r_attach_takes input x fits e =
    let b0 = bind_ok (qid_at input) (λ qid. Ok (r.Attach qid.0, qid.1)) x e in
    let t0 = qid_takes input b0.0.0 b0.0.1 fits b0.1 in
    let made : RBody × List ℕ = (r.Attach b0.0.0, b0.0.1) in
    subst (λ (y : RBody × List ℕ). TakesBody 105 input y.0 y.1) (ok_is made x b0.2)
    (record { kind_is = refl; takes = t0.0; fits = tt; in_range = t0.1 })

r_walk_takes : (input : List ℕ) (x : RBody × List ℕ) → IsBytes input → r_walk_at input ≡ Ok x
    → TakesBody 111 input x.0 x.1
unfolding r_walk_at
r_walk_takes input x fits e =
    let b0 = bind_ok (listed_at qid_at input) (λ qids. Ok (r.Walk qids.0, qids.1)) x e in
    let t0 = qids_takes input b0.0.0 b0.0.1 fits b0.1 in
    let made : RBody × List ℕ = (r.Walk b0.0.0, b0.0.1) in
    subst (λ (y : RBody × List ℕ). TakesBody 111 input y.0 y.1) (ok_is made x b0.2)
    (record { kind_is = refl; takes = t0.0; fits = t0.1; in_range = t0.2 })

r_open_takes : (input : List ℕ) (x : RBody × List ℕ) → IsBytes input → r_open_at input ≡ Ok x
    → TakesBody 113 input x.0 x.1
unfolding r_open_at
r_open_takes input x fits e =
    let b0 = bind_ok (qid_at input) (λ qid. number_at w32 qid.1 >>= λ iounit. Ok (r.Open qid.0 iounit.0, iounit.1)) x
    e in
    let b1 = bind_ok (number_at w32 b0.0.1) (λ iounit. Ok (r.Open b0.0.0 iounit.0, iounit.1)) x b0.2 in
    let t0 = qid_takes input b0.0.0 b0.0.1 fits b0.1 in
    let t1 = number_takes w32 (2 ^ 32) wide32 b0.0.1 b1.0.0 b1.0.1 t0.0.rest_fits b1.1 in
    let j0 = Takes-then input (qid_bytes b0.0.0) b0.0.1 (to_le_bytes w32 b1.0.0) b1.0.1 t0.0 t1.0 in
    let made : RBody × List ℕ = (r.Open b0.0.0 b1.0.0, b1.0.1) in
    subst (λ (y : RBody × List ℕ). TakesBody 113 input y.0 y.1) (ok_is made x b1.2)
    (record { kind_is = refl; takes = j0; fits = tt; in_range = (t0.1, t1.1) })

r_create_takes : (input : List ℕ) (x : RBody × List ℕ) → IsBytes input → r_create_at input ≡ Ok x
    → TakesBody 115 input x.0 x.1
unfolding r_create_at
r_create_takes input x fits e =
    let b0 = bind_ok (qid_at input) (λ qid. number_at w32 qid.1 >>= λ iounit. Ok (r.Create qid.0 iounit.0, iounit.1)) x
    e in
    let b1 = bind_ok (number_at w32 b0.0.1) (λ iounit. Ok (r.Create b0.0.0 iounit.0, iounit.1)) x b0.2 in
    let t0 = qid_takes input b0.0.0 b0.0.1 fits b0.1 in
    let t1 = number_takes w32 (2 ^ 32) wide32 b0.0.1 b1.0.0 b1.0.1 t0.0.rest_fits b1.1 in
    let j0 = Takes-then input (qid_bytes b0.0.0) b0.0.1 (to_le_bytes w32 b1.0.0) b1.0.1 t0.0 t1.0 in
    let made : RBody × List ℕ = (r.Create b0.0.0 b1.0.0, b1.0.1) in
    subst (λ (y : RBody × List ℕ). TakesBody 115 input y.0 y.1) (ok_is made x b1.2)
    (record { kind_is = refl; takes = j0; fits = tt; in_range = (t0.1, t1.1) })

r_read_takes : (input : List ℕ) (x : RBody × List ℕ) → IsBytes input → r_read_at input ≡ Ok x
    → TakesBody 117 input x.0 x.1
unfolding r_read_at
r_read_takes input x fits e =
    let b0 = bind_ok (counted_at w32 input) (λ bytes. Ok (r.Read bytes.0, bytes.1)) x e in
    let t0 = counted_takes w32 (2 ^ 32) wide32 input b0.0.0 b0.0.1 fits b0.1 in
    let made : RBody × List ℕ = (r.Read b0.0.0, b0.0.1) in
    subst (λ (y : RBody × List ℕ). TakesBody 117 input y.0 y.1) (ok_is made x b0.2)
    (record { kind_is = refl; takes = t0.0; fits = t0.1; in_range = tt })

r_write_takes : (input : List ℕ) (x : RBody × List ℕ) → IsBytes input → r_write_at input ≡ Ok x
    → TakesBody 119 input x.0 x.1
unfolding r_write_at
r_write_takes input x fits e =
    let b0 = bind_ok (number_at w32 input) (λ count. Ok (r.Write count.0, count.1)) x e in
    let t0 = number_takes w32 (2 ^ 32) wide32 input b0.0.0 b0.0.1 fits b0.1 in
    let made : RBody × List ℕ = (r.Write b0.0.0, b0.0.1) in
    subst (λ (y : RBody × List ℕ). TakesBody 119 input y.0 y.1) (ok_is made x b0.2)
    (record { kind_is = refl; takes = t0.0; fits = tt; in_range = t0.1 })

r_clunk_takes : (input : List ℕ) (x : RBody × List ℕ) → IsBytes input → r_clunk_at input ≡ Ok x
    → TakesBody 121 input x.0 x.1
r_clunk_takes input x fits e = takes_nothing r.Clunk input x refl tt tt fits e

r_remove_takes : (input : List ℕ) (x : RBody × List ℕ) → IsBytes input → r_remove_at input ≡ Ok x
    → TakesBody 123 input x.0 x.1
r_remove_takes input x fits e = takes_nothing r.Remove input x refl tt tt fits e

r_stat_takes : (input : List ℕ) (x : RBody × List ℕ) → IsBytes input → r_stat_at input ≡ Ok x
    → TakesBody 125 input x.0 x.1
unfolding r_stat_at
r_stat_takes input x fits e =
    let b0 = bind_ok (counted_at w16 input) (λ stat. Ok (r.Stat stat.0, stat.1)) x e in
    let t0 = counted_takes w16 (2 ^ 16) wide16 input b0.0.0 b0.0.1 fits b0.1 in
    let made : RBody × List ℕ = (r.Stat b0.0.0, b0.0.1) in
    subst (λ (y : RBody × List ℕ). TakesBody 125 input y.0 y.1) (ok_is made x b0.2)
    (record { kind_is = refl; takes = t0.0; fits = t0.1; in_range = tt })

r_wstat_takes : (input : List ℕ) (x : RBody × List ℕ) → IsBytes input → r_wstat_at input ≡ Ok x
    → TakesBody 127 input x.0 x.1
r_wstat_takes input x fits e = takes_nothing r.Wstat input x refl tt tt fits e

r_version_again : (msize : ℕ) (version : List ℕ) (rest : List ℕ) → BodyFits_r (r.Version msize version)
    → BodyInRange_r (r.Version msize version) → r_version_at (fields_r (r.Version msize version) ++ rest)
    ≡ Ok (r.Version msize version, rest)
unfolding r_version_at
r_version_again msize version rest fits in_range =
    ap r_version_at (append_assoc (to_le_bytes w32 msize) (string version) rest)
    ∙ rw (number_again w32 (2 ^ 32) wide32 msize (string version ++ rest) in_range, string_again version rest fits)
    refl

r_auth_again : (aqid : Qid) (rest : List ℕ) → BodyFits_r (r.Auth aqid) → BodyInRange_r (r.Auth aqid)
    → r_auth_at (fields_r (r.Auth aqid) ++ rest) ≡ Ok (r.Auth aqid, rest)
unfolding r_auth_at
r_auth_again aqid rest fits in_range =
    rw (qid_again aqid rest in_range) refl

r_error_again : (ename : List ℕ) (rest : List ℕ) → BodyFits_r (r.Error ename) → BodyInRange_r (r.Error ename)
    → r_error_at (fields_r (r.Error ename) ++ rest) ≡ Ok (r.Error ename, rest)
unfolding r_error_at
r_error_again ename rest fits in_range =
    rw (string_again ename rest fits) refl

r_attach_again : (qid : Qid) (rest : List ℕ) → BodyFits_r (r.Attach qid) → BodyInRange_r (r.Attach qid)
    → r_attach_at (fields_r (r.Attach qid) ++ rest) ≡ Ok (r.Attach qid, rest)
unfolding r_attach_at
r_attach_again qid rest fits in_range =
    rw (qid_again qid rest in_range) refl

r_walk_again : (qids : List Qid) (rest : List ℕ) → BodyFits_r (r.Walk qids) → BodyInRange_r (r.Walk qids)
    → r_walk_at (fields_r (r.Walk qids) ++ rest) ≡ Ok (r.Walk qids, rest)
unfolding r_walk_at
r_walk_again qids rest fits in_range =
    rw (qids_again qids rest fits in_range) refl

r_open_again : (qid : Qid) (iounit : ℕ) (rest : List ℕ) → BodyFits_r (r.Open qid iounit)
    → BodyInRange_r (r.Open qid iounit) → r_open_at (fields_r (r.Open qid iounit) ++ rest)
    ≡ Ok (r.Open qid iounit, rest)
unfolding r_open_at
r_open_again qid iounit rest fits in_range =
    ap r_open_at (append_assoc (qid_bytes qid) (to_le_bytes w32 iounit) rest)
    ∙ rw (
      qid_again qid (to_le_bytes w32 iounit ++ rest) in_range.0,
      number_again w32 (2 ^ 32) wide32 iounit rest in_range.1,
    ) refl

r_create_again : (qid : Qid) (iounit : ℕ) (rest : List ℕ) → BodyFits_r (r.Create qid iounit)
    → BodyInRange_r (r.Create qid iounit) → r_create_at (fields_r (r.Create qid iounit) ++ rest)
    ≡ Ok (r.Create qid iounit, rest)
unfolding r_create_at
r_create_again qid iounit rest fits in_range =
    ap r_create_at (append_assoc (qid_bytes qid) (to_le_bytes w32 iounit) rest)
    ∙ rw (
      qid_again qid (to_le_bytes w32 iounit ++ rest) in_range.0,
      number_again w32 (2 ^ 32) wide32 iounit rest in_range.1,
    ) refl

r_read_again : (bytes : List ℕ) (rest : List ℕ) → BodyFits_r (r.Read bytes) → BodyInRange_r (r.Read bytes)
    → r_read_at (fields_r (r.Read bytes) ++ rest) ≡ Ok (r.Read bytes, rest)
unfolding r_read_at
r_read_again bytes rest fits in_range =
    rw (counted_again w32 (2 ^ 32) wide32 bytes rest fits) refl

r_write_again : (count : ℕ) (rest : List ℕ) → BodyFits_r (r.Write count) → BodyInRange_r (r.Write count)
    → r_write_at (fields_r (r.Write count) ++ rest) ≡ Ok (r.Write count, rest)
unfolding r_write_at
r_write_again count rest fits in_range =
    rw (number_again w32 (2 ^ 32) wide32 count rest in_range) refl

r_stat_again : (stat : List ℕ) (rest : List ℕ) → BodyFits_r (r.Stat stat) → BodyInRange_r (r.Stat stat)
    → r_stat_at (fields_r (r.Stat stat) ++ rest) ≡ Ok (r.Stat stat, rest)
unfolding r_stat_at
r_stat_again stat rest fits in_range =
    rw (counted_again w16 (2 ^ 16) wide16 stat rest fits) refl

pub r_body_takes : (kind : ℕ) (bytes : List ℕ) (x : RBody × List ℕ) → IsBytes bytes → r_body_at kind bytes ≡ Ok x
    → TakesBody kind bytes x.0 x.1
unfolding r_body_at
r_body_takes kind bytes x fits e = read_by_takes TakesBody r_readers (
  r_version_takes,
  (
    r_auth_takes,
    (
      r_attach_takes,
      (
        r_error_takes,
        (
          r_flush_takes,
          (
            r_walk_takes,
            (
              r_open_takes,
              (
                r_create_takes,
                (r_read_takes, (r_write_takes, (r_clunk_takes, (r_remove_takes, (r_stat_takes, (r_wstat_takes, tt)))))),
              ),
            ),
          ),
        ),
      ),
    ),
  ),
) kind
    bytes x fits e

pub r_body_again : (body : RBody) (rest : List ℕ) → BodyFits_r body → BodyInRange_r body
    → r_body_at (kind_r body) (fields_r body ++ rest) ≡ Ok (body, rest)
unfolding r_body_at
r_body_again (r.Version msize version) rest fits in_range = r_version_again msize version rest fits in_range
r_body_again (r.Auth aqid) rest fits in_range = r_auth_again aqid rest fits in_range
r_body_again (r.Error ename) rest fits in_range = r_error_again ename rest fits in_range
r_body_again r.Flush rest fits in_range = refl
r_body_again (r.Attach qid) rest fits in_range = r_attach_again qid rest fits in_range
r_body_again (r.Walk qids) rest fits in_range = r_walk_again qids rest fits in_range
r_body_again (r.Open qid iounit) rest fits in_range = r_open_again qid iounit rest fits in_range
r_body_again (r.Create qid iounit) rest fits in_range = r_create_again qid iounit rest fits in_range
r_body_again (r.Read bytes) rest fits in_range = r_read_again bytes rest fits in_range
r_body_again (r.Write count) rest fits in_range = r_write_again count rest fits in_range
r_body_again r.Clunk rest fits in_range = refl
r_body_again r.Remove rest fits in_range = refl
r_body_again (r.Stat stat) rest fits in_range = r_stat_again stat rest fits in_range
r_body_again r.Wstat rest fits in_range = refl
