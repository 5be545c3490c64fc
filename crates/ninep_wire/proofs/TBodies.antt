-- Bodies of messages to the server: what is read is spelled so, and what is spelled so is read.
use Rattle.std.proofs.Common.{◌≡◌, ℕ, ◌^◌, List, [], ◌∷◌, ◌++◌, Ok, refl, ap, subst, ◌∙◌, append_assoc}
use Rattle.std.specs.Int.{w16, w32, w64, to_le_bytes}
use Rattle.ninep_types.specs.declared.message.TBody.{TBody}
use Rattle.ninep_types.specs.declared.message.TBody.TheVariants as t
use Rattle.ninep_types.specs.Fields.{◌>>=◌, number_at, byte_at, string_at, counted_at, listed_at, string, counted}
use Rattle.ninep_types.specs.Fields.{listed}
use Rattle.ninep_types.specs.Reading.{t_readers, t_body_at, t_version_at, t_auth_at, t_flush_at, t_attach_at, t_walk_at}
use Rattle.ninep_types.specs.Reading.{t_open_at, t_create_at, t_read_at, t_write_at, t_clunk_at, t_remove_at, t_stat_at}
use Rattle.ninep_types.specs.Reading.{t_wstat_at}
use Rattle.ninep_types.specs.Spelling.{kind_t, fields_t, BodyFits_t, BodyInRange_t}
use Rattle.ninep_wire.proofs.FieldLaws.{IsBytes, bind_ok, ok_is, Takes, Takes-then, wide16, wide32, wide64}
use Rattle.ninep_wire.proofs.FieldLaws.{number_takes, number_again, byte_takes, string_takes, string_again}
use Rattle.ninep_wire.proofs.FieldLaws.{counted_takes, counted_again, names_takes, names_again}
use Rattle.ninep_wire.proofs.Heads.{read_by_takes}

-- what was read of a body is spelled so, and fits
pub record TakesBody (kind : ℕ) (bytes : List ℕ) (body : TBody) (rest : List ℕ) : Type 0 where
  pub kind_is : kind ≡ kind_t body
  pub takes : Takes bytes (fields_t body) rest
  pub fits : BodyFits_t body
  pub in_range : BodyInRange_t body

t_version_takes : (input : List ℕ) (x : TBody × List ℕ) → IsBytes input → t_version_at input ≡ Ok x
    → TakesBody 100 input x.0 x.1
unfolding t_version_at
t_version_takes input x fits e =
    let b0 = bind_ok (number_at w32 input) (λ msize. string_at msize.1 >>=
    λ version. Ok (t.Version msize.0 version.0, version.1)) x e in
    let b1 = bind_ok (string_at b0.0.1) (λ version. Ok (t.Version b0.0.0 version.0, version.1)) x b0.2 in
    let t0 = number_takes w32 (2 ^ 32) wide32 input b0.0.0 b0.0.1 fits b0.1 in
    let t1 = string_takes b0.0.1 b1.0.0 b1.0.1 t0.0.rest_fits b1.1 in
    let j0 = Takes-then input (to_le_bytes w32 b0.0.0) b0.0.1 (string b1.0.0) b1.0.1 t0.0 t1.0 in
    let made : TBody × List ℕ = (t.Version b0.0.0 b1.0.0, b1.0.1) in
    subst (λ (y : TBody × List ℕ). TakesBody 100 input y.0 y.1) (ok_is made x b1.2)
    (record { kind_is = refl; takes = j0; fits = t1.1; in_range = t0.1 })

t_auth_takes : (input : List ℕ) (x : TBody × List ℕ) → IsBytes input → t_auth_at input ≡ Ok x
    → TakesBody 102 input x.0 x.1
unfolding t_auth_at
t_auth_takes input x fits e =
    let b0 = bind_ok (number_at w32 input) (λ afid. string_at afid.1 >>= λ uname. string_at uname.1 >>=
    λ aname. Ok (t.Auth afid.0 uname.0 aname.0, aname.1)) x e in
    let b1 = bind_ok (string_at b0.0.1) (λ uname. string_at uname.1 >>=
    λ aname. Ok (t.Auth b0.0.0 uname.0 aname.0, aname.1)) x b0.2 in
    let b2 = bind_ok (string_at b1.0.1) (λ aname. Ok (t.Auth b0.0.0 b1.0.0 aname.0, aname.1)) x b1.2 in
    let t0 = number_takes w32 (2 ^ 32) wide32 input b0.0.0 b0.0.1 fits b0.1 in
    let t1 = string_takes b0.0.1 b1.0.0 b1.0.1 t0.0.rest_fits b1.1 in
    let t2 = string_takes b1.0.1 b2.0.0 b2.0.1 t1.0.rest_fits b2.1 in
    let j1 = Takes-then b0.0.1 (string b1.0.0) b1.0.1 (string b2.0.0) b2.0.1 t1.0 t2.0 in
    let j0 = Takes-then input (to_le_bytes w32 b0.0.0) b0.0.1 (string b1.0.0 ++ string b2.0.0) b2.0.1 t0.0 j1 in
    let made : TBody × List ℕ = (t.Auth b0.0.0 b1.0.0 b2.0.0, b2.0.1) in
    subst (λ (y : TBody × List ℕ). TakesBody 102 input y.0 y.1) (ok_is made x b2.2)
    (record { kind_is = refl; takes = j0; fits = (t1.1, t2.1); in_range = t0.1 })

t_flush_takes : (input : List ℕ) (x : TBody × List ℕ) → IsBytes input → t_flush_at input ≡ Ok x
    → TakesBody 108 input x.0 x.1
unfolding t_flush_at
t_flush_takes input x fits e =
    let b0 = bind_ok (number_at w16 input) (λ oldtag. Ok (t.Flush oldtag.0, oldtag.1)) x e in
    let t0 = number_takes w16 (2 ^ 16) wide16 input b0.0.0 b0.0.1 fits b0.1 in
    let made : TBody × List ℕ = (t.Flush b0.0.0, b0.0.1) in
    subst (λ (y : TBody × List ℕ). TakesBody 108 input y.0 y.1) (ok_is made x b0.2)
    (record { kind_is = refl; takes = t0.0; fits = tt; in_range = t0.1 })

t_attach_takes : (input : List ℕ) (x : TBody × List ℕ) → IsBytes input → t_attach_at input ≡ Ok x
    → TakesBody 104 input x.0 x.1
unfolding t_attach_at
t_attach_takes input x fits e =
    let b0 = bind_ok (number_at w32 input) (λ fid. number_at w32 fid.1 >>= λ afid. string_at afid.1 >>=
    λ uname. string_at uname.1 >>= λ aname. Ok (t.Attach fid.0 afid.0 uname.0 aname.0, aname.1)) x e in
    let b1 = bind_ok (number_at w32 b0.0.1) (λ afid. string_at afid.1 >>= λ uname. string_at uname.1 >>=
    λ aname. Ok (t.Attach b0.0.0 afid.0 uname.0 aname.0, aname.1)) x b0.2 in
    let b2 = bind_ok (string_at b1.0.1) (λ uname. string_at uname.1 >>=
    λ aname. Ok (t.Attach b0.0.0 b1.0.0 uname.0 aname.0, aname.1)) x b1.2 in
    let b3 = bind_ok (string_at b2.0.1) (λ aname. Ok (t.Attach b0.0.0 b1.0.0 b2.0.0 aname.0, aname.1)) x b2.2 in
    let t0 = number_takes w32 (2 ^ 32) wide32 input b0.0.0 b0.0.1 fits b0.1 in
    let t1 = number_takes w32 (2 ^ 32) wide32 b0.0.1 b1.0.0 b1.0.1 t0.0.rest_fits b1.1 in
    let t2 = string_takes b1.0.1 b2.0.0 b2.0.1 t1.0.rest_fits b2.1 in
    let t3 = string_takes b2.0.1 b3.0.0 b3.0.1 t2.0.rest_fits b3.1 in
    let j2 = Takes-then b1.0.1 (string b2.0.0) b2.0.1 (string b3.0.0) b3.0.1 t2.0 t3.0 in
    let j1 = Takes-then b0.0.1 (to_le_bytes w32 b1.0.0) b1.0.1 (string b2.0.0 ++ string b3.0.0) b3.0.1 t1.0 j2 in
    let j0 = Takes-then input (to_le_bytes w32 b0.0.0) b0.0.1 (to_le_bytes w32 b1.0.0
    ++ (string b2.0.0 ++ string b3.0.0)) b3.0.1 t0.0 j1 in
    let made : TBody × List ℕ = (t.Attach b0.0.0 b1.0.0 b2.0.0 b3.0.0, b3.0.1) in
    subst (λ (y : TBody × List ℕ). TakesBody 104 input y.0 y.1) (ok_is made x b3.2)
    (record { kind_is = refl; takes = j0; fits = (t2.1, t3.1); in_range = (t0.1, t1.1) })

t_walk_takes : (input : List ℕ) (x : TBody × List ℕ) → IsBytes input → t_walk_at input ≡ Ok x
    → TakesBody 110 input x.0 x.1
unfolding t_walk_at
t_walk_takes input x fits e =
    let b0 = bind_ok (number_at w32 input) (λ fid. number_at w32 fid.1 >>= λ newfid. listed_at string_at newfid.1 >>=
    λ names. Ok (t.Walk fid.0 newfid.0 names.0, names.1)) x e in
    let b1 = bind_ok (number_at w32 b0.0.1) (λ newfid. listed_at string_at newfid.1 >>=
    λ names. Ok (t.Walk b0.0.0 newfid.0 names.0, names.1)) x b0.2 in
    let b2 = bind_ok (listed_at string_at b1.0.1) (λ names. Ok (t.Walk b0.0.0 b1.0.0 names.0, names.1)) x b1.2 in
    let t0 = number_takes w32 (2 ^ 32) wide32 input b0.0.0 b0.0.1 fits b0.1 in
    let t1 = number_takes w32 (2 ^ 32) wide32 b0.0.1 b1.0.0 b1.0.1 t0.0.rest_fits b1.1 in
    let t2 = names_takes b1.0.1 b2.0.0 b2.0.1 t1.0.rest_fits b2.1 in
    let j1 = Takes-then b0.0.1 (to_le_bytes w32 b1.0.0) b1.0.1 (listed string b2.0.0) b2.0.1 t1.0 t2.0 in
    let j0 = Takes-then input (to_le_bytes w32 b0.0.0) b0.0.1 (to_le_bytes w32 b1.0.0 ++ listed string b2.0.0) b2.0.1
    t0.0 j1 in
    let made : TBody × List ℕ = (t.Walk b0.0.0 b1.0.0 b2.0.0, b2.0.1) in
    subst (λ (y : TBody × List ℕ). TakesBody 110 input y.0 y.1) (ok_is made x b2.2)
    (record { kind_is = refl; takes = j0; fits = t2.1; in_range = (t0.1, t1.1) })

t_open_takes : (input : List ℕ) (x : TBody × List ℕ) → IsBytes input → t_open_at input ≡ Ok x
    → TakesBody 112 input x.0 x.1
unfolding t_open_at
t_open_takes input x fits e =
    let b0 = bind_ok (number_at w32 input) (λ fid. byte_at fid.1 >>= λ mode. Ok (t.Open fid.0 mode.0, mode.1)) x e in
    let b1 = bind_ok (byte_at b0.0.1) (λ mode. Ok (t.Open b0.0.0 mode.0, mode.1)) x b0.2 in
    let t0 = number_takes w32 (2 ^ 32) wide32 input b0.0.0 b0.0.1 fits b0.1 in
    let t1 = byte_takes b0.0.1 b1.0.0 b1.0.1 t0.0.rest_fits b1.1 in
    let j0 = Takes-then input (to_le_bytes w32 b0.0.0) b0.0.1 (b1.0.0 ∷ []) b1.0.1 t0.0 t1.0 in
    let made : TBody × List ℕ = (t.Open b0.0.0 b1.0.0, b1.0.1) in
    subst (λ (y : TBody × List ℕ). TakesBody 112 input y.0 y.1) (ok_is made x b1.2)
    (record { kind_is = refl; takes = j0; fits = tt; in_range = (t0.1, t1.1) })

t_create_takes : (input : List ℕ) (x : TBody × List ℕ) → IsBytes input → t_create_at input ≡ Ok x
    → TakesBody 114 input x.0 x.1
unfolding t_create_at
t_create_takes input x fits e =
    let b0 = bind_ok (number_at w32 input) (λ fid. string_at fid.1 >>= λ name. number_at w32 name.1 >>=
    λ perm. byte_at perm.1 >>= λ mode. Ok (t.Create fid.0 name.0 perm.0 mode.0, mode.1)) x e in
    let b1 = bind_ok (string_at b0.0.1) (λ name. number_at w32 name.1 >>= λ perm. byte_at perm.1 >>=
    λ mode. Ok (t.Create b0.0.0 name.0 perm.0 mode.0, mode.1)) x b0.2 in
    let b2 = bind_ok (number_at w32 b1.0.1) (λ perm. byte_at perm.1 >>=
    λ mode. Ok (t.Create b0.0.0 b1.0.0 perm.0 mode.0, mode.1)) x b1.2 in
    let b3 = bind_ok (byte_at b2.0.1) (λ mode. Ok (t.Create b0.0.0 b1.0.0 b2.0.0 mode.0, mode.1)) x b2.2 in
    let t0 = number_takes w32 (2 ^ 32) wide32 input b0.0.0 b0.0.1 fits b0.1 in
    let t1 = string_takes b0.0.1 b1.0.0 b1.0.1 t0.0.rest_fits b1.1 in
    let t2 = number_takes w32 (2 ^ 32) wide32 b1.0.1 b2.0.0 b2.0.1 t1.0.rest_fits b2.1 in
    let t3 = byte_takes b2.0.1 b3.0.0 b3.0.1 t2.0.rest_fits b3.1 in
    let j2 = Takes-then b1.0.1 (to_le_bytes w32 b2.0.0) b2.0.1 (b3.0.0 ∷ []) b3.0.1 t2.0 t3.0 in
    let j1 = Takes-then b0.0.1 (string b1.0.0) b1.0.1 (to_le_bytes w32 b2.0.0 ++ (b3.0.0 ∷ [])) b3.0.1 t1.0 j2 in
    let j0 = Takes-then input (to_le_bytes w32 b0.0.0) b0.0.1 (string b1.0.0
    ++ (to_le_bytes w32 b2.0.0 ++ (b3.0.0 ∷ []))) b3.0.1 t0.0 j1 in
    let made : TBody × List ℕ = (t.Create b0.0.0 b1.0.0 b2.0.0 b3.0.0, b3.0.1) in
    subst (λ (y : TBody × List ℕ). TakesBody 114 input y.0 y.1) (ok_is made x b3.2)
    (record { kind_is = refl; takes = j0; fits = t1.1; in_range = (t0.1, t2.1, t3.1) })

t_read_takes : (input : List ℕ) (x : TBody × List ℕ) → IsBytes input → t_read_at input ≡ Ok x
    → TakesBody 116 input x.0 x.1
unfolding t_read_at
t_read_takes input x fits e =
    let b0 = bind_ok (number_at w32 input) (λ fid. number_at w64 fid.1 >>= λ offset. number_at w32 offset.1 >>=
    λ count. Ok (t.Read fid.0 offset.0 count.0, count.1)) x e in
    let b1 = bind_ok (number_at w64 b0.0.1) (λ offset. number_at w32 offset.1 >>=
    λ count. Ok (t.Read b0.0.0 offset.0 count.0, count.1)) x b0.2 in
    let b2 = bind_ok (number_at w32 b1.0.1) (λ count. Ok (t.Read b0.0.0 b1.0.0 count.0, count.1)) x b1.2 in
    let t0 = number_takes w32 (2 ^ 32) wide32 input b0.0.0 b0.0.1 fits b0.1 in
    let t1 = number_takes w64 (2 ^ 64) wide64 b0.0.1 b1.0.0 b1.0.1 t0.0.rest_fits b1.1 in
    let t2 = number_takes w32 (2 ^ 32) wide32 b1.0.1 b2.0.0 b2.0.1 t1.0.rest_fits b2.1 in
    let j1 = Takes-then b0.0.1 (to_le_bytes w64 b1.0.0) b1.0.1 (to_le_bytes w32 b2.0.0) b2.0.1 t1.0 t2.0 in
    let j0 = Takes-then input (to_le_bytes w32 b0.0.0) b0.0.1 (to_le_bytes w64 b1.0.0 ++ to_le_bytes w32 b2.0.0) b2.0.1
    t0.0 j1 in
    let made : TBody × List ℕ = (t.Read b0.0.0 b1.0.0 b2.0.0, b2.0.1) in
    subst (λ (y : TBody × List ℕ). TakesBody 116 input y.0 y.1) (ok_is made x b2.2)
    (record { kind_is = refl; takes = j0; fits = tt; in_range = (t0.1, t1.1, t2.1) })

t_write_takes : (input : List ℕ) (x : TBody × List ℕ) → IsBytes input → t_write_at input ≡ Ok x
    → TakesBody 118 input x.0 x.1
unfolding t_write_at
t_write_takes input x fits e =
    let b0 = bind_ok (number_at w32 input) (λ fid. number_at w64 fid.1 >>= λ offset. counted_at w32 offset.1 >>=
    λ bytes. Ok (t.Write fid.0 offset.0 bytes.0, bytes.1)) x e in
    let b1 = bind_ok (number_at w64 b0.0.1) (λ offset. counted_at w32 offset.1 >>=
    λ bytes. Ok (t.Write b0.0.0 offset.0 bytes.0, bytes.1)) x b0.2 in
    let b2 = bind_ok (counted_at w32 b1.0.1) (λ bytes. Ok (t.Write b0.0.0 b1.0.0 bytes.0, bytes.1)) x b1.2 in
    let t0 = number_takes w32 (2 ^ 32) wide32 input b0.0.0 b0.0.1 fits b0.1 in
    let t1 = number_takes w64 (2 ^ 64) wide64 b0.0.1 b1.0.0 b1.0.1 t0.0.rest_fits b1.1 in
    let t2 = counted_takes w32 (2 ^ 32) wide32 b1.0.1 b2.0.0 b2.0.1 t1.0.rest_fits b2.1 in
    let j1 = Takes-then b0.0.1 (to_le_bytes w64 b1.0.0) b1.0.1 (counted w32 b2.0.0) b2.0.1 t1.0 t2.0 in
    let j0 = Takes-then input (to_le_bytes w32 b0.0.0) b0.0.1 (to_le_bytes w64 b1.0.0 ++ counted w32 b2.0.0) b2.0.1 t0.0
    j1 in
    let made : TBody × List ℕ = (t.Write b0.0.0 b1.0.0 b2.0.0, b2.0.1) in
    subst (λ (y : TBody × List ℕ). TakesBody 118 input y.0 y.1) (ok_is made x b2.2)
    (record { kind_is = refl; takes = j0; fits = t2.1; in_range = (t0.1, t1.1) })

t_clunk_takes : (input : List ℕ) (x : TBody × List ℕ) → IsBytes input → t_clunk_at input ≡ Ok x
    → TakesBody 120 input x.0 x.1
unfolding t_clunk_at
t_clunk_takes input x fits e =
    let b0 = bind_ok (number_at w32 input) (λ fid. Ok (t.Clunk fid.0, fid.1)) x e in
    let t0 = number_takes w32 (2 ^ 32) wide32 input b0.0.0 b0.0.1 fits b0.1 in
    let made : TBody × List ℕ = (t.Clunk b0.0.0, b0.0.1) in
    subst (λ (y : TBody × List ℕ). TakesBody 120 input y.0 y.1) (ok_is made x b0.2)
    (record { kind_is = refl; takes = t0.0; fits = tt; in_range = t0.1 })

t_remove_takes : (input : List ℕ) (x : TBody × List ℕ) → IsBytes input → t_remove_at input ≡ Ok x
    → TakesBody 122 input x.0 x.1
unfolding t_remove_at
t_remove_takes input x fits e =
    let b0 = bind_ok (number_at w32 input) (λ fid. Ok (t.Remove fid.0, fid.1)) x e in
    let t0 = number_takes w32 (2 ^ 32) wide32 input b0.0.0 b0.0.1 fits b0.1 in
    let made : TBody × List ℕ = (t.Remove b0.0.0, b0.0.1) in
    subst (λ (y : TBody × List ℕ). TakesBody 122 input y.0 y.1) (ok_is made x b0.2)
    (record { kind_is = refl; takes = t0.0; fits = tt; in_range = t0.1 })

t_stat_takes : (input : List ℕ) (x : TBody × List ℕ) → IsBytes input → t_stat_at input ≡ Ok x
    → TakesBody 124 input x.0 x.1
unfolding t_stat_at
t_stat_takes input x fits e =
    let b0 = bind_ok (number_at w32 input) (λ fid. Ok (t.Stat fid.0, fid.1)) x e in
    let t0 = number_takes w32 (2 ^ 32) wide32 input b0.0.0 b0.0.1 fits b0.1 in
    let made : TBody × List ℕ = (t.Stat b0.0.0, b0.0.1) in
    subst (λ (y : TBody × List ℕ). TakesBody 124 input y.0 y.1) (ok_is made x b0.2)
    (record { kind_is = refl; takes = t0.0; fits = tt; in_range = t0.1 })

t_wstat_takes : (input : List ℕ) (x : TBody × List ℕ) → IsBytes input → t_wstat_at input ≡ Ok x
    → TakesBody 126 input x.0 x.1
unfolding t_wstat_at
t_wstat_takes input x fits e =
    let b0 = bind_ok (number_at w32 input) (λ fid. counted_at w16 fid.1 >>= λ stat. Ok (t.Wstat fid.0 stat.0, stat.1)) x
    e in
    let b1 = bind_ok (counted_at w16 b0.0.1) (λ stat. Ok (t.Wstat b0.0.0 stat.0, stat.1)) x b0.2 in
    let t0 = number_takes w32 (2 ^ 32) wide32 input b0.0.0 b0.0.1 fits b0.1 in
    let t1 = counted_takes w16 (2 ^ 16) wide16 b0.0.1 b1.0.0 b1.0.1 t0.0.rest_fits b1.1 in
    let j0 = Takes-then input (to_le_bytes w32 b0.0.0) b0.0.1 (counted w16 b1.0.0) b1.0.1 t0.0 t1.0 in
    let made : TBody × List ℕ = (t.Wstat b0.0.0 b1.0.0, b1.0.1) in
    subst (λ (y : TBody × List ℕ). TakesBody 126 input y.0 y.1) (ok_is made x b1.2)
    (record { kind_is = refl; takes = j0; fits = t1.1; in_range = t0.1 })

t_version_again : (msize : ℕ) (version : List ℕ) (rest : List ℕ) → BodyFits_t (t.Version msize version)
    → BodyInRange_t (t.Version msize version) → t_version_at (fields_t (t.Version msize version) ++ rest)
    ≡ Ok (t.Version msize version, rest)
unfolding t_version_at
t_version_again msize version rest fits in_range =
    ap t_version_at (append_assoc (to_le_bytes w32 msize) (string version) rest)
    ∙ rw (number_again w32 (2 ^ 32) wide32 msize (string version ++ rest) in_range, string_again version rest fits)
    refl

t_auth_again : (afid : ℕ) (uname : List ℕ) (aname : List ℕ) (rest : List ℕ) → BodyFits_t (t.Auth afid uname aname)
    → BodyInRange_t (t.Auth afid uname aname) → t_auth_at (fields_t (t.Auth afid uname aname) ++ rest)
    ≡ Ok (t.Auth afid uname aname, rest)
unfolding t_auth_at
t_auth_again afid uname aname rest fits in_range =
    ap t_auth_at (append_assoc (to_le_bytes w32 afid) (string uname ++ string aname) rest
    ∙ ap (λ (l : List ℕ). to_le_bytes w32 afid ++ l) (append_assoc (string uname) (string aname) rest))
    ∙ rw (
      number_again w32 (2 ^ 32) wide32 afid (string uname ++ (string aname ++ rest)) in_range,
      string_again uname (string aname ++ rest) fits.0,
      string_again aname rest fits.1,
    ) refl

t_flush_again : (oldtag : ℕ) (rest : List ℕ) → BodyFits_t (t.Flush oldtag) → BodyInRange_t (t.Flush oldtag)
    → t_flush_at (fields_t (t.Flush oldtag) ++ rest) ≡ Ok (t.Flush oldtag, rest)
unfolding t_flush_at
t_flush_again oldtag rest fits in_range =
    rw (number_again w16 (2 ^ 16) wide16 oldtag rest in_range) refl

t_attach_again : (fid : ℕ) (afid : ℕ) (uname : List ℕ) (aname : List ℕ) (rest : List ℕ)
    → BodyFits_t (t.Attach fid afid uname aname) → BodyInRange_t (t.Attach fid afid uname aname)
    → t_attach_at (fields_t (t.Attach fid afid uname aname) ++ rest) ≡ Ok (t.Attach fid afid uname aname, rest)
unfolding t_attach_at
t_attach_again fid afid uname aname rest fits in_range =
    ap t_attach_at (append_assoc (to_le_bytes w32 fid) (to_le_bytes w32 afid ++ (string uname ++ string aname)) rest
    ∙ ap (λ (l : List ℕ). to_le_bytes w32 fid ++ l) (append_assoc (to_le_bytes w32 afid)
    (string uname ++ string aname) rest) ∙ ap (λ (l : List ℕ). to_le_bytes w32 fid ++ l)
    (ap (λ (l : List ℕ). to_le_bytes w32 afid ++ l) (append_assoc (string uname) (string aname) rest)))
    ∙ rw (
      number_again w32 (2 ^ 32) wide32 fid (to_le_bytes w32 afid ++ (string uname ++ (string aname ++ rest)))
          in_range.0,
      number_again w32 (2 ^ 32) wide32 afid (string uname ++ (string aname ++ rest)) in_range.1,
      string_again uname (string aname ++ rest) fits.0,
      string_again aname rest fits.1,
    ) refl

t_walk_again : (fid : ℕ) (newfid : ℕ) (names : List (List ℕ)) (rest : List ℕ) → BodyFits_t (t.Walk fid newfid names)
    → BodyInRange_t (t.Walk fid newfid names) → t_walk_at (fields_t (t.Walk fid newfid names) ++ rest)
    ≡ Ok (t.Walk fid newfid names, rest)
unfolding t_walk_at
t_walk_again fid newfid names rest fits in_range =
    ap t_walk_at (append_assoc (to_le_bytes w32 fid) (to_le_bytes w32 newfid ++ listed string names) rest
    ∙ ap (λ (l : List ℕ). to_le_bytes w32 fid ++ l) (append_assoc (to_le_bytes w32 newfid) (listed string names)
    rest)) ∙ rw (
      number_again w32 (2 ^ 32) wide32 fid (to_le_bytes w32 newfid ++ (listed string names ++ rest))
          in_range.0,
      number_again w32 (2 ^ 32) wide32 newfid (listed string names ++ rest) in_range.1,
      names_again names rest fits,
    ) refl

t_open_again : (fid : ℕ) (mode : ℕ) (rest : List ℕ) → BodyFits_t (t.Open fid mode) → BodyInRange_t (t.Open fid mode)
    → t_open_at (fields_t (t.Open fid mode) ++ rest) ≡ Ok (t.Open fid mode, rest)
unfolding t_open_at
t_open_again fid mode rest fits in_range =
    ap t_open_at (append_assoc (to_le_bytes w32 fid) (mode ∷ []) rest)
    ∙ rw (number_again w32 (2 ^ 32) wide32 fid ((mode ∷ []) ++ rest) in_range.0) refl

t_create_again : (fid : ℕ) (name : List ℕ) (perm : ℕ) (mode : ℕ) (rest : List ℕ)
    → BodyFits_t (t.Create fid name perm mode) → BodyInRange_t (t.Create fid name perm mode)
    → t_create_at (fields_t (t.Create fid name perm mode) ++ rest) ≡ Ok (t.Create fid name perm mode, rest)
unfolding t_create_at
t_create_again fid name perm mode rest fits in_range =
    ap t_create_at (append_assoc (to_le_bytes w32 fid) (string name ++ (to_le_bytes w32 perm ++ (mode ∷ []))) rest
    ∙ ap (λ (l : List ℕ). to_le_bytes w32 fid ++ l) (append_assoc (string name)
    (to_le_bytes w32 perm ++ (mode ∷ [])) rest) ∙ ap (λ (l : List ℕ). to_le_bytes w32 fid ++ l)
    (ap (λ (l : List ℕ). string name ++ l) (append_assoc (to_le_bytes w32 perm) (mode ∷ []) rest)))
    ∙ rw (
      number_again w32 (2 ^ 32) wide32 fid (string name ++ (to_le_bytes w32 perm ++ ((mode ∷ []) ++ rest)))
          in_range.0,
      string_again name (to_le_bytes w32 perm ++ ((mode ∷ []) ++ rest)) fits,
      number_again w32 (2 ^ 32) wide32 perm ((mode ∷ []) ++ rest) in_range.1,
    ) refl

t_read_again : (fid : ℕ) (offset : ℕ) (count : ℕ) (rest : List ℕ) → BodyFits_t (t.Read fid offset count)
    → BodyInRange_t (t.Read fid offset count) → t_read_at (fields_t (t.Read fid offset count) ++ rest)
    ≡ Ok (t.Read fid offset count, rest)
unfolding t_read_at
t_read_again fid offset count rest fits in_range =
    ap t_read_at (append_assoc (to_le_bytes w32 fid) (to_le_bytes w64 offset ++ to_le_bytes w32 count) rest
    ∙ ap (λ (l : List ℕ). to_le_bytes w32 fid ++ l) (append_assoc (to_le_bytes w64 offset) (to_le_bytes w32 count)
    rest)) ∙ rw (
      number_again w32 (2 ^ 32) wide32 fid (to_le_bytes w64 offset ++ (to_le_bytes w32 count ++ rest))
          in_range.0,
      number_again w64 (2 ^ 64) wide64 offset (to_le_bytes w32 count ++ rest) in_range.1,
      number_again w32 (2 ^ 32) wide32 count rest in_range.2,
    ) refl

t_write_again : (fid : ℕ) (offset : ℕ) (bytes : List ℕ) (rest : List ℕ) → BodyFits_t (t.Write fid offset bytes)
    → BodyInRange_t (t.Write fid offset bytes) → t_write_at (fields_t (t.Write fid offset bytes) ++ rest)
    ≡ Ok (t.Write fid offset bytes, rest)
unfolding t_write_at
t_write_again fid offset bytes rest fits in_range =
    ap t_write_at (append_assoc (to_le_bytes w32 fid) (to_le_bytes w64 offset ++ counted w32 bytes) rest
    ∙ ap (λ (l : List ℕ). to_le_bytes w32 fid ++ l) (append_assoc (to_le_bytes w64 offset) (counted w32 bytes)
    rest)) ∙ rw (
      number_again w32 (2 ^ 32) wide32 fid (to_le_bytes w64 offset ++ (counted w32 bytes ++ rest))
          in_range.0,
      number_again w64 (2 ^ 64) wide64 offset (counted w32 bytes ++ rest) in_range.1,
      counted_again w32 (2 ^ 32) wide32 bytes rest fits,
    ) refl

t_clunk_again : (fid : ℕ) (rest : List ℕ) → BodyFits_t (t.Clunk fid) → BodyInRange_t (t.Clunk fid)
    → t_clunk_at (fields_t (t.Clunk fid) ++ rest) ≡ Ok (t.Clunk fid, rest)
unfolding t_clunk_at
t_clunk_again fid rest fits in_range =
    rw (number_again w32 (2 ^ 32) wide32 fid rest in_range) refl

t_remove_again : (fid : ℕ) (rest : List ℕ) → BodyFits_t (t.Remove fid) → BodyInRange_t (t.Remove fid)
    → t_remove_at (fields_t (t.Remove fid) ++ rest) ≡ Ok (t.Remove fid, rest)
unfolding t_remove_at
t_remove_again fid rest fits in_range =
    rw (number_again w32 (2 ^ 32) wide32 fid rest in_range) refl

t_stat_again : (fid : ℕ) (rest : List ℕ) → BodyFits_t (t.Stat fid) → BodyInRange_t (t.Stat fid)
    → t_stat_at (fields_t (t.Stat fid) ++ rest) ≡ Ok (t.Stat fid, rest)
unfolding t_stat_at
t_stat_again fid rest fits in_range =
    rw (number_again w32 (2 ^ 32) wide32 fid rest in_range) refl

t_wstat_again : (fid : ℕ) (stat : List ℕ) (rest : List ℕ) → BodyFits_t (t.Wstat fid stat)
    → BodyInRange_t (t.Wstat fid stat) → t_wstat_at (fields_t (t.Wstat fid stat) ++ rest) ≡ Ok (t.Wstat fid stat, rest)
unfolding t_wstat_at
t_wstat_again fid stat rest fits in_range =
    ap t_wstat_at (append_assoc (to_le_bytes w32 fid) (counted w16 stat) rest)
    ∙ rw (
      number_again w32 (2 ^ 32) wide32 fid (counted w16 stat ++ rest) in_range,
      counted_again w16 (2 ^ 16) wide16 stat rest fits,
    ) refl

pub t_body_takes : (kind : ℕ) (bytes : List ℕ) (x : TBody × List ℕ) → IsBytes bytes → t_body_at kind bytes ≡ Ok x
    → TakesBody kind bytes x.0 x.1
unfolding t_body_at
t_body_takes kind bytes x fits e = read_by_takes TakesBody t_readers (
  t_version_takes,
  (
    t_auth_takes,
    (
      t_attach_takes,
      (
        t_flush_takes,
        (
          t_walk_takes,
          (
            t_open_takes,
            (
              t_create_takes,
              (
                t_read_takes,
                (
                  t_write_takes,
                  (t_clunk_takes, (t_remove_takes, (t_stat_takes, (t_wstat_takes, tt)))),
                ),
              ),
            ),
          ),
        ),
      ),
    ),
  ),
) kind bytes x fits e

pub t_body_again : (body : TBody) (rest : List ℕ) → BodyFits_t body → BodyInRange_t body
    → t_body_at (kind_t body) (fields_t body ++ rest) ≡ Ok (body, rest)
unfolding t_body_at
t_body_again (t.Version msize version) rest fits in_range = t_version_again msize version rest fits in_range
t_body_again (t.Auth afid uname aname) rest fits in_range = t_auth_again afid uname aname rest fits in_range
t_body_again (t.Flush oldtag) rest fits in_range = t_flush_again oldtag rest fits in_range
t_body_again (t.Attach fid afid uname aname) rest fits in_range = t_attach_again fid afid uname aname rest fits in_range
t_body_again (t.Walk fid newfid names) rest fits in_range = t_walk_again fid newfid names rest fits in_range
t_body_again (t.Open fid mode) rest fits in_range = t_open_again fid mode rest fits in_range
t_body_again (t.Create fid name perm mode) rest fits in_range = t_create_again fid name perm mode rest fits in_range
t_body_again (t.Read fid offset count) rest fits in_range = t_read_again fid offset count rest fits in_range
t_body_again (t.Write fid offset bytes) rest fits in_range = t_write_again fid offset bytes rest fits in_range
t_body_again (t.Clunk fid) rest fits in_range = t_clunk_again fid rest fits in_range
t_body_again (t.Remove fid) rest fits in_range = t_remove_again fid rest fits in_range
t_body_again (t.Stat fid) rest fits in_range = t_stat_again fid rest fits in_range
t_body_again (t.Wstat fid stat) rest fits in_range = t_wstat_again fid stat rest fits in_range
