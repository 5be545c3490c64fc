-- The laws of whole messages to the server: what is read is spelled so, and what is spelled so is read.
use Rattle.std.proofs.Common.{◌≡◌, ℕ, ◌+◌, ◌^◌, ◌<◌, cond, eqb, List, [], ◌++◌, length, Result, Ok, Err, refl, sym, ap}
use Rattle.std.proofs.Common.{subst, ◌∙◌, arith}
use Rattle.std.specs.Prelude.{IfOk}
use Rattle.std.proofs.lemmas.Bool.{eqb-true}
use Rattle.std.proofs.lemmas.List.{append-nil, nil_from_length}
use Rattle.ninep_types.specs.declared.fault.WireFault.TheVariants.{Long}
use Rattle.ninep_types.specs.declared.fault.WireError.{WireError}
use Rattle.ninep_types.specs.declared.message.TMsg.{TMsg}
use Rattle.ninep_types.specs.Fields.{◌>>=◌, Gives}
use Rattle.ninep_types.specs.Reading.{head_at, t_body_at, t_of}
use Rattle.ninep_types.specs.Spelling.{kind_t, fields_t, head, framed, spelling_t, Fits_t, InRange_t}
use Rattle.ninep_wire.proofs.FieldLaws.{IsBytes, bind_ok, guard_then, ok_is}
use Rattle.ninep_wire.proofs.Heads.{head_takes, head_again}
use Rattle.ninep_wire.proofs.TBodies.{t_body_takes, t_body_again}
use Rattle.ninep_wire.proofs.Sizes.{size_t-is}

abbrev pub Spells : List ℕ → TMsg → Type 0
Spells bytes m = Fits_t m × InRange_t m × (bytes ≡ spelling_t m)

pub t_takes : (bytes : List ℕ) (m : TMsg) → IsBytes bytes → t_of bytes ≡ Ok m → Spells bytes m
unfolding t_of
t_takes bytes m fits e =
    let a = bind_ok (head_at bytes) (λ head. t_body_at head.0 head.2 >>= λ body. cond (eqb (length body.1) 0)
    (Ok (record { tag = head.1; body = body.0 })) (Err Long)) m e in
    let b = bind_ok (t_body_at a.0.0 a.0.2) (λ body. cond (eqb (length body.1) 0)
    (Ok (record { tag = a.0.1; body = body.0 })) (Err Long)) m a.2 in
    let made : TMsg = record { tag = a.0.1; body = b.0.0 } in
    let g = guard_then (eqb (length b.0.1) 0) Long (Ok made) m b.2 in
    let first = head_takes bytes a.0 fits a.1 in
    let body = t_body_takes a.0.0 a.0.2 b.0 first.3 b.1 in
    let nothing : b.0.1 ≡ [] = nil_from_length b.0.1 (eqb-true _ _ g.0) in
    let fields-is : a.0.2 ≡ fields_t b.0.0 = body.takes.parts ∙ ap (λ (r : List ℕ). fields_t b.0.0 ++ r) nothing
    ∙ append-nil (fields_t b.0.0) in
    let len : length (fields_t b.0.0) + 7 ≡ length bytes = subst (λ (r : List ℕ). length r + 7 ≡ length bytes) fields-is
    first.0 in
    let size : length bytes ≡ 7 + length (fields_t b.0.0) = omega (arith, len) in
    let whole : bytes ≡ spelling_t made = first.4 ∙ ap (λ (k : ℕ). head k a.0.0 a.0.1 ++ a.0.2) size
    ∙ ap (λ (r : List ℕ). head (7 + length (fields_t b.0.0)) a.0.0 a.0.1 ++ r) fields-is
    ∙ ap (λ (k : ℕ). framed k a.0.1 (fields_t b.0.0)) body.kind_is in
    subst (Spells bytes) (ok_is made m g.1) (
      record {
        body = body.fits;
        size =
            omega (arith, size, first.1, size_t-is b.0.0);
      },
      record { tag = first.2; body = body.in_range },
      whole,
    )

pub t_again : (m : TMsg) → Fits_t m → InRange_t m → t_of (spelling_t m) ≡ Ok m
unfolding t_of
t_again m fits in_range =
    let rest : t_body_at (kind_t m.body) (fields_t m.body) ≡ Ok (m.body, []) = ap (t_body_at (kind_t m.body))
    (sym (append-nil (fields_t m.body))) ∙ t_body_again m.body [] fits.body in_range.body in
    let size : 7 + length (fields_t m.body) < 2 ^ 32 = omega (arith, fits.size, size_t-is m.body) in
    rw (head_again (kind_t m.body) m.tag (fields_t m.body) in_range.tag size, rest) refl

pub is_found : (bytes : List ℕ) (r : Result TMsg WireError) → IsBytes bytes → Gives (λ m. m) r (t_of bytes)
    → IfOk r (Spells bytes)
is_found bytes (Ok m) fits given = t_takes bytes m fits given
is_found bytes (Err e) fits given = tt

-- the two halves of what was found, as the clauses have them
pub found_fits : (bytes : List ℕ) (r : Result TMsg WireError) → IfOk r (Spells bytes)
    → IfOk r (λ m. Fits_t m × (bytes ≡ spelling_t m))
found_fits bytes (Ok m) s = (s.0, s.2)
found_fits bytes (Err e) s = tt

pub found_in_range : (bytes : List ℕ) (r : Result TMsg WireError) → IfOk r (Spells bytes) → IfOk r (λ m. InRange_t m)
found_in_range bytes (Ok m) s = s.1
found_in_range bytes (Err e) s = tt
