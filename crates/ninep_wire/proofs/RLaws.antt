-- The laws of whole messages from the server: what is read is spelled so, and what is spelled so is read.
use Rattle.std.proofs.Common.{◌≡◌, ℕ, ◌+◌, ◌^◌, ◌<◌, cond, eqb, List, [], ◌++◌, length, Result, Ok, Err, refl, sym, ap}
use Rattle.std.proofs.Common.{subst, ◌∙◌, arith}
use Rattle.std.specs.Prelude.{IfOk}
use Rattle.std.proofs.lemmas.Bool.{eqb-true}
use Rattle.std.proofs.lemmas.List.{append-nil, nil_from_length}
use Rattle.ninep_types.specs.declared.fault.WireFault.TheVariants.{Long}
use Rattle.ninep_types.specs.declared.fault.WireError.{WireError}
use Rattle.ninep_types.specs.declared.message.RMsg.{RMsg}
use Rattle.ninep_types.specs.Fields.{◌>>=◌, Gives}
use Rattle.ninep_types.specs.Reading.{head_at, r_body_at, r_of}
use Rattle.ninep_types.specs.Spelling.{kind_r, fields_r, head, framed, spelling_r, Fits_r, InRange_r}
use Rattle.ninep_wire.proofs.FieldLaws.{IsBytes, bind_ok, guard_then, ok_is}
use Rattle.ninep_wire.proofs.Heads.{head_takes, head_again}
use Rattle.ninep_wire.proofs.RBodies.{r_body_takes, r_body_again}
use Rattle.ninep_wire.proofs.Sizes.{size_r-is}

abbrev pub Spells : List ℕ → RMsg → Type 0
Spells bytes m = Fits_r m × InRange_r m × (bytes ≡ spelling_r m)

pub r_takes : (bytes : List ℕ) (m : RMsg) → IsBytes bytes → r_of bytes ≡ Ok m → Spells bytes m
unfolding r_of
r_takes bytes m fits e =
    let a = bind_ok (head_at bytes) (λ head. r_body_at head.0 head.2 >>= λ body. cond (eqb (length body.1) 0)
    (Ok (record { tag = head.1; body = body.0 })) (Err Long)) m e in
    let b = bind_ok (r_body_at a.0.0 a.0.2) (λ body. cond (eqb (length body.1) 0)
    (Ok (record { tag = a.0.1; body = body.0 })) (Err Long)) m a.2 in
    let made : RMsg = record { tag = a.0.1; body = b.0.0 } in
    let g = guard_then (eqb (length b.0.1) 0) Long (Ok made) m b.2 in
    let first = head_takes bytes a.0 fits a.1 in
    let body = r_body_takes a.0.0 a.0.2 b.0 first.3 b.1 in
    let nothing : b.0.1 ≡ [] = nil_from_length b.0.1 (eqb-true _ _ g.0) in
    let fields-is : a.0.2 ≡ fields_r b.0.0 = body.takes.parts ∙ ap (λ (r : List ℕ). fields_r b.0.0 ++ r) nothing
    ∙ append-nil (fields_r b.0.0) in
    let len : length (fields_r b.0.0) + 7 ≡ length bytes = subst (λ (r : List ℕ). length r + 7 ≡ length bytes) fields-is
    first.0 in
    let size : length bytes ≡ 7 + length (fields_r b.0.0) = omega (arith, len) in
    let whole : bytes ≡ spelling_r made = first.4 ∙ ap (λ (k : ℕ). head k a.0.0 a.0.1 ++ a.0.2) size
    ∙ ap (λ (r : List ℕ). head (7 + length (fields_r b.0.0)) a.0.0 a.0.1 ++ r) fields-is
    ∙ ap (λ (k : ℕ). framed k a.0.1 (fields_r b.0.0)) body.kind_is in
    subst (Spells bytes) (ok_is made m g.1) (
      record {
        body = body.fits;
        size =
            omega (arith, size, first.1, size_r-is b.0.0);
      },
      record { tag = first.2; body = body.in_range },
      whole,
    )

pub r_again : (m : RMsg) → Fits_r m → InRange_r m → r_of (spelling_r m) ≡ Ok m
unfolding r_of
r_again m fits in_range =
    let rest : r_body_at (kind_r m.body) (fields_r m.body) ≡ Ok (m.body, []) = ap (r_body_at (kind_r m.body))
    (sym (append-nil (fields_r m.body))) ∙ r_body_again m.body [] fits.body in_range.body in
    let size : 7 + length (fields_r m.body) < 2 ^ 32 = omega (arith, fits.size, size_r-is m.body) in
    rw (head_again (kind_r m.body) m.tag (fields_r m.body) in_range.tag size, rest) refl

pub is_found : (bytes : List ℕ) (r : Result RMsg WireError) → IsBytes bytes → Gives (λ m. m) r (r_of bytes)
    → IfOk r (Spells bytes)
is_found bytes (Ok m) fits given = r_takes bytes m fits given
is_found bytes (Err e) fits given = tt

-- the two halves of what was found, as the clauses have them
pub found_fits : (bytes : List ℕ) (r : Result RMsg WireError) → IfOk r (Spells bytes)
    → IfOk r (λ m. Fits_r m × (bytes ≡ spelling_r m))
found_fits bytes (Ok m) s = (s.0, s.2)
found_fits bytes (Err e) s = tt

pub found_in_range : (bytes : List ℕ) (r : Result RMsg WireError) → IfOk r (Spells bytes) → IfOk r (λ m. InRange_r m)
found_in_range bytes (Ok m) s = s.1
found_in_range bytes (Err e) s = tt
