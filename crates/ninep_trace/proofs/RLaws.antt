-- The laws of whole messages from the server: what is read is spelled so, and what is spelled so is read.
use Rattle.std.proofs.Common.{◌≡◌, ℕ, ◌+◌, ◌^◌, ◌<◌, ◌≤◌, ◌&&◌, eqb, leb, List, [], ◌∷◌, ◌++◌, length, codes, Some}
use Rattle.std.proofs.Common.{refl, sym, ap, subst, ◌∙◌, arith}
use Rattle.std.specs.Int.{w16, w32, to_le_bytes}
use Rattle.std.proofs.lemmas.Bool.{eqb-true, leb-true, le-leb}
use Rattle.std.proofs.lemmas.List.{append-nil, nil_from_length}
use Rattle.ninep_types.specs.declared.message.RMsg.{RMsg}
use Rattle.ninep_types.specs.declared.message.RBody.{RBody}
use Rattle.ninep_types.specs.declared.message.RBody.TheVariants as r
use Rattle.ninep_types.specs.Spelling as wire
use Rattle.ninep_types.specs.Spelling.{head, size_r, spelling_r, Fits_r, InRange_r}
use Rattle.ninep_wire.proofs.Sizes.{r_has_size}
use Rattle.am_journal.specs.Lawful.{AreBytes}
use Rattle.am_text.specs.Lines.{first_field, after_field}
use Rattle.am_journal.proofs.FieldWords.{split-is}
use Rattle.ninep_trace.specs.Fields.{◌>>=◌, number, number_at, text, bytes_in_hex, qid_text, qid_field, listed}
use Rattle.ninep_trace.specs.Reading.{r_body_at, r_message_at, whole_r}
use Rattle.ninep_trace.specs.Words.{name_r, fields_r}
use Rattle.ninep_trace.proofs.ByteLists.{bytes_cons, bytes_append, bytes_behind, bytes_16, bytes_32}
use Rattle.ninep_trace.proofs.FieldLaws.{some_is, bind_some, guard_some, both, IsEnd, stops_then, stops_end}
use Rattle.ninep_trace.proofs.FieldLaws.{number_takes, number_again, number_stops, text_stops, bytes_in_hex_stops}
use Rattle.ninep_trace.proofs.ListLaws.{qid_field_stops, qids_stops}
use Rattle.ninep_trace.proofs.RBodies.{r_body_takes, r_body_again, r_name_first, r_name_after, r_fields_bytes}
use Rattle.ninep_trace.proofs.RBodies.{r_data_bytes}

-- the words of a message from its name on
abbrev pub message_words_r : RMsg → List ℕ
message_words_r m = name_r m.body ++ 32 ∷ (number (codes "tag=") m.tag ++ fields_r m.body)

-- what was read is spelled so, and has words
pub record Spells_r (words : List ℕ) (m : RMsg) : Type 0 where
  pub spelled : words ≡ message_words_r m
  pub fits : Fits_r m
  pub in_range : InRange_r m
  pub short : length (spelling_r m) ≤ 65560
  pub bytes_are : AreBytes (spelling_r m)

-- ---- what is read is spelled so

r_kind_small : (body : RBody) → wire.kind_r body < 256
r_kind_small (r.Version msize version) = omega arith
r_kind_small (r.Auth aqid) = omega arith
r_kind_small (r.Error ename) = omega arith
r_kind_small r.Flush = omega arith
r_kind_small (r.Attach qid) = omega arith
r_kind_small (r.Walk qids) = omega arith
r_kind_small (r.Open qid iounit) = omega arith
r_kind_small (r.Create qid iounit) = omega arith
r_kind_small (r.Read bytes) = omega arith
r_kind_small (r.Write count) = omega arith
r_kind_small r.Clunk = omega arith
r_kind_small r.Remove = omega arith
r_kind_small (r.Stat stat) = omega arith
r_kind_small r.Wstat = omega arith

r_spelling_bytes : (m : RMsg) → AreBytes (wire.fields_r m.body) → AreBytes (spelling_r m)
r_spelling_bytes m h =
    let fields = wire.fields_r m.body in
    let size = 7 + length fields in
    bytes_append (head size (wire.kind_r m.body) m.tag) fields
    (bytes_append (to_le_bytes w32 size) (wire.kind_r m.body ∷ to_le_bytes w16 m.tag) (bytes_32 size)
    (bytes_cons (wire.kind_r m.body) (to_le_bytes w16 m.tag) (r_kind_small m.body) (bytes_16 m.tag)))
    h

tag_some : (n : ℕ) (fields : List ℕ) → 0 < length (number (codes "tag=") n ++ fields)
unfolding number
tag_some n fields = omega arith

pub r_body_fits : (name bytes : List ℕ) (x : RBody × List ℕ) (tag : ℕ) → r_body_at name bytes ≡ Some x
    → Fits_r (record { tag = tag; body = x.0 })
r_body_fits name bytes x tag e = let body = r_body_takes name bytes x e in
    record { body = body.fits; size = body.short }

pub r_message_takes : (bytes : List ℕ) (m : RMsg) → r_message_at bytes ≡ Some m → Spells_r bytes m
unfolding r_message_at
r_message_takes bytes m e =
    let a = bind_some (number_at (codes "tag=") (2 ^ 16) (after_field bytes))
    (λ tag. r_body_at (first_field bytes) tag.1 >>= λ body. whole_r (record { tag = tag.0; body = body.0 }) body.1)
    m e in
    let b = bind_some (r_body_at (first_field bytes) a.0.1) (λ body. whole_r (record { tag = a.0.0; body = body.0 })
    body.1) m a.2 in
    let made : RMsg = record { tag = a.0.0; body = b.0.0 } in
    let g = guard_some (eqb (length b.0.1) 0 && leb (size_r b.0.0) 65560) (Some made) m b.2 in
    let p = both (eqb (length b.0.1) 0) (leb (size_r b.0.0) 65560) g.0 in
    let tag = number_takes (codes "tag=") (2 ^ 16) (after_field bytes) a.0.0 a.0.1 a.1 in
    let body = r_body_takes (first_field bytes) a.0.1 b.0 b.1 in
    let nothing : b.0.1 ≡ [] = nil_from_length b.0.1 (eqb-true _ _ p.0) in
    let fields : a.0.1 ≡ fields_r b.0.0 = body.takes ∙ ap (λ (r : List ℕ). fields_r b.0.0 ++ r) nothing
    ∙ append-nil (fields_r b.0.0) in
    let rest : after_field bytes ≡ number (codes "tag=") a.0.0 ++ fields_r b.0.0 =
    tag.0 ∙ ap (λ (r : List ℕ). number (codes "tag=") a.0.0 ++ r) fields in
    let whole = split-is bytes (name_r b.0.0) (number (codes "tag=") a.0.0 ++ fields_r b.0.0) body.name_is rest
    (tag_some a.0.0 (fields_r b.0.0)) in
    subst (Spells_r bytes) (some_is made m g.1)
    (record {
      spelled = whole;
      fits = record { body = body.fits; size = body.short };
      in_range = record { tag = tag.1; body = body.in_range };
      short = subst (λ (k : ℕ). k ≤ 65560) (sym (r_has_size made)) (leb-true _ _ p.1);
      bytes_are = r_spelling_bytes made (r_fields_bytes b.0.0 body.fits body.in_range body.bytes_are);
    })

-- ---- what is spelled is read

-- no digit stands in front of the fields
r_fields_end : (body : RBody) → IsEnd (fields_r body)
r_fields_end (r.Version msize version) = stops_end (number (codes " msize=") msize ++ text (codes " version=") version)
    (stops_then (number (codes " msize=") msize) (text (codes " version=") version)
    (number_stops (codes " msize=") msize refl))
r_fields_end (r.Auth aqid) = stops_end (qid_field (codes " aqid=") aqid) (qid_field_stops (codes " aqid=") aqid refl)
r_fields_end (r.Error ename) = stops_end (text (codes " ename=") ename) (text_stops (codes " ename=") ename refl)
r_fields_end r.Flush = tt
r_fields_end (r.Attach qid) = stops_end (qid_field (codes " qid=") qid) (qid_field_stops (codes " qid=") qid refl)
r_fields_end (r.Walk qids) = stops_end (listed (codes " qids=") qid_text qids) (qids_stops (codes " qids=") qids refl)
r_fields_end (r.Open qid iounit) = stops_end (qid_field (codes " qid=") qid ++ number (codes " iounit=") iounit)
    (stops_then (qid_field (codes " qid=") qid) (number (codes " iounit=") iounit)
    (qid_field_stops (codes " qid=") qid refl))
r_fields_end (r.Create qid iounit) = stops_end (qid_field (codes " qid=") qid ++ number (codes " iounit=") iounit)
    (stops_then (qid_field (codes " qid=") qid) (number (codes " iounit=") iounit)
    (qid_field_stops (codes " qid=") qid refl))
r_fields_end (r.Read bytes) = stops_end (bytes_in_hex (codes " data=") bytes)
    (bytes_in_hex_stops (codes " data=") bytes refl)
r_fields_end (r.Write count) = stops_end (number (codes " count=") count) (number_stops (codes " count=") count refl)
r_fields_end r.Clunk = tt
r_fields_end r.Remove = tt
r_fields_end (r.Stat stat) = stops_end (bytes_in_hex (codes " stat=") stat)
    (bytes_in_hex_stops (codes " stat=") stat refl)
r_fields_end r.Wstat = tt

whole_r-is : (m : RMsg) → size_r m.body ≤ 65560 → whole_r m [] ≡ Some m
whole_r-is m short = rw (le-leb (size_r m.body) 65560 short) refl

pub r_message_again : (m : RMsg) → Fits_r m → InRange_r m → length (spelling_r m) ≤ 65560 → AreBytes (spelling_r m)
    → r_message_at (message_words_r m) ≡ Some m
unfolding r_message_at
r_message_again m fits in_range few bytes_are =
    let rest = number (codes "tag=") m.tag ++ fields_r m.body in
    let short : size_r m.body ≤ 65560 = subst (λ (k : ℕ). k ≤ 65560) (r_has_size m) few in
    let hex = r_data_bytes m.body (bytes_behind (head (7 + length (wire.fields_r m.body)) (wire.kind_r m.body) m.tag)
    (wire.fields_r m.body) bytes_are) in
    let tag = number_again (codes "tag=") (2 ^ 16) m.tag (fields_r m.body) in_range.tag (omega (arith, in_range.tag))
    (r_fields_end m.body) in
    rw (r_name_after m.body rest, r_name_first m.body rest, tag, r_body_again m.body fits.body in_range.body short hex)
    (whole_r-is m short)
