-- The laws of whole messages to the server: what is read is spelled so, and what is spelled so is read.
use Rattle.std.proofs.Common.{◌≡◌, ℕ, ◌+◌, ◌^◌, ◌<◌, ◌≤◌, ◌&&◌, eqb, leb, List, [], ◌∷◌, ◌++◌, length, codes, Some}
use Rattle.std.proofs.Common.{refl, sym, ap, subst, ◌∙◌, arith}
use Rattle.std.specs.Int.{w16, w32, to_le_bytes}
use Rattle.std.proofs.lemmas.Bool.{eqb-true, leb-true, le-leb}
use Rattle.std.proofs.lemmas.List.{append-nil, nil_from_length}
use Rattle.ninep_types.specs.declared.message.TMsg.{TMsg}
use Rattle.ninep_types.specs.declared.message.TBody.{TBody}
use Rattle.ninep_types.specs.declared.message.TBody.TheVariants as t
use Rattle.ninep_types.specs.Spelling as wire
use Rattle.ninep_types.specs.Spelling.{head, size_t, spelling_t, Fits_t, InRange_t}
use Rattle.ninep_wire.proofs.Sizes.{t_has_size}
use Rattle.am_journal.specs.Lawful.{AreBytes}
use Rattle.am_text.specs.Lines.{first_field, after_field}
use Rattle.am_journal.proofs.FieldWords.{split-is}
use Rattle.ninep_trace.specs.Fields.{◌>>=◌, number, number_at, text, bytes_in_hex, quoted, listed}
use Rattle.ninep_trace.specs.Reading.{t_body_at, t_message_at, whole_t}
use Rattle.ninep_trace.specs.Words.{name_t, fields_t}
use Rattle.ninep_trace.proofs.ByteLists.{bytes_cons, bytes_append, bytes_behind, bytes_16, bytes_32}
use Rattle.ninep_trace.proofs.FieldLaws.{some_is, bind_some, guard_some, both, IsEnd, stops_then, stops_end}
use Rattle.ninep_trace.proofs.FieldLaws.{number_takes, number_again, number_stops}
use Rattle.ninep_trace.proofs.TBodies.{t_body_takes, t_body_again, t_name_first, t_name_after, t_fields_bytes}
use Rattle.ninep_trace.proofs.TBodies.{t_data_bytes}

-- the words of a message from its name on
abbrev pub message_words_t : TMsg → List ℕ
message_words_t m = name_t m.body ++ 32 ∷ (number (codes "tag=") m.tag ++ fields_t m.body)

-- what was read is spelled so, and has words
pub record Spells_t (words : List ℕ) (m : TMsg) : Type 0 where
  pub spelled : words ≡ message_words_t m
  pub fits : Fits_t m
  pub in_range : InRange_t m
  pub short : length (spelling_t m) ≤ 65560
  pub bytes_are : AreBytes (spelling_t m)

-- ---- what is read is spelled so

t_kind_small : (body : TBody) → wire.kind_t body < 256
t_kind_small (t.Version msize version) = omega arith
t_kind_small (t.Auth afid uname aname) = omega arith
t_kind_small (t.Flush oldtag) = omega arith
t_kind_small (t.Attach fid afid uname aname) = omega arith
t_kind_small (t.Walk fid newfid names) = omega arith
t_kind_small (t.Open fid mode) = omega arith
t_kind_small (t.Create fid name perm mode) = omega arith
t_kind_small (t.Read fid offset count) = omega arith
t_kind_small (t.Write fid offset bytes) = omega arith
t_kind_small (t.Clunk fid) = omega arith
t_kind_small (t.Remove fid) = omega arith
t_kind_small (t.Stat fid) = omega arith
t_kind_small (t.Wstat fid stat) = omega arith

t_spelling_bytes : (m : TMsg) → AreBytes (wire.fields_t m.body) → AreBytes (spelling_t m)
t_spelling_bytes m h =
    let fields = wire.fields_t m.body in
    let size = 7 + length fields in
    bytes_append (head size (wire.kind_t m.body) m.tag) fields
    (bytes_append (to_le_bytes w32 size) (wire.kind_t m.body ∷ to_le_bytes w16 m.tag) (bytes_32 size)
    (bytes_cons (wire.kind_t m.body) (to_le_bytes w16 m.tag) (t_kind_small m.body) (bytes_16 m.tag)))
    h

tag_some : (n : ℕ) (fields : List ℕ) → 0 < length (number (codes "tag=") n ++ fields)
unfolding number
tag_some n fields = omega arith

pub t_body_fits : (name bytes : List ℕ) (x : TBody × List ℕ) (tag : ℕ) → t_body_at name bytes ≡ Some x
    → Fits_t (record { tag = tag; body = x.0 })
t_body_fits name bytes x tag e = let body = t_body_takes name bytes x e in
    record { body = body.fits; size = body.short }

pub t_message_takes : (bytes : List ℕ) (m : TMsg) → t_message_at bytes ≡ Some m → Spells_t bytes m
unfolding t_message_at
t_message_takes bytes m e =
    let a = bind_some (number_at (codes "tag=") (2 ^ 16) (after_field bytes))
    (λ tag. t_body_at (first_field bytes) tag.1 >>= λ body. whole_t (record { tag = tag.0; body = body.0 }) body.1)
    m e in
    let b = bind_some (t_body_at (first_field bytes) a.0.1) (λ body. whole_t (record { tag = a.0.0; body = body.0 })
    body.1) m a.2 in
    let made : TMsg = record { tag = a.0.0; body = b.0.0 } in
    let g = guard_some (eqb (length b.0.1) 0 && leb (size_t b.0.0) 65560) (Some made) m b.2 in
    let p = both (eqb (length b.0.1) 0) (leb (size_t b.0.0) 65560) g.0 in
    let tag = number_takes (codes "tag=") (2 ^ 16) (after_field bytes) a.0.0 a.0.1 a.1 in
    let body = t_body_takes (first_field bytes) a.0.1 b.0 b.1 in
    let nothing : b.0.1 ≡ [] = nil_from_length b.0.1 (eqb-true _ _ p.0) in
    let fields : a.0.1 ≡ fields_t b.0.0 = body.takes ∙ ap (λ (r : List ℕ). fields_t b.0.0 ++ r) nothing
    ∙ append-nil (fields_t b.0.0) in
    let rest : after_field bytes ≡ number (codes "tag=") a.0.0 ++ fields_t b.0.0 =
    tag.0 ∙ ap (λ (r : List ℕ). number (codes "tag=") a.0.0 ++ r) fields in
    let whole = split-is bytes (name_t b.0.0) (number (codes "tag=") a.0.0 ++ fields_t b.0.0) body.name_is rest
    (tag_some a.0.0 (fields_t b.0.0)) in
    subst (Spells_t bytes) (some_is made m g.1)
    (record {
      spelled = whole;
      fits = record { body = body.fits; size = body.short };
      in_range = record { tag = tag.1; body = body.in_range };
      short = subst (λ (k : ℕ). k ≤ 65560) (sym (t_has_size made)) (leb-true _ _ p.1);
      bytes_are = t_spelling_bytes made (t_fields_bytes b.0.0 body.fits body.in_range body.bytes_are);
    })

-- ---- what is spelled is read

-- no digit stands in front of the fields
t_fields_end : (body : TBody) → IsEnd (fields_t body)
t_fields_end (t.Version msize version) = stops_end (number (codes " msize=") msize ++ text (codes " version=") version)
    (stops_then (number (codes " msize=") msize) (text (codes " version=") version)
    (number_stops (codes " msize=") msize refl))
t_fields_end (t.Auth afid uname aname) = stops_end (number (codes " afid=") afid
    ++ (text (codes " uname=") uname ++ text (codes " aname=") aname))
    (stops_then (number (codes " afid=") afid) (text (codes " uname=") uname ++ text (codes " aname=") aname)
    (number_stops (codes " afid=") afid refl))
t_fields_end (t.Flush oldtag) = stops_end (number (codes " oldtag=") oldtag)
    (number_stops (codes " oldtag=") oldtag refl)
t_fields_end (t.Attach fid afid uname aname) = stops_end (number (codes " fid=") fid
    ++ (number (codes " afid=") afid ++ (text (codes " uname=") uname ++ text (codes " aname=") aname)))
    (stops_then (number (codes " fid=") fid) (number (codes " afid=") afid
    ++ (text (codes " uname=") uname ++ text (codes " aname=") aname)) (number_stops (codes " fid=") fid refl))
t_fields_end (t.Walk fid newfid names) = stops_end (number (codes " fid=") fid
    ++ (number (codes " newfid=") newfid ++ listed (codes " names=") quoted names))
    (stops_then (number (codes " fid=") fid) (number (codes " newfid=") newfid ++ listed (codes " names=") quoted names)
    (number_stops (codes " fid=") fid refl))
t_fields_end (t.Open fid mode) = stops_end (number (codes " fid=") fid ++ number (codes " mode=") mode)
    (stops_then (number (codes " fid=") fid) (number (codes " mode=") mode) (number_stops (codes " fid=") fid refl))
t_fields_end (t.Create fid name perm mode) = stops_end (number (codes " fid=") fid
    ++ (text (codes " name=") name ++ (number (codes " perm=") perm ++ number (codes " mode=") mode)))
    (stops_then (number (codes " fid=") fid) (text (codes " name=") name
    ++ (number (codes " perm=") perm ++ number (codes " mode=") mode)) (number_stops (codes " fid=") fid refl))
t_fields_end (t.Read fid offset count) = stops_end (number (codes " fid=") fid
    ++ (number (codes " offset=") offset ++ number (codes " count=") count))
    (stops_then (number (codes " fid=") fid) (number (codes " offset=") offset ++ number (codes " count=") count)
    (number_stops (codes " fid=") fid refl))
t_fields_end (t.Write fid offset bytes) = stops_end (number (codes " fid=") fid
    ++ (number (codes " offset=") offset ++ bytes_in_hex (codes " data=") bytes))
    (stops_then (number (codes " fid=") fid) (number (codes " offset=") offset ++ bytes_in_hex (codes " data=") bytes)
    (number_stops (codes " fid=") fid refl))
t_fields_end (t.Clunk fid) = stops_end (number (codes " fid=") fid) (number_stops (codes " fid=") fid refl)
t_fields_end (t.Remove fid) = stops_end (number (codes " fid=") fid) (number_stops (codes " fid=") fid refl)
t_fields_end (t.Stat fid) = stops_end (number (codes " fid=") fid) (number_stops (codes " fid=") fid refl)
t_fields_end (t.Wstat fid stat) = stops_end (number (codes " fid=") fid ++ bytes_in_hex (codes " stat=") stat)
    (stops_then (number (codes " fid=") fid) (bytes_in_hex (codes " stat=") stat)
    (number_stops (codes " fid=") fid refl))

whole_t-is : (m : TMsg) → size_t m.body ≤ 65560 → whole_t m [] ≡ Some m
whole_t-is m short = rw (le-leb (size_t m.body) 65560 short) refl

pub t_message_again : (m : TMsg) → Fits_t m → InRange_t m → length (spelling_t m) ≤ 65560 → AreBytes (spelling_t m)
    → t_message_at (message_words_t m) ≡ Some m
unfolding t_message_at
t_message_again m fits in_range few bytes_are =
    let rest = number (codes "tag=") m.tag ++ fields_t m.body in
    let short : size_t m.body ≤ 65560 = subst (λ (k : ℕ). k ≤ 65560) (t_has_size m) few in
    let hex = t_data_bytes m.body (bytes_behind (head (7 + length (wire.fields_t m.body)) (wire.kind_t m.body) m.tag)
    (wire.fields_t m.body) bytes_are) in
    let tag = number_again (codes "tag=") (2 ^ 16) m.tag (fields_t m.body) in_range.tag (omega (arith, in_range.tag))
    (t_fields_end m.body) in
    rw (t_name_after m.body rest, t_name_first m.body rest, tag, t_body_again m.body fits.body in_range.body short hex)
    (whole_t-is m short)
