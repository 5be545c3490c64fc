-- A record is read as its stat, and what is read is a record.
use Rattle.std.proofs.Common.{◌≡◌, ℕ, ◌+◌, ◌^◌, ◌<◌, Bool, true, false, cond, ◌&&◌, eqb, leb, List, ◌++◌, length}
use Rattle.std.proofs.Common.{get_or, take, drop, Option, Some, None, refl, sym, ap, subst, ◌∙◌, arith, inl, inr}
use Rattle.std.specs.Prelude.{Result, Ok, Err, IfOk, IfSome}
use Rattle.std.specs.Int.{w16, w32, w64, from_le_bytes, to_le_bytes}
use Rattle.std.specs.Str.{bytes_eq}
use Rattle.std.proofs.lemmas.Bool.{eqb-true, eq-eqb, le-leb, cases_lt}
use Rattle.std.proofs.lemmas.List.{take_at, length-take, get_or-drop, get_or-take, get_or_past}
use Rattle.std.proofs.lemmas.Nat.{from_le_bytes-to_le_bytes_2, from_le_bytes-to_le_bytes_4, from_le_bytes-to_le_bytes_8}
use Rattle.std.proofs.lemmas.Slice.Eq.{bytes_eq-Decides}
use Rattle.ninep_types.specs.Fields.{is_text}
use Rattle.ninep_frame.specs.declared.stat.Stat.{Stat}
use Rattle.ninep_frame.specs.Places.{u16_at, u32_at, u64_at, name_at, stat_at, is_formed, stat_of}
use Rattle.ninep_frame.specs.Records.{owners, no_device, no_times, stat_fields, record_of, IsRecord, InRange}
use Rattle.ninep_frame.proofs.Sizes.{fields_len, record_len}

both : (a b : Bool) → (a && b) ≡ true → (a ≡ true) × (b ≡ true)
both true b e = (refl, e)
both false b e = absurd cc

all_four : (a b c d : Bool) → a ≡ true → b ≡ true → c ≡ true → d ≡ true → (a && b && c && d) ≡ true
all_four a b c d p q r s = rw (p, q, r, s) refl

four_all : (a b c d : Bool) → (a && b && c && d) ≡ true → (a ≡ true) × (b ≡ true) × (c ≡ true) × (d ≡ true)
four_all a b c d e =
    let x = both (a && b && c) d e in
    let y = both (a && b) c x.0 in
    let z = both a b y.0 in
    (z.0, z.1, y.1, x.1)

-- ---- a record is read as its stat

size_at : (s : Stat) → u16_at 0 (record_of s) ≡ from_le_bytes w16 (to_le_bytes w16 (length (stat_fields s)))
unfolding record_of
size_at s = refl

name_len_at : (s : Stat) → u16_at 41 (record_of s) ≡ from_le_bytes w16 (to_le_bytes w16 (length s.name))
unfolding record_of stat_fields owners no_device no_times
name_len_at s = refl

name_part : (s : Stat) → drop 43 (record_of s) ≡ s.name ++ owners
unfolding record_of stat_fields no_device no_times
name_part s = refl

read_name : (s : Stat) → length s.name < 2 ^ 16 → name_at (record_of s) ≡ s.name
read_name s lt = rw (name_len_at s, from_le_bytes-to_le_bytes_2 (length s.name) lt, name_part s)
    (take_at s.name owners (length s.name) refl)

read_vers : (s : Stat) → u32_at 9 (record_of s) ≡ from_le_bytes w32 (to_le_bytes w32 s.qid.vers)
unfolding record_of stat_fields no_device no_times
read_vers s = refl

read_path : (s : Stat) → u64_at 13 (record_of s) ≡ from_le_bytes w64 (to_le_bytes w64 s.qid.path)
unfolding record_of stat_fields no_device no_times
read_path s = refl

read_mode : (s : Stat) → u32_at 21 (record_of s) ≡ from_le_bytes w32 (to_le_bytes w32 s.mode)
unfolding record_of stat_fields no_device no_times
read_mode s = refl

read_length : (s : Stat) → u64_at 33 (record_of s) ≡ from_le_bytes w64 (to_le_bytes w64 s.length)
unfolding record_of stat_fields no_device no_times
read_length s = refl

read_kind : (s : Stat) → get_or (record_of s) 8 0 ≡ s.qid.kind
unfolding record_of stat_fields no_device no_times
read_kind s = refl

pub stat_at-record : (s : Stat) → InRange s → length s.name < 2 ^ 16 → stat_at (record_of s) ≡ s
unfolding stat_at
stat_at-record s fits lt =
    rw (
      read_kind s,
      read_vers s,
      from_le_bytes-to_le_bytes_4 s.qid.vers fits.qid.vers,
      read_path s,
      from_le_bytes-to_le_bytes_8 s.qid.path fits.qid.path,
      read_mode s,
      from_le_bytes-to_le_bytes_4 s.mode fits.mode,
      read_length s,
      from_le_bytes-to_le_bytes_8 s.length fits.len,
      read_name s lt,
    ) refl

name_of_at : (bytes : List ℕ) → (stat_at bytes).name ≡ name_at bytes
unfolding stat_at
name_of_at bytes = refl

formed : (s : Stat) → is_text s.name ≡ true → 59 + length s.name < 2 ^ 16 → is_formed (record_of s) ≡ true
unfolding is_formed
formed s text size =
    let len : length (record_of s) ≡ 61 + length s.name = record_len s in
    let fields : length (stat_fields s) < 2 ^ 16 = omega (arith, fields_len s) in
    let size-is : u16_at 0 (record_of s) ≡ 59 + length s.name = size_at s
    ∙ from_le_bytes-to_le_bytes_2 (length (stat_fields s)) fields ∙ fields_len s in
    let name-is : u16_at 41 (record_of s) ≡ length s.name = name_len_at s
    ∙ from_le_bytes-to_le_bytes_2 (length s.name) (omega arith) in
    let whole : leb 61 (length (record_of s)) ≡ true = le-leb _ _ (omega arith) in
    let sized : eqb (length (record_of s)) (2 + u16_at 0 (record_of s)) ≡ true = eq-eqb _ _ (omega arith) in
    let filled : eqb (length (record_of s)) (61 + u16_at 41 (record_of s)) ≡ true = eq-eqb _ _ (omega arith) in
    let named : is_text (name_at (record_of s)) ≡ true = ap is_text (read_name s (omega arith)) ∙ text in
    all_four _ _ _ _ whole sized filled named

again : (s : Stat) → InRange s → is_text s.name ≡ true → 59 + length s.name < 2 ^ 16 → stat_of (record_of s) ≡ Some s
unfolding stat_of
again s fits text size =
    let stat : stat_at (record_of s) ≡ s = stat_at-record s fits (omega arith) in
    let same : bytes_eq (record_of (stat_at (record_of s))) (record_of s) ≡ true =
    (bytes_eq-Decides (record_of (stat_at (record_of s))) (record_of s)).1 (ap record_of stat) in
    rw (formed s text size, same) (ap (λ (t : Stat). Some t) stat)

pub read_again : (s : Stat) (bytes : List ℕ) → InRange s → IsRecord s bytes → stat_of bytes ≡ Some s
read_again s bytes fits r = ap stat_of r.bytes_are ∙ again s fits r.text r.size

-- ---- what is read is a record

guard_some : (b : Bool) (t s : Stat) → cond b (Some t) None ≡ Some s → (b ≡ true) × (t ≡ s)
guard_some true t s e = (refl, cc)
guard_some false t s e = absurd cc

IsBytes-part : (n at : ℕ) (bytes : List ℕ) → ((i : ℕ) → get_or bytes i 0 < 256) → (i : ℕ)
    → get_or (take n (drop at bytes)) i 0 < 256
IsBytes-part n at bytes fits i =
    elim (cases_lt i n) [
      | inl lt ↦ rw (get_or-take n (drop at bytes) i 0 lt, get_or-drop at bytes i 0) (fits (at + i))
      | inr le ↦ rw (get_or_past (take n (drop at bytes)) i 0 (omega (arith, length-take n (drop at bytes))))
          (omega arith)
    ]

below16 : (bytes : List ℕ) → ((i : ℕ) → get_or bytes i 0 < 256) → from_le_bytes w16 bytes < 2 ^ 16
below16 bytes fits = omega (arith, fits 0, fits 1)

below32 : (bytes : List ℕ) → ((i : ℕ) → get_or bytes i 0 < 256) → from_le_bytes w32 bytes < 2 ^ 32
below32 bytes fits = omega (arith, fits 0, fits 1, fits 2, fits 3)

below64 : (bytes : List ℕ) → ((i : ℕ) → get_or bytes i 0 < 256) → from_le_bytes w64 bytes < 2 ^ 64
below64 bytes fits = omega (arith, fits 0, fits 1, fits 2, fits 3, fits 4, fits 5, fits 6, fits 7)

at_in_range : (bytes : List ℕ) → ((i : ℕ) → get_or bytes i 0 < 256) → InRange (stat_at bytes)
unfolding stat_at
at_in_range bytes fits = record {
  qid = record {
    kind = fits 8;
    vers = below32 _ (IsBytes-part 4 9 bytes fits);
    path = below64 _
        (IsBytes-part 8 13 bytes fits);
  };
  mode = below32 _ (IsBytes-part 4 21 bytes fits);
  len = below64 _ (IsBytes-part 8 33 bytes fits);
}

at_is_record : (bytes : List ℕ) → ((i : ℕ) → get_or bytes i 0 < 256)
    → is_formed bytes ≡ true → record_of (stat_at bytes) ≡ bytes → IsRecord (stat_at bytes) bytes
unfolding is_formed
at_is_record bytes fits formed same =
    let f = four_all _ _ _ _ formed in
    let text : is_text (stat_at bytes).name ≡ true = ap is_text (name_of_at bytes) ∙ f.3 in
    let len : length bytes ≡ 2 + u16_at 0 bytes = eqb-true _ _ f.1 in
    let small : u16_at 0 bytes < 2 ^ 16 = below16 _ (IsBytes-part 2 0 bytes fits) in
    record {
      text = text;
      size = omega (arith, record_len (stat_at bytes), ap (λ (l : List ℕ). length l) same);
      bytes_are = sym same;
    }

pub is_found : (bytes : List ℕ) (s : Stat) → ((i : ℕ) → get_or bytes i 0 < 256) → stat_of bytes ≡ Some s
    → IsRecord s bytes × InRange s
unfolding stat_of
is_found bytes s fits e =
    let g = guard_some (is_formed bytes && bytes_eq (record_of (stat_at bytes)) bytes) (stat_at bytes) s e in
    let b = both (is_formed bytes) (bytes_eq (record_of (stat_at bytes)) bytes) g.0 in
    let same : record_of (stat_at bytes) ≡ bytes = (bytes_eq-Decides (record_of (stat_at bytes)) bytes).0 b.1 in
    subst (λ (t : Stat). IsRecord t bytes × InRange t) g.1 (at_is_record bytes fits b.0 same, at_in_range bytes fits)

-- ---- the clauses of a reading

pub reads_record : {E : Type 0} (bytes : List ℕ) (r : Result (Option Stat) E) → ((i : ℕ) → get_or bytes i 0 < 256)
    → IfOk r (λ found. found ≡ stat_of bytes) → IfOk r (λ found. IfSome found (λ s. IsRecord s bytes))
reads_record bytes (Ok None) fits e = tt
reads_record bytes (Ok (Some s)) fits e = (is_found bytes s fits (sym e)).0
reads_record bytes (Err d) fits e = tt

pub reads_in_range : {E : Type 0} (bytes : List ℕ) (r : Result (Option Stat) E) → ((i : ℕ) → get_or bytes i 0 < 256)
    → IfOk r (λ found. found ≡ stat_of bytes) → IfOk r (λ found. IfSome found InRange)
reads_in_range bytes (Ok None) fits e = tt
reads_in_range bytes (Ok (Some s)) fits e = (is_found bytes s fits (sym e)).1
reads_in_range bytes (Err d) fits e = tt

pub reads_again : {E : Type 0} (bytes : List ℕ) (r : Result (Option Stat) E) → IfOk r (λ found. found ≡ stat_of bytes)
    → (s : Stat) → InRange s → IsRecord s bytes → IfOk r (λ found. found ≡ Some s)
reads_again bytes (Ok found) e s fits is = e ∙ read_again s bytes fits is
reads_again bytes (Err d) e s fits is = tt
