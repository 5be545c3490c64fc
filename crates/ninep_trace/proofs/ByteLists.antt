-- Spellings are lists of bytes.
use Rattle.std.proofs.Common.{◌≡◌, ℕ, zero, suc, ◌+◌, ◌*◌, ◌/◌, ◌%◌, ◌<◌, ◌≤◌, true, List, [], ◌∷◌, ◌++◌, length, subst}
use Rattle.std.proofs.Common.{arith, inl, inr, length-append}
use Rattle.std.specs.Prelude.{All}
use Rattle.std.specs.Char.{encode_utf8}
use Rattle.std.specs.Int.{w16, w32, w64, to_le_bytes}
use Rattle.std.specs.List.{AllByRecursion, flat_map}
use Rattle.std.specs.Str.{encode_utf8_all}
use Rattle.std.proofs.Math.Utf8.{scalar, scalars, scalar_cases}
use Rattle.std.proofs.lemmas.Bool.{and_parts, cases_lt, lt-ltb, le-ltb}
use Rattle.std.proofs.lemmas.List.Elements.{recursion_from_All}
use Rattle.std.proofs.lemmas.Str.{IsUtf8-from_is_utf8}
use Rattle.ninep_types.specs.declared.message.Qid.{Qid}
use Rattle.ninep_types.specs.Fields.{is_text, string, counted, listed, qid_bytes}
use Rattle.ninep_types.specs.Spelling.{AreNames, IsQid, IsString}
use Rattle.am_journal.specs.Lawful.{AreBytes}
use Rattle.ninep_trace.proofs.FieldLaws.{both}

-- ---- lists

pub no_bytes : AreBytes []
no_bytes i = omega arith

pub bytes_cons : (b : ℕ) (bs : List ℕ) → b < 256 → AreBytes bs → AreBytes (b ∷ bs)
bytes_cons b bs h k zero = h
bytes_cons b bs h k (suc i) = k i

pub bytes_append : (a b : List ℕ) → AreBytes a → AreBytes b → AreBytes (a ++ b)
bytes_append [] b h k i = k i
bytes_append (x ∷ a) b h k zero = h zero
bytes_append (x ∷ a) b h k (suc i) = bytes_append a b (λ j. h (suc j)) k i

-- the bytes behind a front
pub bytes_behind : (a b : List ℕ) → AreBytes (a ++ b) → AreBytes b
bytes_behind [] b h = h
bytes_behind (x ∷ a) b h = bytes_behind a b (λ i. h (suc i))

-- ---- numbers

pub bytes_16 : (n : ℕ) → AreBytes (to_le_bytes w16 n)
bytes_16 n zero = omega arith
bytes_16 n (suc zero) = omega arith
bytes_16 n (suc (suc i)) = omega arith

pub bytes_32 : (n : ℕ) → AreBytes (to_le_bytes w32 n)
bytes_32 n zero = omega arith
bytes_32 n (suc zero) = omega arith
bytes_32 n (suc (suc zero)) = omega arith
bytes_32 n (suc (suc (suc zero))) = omega arith
bytes_32 n (suc (suc (suc (suc i)))) = omega arith

pub bytes_64 : (n : ℕ) → AreBytes (to_le_bytes w64 n)
bytes_64 n zero = omega arith
bytes_64 n (suc zero) = omega arith
bytes_64 n (suc (suc zero)) = omega arith
bytes_64 n (suc (suc (suc zero))) = omega arith
bytes_64 n (suc (suc (suc (suc zero)))) = omega arith
bytes_64 n (suc (suc (suc (suc (suc zero))))) = omega arith
bytes_64 n (suc (suc (suc (suc (suc (suc zero)))))) = omega arith
bytes_64 n (suc (suc (suc (suc (suc (suc (suc zero))))))) = omega arith
bytes_64 n (suc (suc (suc (suc (suc (suc (suc (suc i)))))))) = omega arith

-- ---- texts

two_bytes : (a b : ℕ) → a < 256 → b < 256 → AreBytes (a ∷ b ∷ [])
two_bytes a b h k = bytes_cons a (b ∷ []) h (bytes_cons b [] k no_bytes)

three_bytes : (a b c : ℕ) → a < 256 → b < 256 → c < 256 → AreBytes (a ∷ b ∷ c ∷ [])
three_bytes a b c h k m = bytes_cons a (b ∷ c ∷ []) h (two_bytes b c k m)

four_bytes : (a b c d : ℕ) → a < 256 → b < 256 → c < 256 → d < 256 → AreBytes (a ∷ b ∷ c ∷ d ∷ [])
four_bytes a b c d h k m n = bytes_cons a (b ∷ c ∷ d ∷ []) h (three_bytes b c d k m n)

encoded_bytes : (c : ℕ) → c < 1114112 → AreBytes (encode_utf8 c)
unfolding encode_utf8
encoded_bytes c top =
    elim (cases_lt c 128) [
      | inl h ↦ rw (lt-ltb c 128 h) (bytes_cons c [] (omega arith) no_bytes)
      | inr h ↦ elim (cases_lt c 2048) [
        | inl k ↦ rw (le-ltb c 128 h, lt-ltb c 2048 k) (two_bytes (192 + c / 64) (128 + c % 64) (omega arith)
            (omega arith))
        | inr k ↦ elim (cases_lt c 65536) [
          | inl m ↦ rw (le-ltb c 128 h, le-ltb c 2048 k, lt-ltb c 65536 m)
              (three_bytes (224 + c / 4096) (128 + c / 64 % 64) (128 + c % 64) (omega arith) (omega arith)
              (omega arith))
          | inr m ↦ rw (le-ltb c 128 h, le-ltb c 2048 k, le-ltb c 65536 m)
              (four_bytes (240 + c / 262144) (128 + c / 4096 % 64) (128 + c / 64 % 64) (128 + c % 64) (omega arith)
              (omega arith) (omega arith) (omega arith))
        ]
      ]
    ]

scalar_top : (c : ℕ) → scalar c ≡ true → c < 1114112
scalar_top c e = elim (scalar_cases c e) [ inl h ↦ omega arith | inr h ↦ h.1 ]

all_bytes : (cs : List ℕ) → scalars cs ≡ true → AreBytes (encode_utf8_all cs)
all_bytes [] e = no_bytes
all_bytes (c ∷ cs) e =
    let p = and_parts (scalar c) (scalars cs) e in
    bytes_append (encode_utf8 c) (encode_utf8_all cs) (encoded_bytes c (scalar_top c p.0)) (all_bytes cs p.1)

text_bytes : (bytes : List ℕ) → is_text bytes ≡ true → AreBytes bytes
unfolding is_text
text_bytes bytes e =
    let u = IsUtf8-from_is_utf8 bytes (both _ _ e).0 in
    subst AreBytes u.1.1 (all_bytes u.0 u.1.0)

pub string_bytes : (text : List ℕ) → IsString text → AreBytes (string text)
string_bytes text fits = bytes_append (to_le_bytes w16 (length text)) text (bytes_16 (length text))
    (text_bytes text fits.text)

strings_bytes : (names : List (List ℕ)) → AllByRecursion IsString names → AreBytes (flat_map string names)
strings_bytes [] fits = no_bytes
strings_bytes (name ∷ names) fits = bytes_append (string name) (flat_map string names) (string_bytes name fits.0)
    (strings_bytes names fits.1)

pub names_bytes : (names : List (List ℕ)) → AreNames names → AreBytes (listed string names)
names_bytes names fits = bytes_append (to_le_bytes w16 (length names)) (flat_map string names) (bytes_16 (length names))
    (strings_bytes names (recursion_from_All IsString names fits.1))

strings_short : (names : List (List ℕ)) → AllByRecursion IsString names
    → length (flat_map string names) ≤ length names * 65538
strings_short [] fits = omega arith
strings_short (name ∷ names) fits =
    omega (arith, length-append (string name) (flat_map string names), strings_short names fits.1, fits.0.len)

-- sixteen names take few bytes
pub names_short : (names : List (List ℕ)) → AreNames names → length (flat_map string names) ≤ 1048608
names_short names fits = omega (arith, strings_short names (recursion_from_All IsString names fits.1), fits.0)

-- ---- data and qids

pub data_bytes : (bytes : List ℕ) → AreBytes bytes → AreBytes (counted w32 bytes)
data_bytes bytes h = bytes_append (to_le_bytes w32 (length bytes)) bytes (bytes_32 (length bytes)) h

pub stat_bytes : (bytes : List ℕ) → AreBytes bytes → AreBytes (counted w16 bytes)
stat_bytes bytes h = bytes_append (to_le_bytes w16 (length bytes)) bytes (bytes_16 (length bytes)) h

pub qid_are : (q : Qid) → IsQid q → AreBytes (qid_bytes q)
qid_are q fits = bytes_cons q.kind (to_le_bytes w32 q.vers ++ to_le_bytes w64 q.path) fits.kind
    (bytes_append (to_le_bytes w32 q.vers) (to_le_bytes w64 q.path) (bytes_32 q.vers) (bytes_64 q.path))

several_qids_are : (qids : List Qid) → AllByRecursion IsQid qids → AreBytes (flat_map qid_bytes qids)
several_qids_are [] fits = no_bytes
several_qids_are (q ∷ qids) fits = bytes_append (qid_bytes q) (flat_map qid_bytes qids) (qid_are q fits.0)
    (several_qids_are qids fits.1)

pub qids_are : (qids : List Qid) → All IsQid qids → AreBytes (listed qid_bytes qids)
qids_are qids fits = bytes_append (to_le_bytes w16 (length qids)) (flat_map qid_bytes qids) (bytes_16 (length qids))
    (several_qids_are qids (recursion_from_All IsQid qids fits))
