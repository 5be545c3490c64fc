-- Marks of a text: those that stand where the text is changed, and the next stride's.
use Rattle.std.proofs.Common.{◌≡◌, ℕ, zero, suc, ◌+◌, ◌-◌, ◌*◌, ◌<◌, ◌≤◌, Bool, true, false, cond, List, [], ◌∷◌, ◌++◌}
use Rattle.std.proofs.Common.{encode_utf8, length, take, drop, slice_set, inl, inr, refl, sym, ap, ◌∙◌, length-append}
use Rattle.std.proofs.Common.{length-drop, length-take, length-take-le, take-append-drop, take-take, take_all}
use Rattle.std.proofs.Common.{drop-drop, take-add, arith}
use Rattle.std.proofs.lemmas.List.{get_or-set_same, get_or-set_other}
use Rattle.std.proofs.lemmas.Bool.{cases_lt}
use Rattle.std.proofs.lemmas.Grind.{flat_map-append}
use Rattle.std.proofs.lemmas.Str.{length-encode, len_utf8_bounds}
use lib.Utf8.{scalar}
use lib.Seq.{take-append-le, take-append-add, drop-append-add}
use Rattle.am_text.specs.Utf8.{rune_bytes, utf8}
use Rattle.am_text.specs.declared.range.Range.{Range}
use Rattle.rune_gap.specs.Gap.{around, IsGapIn}
use Rattle.rune_gap.specs.Marks.{stride, size, noted, IsMarked, IsMarkedBack}

pub size-append : (a b : List ℕ) → size (a ++ b) ≡ size a + size b
size-append a b = ap (λ (l : List ℕ). length l) (flat_map-append rune_bytes a b) ∙ length-append (utf8 a) (utf8 b)

-- a rune has four bytes at most
few_bytes : (c : ℕ) (b : Bool) → length (cond b (encode_utf8 c) (encode_utf8 0xFFFD)) ≤ 4
few_bytes c true = omega (arith, length-encode c, (len_utf8_bounds c).1)
few_bytes c false = omega (arith, length-encode 0xFFFD, (len_utf8_bounds 0xFFFD).1)

pub size_few : (text : List ℕ) → size text ≤ 4 * length text
size_few [] = omega arith
size_few (c ∷ text) = omega (arith, length-append (rune_bytes c) (utf8 text), few_bytes c (scalar c), size_few text)

pub size_take : (n : ℕ) (text : List ℕ) → size (take n text) ≤ 4 * length text
size_take n text = omega (arith, size_few (take n text), length-take n text)

pub size_drop : (n : ℕ) (text : List ℕ) → size (drop n text) ≤ 4 * length text
size_drop n text = omega (arith, size_few (drop n text), length-drop n text)

-- ---- a plain text, whose runes take one byte each

-- a rune has one byte at least
some_bytes : (c : ℕ) (b : Bool) → 1 ≤ length (cond b (encode_utf8 c) (encode_utf8 0xFFFD))
some_bytes c true = omega (arith, length-encode c, (len_utf8_bounds c).0)
some_bytes c false = omega (arith, length-encode 0xFFFD, (len_utf8_bounds 0xFFFD).0)

pub some_byte : (c : ℕ) → 1 ≤ length (rune_bytes c)
some_byte c = some_bytes c (scalar c)

pub size_least : (text : List ℕ) → length text ≤ size text
size_least [] = omega arith
size_least (c ∷ text) = omega (
  arith,
  length-append (rune_bytes c) (utf8 text),
  some_bytes c (scalar c),
  size_least text,
)

-- so are its parts
pub plain_take : (text : List ℕ) (n : ℕ) → size text ≡ length text → size (take n text) ≡ length (take n text)
plain_take text n plain =
    omega (
      arith,
      plain,
      sym (size-append (take n text) (drop n text)) ∙ ap size (take-append-drop n text),
      sym (length-append (take n text) (drop n text)) ∙ ap (λ (l : List ℕ). length l) (take-append-drop n text),
      size_least (take n text),
      size_least (drop n text),
    )

pub plain_drop : (text : List ℕ) (n : ℕ) → size text ≡ length text → size (drop n text) ≡ length (drop n text)
plain_drop text n plain =
    omega (
      arith,
      plain,
      sym (size-append (take n text) (drop n text)) ∙ ap size (take-append-drop n text),
      sym (length-append (take n text) (drop n text)) ∙ ap (λ (l : List ℕ). length l) (take-append-drop n text),
      size_least (take n text),
      size_least (drop n text),
    )

pub plain_part : (text : List ℕ) (m n : ℕ) → size text ≡ length text
    → size (take n (drop m text)) ≡ length (take n (drop m text))
plain_part text m n plain = plain_take (drop m text) n (plain_drop text m plain)

pub plain_left : (a b : List ℕ) → size (a ++ b) ≡ length (a ++ b) → size a ≡ length a
plain_left a b plain = omega (arith, plain, size-append a b, length-append a b, size_least a, size_least b)

pub plain_right : (a b : List ℕ) → size (a ++ b) ≡ length (a ++ b) → size b ≡ length b
plain_right a b plain = omega (arith, plain, size-append a b, length-append a b, size_least a, size_least b)

-- and it stays plain where a plain text is put in
pub plain_joined : (a b : List ℕ) → size a ≡ length a → size b ≡ length b → size (a ++ b) ≡ length (a ++ b)
plain_joined a b ea eb = omega (arith, size-append a b, length-append a b, ea, eb)

-- ---- one more stride is noted

noted_below : (marks : List ℕ) (k x m : ℕ) → m ≤ k → noted (slice_set marks k x) m ≡ noted marks m
noted_below marks k x zero le = refl
noted_below marks k x (suc m) le = get_or-set_other marks k m x 0 (λ e. absurd (omega (arith, le, e)))

noted_at : (marks : List ℕ) (k x : ℕ) → k < length marks → noted (slice_set marks k x) (suc k) ≡ x
noted_at marks k x h = get_or-set_same marks k x 0 h

pub one_more : (value : ℕ → ℕ) (marks : List ℕ) (k x len : ℕ) → k < length marks → x ≡ value (k + 1)
    → ((m : ℕ) → m ≤ k → m * stride ≤ len → noted marks m ≡ value m)
    → (m : ℕ) → m ≤ k + 1 → m * stride ≤ len → noted (slice_set marks k x) m ≡ value m
one_more value marks k x len h e before m le within = elim (cases_lt k m) as
    (λ s. noted (slice_set marks k x) m ≡ value m) [
      | inl lt ↦ let same : m ≡ suc k = omega (arith, le, lt) in let next : k + 1 ≡ m = omega (arith, le, lt) in
          ap (noted (slice_set marks k x)) same ∙ noted_at marks k x h ∙ e ∙ ap value next
      | inr ge ↦ noted_below marks k x m ge ∙ before m ge within
    ]

pub front_more : (text : List ℕ) (k q : ℕ) → q ≡ k * stride → size (take (k * stride) text) + size
    (take (q + stride - q) (drop q text)) ≡ size (take ((k + 1) * stride) text)
front_more text k q e =
    let n : q + stride - q ≡ stride = omega arith in
    let next : k * stride + stride ≡ (k + 1) * stride = omega arith in
    ap (λ (i : ℕ). size (take (k * stride) text) + size (take i (drop q text))) n
    ∙ ap (λ (i : ℕ). size (take (k * stride) text) + size (take stride (drop i text))) e
    ∙ sym (size-append (take (k * stride) text) (take stride (drop (k * stride) text)))
    ∙ ap size (sym (take-add (k * stride) stride text)) ∙ ap (λ (i : ℕ). size (take i text)) next

pub back_more : (text : List ℕ) (k q : ℕ) → q ≡ length text - k * stride → (k + 1) * stride ≤ length text
    → size (drop (length text - k * stride) text) + size (take (q - (q - stride)) (drop (q - stride) text))
    ≡ size (drop (length text - (k + 1) * stride) text)
back_more text k q e h =
    let a : ℕ = q - stride in
    let n : q - a ≡ stride = omega (arith, e, h) in
    let end : a + stride ≡ length text - k * stride = omega (arith, e, h) in
    let start : a ≡ length text - (k + 1) * stride = omega (arith, e, h) in
    let part : List ℕ = take stride (drop a text) in
    let rest : List ℕ = drop stride (drop a text) in
    let order : size rest + size part ≡ size part + size rest = omega arith in
    ap (λ (i : ℕ). size (drop (length text - k * stride) text) + size (take i (drop a text))) n
    ∙ ap (λ (l : List ℕ). size l + size part) (sym (drop-drop stride a text ∙ ap (λ (i : ℕ). drop i text) end))
    ∙ order ∙ sym (size-append part rest) ∙ ap size (take-append-drop stride (drop a text))
    ∙ ap (λ (i : ℕ). size (drop i text)) start

-- ---- what is noted of one text stands for another that has the same runes there

pub stands_front : (marks a b : List ℕ) (n : ℕ) → take n a ≡ take n b → IsMarked marks a n → IsMarked marks b n
stands_front marks a b n e h k le = h k le ∙ ap size (sym (take-take (k * stride) n a le) ∙ ap (take (k * stride)) e
    ∙ take-take (k * stride) n b le)

last_part : (a : List ℕ) (n m : ℕ) → n ≤ length a → m ≤ n → drop (n - m) (drop (length a - n) a) ≡ drop (length a - m) a
last_part a n m h le = let e : length a - n + (n - m) ≡ length a - m = omega (arith, h, le) in
    drop-drop (n - m) (length a - n) a ∙ ap (λ (i : ℕ). drop i a) e

pub stands_back : (marks a b : List ℕ) (n : ℕ) → n ≤ length a → n ≤ length b
    → drop (length a - n) a ≡ drop (length b - n) b → IsMarkedBack marks a n → IsMarkedBack marks b n
stands_back marks a b n la lb e h k le =
    h k le ∙ ap size (sym (last_part a n (k * stride) la le) ∙ ap (drop (n - k * stride)) e
    ∙ last_part b n (k * stride) lb le)

-- the last runes of two texts joined are those of the second
pub last_of_joined : (a b : List ℕ) (n : ℕ) → n ≤ length b → drop (length (a ++ b) - n) (a ++ b) ≡ drop (length b - n) b
last_of_joined a b n h =
    let e : length (a ++ b) - n ≡ length a + (length b - n) = omega (arith, length-append a b, h) in
    ap (λ (i : ℕ). drop i (a ++ b)) e ∙ drop-append-add a b (length b - n)

-- fewer are noted, too
pub fewer_front : (marks text : List ℕ) (n m : ℕ) → m ≤ n → IsMarked marks text n → IsMarked marks text m
fewer_front marks text n m le h k small = h k (omega (arith, le, small))

pub fewer_back : (marks text : List ℕ) (n m : ℕ) → m ≤ n → IsMarkedBack marks text n → IsMarkedBack marks text m
fewer_back marks text n m le h k small = h k (omega (arith, le, small))

-- ---- the two sides of a gap

module _ (gap : Range) (buffer : List ℕ) (h : IsGapIn gap buffer) where
  pub whole_side : (n : ℕ) → n ≡ length buffer → take (n - gap.q1) (drop gap.q1 buffer) ≡ drop gap.q1 buffer
  whole_side n e = take_all (n - gap.q1) (drop gap.q1 buffer) (omega (arith, e, length-drop gap.q1 buffer))

  -- marks behind the gap are those of the text's last runes
  pub to_side : (marks : List ℕ) (n : ℕ) → n ≤ length buffer - gap.q1 → IsMarkedBack marks (around gap buffer) n
      → IsMarkedBack marks (drop gap.q1 buffer) n
  to_side marks n le m =
      let l : length (drop gap.q1 buffer) ≡ length buffer - gap.q1 = length-drop gap.q1 buffer in
      let ls : n ≤ length (drop gap.q1 buffer) = omega (arith, le, l) in
      stands_back marks (around gap buffer) (drop gap.q1 buffer) n
      (omega (arith, ls, length-append (take gap.q0 buffer) (drop gap.q1 buffer))) ls
      (last_of_joined (take gap.q0 buffer) (drop gap.q1 buffer) n ls) m

  pub from_side : (marks : List ℕ) (n : ℕ) → n ≤ length buffer - gap.q1 → IsMarkedBack marks (drop gap.q1 buffer) n
      → IsMarkedBack marks (around gap buffer) n
  from_side marks n le m =
      let l : length (drop gap.q1 buffer) ≡ length buffer - gap.q1 = length-drop gap.q1 buffer in
      let ls : n ≤ length (drop gap.q1 buffer) = omega (arith, le, l) in
      stands_back marks (drop gap.q1 buffer) (around gap buffer) n ls
      (omega (arith, ls, length-append (take gap.q0 buffer) (drop gap.q1 buffer)))
      (sym (last_of_joined (take gap.q0 buffer) (drop gap.q1 buffer) n ls)) m

  -- marks before it are those of the text's first runes
  pub to_front : (marks : List ℕ) → IsMarked marks (around gap buffer) gap.q0
      → IsMarked marks (take gap.q0 buffer) gap.q0
  to_front marks m =
      let l : length (take gap.q0 buffer) ≡ gap.q0 = length-take-le gap.q0 buffer (omega (arith, h.order, h.within)) in
      stands_front marks (around gap buffer) (take gap.q0 buffer) gap.q0
      (take-append-le gap.q0 (take gap.q0 buffer) (drop gap.q1 buffer) (omega (arith, l))) m

-- ---- an edit

abbrev pub edited : List ℕ → List ℕ → ℕ → ℕ → List ℕ
edited items text q0 q1 = take q0 items ++ text ++ drop q1 items

pub front_after : (marks items text : List ℕ) (q0 q1 n m : ℕ) → q0 ≤ length items → m ≤ q0 → m ≤ n
    → IsMarked marks items n → IsMarked marks (edited items text q0 q1) m
front_after marks items text q0 q1 n m within small le h =
    let front : length (take q0 items) ≡ q0 = length-take-le q0 items within in
    let put : length (take q0 items ++ text) ≡ q0 + length text = omega (
      arith,
      front,
      length-append (take q0 items) text,
    ) in
    let same : take m items ≡ take m (edited items text q0 q1) =
    sym (take-append-le m (take q0 items ++ text) (drop q1 items) (omega (arith, small, put))
    ∙ take-append-le m (take q0 items) text (omega (arith, small, front)) ∙ take-take m q0 items small) in
    stands_front marks items (edited items text q0 q1) m same (fewer_front marks items n m le h)

pub back_after : (marks items text : List ℕ) (q0 q1 n m : ℕ) → q1 ≤ length items → n ≤ length items
    → m ≤ length items - q1 → m ≤ n → IsMarkedBack marks items n → IsMarkedBack marks (edited items text q0 q1) m
back_after marks items text q0 q1 n m within fits small le h =
    let behind : List ℕ = drop q1 items in
    let l : length behind ≡ length items - q1 = length-drop q1 items in
    let few : m ≤ length behind = omega (arith, l, small) in
    let from : q1 + (length behind - m) ≡ length items - m = omega (arith, l, within, small) in
    let same : drop (length items - m) items ≡ drop (length (edited items text q0 q1) - m) (edited items text q0 q1) =
    ap (λ (i : ℕ). drop i items) (sym from) ∙ sym (drop-drop (length behind - m) q1 items)
    ∙ sym (last_of_joined (take q0 items ++ text) behind m few) in
    let room : m ≤ length (edited items text q0 q1) = omega (
      arith,
      few,
      length-append (take q0 items ++ text) behind,
    ) in
    stands_back marks items (edited items text q0 q1) m (omega (arith, le, fits)) room same
    (fewer_back marks items n m le h)

pub plain_after : (items text : List ℕ) (q0 q1 : ℕ) → size items ≡ length items → size text ≡ length text
    → size (edited items text q0 q1) ≡ length (edited items text q0 q1)
plain_after items text q0 q1 plain put = plain_joined (take q0 items ++ text) (drop q1 items)
    (plain_joined (take q0 items) text (plain_take items q0 plain) put) (plain_drop items q1 plain)

-- ---- the bytes of a side

-- those up to a stride, and those of the rest
pub size_front : (text : List ℕ) (q : ℕ) → q ≤ length text → size (take q text) + size
    (take (length text - q) (drop q text)) ≡ size text
size_front text q h =
    let rest : take (length text - q) (drop q text) ≡ drop q text = take_all (length text - q) (drop q text)
    (omega (arith, length-drop q text)) in
    ap (λ (l : List ℕ). size (take q text) + size l) rest ∙ sym (size-append (take q text) (drop q text))
    ∙ ap size (take-append-drop q text)

pub size_split : (text : List ℕ) (q : ℕ) → size (take q text) + size (drop q text) ≡ size text
size_split text q = sym (size-append (take q text) (drop q text)) ∙ ap size (take-append-drop q text)

-- a place behind a gap, in the whole text
pub size_behind : (gap : Range) (buffer : List ℕ) → IsGapIn gap buffer → (n : ℕ)
    → size (take (gap.q0 + n) (around gap buffer)) ≡ size (take gap.q0 buffer) + size (take n (drop gap.q1 buffer))
size_behind gap buffer h n =
    let front : List ℕ = take gap.q0 buffer in
    let l : length front ≡ gap.q0 = length-take-le gap.q0 buffer (omega (arith, h.order, h.within)) in
    ap (λ (i : ℕ). size (take (i + n) (around gap buffer))) (sym l)
    ∙ ap size (take-append-add front (drop gap.q1 buffer) n) ∙ size-append front (take n (drop gap.q1 buffer))

-- a place before it
pub size_before : (gap : Range) (buffer : List ℕ) → IsGapIn gap buffer → (n : ℕ) → n ≤ gap.q0
    → size (take n (around gap buffer)) ≡ size (take n (take gap.q0 buffer))
size_before gap buffer h n le =
    let l : length (take gap.q0 buffer) ≡ gap.q0 = length-take-le gap.q0 buffer (omega (arith, h.order, h.within)) in
    ap size (take-append-le n (take gap.q0 buffer) (drop gap.q1 buffer) (omega (arith, l, le)))
