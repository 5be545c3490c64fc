-- Keys and selections are read as they are spelled.
use Rattle.std.proofs.Common.{◌≡◌, ℕ, ◌^◌, ◌<◌, ◌≤◌, true, false, cond, ltb, eqb, List, [], ◌∷◌, ◌++◌, length, Option}
use Rattle.std.proofs.Common.{Some, None, refl, ap, sym, subst, ◌∙◌, append_assoc, arith}
use Rattle.std.specs.Prelude.{codes}
use Rattle.std.specs.Char.{IsScalar}
use Rattle.std.specs.Fmt.{decimal}
use Rattle.std.specs.List.{AllByRecursion, flat_map}
use Rattle.std.specs.Str.{bytes_eq}
use Rattle.std.proofs.lemmas.Bool.{lt-ltb, le-ltb, ltb-true, ltb-false, eqb-true}
use Rattle.std.proofs.lemmas.Slice.Eq.{bytes_eq-Decides}
use Rattle.am_text.specs.declared.range.Range.{Range}
use Rattle.am_text.specs.Escapes.{unescaped}
use Rattle.am_text.specs.Lines.{escaped, first_field, after_field}
use Rattle.am_text.specs.Number.{number_of}
use Rattle.am_text.proofs.Decimals.{number_is, number_of-decimal}
use Rattle.am_text.proofs.Unescaped.{reads_again, reads_only}
use Rattle.am_journal.specs.declared.event.Event.{Event}
use Rattle.am_journal.specs.declared.event.Event.TheVariants as event
use Rattle.am_journal.specs.declared.event.Side.{Side}
use Rattle.am_journal.specs.declared.event.Side.TheVariants as side
use Rattle.am_journal.specs.Line.{side_word, window_from, window_at, side_of, text_of, key_from, key_at, range_from}
use Rattle.am_journal.specs.Line.{range_at, sel_from, sel_at}
use Rattle.am_journal.proofs.FieldWords.{AreVisible, decimal-visible, first-is, after-is, split-is}
use Rattle.am_journal.proofs.Found.{event_is}

-- ---- what is spelled is read

pub window-again : (w : ℕ) → w < 2 ^ 32 → window_at (decimal w) ≡ Some w
window-again w h = ap window_from (number_of-decimal w (omega arith)) ∙ rw (lt-ltb w (2 ^ 32) h) refl

pub side-again : (on : Side) → side_of (side_word on) ≡ Some on
side-again side.Tag = refl
side-again side.Body = refl

pub side-visible : (on : Side) → AreVisible (side_word on)
side-visible side.Tag = (omega arith, (omega arith, (omega arith, tt)))
side-visible side.Body = (omega arith, (omega arith, (omega arith, (omega arith, tt))))

key_same : (a : Option ℕ) (b : Option Side) (c : Option (List ℕ)) (w : ℕ) (on : Side) (text : List ℕ) → a ≡ Some w
    → b ≡ Some on → c ≡ Some text → key_from a b c ≡ Some (event.Key w on text)
key_same a b c w on text e f g = rw (e, f, g) refl

pub key-again : (w : ℕ) (on : Side) (text : List ℕ) → AllByRecursion IsScalar text → w < 2 ^ 32
    → key_at (decimal w ++ 32 ∷ (side_word on ++ 32 ∷ 58 ∷ flat_map escaped text)) ≡ Some (event.Key w on text)
key-again w on text scalars small =
    let end = 58 ∷ flat_map escaped text in
    let words = side_word on ++ 32 ∷ end in
    let seen = decimal-visible w (omega arith) in
    let first = first-is (decimal w) words seen in
    let after = after-is (decimal w) words seen in
    key_same (window_at (first_field (decimal w ++ 32 ∷ words))) (side_of
    (first_field (after_field (decimal w ++ 32 ∷ words)))) (text_of
    (after_field (after_field (decimal w ++ 32 ∷ words)))) w on text
    (ap window_at first ∙ window-again w small)
    (ap (λ (l : List ℕ). side_of (first_field l)) after ∙ ap side_of (first-is (side_word on) end (side-visible on))
    ∙ side-again on)
    (ap (λ (l : List ℕ). text_of (after_field l)) after ∙ ap text_of (after-is (side_word on) end (side-visible on))
    ∙ reads_again text scalars)

pub range_same : (a b : Option ℕ) (range : Range) → a ≡ Some range.q0 → b ≡ Some range.q1 → range.q0 ≤ range.q1
    → range_from a b ≡ Some range
range_same a b range e f ordered = rw (e, f, le-ltb range.q1 range.q0 ordered) refl

pub range-again : (range : Range) → range.q0 ≤ range.q1 → range.q0 < 2 ^ 64 → range.q1 < 2 ^ 64
    → range_at (decimal range.q0 ++ 32 ∷ decimal range.q1) ≡ Some range
range-again range ordered from to =
    let seen = decimal-visible range.q0 from in
    range_same (number_of (first_field (decimal range.q0 ++ 32 ∷ decimal range.q1)))
    (number_of (after_field (decimal range.q0 ++ 32 ∷ decimal range.q1))) range
    (ap number_of (first-is (decimal range.q0) (decimal range.q1) seen) ∙ number_of-decimal range.q0 from)
    (ap number_of (after-is (decimal range.q0) (decimal range.q1) seen) ∙ number_of-decimal range.q1 to)
    ordered

sel_same : (a : Option ℕ) (b : Option Range) (w : ℕ) (range : Range) → a ≡ Some w → b ≡ Some range
    → sel_from a b ≡ Some (event.Sel w range)
sel_same a b w range e f = rw (e, f) refl

pub sel-again : (w : ℕ) (range : Range) → range.q0 ≤ range.q1 → (w < 2 ^ 32) × (range.q0 < 2 ^ 64) × (range.q1 < 2 ^ 64)
    → sel_at (decimal w ++ 32 ∷ ((decimal range.q0 ++ 32 ∷ []) ++ decimal range.q1)) ≡ Some (event.Sel w range)
sel-again w range ordered fits =
    let words = (decimal range.q0 ++ 32 ∷ []) ++ decimal range.q1 in
    let seen = decimal-visible w (omega (arith, fits.0)) in
    sel_same (window_at (first_field (decimal w ++ 32 ∷ words))) (range_at (after_field (decimal w ++ 32 ∷ words))) w
    range
    (ap window_at (first-is (decimal w) words seen) ∙ window-again w fits.0)
    (ap range_at (after-is (decimal w) words seen ∙ append_assoc (decimal range.q0) (32 ∷ []) (decimal range.q1))
    ∙ range-again range ordered fits.1 fits.2)

-- ---- what is read is spelled so

window_some : (o : Option ℕ) (w : ℕ) → window_from o ≡ Some w → (w < 2 ^ 32) × (o ≡ Some w)
window_some None w = λ e. absurd cc
window_some (Some n) w =
    elim (ltb n (2 ^ 32)) as (λ t. ltb n (2 ^ 32) ≡ t → cond t (Some n) None ≡ Some w → (w < 2 ^ 32)
    × (Some n ≡ Some w)) [
      | true ↦ λ t e. let same : n ≡ w = cc in (omega (arith, same, ltb-true n (2 ^ 32) t), e)
      | false ↦ λ t e. absurd cc
    ] refl

pub window-is : (bs : List ℕ) (w : ℕ) → window_at bs ≡ Some w → (w < 2 ^ 32) × (bs ≡ decimal w)
window-is bs w e = let s = window_some (number_of bs) w e in (s.0, (number_is bs w s.1).1)

side_unique : (a b : Side) → Some a ≡ Some b → a ≡ b
side_unique a b e = cc

pub side-is : (word : List ℕ) (on : Side) → side_of word ≡ Some on → word ≡ side_word on
side-is word on =
    elim (bytes_eq word (codes "tag")) as (λ t. bytes_eq word (codes "tag") ≡ t
    → cond t (Some side.Tag) (cond (bytes_eq word (codes "body")) (Some side.Body) None) ≡ Some on
    → word ≡ side_word on) [
      | true ↦ λ t e. (bytes_eq-Decides word (codes "tag")).0 t ∙ ap side_word (side_unique side.Tag on e)
      | false ↦ λ t. elim (bytes_eq word (codes "body")) as (λ u. bytes_eq word (codes "body") ≡ u → cond u
          (Some side.Body) None ≡ Some on → word ≡ side_word on) [
            | true ↦ λ u e. (bytes_eq-Decides word (codes "body")).0 u ∙ ap side_word (side_unique side.Body on e)
            | false ↦ λ u e. absurd cc
          ] refl
    ] refl

pub text-is : (bs text : List ℕ) → text_of bs ≡ Some text → AllByRecursion IsScalar text
    × (bs ≡ 58 ∷ flat_map escaped text)
text-is [] text = λ e. absurd cc
text-is (b ∷ bs) text =
    elim (eqb b 58) as (λ t. eqb b 58 ≡ t → cond t (unescaped bs) None ≡ Some text → AllByRecursion IsScalar text
    × (b ∷ bs ≡ 58 ∷ flat_map escaped text)) [
      | true ↦ λ t e. let read = reads_only bs text e in (
        read.0,
        ap (λ (x : ℕ). x ∷ bs) (eqb-true b 58 t)
            ∙ ap (λ (l : List ℕ). 58 ∷ l) read.1,
      )
      | false ↦ λ t e. absurd cc
    ] refl

pub number_some : (bs : List ℕ) (n : ℕ) → number_of bs ≡ Some n → 0 < length bs
number_some [] n e = absurd cc
number_some (b ∷ bs) n e = omega arith

record Keys (o : Option ℕ) (s : Option Side) (t : Option (List ℕ)) (e : Event) : Type 0 where
  window : ℕ
  on : Side
  text : List ℕ
  window-is : o ≡ Some window
  side-is : s ≡ Some on
  text-is : t ≡ Some text
  is : event.Key window on text ≡ e

keys_some : (o : Option ℕ) (s : Option Side) (t : Option (List ℕ)) (e : Event) → key_from o s t ≡ Some e → Keys o s t e
keys_some None s t e h = absurd cc
keys_some (Some w) None t e h = absurd cc
keys_some (Some w) (Some on) None e h = absurd cc
keys_some (Some w) (Some on) (Some text) e h =
    record {
      window = w;
      on = on;
      text = text;
      window-is = refl;
      side-is = refl;
      text-is = refl;
      is =
          event_is (event.Key w on text) e h;
    }

-- the words after `key ` spell this event
pub record Typed (bs : List ℕ) (e : Event) : Type 0 where
  pub window : ℕ
  pub on : Side
  pub text : List ℕ
  pub small : window < 2 ^ 32
  pub scalars : AllByRecursion IsScalar text
  pub spelled : bs ≡ decimal window ++ 32 ∷ (side_word on ++ 32 ∷ 58 ∷ flat_map escaped text)
  pub is : event.Key window on text ≡ e

pub some_after : (a b : List ℕ) → 0 < length (a ++ 32 ∷ b)
some_after [] b = omega arith
some_after (x ∷ a) b = omega arith

pub typed : (bs : List ℕ) (e : Event) → key_at bs ≡ Some e → Typed bs e
typed bs e h =
    let k = keys_some (window_at (first_field bs)) (side_of (first_field (after_field bs)))
    (text_of (after_field (after_field bs))) e h in
    let window = window-is (first_field bs) k.window k.window-is in
    let word = side-is (first_field (after_field bs)) k.on k.side-is in
    let text = text-is (after_field (after_field bs)) k.text k.text-is in
    let end = 58 ∷ flat_map escaped k.text in
    let words : after_field bs ≡ side_word k.on ++ 32 ∷ end = split-is (after_field bs) (side_word k.on) end word text.1
    (omega arith) in
    record {
      window = k.window;
      on = k.on;
      text = k.text;
      small = window.0;
      scalars = text.0;
      spelled = split-is bs (decimal k.window) (side_word k.on ++ 32 ∷ end) window.1 words
          (some_after (side_word k.on) end);
      is = k.is;
    }

pub record Ends (o p : Option ℕ) (range : Range) : Type 0 where
  pub from-is : o ≡ Some range.q0
  pub to-is : p ≡ Some range.q1
  pub ordered : range.q0 ≤ range.q1

range_is : (a b : Range) → Some a ≡ Some b → a ≡ b
range_is a b e = cc

pub ends_some : (o p : Option ℕ) (range : Range) → range_from o p ≡ Some range → Ends o p range
ends_some None p range = λ h. absurd cc
ends_some (Some a) None range = λ h. absurd cc
ends_some (Some a) (Some b) range =
    elim (ltb b a) as (λ t. ltb b a ≡ t → cond t None (Some (record { q0 = a; q1 = b })) ≡ Some range
    → Ends (Some a) (Some b) range) [
      | true ↦ λ t h. absurd cc
      | false ↦ λ t h. let made : Range = record { q0 = a; q1 = b } in
          subst (Ends (Some a) (Some b)) (range_is made range h) (record
          { from-is = refl; to-is = refl; ordered = ltb-false b a t })
    ] refl

record Sels (o : Option ℕ) (r : Option Range) (e : Event) : Type 0 where
  window : ℕ
  range : Range
  window-is : o ≡ Some window
  range-is : r ≡ Some range
  is : event.Sel window range ≡ e

sels_some : (o : Option ℕ) (r : Option Range) (e : Event) → sel_from o r ≡ Some e → Sels o r e
sels_some None r e h = absurd cc
sels_some (Some w) None e h = absurd cc
sels_some (Some w) (Some range) e h = record {
  window = w;
  range = range;
  window-is = refl;
  range-is = refl;
  is =
      event_is (event.Sel w range) e h;
}

-- the words after `sel ` spell this event
pub record Selected (bs : List ℕ) (e : Event) : Type 0 where
  pub window : ℕ
  pub range : Range
  pub small : window < 2 ^ 32
  pub from : range.q0 < 2 ^ 64
  pub to : range.q1 < 2 ^ 64
  pub ordered : range.q0 ≤ range.q1
  pub spelled : bs ≡ decimal window ++ 32 ∷ ((decimal range.q0 ++ 32 ∷ []) ++ decimal range.q1)
  pub is : event.Sel window range ≡ e

pub selected : (bs : List ℕ) (e : Event) → sel_at bs ≡ Some e → Selected bs e
selected bs e h =
    let s = sels_some (window_at (first_field bs)) (range_at (after_field bs)) e h in
    let window = window-is (first_field bs) s.window s.window-is in
    let words = after_field bs in
    let ends = ends_some (number_of (first_field words)) (number_of (after_field words)) s.range s.range-is in
    let first = number_is (first_field words) s.range.q0 ends.from-is in
    let last = number_is (after_field words) s.range.q1 ends.to-is in
    let some : 0 < length (decimal s.range.q1) = subst (λ (l : List ℕ). 0 < length l) last.1
    (number_some (after_field words) s.range.q1 ends.to-is) in
    let spelled : words ≡ decimal s.range.q0 ++ 32 ∷ decimal s.range.q1 = split-is words (decimal s.range.q0)
    (decimal s.range.q1) first.1 last.1 some in
    record {
      window = s.window;
      range = s.range;
      small = window.0;
      from = first.0;
      to = last.0;
      ordered = ends.ordered;
      spelled = split-is bs (decimal s.window) ((decimal s.range.q0 ++ 32 ∷ []) ++ decimal s.range.q1) window.1
          (spelled ∙ sym (append_assoc (decimal s.range.q0) (32 ∷ []) (decimal s.range.q1)))
          (subst (λ (l : List ℕ). 0 < length l) (sym (append_assoc (decimal s.range.q0) (32 ∷ []) (decimal s.range.q1)))
          (some_after (decimal s.range.q0) (decimal s.range.q1)));
      is = s.is;
    }
