-- The lines of a message: what begins one, and how it goes on to one.
use Rattle.std.proofs.Common.{◌≡◌, inl, inr, ℕ, zero, suc, ◌+◌, ◌<◌, ◌≤◌, Bool, true, false, cond, ◌||◌, ◌&&◌, eqb}
use Rattle.std.proofs.Common.{ne_eqb, leb, List, [], ◌∷◌, ◌++◌, length, Option, Some, None, refl, ap, sym, subst, ◌∙◌}
use Rattle.std.proofs.Common.{append_assoc, arith, length-append}
use Rattle.std.specs.Prelude.{is_some, replicate}
use Rattle.std.specs.Int.{is_in_range}
use Rattle.std.specs.Str.{IsUtf8, is_utf8, bytes_eq}
use Rattle.std.proofs.lemmas.Bool.{false≢true, lt-leb}
use Rattle.std.proofs.lemmas.List.{append-nil, length-replicate}
use Rattle.std.proofs.lemmas.Str.{IsUtf8-append, IsUtf8-nil, IsUtf8-encode, IsUtf8-from_is_utf8, is_utf8-from_IsUtf8}
use Rattle.std.proofs.lemmas.Str.{encode_ascii}
use lib.Pointwise.{bytes_decides}
use lib.Utf8.{low_scalar}
use Rattle.plumb_msg.specs.Texts.{has_newline, is_text_front}
use Rattle.plumb_msg.specs.Reading.{text_of}
use Rattle.plumb_msg.specs.Attributes.{is_name_byte, is_special, with_stage, named, name_ended, put, plain, attrs_with}
use Rattle.plumb_msg.specs.Attributes.{ended, step_value, step_plain, step_quoted, step_at, step, then_scan, scan}
use Rattle.plumb_msg.specs.Attributes.{start, finished_at, finished, attrs_of, is_attrs_front}
use Rattle.plumb_msg.specs.Names.{is_known}
use Rattle.plumb_msg.specs.declared.message.Attr.{Attr}
use Rattle.plumb_msg.specs.declared.scanning.Stage.{Stage}
use Rattle.plumb_msg.specs.declared.scanning.Stage.TheVariants.{Start, Next, Name, Value, Plain, Quoted, Closed}
use Rattle.plumb_msg.specs.declared.scanning.Scan.{Scan}
use Rattle.plumb_msg.proofs.Attributes.{scan-append, scan_one, scan_none}
use Rattle.plumb_msg.proofs.Lines.{has-append}
use Rattle.plumb_msg.proofs.Readers.{IsLineKind, Completes}
use Rattle.plumb_msg.proofs.TextFronts.{front-down}
use Rattle.plumb_msg.proofs.TextEnds.{AreHigh, EndsHigh, TextEnd, front_ends}

-- ---- texts

guard_some : {A : Type 0} (t : Bool) (r : Option A) (x : A) → cond t r None ≡ Some x → (t ≡ true) × (r ≡ Some x)
guard_some true r x e = (refl, e)
guard_some false r x e = absurd cc

guard_true : (t : Bool) (b : Bool) → cond t b false ≡ true → (t ≡ true) × (b ≡ true)
guard_true true b e = (refl, e)
guard_true false b e = absurd (false≢true e)

high-clean : (bs : List ℕ) → AreHigh bs → has_newline bs ≡ false
high-clean [] h = refl
high-clean (b ∷ bs) h = ap (λ (t : Bool). t || has_newline bs) (ne_eqb b 10 (λ (e : b ≡ 10). omega (arith, h.0)))
    ∙ high-clean bs h.1

empty_front : is_text_front [] ≡ true
empty_front = front-down [] [] (is_utf8-from_IsUtf8 [] IsUtf8-nil)

pub text_kind : IsLineKind text_of is_text_front
text_kind = record {
  down = λ bs more a e. front-down bs more (guard_some (is_utf8 (bs ++ more)) (Some (bs ++ more)) a e).0;
  up = λ bs clean h.
      let e = front_ends bs h in
      record {
        more = e.more;
        clean = high-clean e.more e.high;
        value = bs ++ e.more;
        reads =
            ap (λ (t : Bool). cond t (Some (bs ++ e.more)) None) e.whole;
      };
  empty = empty_front;
}

-- ---- bytes from 128 on

-- a value goes on with such bytes
data TakesHigh : Stage → Type 0 where
  in_plain : TakesHigh Plain
  in_quoted : TakesHigh Quoted

above : (lo hi b : ℕ) → hi < b → is_in_range lo hi b ≡ false
above lo hi b h = elim (leb lo b) as (λ t. (t && leb b hi) ≡ false) [ true ↦ lt-leb b hi h | false ↦ refl ]

no_name : (b : ℕ) → 128 ≤ b → is_name_byte b ≡ false
no_name b h = rw (
  above 48 57 b (omega arith),
  above 65 90 b (omega arith),
  above 97 122 b (omega arith),
  ne_eqb b 95 (λ (e : b ≡ 95). omega arith),
) refl

not_special : (b : ℕ) → 128 ≤ b → is_special b ≡ false
not_special b h = rw (
  ne_eqb b 32 (λ (e : b ≡ 32). omega arith),
  ne_eqb b 9 (λ (e : b ≡ 9). omega arith),
  ne_eqb b 39 (λ (e : b ≡ 39). omega arith),
  ne_eqb b 61 (λ (e : b ≡ 61). omega arith),
) refl

named_none : (s : Scan) (b : ℕ) → 128 ≤ b → named s b ≡ None
named_none s b h = ap (λ (t : Bool). cond t (Some (record s { name = s.name ++ b ∷ []; stage = Name })) None)
    (no_name b h)

plain_high : (s : Scan) (b : ℕ) → 128 ≤ b → plain s b ≡ Some (put s b Plain)
plain_high s b h = ap (λ (t : Bool). cond t None (Some (put s b Plain))) (not_special b h)

high_plain : (s : Scan) (b : ℕ) → 128 ≤ b → step_plain s b ≡ Some (put s b Plain)
high_plain s b h = ap (λ (t : Bool). cond t (Some (ended s)) (plain s b)) (ne_eqb b 32 (λ (e : b ≡ 32). omega arith))
    ∙ plain_high s b h

high_quoted : (s : Scan) (b : ℕ) → 128 ≤ b → step_quoted s b ≡ Some (put s b Quoted)
high_quoted s b h = ap (λ (t : Bool). cond t (Some (with_stage s Closed)) (Some (put s b Quoted)))
    (ne_eqb b 39 (λ (e : b ≡ 39). omega arith))

high_value : (s : Scan) (b : ℕ) → 128 ≤ b → step_value s b ≡ Some (put s b Plain)
high_value s b h =
    ap (λ (t : Bool). cond t (Some (with_stage s Quoted)) (step_plain s b)) (ne_eqb b 39 (λ (e : b ≡ 39). omega arith))
    ∙ high_plain s b h

none_some : {A : Type 0} (x : A) → None ≡ Some x → ⊥
none_some x e = absurd cc

scan_is : (s t : Scan) → Some s ≡ Some t → s ≡ t
scan_is s t e = cc

step_high_at : (stage : Stage) (s t : Scan) (b : ℕ) → 128 ≤ b → step_at stage s b ≡ Some t → TakesHigh t.stage
step_high_at Start s t b h e = absurd (none_some t (sym (named_none s b h) ∙ e))
step_high_at Next s t b h e = absurd (none_some t (sym (named_none s b h) ∙ e))
step_high_at Name s t b h e =
    let other = ap (λ (u : Bool). cond u (name_ended s) (named s b)) (ne_eqb b 61 (λ (i : b ≡ 61). omega arith)) in
    absurd (none_some t (sym (other ∙ named_none s b h) ∙ e))
step_high_at Value s t b h e = subst (λ (x : Scan). TakesHigh x.stage)
    (scan_is (put s b Plain) t (sym (high_value s b h) ∙ e)) in_plain
step_high_at Plain s t b h e = subst (λ (x : Scan). TakesHigh x.stage)
    (scan_is (put s b Plain) t (sym (high_plain s b h) ∙ e)) in_plain
step_high_at Quoted s t b h e = subst (λ (x : Scan). TakesHigh x.stage)
    (scan_is (put s b Quoted) t (sym (high_quoted s b h) ∙ e)) in_quoted
step_high_at Closed s t b h e =
    let first = ap (λ (u : Bool). cond u (Some (put s b Quoted)) (cond (eqb b 32) (Some (ended s)) None))
    (ne_eqb b 39 (λ (i : b ≡ 39). omega arith)) in
    let second = ap (λ (u : Bool). cond u (Some (ended s)) None) (ne_eqb b 32 (λ (i : b ≡ 32). omega arith)) in
    absurd (none_some t (sym (first ∙ second) ∙ e))

step_high : (s t : Scan) (b : ℕ) → 128 ≤ b → step s b ≡ Some t → TakesHigh t.stage
step_high s t b h e = step_high_at s.stage s t b h e

-- a scan, and what it comes to
record Reaches (s : Scan) (bs : List ℕ) : Type 0 where
  end : Scan
  reads : scan s bs ≡ Some end

high_step_at : (stage : Stage) (s : Scan) (b : ℕ) → TakesHigh stage → 128 ≤ b → (t : Scan)
    × (step_at stage s b ≡ Some t) × TakesHigh t.stage
high_step_at stage s b in_plain h = (put s b Plain, high_plain s b h, in_plain)
high_step_at stage s b in_quoted h = (put s b Quoted, high_quoted s b h, in_quoted)

scan-high : (s : Scan) (bs : List ℕ) → AreHigh bs → TakesHigh s.stage → Reaches s bs
scan-high s [] h k = record { end = s; reads = scan_none s }
scan-high s (b ∷ bs) h k =
    let t = high_step_at s.stage s b k h.0 in
    let r = scan-high t.0 bs h.1 t.2 in
    record { end = r.end; reads = scan_one s t.0 b bs t.1 ∙ r.reads }

-- ---- how a scan ends

-- ASCII without a newline
abbrev ArePlain : List ℕ → Type 0
ArePlain [] = Unit {0}
ArePlain (b ∷ bs) = (b < 128) × (eqb b 10 ≡ false) × ArePlain bs

plain-utf8 : (bs : List ℕ) → ArePlain bs → IsUtf8 bs
plain-utf8 [] h = IsUtf8-nil
plain-utf8 (b ∷ bs) h = IsUtf8-append (b ∷ []) bs (subst IsUtf8 (encode_ascii b h.0)
    (IsUtf8-encode b (low_scalar b (omega (arith, h.0))))) (plain-utf8 bs h.2)

plain-clean : (bs : List ℕ) → ArePlain bs → has_newline bs ≡ false
plain-clean [] h = refl
plain-clean (b ∷ bs) h = ap (λ (t : Bool). t || has_newline bs) h.1 ∙ plain-clean bs h.2

record Closes (s : Scan) : Type 0 where
  more : List ℕ
  ascii : ArePlain more
  attrs : List Attr
  reads : finished (scan s more) ≡ Some attrs

-- a name that is longer than all others is none of them
abbrev total : List Attr → ℕ
total [] = 0
total (a ∷ others) = length a.name + total others

bytes_differ : (a b : List ℕ) → length a < length b → bytes_eq a b ≡ false
bytes_differ a b h = elim (bytes_eq a b) as (λ t. bytes_eq a b ≡ t → t ≡ false) [
  | true ↦ λ e. absurd (omega (arith, h, ap (λ (l : List ℕ). length l) ((bytes_decides a b).0 e)))
  | false ↦ λ
      e. refl
] refl

fresh : (attrs : List Attr) (name : List ℕ) → total attrs < length name → is_known name attrs ≡ false
fresh [] name h = refl
fresh (a ∷ others) name h = ap (λ (t : Bool). t || is_known name others) (bytes_differ a.name name (omega arith))
    ∙ fresh others name (omega arith)

abbrev naming : Scan → List ℕ → Scan
naming s name = record s { name = name; stage = Name }

-- more letters of a name
scan-letters : (k : ℕ) (s : Scan) (name rest : List ℕ) → scan (naming s name)
    (replicate k 97 ++ rest) ≡ scan (naming s (name ++ replicate k 97)) rest
scan-letters zero s name rest = ap (λ (n : List ℕ). scan (naming s n) rest) (sym (append-nil name))
scan-letters (suc k) s name rest =
    scan_one (naming s name) (naming s (name ++ 97 ∷ [])) 97 (replicate k 97 ++ rest) refl
    ∙ scan-letters k s (name ++ 97 ∷ []) rest
    ∙ ap (λ (n : List ℕ). scan (naming s n) rest) (append_assoc name (97 ∷ []) (replicate k 97))

letters-plain : (k : ℕ) (rest : List ℕ) → ArePlain rest → ArePlain (replicate k 97 ++ rest)
letters-plain zero rest h = h
letters-plain (suc k) rest h = (omega arith, refl, letters-plain k rest h)

-- the name ends, and an empty value follows
closes_name : (s : Scan) (name : List ℕ) → is_known name s.attrs ≡ false →
    finished (scan (naming s name) (61 ∷ [])) ≡ Some (s.attrs ++ record { name = name; value = s.value } ∷ [])
closes_name s name h =
    let ends : step (naming s name) 61 ≡ Some (record s { name = name; stage = Value }) =
    ap (λ (t : Bool). cond t None (Some (record s { name = name; stage = Value }))) h in
    ap finished (scan_one (naming s name) (record s { name = name; stage = Value }) 61 [] ends
    ∙ scan_none (record s { name = name; stage = Value }))

closes_by_name : (s : Scan) → step s 97 ≡ Some (naming s (s.name ++ 97 ∷ [])) → Closes s
closes_by_name s first =
    let k = total s.attrs in
    let name = (s.name ++ 97 ∷ []) ++ replicate k 97 in
    let long : total s.attrs < length name = omega (
      arith,
      length-append (s.name ++ 97 ∷ []) (replicate k 97),
      length-append s.name (97 ∷ []),
      length-replicate {A = ℕ} k 97,
    ) in
    record {
      more = 97 ∷ (replicate k 97 ++ 61 ∷ []);
      ascii = (omega arith, refl, letters-plain k (61 ∷ []) (omega arith, refl, tt));
      attrs = s.attrs ++ record { name = name; value = s.value } ∷ [];
      reads =
          ap finished (scan_one s (naming s (s.name ++ 97 ∷ [])) 97 (replicate k 97 ++ 61 ∷ []) first
          ∙ scan-letters k s (s.name ++ 97 ∷ []) (61 ∷ []))
          ∙ closes_name s name (fresh s.attrs name long);
    }

closes_here : (s : Scan) (attrs : List Attr) → finished (Some s) ≡ Some attrs → Closes s
closes_here s attrs e = record { more = []; ascii = tt; attrs = attrs; reads = ap finished (scan_none s) ∙ e }

closes_at : (stage : Stage) (s : Scan) → s.stage ≡ stage → Closes s
closes_at Start s e = closes_here s s.attrs (ap (λ (x : Stage). finished_at x s) e)
closes_at Next s e = closes_by_name s (ap (λ (x : Stage). step_at x s 97) e)
closes_at Name s e = closes_by_name s (ap (λ (x : Stage). step_at x s 97) e)
closes_at Value s e = closes_here s (attrs_with s) (ap (λ (x : Stage). finished_at x s) e)
closes_at Plain s e = closes_here s (attrs_with s) (ap (λ (x : Stage). finished_at x s) e)
closes_at Quoted s e = record {
  more = 39 ∷ [];
  ascii = (omega arith, refl, tt);
  attrs = attrs_with s;
  reads = ap finished (scan_one s (with_stage s Closed) 39 [] (ap (λ (x : Stage). step_at x s 39) e)
      ∙ scan_none (with_stage s Closed));
}
closes_at Closed s e = closes_here s (attrs_with s) (ap (λ (x : Stage). finished_at x s) e)

closes : (s : Scan) → Closes s
closes s = closes_at s.stage s refl

-- ---- lines of attributes

finished_some : (o : Option Scan) (more : List ℕ) (a : List Attr) → finished (then_scan o (λ t. scan t more)) ≡ Some a
    → is_some o ≡ true
finished_some None more a e = absurd (none_some a e)
finished_some (Some s) more a e = refl

attrs-down : (bs more : List ℕ) (a : List Attr) → attrs_of (bs ++ more) ≡ Some a → is_attrs_front bs ≡ true
attrs-down bs more a e =
    let g = guard_some (is_utf8 (bs ++ more)) (finished (scan start (bs ++ more))) a e in
    let front = front-down bs more g.0 in
    ap (λ (t : Bool). cond t (is_some (scan start bs)) false) front
    ∙ finished_some (scan start bs) more a (ap finished (sym (scan-append start bs more)) ∙ g.1)

reached : (o : Option Scan) → is_some o ≡ true → (s : Scan) × (o ≡ Some s)
reached None e = absurd (false≢true e)
reached (Some s) e = (s, refl)

last_step : (o : Option Scan) (t : Scan) → then_scan o (λ u. scan u []) ≡ Some t → o ≡ Some t
last_step None t e = e
last_step (Some u) t e = sym (scan_none u) ∙ e

last_high : (r : Option Scan) (s : Scan) (b : ℕ) → 128 ≤ b → then_scan r (λ t. scan t (b ∷ [])) ≡ Some s
    → TakesHigh s.stage
unfolding scan
last_high None s b h e = absurd (none_some s e)
last_high (Some r) s b h e = step_high r s b h (last_step (step r b) s e)

takes_high : (bs : List ℕ) (s : Scan) → EndsHigh bs → scan start bs ≡ Some s → TakesHigh s.stage
takes_high bs s l e = last_high (scan start l.front) s l.last l.high
    (sym (scan-append start l.front (l.last ∷ [])) ∙ ap (scan start) (sym l.parts) ∙ e)

reaches_more : (bs : List ℕ) (s : Scan) (e : TextEnd bs) → scan start bs ≡ Some s → Reaches s e.more
reaches_more bs s e is =
    elim e.last [
      | inl none ↦ record { end = s; reads = ap (scan s) none ∙ scan_none s }
      | inr last ↦ scan-high s e.more e.high (takes_high bs s last is)
    ]

attrs-up : (bs : List ℕ) → has_newline bs ≡ false → is_attrs_front bs ≡ true → Completes attrs_of bs
attrs-up bs clean h =
    let g = guard_true (is_text_front bs) (is_some (scan start bs)) h in
    let e = front_ends bs g.0 in
    let s = reached (scan start bs) g.1 in
    let t = reaches_more bs s.0 e s.1 in
    let c = closes t.end in
    let more = e.more ++ c.more in
    let text : is_utf8 (bs ++ more) ≡ true = ap is_utf8 (sym (append_assoc bs e.more c.more))
    ∙ is_utf8-from_IsUtf8 ((bs ++ e.more) ++ c.more) (IsUtf8-append (bs ++ e.more) c.more
    (IsUtf8-from_is_utf8 (bs ++ e.more) e.whole) (plain-utf8 c.more c.ascii)) in
    let first : scan start (bs ++ more) ≡ scan s.0 more = scan-append start bs more
    ∙ ap (λ (o : Option Scan). then_scan o (λ u. scan u more)) s.1 in
    let second : scan s.0 more ≡ scan t.end c.more = scan-append s.0 e.more c.more
    ∙ ap (λ (o : Option Scan). then_scan o (λ u. scan u c.more)) t.reads in
    record {
      more = more;
      clean = has-append e.more c.more ∙ ap (λ (u : Bool). u || has_newline c.more) (high-clean e.more e.high)
          ∙ plain-clean c.more c.ascii;
      value = c.attrs;
      reads = ap (λ (u : Bool). cond u (finished (scan start (bs ++ more))) None) text ∙ ap finished (first ∙ second)
          ∙ c.reads;
    }

pub attrs_kind : IsLineKind attrs_of is_attrs_front
attrs_kind = record { down = attrs-down; up = attrs-up; empty = empty }
  where
    empty : is_attrs_front [] ≡ true
    empty = ap (λ (t : Bool). cond t (is_some (scan start [])) false) empty_front ∙ ap is_some (scan_none start)
