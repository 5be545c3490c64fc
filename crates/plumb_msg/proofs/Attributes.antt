-- Lines of attributes: each line of the grammar is read, and what is written is one.
use Rattle.std.proofs.Common.{◌≡◌, inl, inr, ℕ, Bool, true, false, cond, ◌||◌, eqb, ne_eqb, List, [], ◌∷◌, ◌++◌, length}
use Rattle.std.proofs.Common.{Option, Some, None, refl, ap, sym, subst, ◌∙◌, append_assoc}
use Rattle.std.specs.List.{flat_map, IsDistinct}
use Rattle.std.specs.Str.{bytes_eq}
use Rattle.std.proofs.lemmas.Bool.{false≢true, eqb-true, and_parts}
use Rattle.std.proofs.lemmas.List.{append-nil}
use Rattle.plumb_msg.specs.Attributes.{is_name_byte, is_special, with_stage, named, put, plain, ended, step, then_scan}
use Rattle.plumb_msg.specs.Attributes.{scan, start, finished}
use Rattle.plumb_msg.specs.Grammar.{IsValue, IsAttr, AreAttrs, names_of, IsAttrsLine}
use Rattle.plumb_msg.specs.Names.{is_known}
use Rattle.plumb_msg.specs.Spelling.{doubled, quoted, needs_quotes, value_text, attr_text, attrs_text, are_name_bytes}
use Rattle.plumb_msg.specs.Spelling.{is_name, are_named}
use Rattle.plumb_msg.specs.declared.message.Attr.{Attr}
use Rattle.plumb_msg.specs.declared.scanning.Stage.{Stage}
use Rattle.plumb_msg.specs.declared.scanning.Stage.TheVariants.{Start, Next, Name, Value, Plain, Quoted, Closed}
use Rattle.plumb_msg.specs.declared.scanning.Scan.{Scan}
use Rattle.plumb_msg.proofs.NameLemmas.{names_more, names_fresh}

-- ---- scanning goes on

pub scan-append : (s : Scan) (bs more : List ℕ) → scan s (bs ++ more) ≡ then_scan (scan s bs) (λ t. scan t more)
unfolding scan
scan-append s [] more = refl
scan-append s (b ∷ bs) more = of (step s b) (λ t. scan-append t bs more)
  where
    of : (o : Option Scan) → ((t : Scan) → scan t (bs ++ more) ≡ then_scan (scan t bs) (λ u. scan u more))
        → then_scan o (λ t. scan t (bs ++ more)) ≡ then_scan (then_scan o (λ t. scan t bs)) (λ u. scan u more)
    of None go = refl
    of (Some t) go = go t

-- one byte
pub scan_one : (s t : Scan) (b : ℕ) (bs : List ℕ) → step s b ≡ Some t → scan s (b ∷ bs) ≡ scan t bs
unfolding scan
scan_one s t b bs e = ap (λ (o : Option Scan). then_scan o (λ u. scan u bs)) e

pub scan_none : (s : Scan) → scan s [] ≡ Some s
unfolding scan
scan_none s = refl

-- ---- names

abbrev in_name : List Attr → List ℕ → Scan
in_name attrs name = record { attrs = attrs; name = name; value = []; stage = Name }

abbrev at_value : List Attr → List ℕ → List ℕ → Stage → Scan
at_value attrs name value stage = record { attrs = attrs; name = name; value = value; stage = stage }

not_equals : (b : ℕ) → is_name_byte b ≡ true → eqb b 61 ≡ false
not_equals b h = ne_eqb b 61 (λ (e : b ≡ 61). false≢true (subst (λ (x : ℕ). is_name_byte x ≡ true) e h))

name_step : (attrs : List Attr) (name : List ℕ) (b : ℕ) → is_name_byte b ≡ true → step (in_name attrs name)
    b ≡ Some (in_name attrs (name ++ b ∷ []))
name_step attrs name b h = rw (not_equals b h, h) refl

-- the bytes of a name
scan-name : (attrs : List Attr) (name bs rest : List ℕ) → are_name_bytes bs ≡ true → scan (in_name attrs name)
    (bs ++ rest) ≡ scan (in_name attrs (name ++ bs)) rest
scan-name attrs name [] rest h = ap (λ (n : List ℕ). scan (in_name attrs n) rest) (sym (append-nil name))
scan-name attrs name (b ∷ bs) rest h =
    let two = and_parts (is_name_byte b) (are_name_bytes bs) h in
    scan_one (in_name attrs name) (in_name attrs (name ++ b ∷ [])) b (bs ++ rest) (name_step attrs name b two.0)
    ∙ scan-name attrs (name ++ b ∷ []) bs rest two.1
    ∙ ap (λ (n : List ℕ). scan (in_name attrs n) rest) (append_assoc name (b ∷ []) bs)

-- ---- values

-- the stage after a value that stands as it is
abbrev plain_stage : List ℕ → Stage
plain_stage [] = Value
plain_stage (b ∷ bs) = Plain

plain_parts : (p q r t : Bool) → (p || q || r || t) ≡ false → (p ≡ false) × (r ≡ false)
plain_parts true q r t e = absurd (false≢true (sym e))
plain_parts false true r t e = absurd (false≢true (sym e))
plain_parts false false true t e = absurd (false≢true (sym e))
plain_parts false false false t e = (refl, refl)

or_parts : (a b : Bool) → (a || b) ≡ false → (a ≡ false) × (b ≡ false)
or_parts true b e = absurd (false≢true (sym e))
or_parts false b e = (refl, e)

put_plain : (s : Scan) (b : ℕ) → is_special b ≡ false → plain s b ≡ Some (put s b Plain)
put_plain s b h = ap (λ (t : Bool). cond t None (Some (put s b Plain))) h

module _ (attrs : List Attr) (name : List ℕ) where
  plain_step : (value : List ℕ) (b : ℕ) → is_special b ≡ false → step (at_value attrs name value Plain)
      b ≡ Some (at_value attrs name (value ++ b ∷ []) Plain)
  plain_step value b h =
      let s = at_value attrs name value Plain in
      let parts = plain_parts (eqb b 32) (eqb b 9) (eqb b 39) (eqb b 61) h in
      ap (λ (t : Bool). cond t (Some (ended s)) (plain s b)) parts.0 ∙ put_plain s b h

  first_step : (value : List ℕ) (b : ℕ) → is_special b ≡ false → step (at_value attrs name value Value)
      b ≡ Some (at_value attrs name (value ++ b ∷ []) Plain)
  first_step value b h =
      let s = at_value attrs name value Value in
      let parts = plain_parts (eqb b 32) (eqb b 9) (eqb b 39) (eqb b 61) h in
      ap (λ (t : Bool). cond t (Some (with_stage s Quoted)) (cond (eqb b 32) (Some (ended s)) (plain s b))) parts.1
      ∙ ap (λ (t : Bool). cond t (Some (ended s)) (plain s b)) parts.0
      ∙ put_plain s b h

  scan-plain : (value bs rest : List ℕ) → needs_quotes bs ≡ false → scan (at_value attrs name value Plain)
      (bs ++ rest) ≡ scan (at_value attrs name (value ++ bs) Plain) rest
  scan-plain value [] rest h = ap (λ (v : List ℕ). scan (at_value attrs name v Plain) rest) (sym (append-nil value))
  scan-plain value (b ∷ bs) rest h =
      let two = or_parts (is_special b) (needs_quotes bs) h in
      scan_one (at_value attrs name value Plain) (at_value attrs name (value ++ b ∷ []) Plain) b (bs ++ rest)
      (plain_step value b two.0)
      ∙ scan-plain (value ++ b ∷ []) bs rest two.1
      ∙ ap (λ (v : List ℕ). scan (at_value attrs name v Plain) rest) (append_assoc value (b ∷ []) bs)

  scan-as_it_is : (bs rest : List ℕ) → needs_quotes bs ≡ false → scan (at_value attrs name [] Value)
      (bs ++ rest) ≡ scan (at_value attrs name bs (plain_stage bs)) rest
  scan-as_it_is [] rest h = refl
  scan-as_it_is (b ∷ bs) rest h =
      let two = or_parts (is_special b) (needs_quotes bs) h in
      scan_one (at_value attrs name [] Value) (at_value attrs name (b ∷ []) Plain) b (bs ++ rest)
      (first_step [] b two.0) ∙ scan-plain (b ∷ []) bs rest two.1

  quoted_step : (value : List ℕ) (b : ℕ) → eqb b 39 ≡ false → step (at_value attrs name value Quoted)
      b ≡ Some (at_value attrs name (value ++ b ∷ []) Quoted)
  quoted_step value b h =
      let s = at_value attrs name value Quoted in
      ap (λ (t : Bool). cond t (Some (with_stage s Closed)) (Some (put s b Quoted))) h

  scan-quotes : (value bs rest : List ℕ) → scan (at_value attrs name value Quoted)
      (flat_map doubled bs ++ rest) ≡ scan (at_value attrs name (value ++ bs) Quoted) rest
  scan-quotes value [] rest = ap (λ (v : List ℕ). scan (at_value attrs name v Quoted) rest) (sym (append-nil value))
  scan-quotes value (b ∷ bs) rest = of (scan-quotes (value ++ b ∷ []) bs rest
      ∙ ap (λ (v : List ℕ). scan (at_value attrs name v Quoted) rest) (append_assoc value (b ∷ []) bs))
    where
      of : scan (at_value attrs name (value ++ b ∷ []) Quoted) (flat_map doubled bs ++ rest)
          ≡ scan (at_value attrs name (value ++ b ∷ bs) Quoted) rest
          → scan (at_value attrs name value Quoted) ((doubled b ++ flat_map doubled bs) ++ rest)
          ≡ scan (at_value attrs name (value ++ b ∷ bs) Quoted) rest
      of go =
          elim (eqb b 39) as (λ t. eqb b 39 ≡ t → scan (at_value attrs name value Quoted)
          ((cond t (39 ∷ 39 ∷ []) (b ∷ []) ++ flat_map doubled bs) ++ rest)
          ≡ scan (at_value attrs name (value ++ b ∷ bs) Quoted) rest) [
            | true ↦ λ e.
                scan_one (at_value attrs name value Quoted) (at_value attrs name value Closed) 39
                (39 ∷ (flat_map doubled bs ++ rest)) refl
                ∙ scan_one (at_value attrs name value Closed) (at_value attrs name (value ++ 39 ∷ []) Quoted) 39
                (flat_map doubled bs ++ rest) refl
                ∙ ap (λ (x : ℕ). scan (at_value attrs name (value ++ x ∷ []) Quoted) (flat_map doubled bs ++ rest))
                (sym (eqb-true b 39 e))
                ∙ go
            | false ↦ λ e. scan_one (at_value attrs name value Quoted) (at_value attrs name (value ++ b ∷ []) Quoted) b
                (flat_map doubled bs ++ rest) (quoted_step value b e) ∙ go
          ] refl

  scan-quoted : (bs rest : List ℕ) → scan (at_value attrs name [] Value)
      (quoted bs ++ rest) ≡ scan (at_value attrs name bs Closed) rest
  unfolding quoted
  scan-quoted bs rest =
      scan_one (at_value attrs name [] Value) (at_value attrs name [] Quoted) 39
      ((flat_map doubled bs ++ 39 ∷ []) ++ rest) refl
      ∙ ap (scan (at_value attrs name [] Quoted)) (append_assoc (flat_map doubled bs) (39 ∷ []) rest)
      ∙ scan-quotes [] bs (39 ∷ rest)
      ∙ scan_one (at_value attrs name bs Quoted) (at_value attrs name bs Closed) 39 rest refl

-- a stage at which an attribute may end
data EndsValue : Stage → Type 0 where
  at_equals : EndsValue Value
  in_plain : EndsValue Plain
  in_closed : EndsValue Closed

plain_ends : (value : List ℕ) → EndsValue (plain_stage value)
plain_ends [] = at_equals
plain_ends (b ∷ bs) = in_plain

-- the text is read as the value of the attribute, and the attribute may end there
record ReadsValue (attrs : List Attr) (a : Attr) (text : List ℕ) : Type 0 where
  last : Stage
  ends : EndsValue last
  reads : (rest : List ℕ) → scan (at_value attrs a.name [] Value) (text ++ rest)
      ≡ scan (at_value attrs a.name a.value last) rest

reads_value : (attrs : List Attr) (a : Attr) (text : List ℕ) → IsValue text a.value → ReadsValue attrs a text
reads_value attrs a text is =
    elim is [
      | inl plain ↦ record {
        last = plain_stage a.value;
        ends = plain_ends a.value;
        reads = λ rest. ap (λ (t : List ℕ). scan (at_value attrs a.name [] Value) (t ++ rest)) plain.0
            ∙ scan-as_it_is attrs a.name a.value rest plain.1;
      }
      | inr in_quotes ↦ record {
        last = Closed;
        ends = in_closed;
        reads = λ rest. ap (λ (t : List ℕ). scan (at_value attrs a.name [] Value) (t ++ rest)) in_quotes
            ∙ scan-quoted attrs a.name a.value rest;
      }
    ]

-- ---- attributes

abbrev at_name : List Attr → Stage → Scan
at_name attrs stage = record { attrs = attrs; name = []; value = []; stage = stage }

-- a place where a name may begin
data BeginsName : Stage → Type 0 where
  at_start : BeginsName Start
  at_next : BeginsName Next

begin_step : (attrs : List Attr) (stage : Stage) (b : ℕ) → BeginsName stage
    → is_name_byte b ≡ true → step (at_name attrs stage) b ≡ Some (in_name attrs (b ∷ []))
begin_step attrs stage b at_start h = ap (λ (t : Bool). cond t (Some (in_name attrs (b ∷ []))) None) h
begin_step attrs stage b at_next h = ap (λ (t : Bool). cond t (Some (in_name attrs (b ∷ []))) None) h

guard_false : (t : Bool) (b : Bool) → cond t false b ≡ true → (t ≡ false) × (b ≡ true)
guard_false true b e = absurd (false≢true e)
guard_false false b e = (refl, e)

guard_true : (t : Bool) (b : Bool) → cond t b false ≡ true → (t ≡ true) × (b ≡ true)
guard_true true b e = (refl, e)
guard_true false b e = absurd (false≢true e)

equals_step : (attrs : List Attr) (name : List ℕ) → is_known name attrs ≡ false → step (in_name attrs name)
    61 ≡ Some (at_value attrs name [] Value)
equals_step attrs name h = ap (λ (t : Bool). cond t None (Some (at_value attrs name [] Value))) h

scan-name_all : (attrs : List Attr) (stage : Stage) (name rest : List ℕ) → BeginsName stage
    → is_name name ≡ true → scan (at_name attrs stage) (name ++ rest) ≡ scan (in_name attrs name) rest
scan-name_all attrs stage [] rest begins h = absurd (false≢true h)
scan-name_all attrs stage (b ∷ bs) rest begins h =
    let bytes = guard_false (eqb (length (b ∷ bs)) 0) (are_name_bytes (b ∷ bs)) h in
    let two = and_parts (is_name_byte b) (are_name_bytes bs) bytes.1 in
    scan_one (at_name attrs stage) (in_name attrs (b ∷ [])) b (bs ++ rest) (begin_step attrs stage b begins two.0)
    ∙ scan-name attrs (b ∷ []) bs rest two.1

-- the text is read as the attribute, which may end there
record ReadsAttr (attrs : List Attr) (stage : Stage) (a : Attr) (text : List ℕ) : Type 0 where
  last : Stage
  ends : EndsValue last
  reads : (rest : List ℕ) → scan (at_name attrs stage) (text ++ rest) ≡ scan (at_value attrs a.name a.value last) rest

reads_attr : (attrs : List Attr) (stage : Stage) (a : Attr) (text : List ℕ) → BeginsName stage
    → is_known a.name attrs ≡ false → IsAttr text a → ReadsAttr attrs stage a text
reads_attr attrs stage a text begins fresh is =
    let value = reads_value attrs a is.1 is.2 in
    record {
      last = value.last;
      ends = value.ends;
      reads = λ rest.
          ap (λ (t : List ℕ). scan (at_name attrs stage) (t ++ rest)) is.3
          ∙ ap (scan (at_name attrs stage)) (append_assoc a.name (61 ∷ is.1) rest)
          ∙ scan-name_all attrs stage a.name (61 ∷ (is.1 ++ rest)) begins is.0
          ∙ scan_one (in_name attrs a.name) (at_value attrs a.name [] Value) 61 (is.1 ++ rest)
          (equals_step attrs a.name fresh)
          ∙ value.reads rest;
    }

blank_step : (attrs : List Attr) (a : Attr) (stage : Stage) → EndsValue stage
    → step (at_value attrs a.name a.value stage) 32 ≡ Some (at_name (attrs ++ a ∷ []) Next)
blank_step attrs a stage at_equals = refl
blank_step attrs a stage in_plain = refl
blank_step attrs a stage in_closed = refl

ends_there : (attrs : List Attr) (a : Attr) (stage : Stage) → EndsValue stage
    → finished (Some (at_value attrs a.name a.value stage)) ≡ Some (attrs ++ a ∷ [])
ends_there attrs a stage at_equals = refl
ends_there attrs a stage in_plain = refl
ends_there attrs a stage in_closed = refl

-- ---- lines

all_read : (attrs : List Attr) (stage : Stage) (line : List ℕ) (a : Attr) (others : List Attr) → BeginsName stage
    → IsDistinct bytes_eq (names_of (attrs ++ a ∷ others)) → AreAttrs line (a ∷ others)
    → finished (scan (at_name attrs stage) line) ≡ Some (attrs ++ a ∷ others)
all_read attrs stage line a [] begins names is =
    let one = reads_attr attrs stage a line begins (names_fresh attrs a [] names) is in
    ap (λ (l : List ℕ). finished (scan (at_name attrs stage) l)) (sym (append-nil line))
    ∙ ap finished (one.reads [] ∙ scan_none (at_value attrs a.name a.value one.last))
    ∙ ends_there attrs a one.last one.ends
all_read attrs stage line a (b ∷ others) begins names is =
    let one = reads_attr attrs stage a is.0 begins (names_fresh attrs a (b ∷ others) names) is.3 in
    let same : (attrs ++ a ∷ []) ++ b ∷ others ≡ attrs ++ a ∷ (b ∷ others) = append_assoc attrs (a ∷ []) (b ∷ others) in
    ap (λ (l : List ℕ). finished (scan (at_name attrs stage) l)) is.2
    ∙ ap finished (
    one.reads (32 ∷ is.1)
    ∙ scan_one (at_value attrs a.name a.value one.last) (at_name (attrs ++ a ∷ []) Next) 32 is.1
    (blank_step attrs a one.last one.ends)
    )
    ∙ all_read (attrs ++ a ∷ []) Next is.1 b others at_next (subst (λ (l : List Attr). IsDistinct bytes_eq (names_of l))
    (sym same) names) is.4
    ∙ ap (λ (l : List Attr). Some l) same

pub line_read : (line : List ℕ) (attrs : List Attr) → IsAttrsLine line attrs → finished (scan start line) ≡ Some attrs
line_read line [] is = ap (λ (l : List ℕ). finished (scan start l)) is.attributes ∙ ap finished (scan_none start)
line_read line (a ∷ others) is = all_read [] Start line a others at_start is.names is.attributes

-- ---- what is written

written_value : (value : List ℕ) → IsValue (value_text value) value
written_value value = elim (needs_quotes value) as (λ t. needs_quotes value ≡ t → IsValue (cond t (quoted value) value)
    value) [ true ↦ λ e. inr refl | false ↦ λ e. inl (refl, e) ] refl

written_attr : (a : Attr) → is_name a.name ≡ true → IsAttr (attr_text a) a
unfolding attr_text
written_attr a named = (named, value_text a.value, written_value a.value, refl)

-- an attribute that can be written behind others, and what stands behind it
record Written (before : List Attr) (a : Attr) (after : List Attr) : Type 0 where
  fresh : is_known a.name before ≡ false
  named : is_name a.name ≡ true
  others : are_named (before ++ a ∷ []) after ≡ true

written : (before : List Attr) (a : Attr) (after : List Attr) → are_named before (a ∷ after) ≡ true → Written before a
    after
written before a after h =
    let fresh = guard_false (is_known a.name before) _ h in
    let named = guard_true (is_name a.name) _ fresh.1 in
    record { fresh = fresh.0; named = named.0; others = named.1 }

written_attrs : (before : List Attr) (a : Attr) (others : List Attr)
    → are_named before (a ∷ others) ≡ true → AreAttrs (attrs_text (a ∷ others)) (a ∷ others)
written_attrs before a [] h = subst (λ (l : List ℕ). IsAttr l a) (sym (append-nil (attr_text a)))
    (written_attr a (written before a [] h).named)
written_attrs before a (b ∷ others) h =
    let one = written before a (b ∷ others) h in (
      attr_text a,
      attrs_text (b ∷ others),
      refl,
      written_attr a one.named,
      written_attrs (before ++ a ∷ []) b others one.others,
    )

written_names : (before after : List Attr) → IsDistinct bytes_eq (names_of before)
    → are_named before after ≡ true → IsDistinct bytes_eq (names_of (before ++ after))
written_names before [] names h = subst (λ (l : List Attr). IsDistinct bytes_eq (names_of l)) (sym (append-nil before))
    names
written_names before (a ∷ after) names h =
    let one = written before a after h in
    subst (λ (l : List Attr). IsDistinct bytes_eq (names_of l)) (append_assoc before (a ∷ []) after)
    (written_names (before ++ a ∷ []) after (names_more before a names one.fresh) one.others)

pub no_names : IsDistinct bytes_eq (names_of [])
unfolding IsDistinct
no_names = tt

pub written_line : (attrs : List Attr) → are_named [] attrs ≡ true → IsAttrsLine (attrs_text attrs) attrs
written_line [] h = record { attributes = refl; names = no_names }
written_line (a ∷ others) h = record {
  attributes = written_attrs [] a others h;
  names = written_names [] (a ∷ others)
      no_names h;
}
