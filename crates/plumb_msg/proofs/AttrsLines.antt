-- What is read of a line of attributes stands so in it.
use Rattle.std.proofs.Common.{◌≡◌, inl, inr, ℕ, Bool, true, false, cond, ◌||◌, ◌&&◌, eqb, ne_eqb, List, [], ◌∷◌, ◌++◌}
use Rattle.std.proofs.Common.{length, Option, Some, None, refl, ap, sym, subst, ◌∙◌, append_assoc, arith}
use Rattle.std.specs.Prelude.{IfSome}
use Rattle.std.specs.List.{flat_map, IsDistinct}
use Rattle.std.specs.Str.{is_utf8, bytes_eq}
use Rattle.std.proofs.lemmas.Bool.{false≢true, eqb-true, and_parts}
use Rattle.std.proofs.lemmas.List.{append-nil}
use Rattle.std.proofs.lemmas.Grind.{flat_map-append}
use Rattle.plumb_msg.specs.Attributes.{is_name_byte, is_special, with_stage, named, name_ended, put, plain, attr_of}
use Rattle.plumb_msg.specs.Attributes.{attrs_with, ended, step_value, step_plain, step_quoted, step_closed, step_at}
use Rattle.plumb_msg.specs.Attributes.{step, then_scan, scan, start, finished_at, finished}
use Rattle.plumb_msg.specs.Grammar.{IsValue, IsAttr, AreAttrs, names_of, IsAttrsLine}
use Rattle.plumb_msg.specs.Laws.{AttrsAreExact, LineIsOneList}
use Rattle.plumb_msg.specs.Names.{is_known}
use Rattle.plumb_msg.specs.Spelling.{doubled, quoted, needs_quotes, are_name_bytes, is_name}
use Rattle.plumb_msg.specs.declared.message.Attr.{Attr}
use Rattle.plumb_msg.specs.declared.scanning.Stage.{Stage}
use Rattle.plumb_msg.specs.declared.scanning.Stage.TheVariants.{Start, Next, Name, Value, Plain, Quoted, Closed}
use Rattle.plumb_msg.specs.declared.scanning.Scan.{Scan}
use Rattle.plumb_msg.proofs.NameLemmas.{names_more}
use Rattle.plumb_msg.proofs.Attributes.{line_read, no_names}

-- ---- one byte more of a name and of a value

name_bytes-more : (name : List ℕ) (b : ℕ) → are_name_bytes name ≡ true → is_name_byte b ≡ true →
    are_name_bytes (name ++ b ∷ []) ≡ true
name_bytes-more [] b h e = ap (λ (t : Bool). t && true) e
name_bytes-more (x ∷ name) b h e =
    let two = and_parts (is_name_byte x) (are_name_bytes name) h in
    ap (λ (t : Bool). t && are_name_bytes (name ++ b ∷ [])) two.0 ∙ name_bytes-more name b two.1 e

is_name-more : (name : List ℕ) (b : ℕ) → are_name_bytes name ≡ true → is_name_byte b ≡ true →
    is_name (name ++ b ∷ []) ≡ true
is_name-more name b h e = ap (λ (t : Bool). cond t false (are_name_bytes (name ++ b ∷ []))) (some name)
    ∙ name_bytes-more name b h e
  where
    some : (name : List ℕ) → eqb (length (name ++ b ∷ [])) 0 ≡ false
    some [] = ne_eqb (length (b ∷ [])) 0 (λ (e : length (b ∷ []) ≡ 0). omega (arith, e))
    some (x ∷ name) = ne_eqb (length (x ∷ (name ++ b ∷ []))) 0 (λ (e : length (x ∷ (name ++ b ∷ [])) ≡ 0).
        omega (arith, e))

or_parts : (a b : Bool) → (a || b) ≡ false → (a ≡ false) × (b ≡ false)
or_parts true b e = absurd (false≢true (sym e))
or_parts false b e = (refl, e)

plain-more : (value : List ℕ) (b : ℕ) → needs_quotes value ≡ false → is_special b ≡ false →
    needs_quotes (value ++ b ∷ []) ≡ false
plain-more [] b h e = ap (λ (t : Bool). t || false) e
plain-more (x ∷ value) b h e =
    let two = or_parts (is_special x) (needs_quotes value) h in
    ap (λ (t : Bool). t || needs_quotes (value ++ b ∷ [])) two.0 ∙ plain-more value b two.1 e

doubled-more : (value : List ℕ) (b : ℕ) → flat_map doubled (value ++ b ∷ []) ≡ flat_map doubled value ++ doubled b
doubled-more value b = flat_map-append doubled value (b ∷ []) ∙ ap (λ (l : List ℕ). flat_map doubled value ++ l)
    (append-nil (doubled b))

-- ---- what was read, by the stage

-- an attribute behind these bytes makes a line of them, with these attributes before it
abbrev IsBefore : List ℕ → List Attr → Type 0
IsBefore front attrs = (text : List ℕ) (a : Attr) → IsAttr text a → AreAttrs (front ++ text) (attrs ++ a ∷ [])

-- attributes, and what may be a front of a name
record InName (s : Scan) (line : List ℕ) : Type 0 where
  front : List ℕ
  before : IsBefore front s.attrs
  names : IsDistinct bytes_eq (names_of s.attrs)
  parts : line ≡ front ++ s.name
  bytes : are_name_bytes s.name ≡ true
  no_value : s.value ≡ []

-- a front of a value, as far as it was read
abbrev IsBegun : Stage → List ℕ → List ℕ → Type 0
IsBegun Start text value = ⊥
IsBegun Next text value = ⊥
IsBegun Name text value = ⊥
IsBegun Value text value = (text ≡ []) × (value ≡ [])
IsBegun Plain text value = (text ≡ value) × (needs_quotes value ≡ false)
IsBegun Quoted text value = text ≡ 39 ∷ flat_map doubled value
IsBegun Closed text value = text ≡ quoted value

-- attributes, a name that none of them has, `=` and a front of a value
record InValue (stage : Stage) (s : Scan) (line : List ℕ) : Type 0 where
  front : List ℕ
  before : IsBefore front s.attrs
  names : IsDistinct bytes_eq (names_of s.attrs)
  named : is_name s.name ≡ true
  fresh : is_known s.name s.attrs ≡ false
  text : List ℕ
  parts : line ≡ front ++ (s.name ++ 61 ∷ text)
  begun : IsBegun stage text s.value

abbrev IsRead : Stage → Scan → List ℕ → Type 0
IsRead Start s line = InName s line × (line ≡ []) × (s.attrs ≡ [])
IsRead Next s line = InName s line
IsRead Name s line = InName s line × (is_name s.name ≡ true)
IsRead Value s line = InValue Value s line
IsRead Plain s line = InValue Plain s line
IsRead Quoted s line = InValue Quoted s line
IsRead Closed s line = InValue Closed s line

abbrev IfRead : Option Scan → List ℕ → Type 0
IfRead o line = IfSome o (λ s. IsRead s.stage s line)

-- ---- before a name

before-next : (line : List ℕ) (a : Attr) (others : List Attr) → AreAttrs line (a ∷ others)
    → IsBefore (line ++ 32 ∷ []) (a ∷ others)
before-next line a [] h = λ text c is. (line, text, append_assoc line (32 ∷ []) text, h, is)
before-next line a (b ∷ others) h = λ text c is. (
  h.0,
  (h.1 ++ 32 ∷ [])
      ++ text,
  parts text,
  h.3,
  before-next h.1 b others h.4 text c is,
)
  where
    parts : (text : List ℕ) → (line ++ 32 ∷ []) ++ text ≡ h.0 ++ 32 ∷ ((h.1 ++ 32 ∷ []) ++ text)
    parts text =
        ap (λ (l : List ℕ). (l ++ 32 ∷ []) ++ text) h.2
        ∙ ap (λ (l : List ℕ). l ++ text) (append_assoc h.0 (32 ∷ h.1) (32 ∷ []))
        ∙ append_assoc h.0 (32 ∷ (h.1 ++ 32 ∷ [])) text

before-blank : (line : List ℕ) (attrs : List Attr) (a : Attr) → AreAttrs line (attrs ++ a ∷ [])
    → IsBefore (line ++ 32 ∷ []) (attrs ++ a ∷ [])
before-blank line [] a h = before-next line a [] h
before-blank line (b ∷ attrs) a h = before-next line b (attrs ++ a ∷ []) h

-- ---- a byte of a name

name_byte : (s : Scan) (line : List ℕ) (b : ℕ) → InName s line → IfRead (named s b) (line ++ b ∷ [])
name_byte s line b i =
    elim (is_name_byte b) as (λ t. is_name_byte b ≡ t → IfRead (cond t
    (Some (record s { name = s.name ++ b ∷ []; stage = Name })) None) (line ++ b ∷ [])) [
      | true ↦ λ e. (
        record {
          front = i.front;
          before = i.before;
          names = i.names;
          parts = ap (λ (l : List ℕ). l ++ b ∷ []) i.parts ∙ append_assoc i.front s.name (b ∷ []);
          bytes = name_bytes-more s.name b i.bytes e;
          no_value = i.no_value;
        },
        is_name-more s.name b i.bytes e,
      )
      | false ↦ λ e. tt
    ] refl

name_end : (s : Scan) (line : List ℕ) → InName s line → is_name s.name ≡ true → IfRead (name_ended s) (line ++ 61 ∷ [])
name_end s line i h =
    elim (is_known s.name s.attrs) as (λ t. is_known s.name s.attrs ≡ t →
    IfRead (cond t None (Some (with_stage s Value))) (line ++ 61 ∷ [])) [
      | true ↦ λ e. tt
      | false ↦ λ e. record {
        front = i.front;
        before = i.before;
        names = i.names;
        named = h;
        fresh = e;
        text = [];
        parts = ap (λ (l : List ℕ). l ++ 61 ∷ []) i.parts ∙ append_assoc i.front s.name (61 ∷ []);
        begun = (refl, i.no_value);
      }
    ] refl

-- ---- the end of an attribute

module _ (stage : Stage) (s : Scan) (line : List ℕ) (i : InValue stage s line) where
  value_whole : IsValue i.text s.value → IsAttrsLine line (attrs_with s)
  value_whole value = record {
    attributes = subst (λ (l : List ℕ). AreAttrs l (attrs_with s)) (sym i.parts)
        (i.before (s.name ++ 61 ∷ i.text) (attr_of s) (i.named, i.text, value, refl));
    names = names_more s.attrs (attr_of s) i.names i.fresh;
  }

  value_end : (b : ℕ) → eqb b 32 ≡ true → IsValue i.text s.value → InName (ended s) (line ++ b ∷ [])
  value_end b blank value =
      let whole = value_whole value in
      let is : InName (ended s) (line ++ 32 ∷ []) = record {
        front = line ++ 32 ∷ [];
        before = before-blank line s.attrs (attr_of s) whole.attributes;
        names = whole.names;
        parts = sym (append-nil (line ++ 32 ∷ []));
        bytes = refl;
        no_value = refl;
      } in
      subst (λ (c : ℕ). InName (ended s) (line ++ c ∷ [])) (sym (eqb-true b 32 blank)) is

  -- ---- a byte of a value

  value_on : (later : Stage) (b : ℕ) (value : List ℕ) → IsBegun later (i.text ++ b ∷ []) value
      → InValue later (record s { value = value; stage = later }) (line ++ b ∷ [])
  value_on later b value begun = record {
    front = i.front;
    before = i.before;
    names = i.names;
    named = i.named;
    fresh = i.fresh;
    text = i.text ++ b ∷ [];
    parts = ap (λ (l : List ℕ). l ++ b ∷ []) i.parts ∙ append_assoc i.front (s.name ++ 61 ∷ i.text) (b ∷ [])
        ∙ ap (λ (l : List ℕ). i.front ++ l) (append_assoc s.name (61 ∷ i.text) (b ∷ []));
    begun = begun;
  }

  plain_byte : (b : ℕ) → i.text ≡ s.value → needs_quotes s.value ≡ false → IfRead (plain s b) (line ++ b ∷ [])
  plain_byte b same clean =
      elim (is_special b) as (λ t. is_special b ≡ t → IfRead (cond t None (Some (put s b Plain))) (line ++ b ∷ [])) [
        | true ↦ λ e. tt
        | false ↦ λ e. value_on Plain b (s.value ++ b ∷ []) (
          ap (λ (l : List ℕ). l ++ b ∷ []) same,
          plain-more s.value b clean e,
        )
      ] refl

  blank_or_plain : (b : ℕ) → i.text ≡ s.value → needs_quotes s.value ≡ false → IfRead (step_plain s b) (line ++ b ∷ [])
  blank_or_plain b same clean =
      elim (eqb b 32) as (λ t. eqb b 32 ≡ t → IfRead (cond t (Some (ended s)) (plain s b)) (line ++ b ∷ [])) [
        | true ↦ λ e. value_end b e (inl (same, clean))
        | false ↦ λ e. plain_byte b same clean
      ] refl

value_byte : (s : Scan) (line : List ℕ) (b : ℕ) → InValue Value s line → IfRead (step_value s b) (line ++ b ∷ [])
value_byte s line b i =
    let text = i.begun.0 in
    let value = i.begun.1 in
    elim (eqb b 39) as (λ t. eqb b 39 ≡ t → IfRead (cond t (Some (with_stage s Quoted)) (step_plain s b))
    (line ++ b ∷ [])) [
      | true ↦ λ e.
          value_on Value s line i Quoted b s.value
          (ap (λ (l : List ℕ). l ++ b ∷ []) text ∙ ap (λ (c : ℕ). c ∷ []) (eqb-true b 39 e)
          ∙ ap (λ (v : List ℕ). 39 ∷ flat_map doubled v) (sym value))
      | false ↦ λ e. blank_or_plain Value s line i b (text ∙ sym value) (ap (λ (v : List ℕ). needs_quotes v) value)
    ] refl

quoted_byte : (s : Scan) (line : List ℕ) (b : ℕ) → InValue Quoted s line → IfRead (step_quoted s b) (line ++ b ∷ [])
unfolding quoted
quoted_byte s line b i =
    elim (eqb b 39) as (λ t. eqb b 39 ≡ t → IfRead (cond t (Some (with_stage s Closed)) (Some (put s b Quoted)))
    (line ++ b ∷ [])) [
      | true ↦ λ e.
          value_on Quoted s line i Closed b s.value
          (ap (λ (l : List ℕ). l ++ b ∷ []) i.begun ∙ ap (λ (c : ℕ). 39 ∷ (flat_map doubled s.value ++ c ∷ []))
          (eqb-true b 39 e))
      | false ↦ λ e.
          value_on Quoted s line i Quoted b (s.value ++ b ∷ [])
          (ap (λ (l : List ℕ). l ++ b ∷ []) i.begun ∙ ap (λ (l : List ℕ). 39 ∷ l)
          (sym (doubled-more s.value b ∙ ap (λ (t : Bool). flat_map doubled s.value
          ++ cond t (39 ∷ 39 ∷ []) (b ∷ [])) e)))
    ] refl

-- a second quote
quote_again : (value text : List ℕ) (b : ℕ) → eqb b 39 ≡ true → text ≡ quoted value
    → text ++ b ∷ [] ≡ 39 ∷ flat_map doubled (value ++ b ∷ [])
unfolding quoted
quote_again value text b e h =
    ap (λ (l : List ℕ). l ++ b ∷ []) h
    ∙ ap (λ (l : List ℕ). 39 ∷ l) (append_assoc (flat_map doubled value) (39 ∷ []) (b ∷ []))
    ∙ ap (λ (c : ℕ). 39 ∷ (flat_map doubled value ++ 39 ∷ c ∷ [])) (eqb-true b 39 e)
    ∙ ap (λ (l : List ℕ). 39 ∷ l) (sym (doubled-more value b ∙ ap (λ (t : Bool). flat_map doubled value
    ++ cond t (39 ∷ 39 ∷ []) (b ∷ [])) e))

closed_byte : (s : Scan) (line : List ℕ) (b : ℕ) → InValue Closed s line → IfRead (step_closed s b) (line ++ b ∷ [])
closed_byte s line b i =
    elim (eqb b 39) as (λ t. eqb b 39 ≡ t → IfRead (cond t (Some (put s b Quoted))
    (cond (eqb b 32) (Some (ended s)) None)) (line ++ b ∷ [])) [
      | true ↦ λ e. value_on Closed s line i Quoted b (s.value ++ b ∷ []) (quote_again s.value i.text b e i.begun)
      | false ↦ λ e.
          elim (eqb b 32) as (λ t. eqb b 32 ≡ t → IfRead (cond t (Some (ended s)) None) (line ++ b ∷ [])) [
            | true ↦ λ blank. value_end Closed s line i b blank (inr i.begun)
            | false ↦ λ other. tt
          ] refl
    ] refl

-- ---- a line

step_read : (stage : Stage) (s : Scan) (line : List ℕ) (b : ℕ) → IsRead stage s line
    → IfRead (step_at stage s b) (line ++ b ∷ [])
step_read Start s line b h = name_byte s line b h.0
step_read Next s line b h = name_byte s line b h
step_read Name s line b h =
    elim (eqb b 61) as (λ t. eqb b 61 ≡ t → IfRead (cond t (name_ended s) (named s b)) (line ++ b ∷ [])) [
      | true ↦ λ e. subst (λ (c : ℕ). IfRead (name_ended s) (line ++ c ∷ [])) (sym (eqb-true b 61 e))
          (name_end s line h.0 h.1)
      | false ↦ λ e. name_byte s line b h.0
    ] refl
step_read Value s line b h = value_byte s line b h
step_read Plain s line b h = blank_or_plain Plain s line h b h.begun.0 h.begun.1
step_read Quoted s line b h = quoted_byte s line b h
step_read Closed s line b h = closed_byte s line b h

scan_read : (s : Scan) (line bs : List ℕ) → IsRead s.stage s line → IfRead (scan s bs) (line ++ bs)
unfolding scan
scan_read s line [] h = subst (IsRead s.stage s) (sym (append-nil line)) h
scan_read s line (b ∷ bs) h = of (step s b) (step_read s.stage s line b h)
    (λ t is. subst (IfRead (scan t bs)) (append_assoc line (b ∷ []) bs) (scan_read t (line ++ b ∷ []) bs is))
  where
    of : (o : Option Scan) → IfRead o (line ++ b ∷ []) → ((t : Scan) → IsRead t.stage t (line ++ b ∷ [])
        → IfRead (scan t bs) (line ++ b ∷ bs)) → IfRead (then_scan o (λ t. scan t bs)) (line ++ b ∷ bs)
    of None is go = tt
    of (Some t) is go = go t is

end_read : (stage : Stage) (s : Scan) (line : List ℕ) → IsRead stage s line
    → IfSome (finished_at stage s) (λ attrs. IsAttrsLine line attrs)
end_read Start s line h = record { attributes = subst (AreAttrs line) (sym h.2) h.1; names = h.0.names }
end_read Next s line h = tt
end_read Name s line h = tt
end_read Value s line h = value_whole Value s line h (inl (
  h.begun.0 ∙ sym h.begun.1,
  ap (λ (v : List ℕ). needs_quotes v) h.begun.1,
))
end_read Plain s line h = value_whole Plain s line h (inl h.begun)
end_read Quoted s line h = tt
end_read Closed s line h = value_whole Closed s line h (inr h.begun)

start_read : IsRead Start start []
start_read = (
  record {
    front = [];
    before = λ text a is. is;
    names = no_names;
    parts = refl;
    bytes = refl;
    no_value =
        refl;
  },
  refl,
  refl,
)

line_is : (line : List ℕ) (attrs : List Attr) → finished (scan start line) ≡ Some attrs → IsAttrsLine line attrs
line_is line attrs e = of (scan start line) (scan_read start [] line start_read) e
  where
    of : (o : Option Scan) → IfRead o line → finished o ≡ Some attrs → IsAttrsLine line attrs
    of None is e = absurd cc
    of (Some s) is e = subst (λ (o : Option (List Attr)). IfSome o (λ l. IsAttrsLine line l)) e
        (end_read s.stage s line is)

-- ---- the laws

guard_some : (t : Bool) (r : Option (List Attr)) (attrs : List Attr) → cond t r None ≡ Some attrs → (t ≡ true)
    × (r ≡ Some attrs)
guard_some true r attrs e = (refl, e)
guard_some false r attrs e = absurd cc

pub attrs_are_exact : AttrsAreExact
attrs_are_exact line attrs = (
  λ e. let g = guard_some (is_utf8 line) (finished (scan start line)) attrs e in (g.0, line_is line attrs g.1),
  λ h. ap (λ (t : Bool). cond t (finished (scan start line)) None) h.0 ∙ line_read line attrs h.1,
)

pub line_is_one_list : LineIsOneList
line_is_one_list line attrs others is also = of attrs others (sym (line_read line attrs is)
    ∙ line_read line others also)
  where
    of : (xs ys : List Attr) → Some xs ≡ Some ys → xs ≡ ys
    of xs ys e = cc
