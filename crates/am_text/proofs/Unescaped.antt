-- Reading undoes escaping, and nothing else is read.
use Rattle.std.proofs.Common.{◌≡◌, ℕ, Bool, true, false, cond, eqb, List, [], ◌∷◌, ◌++◌, Option, Some, None, refl, sym}
use Rattle.std.proofs.Common.{ap, subst, ◌∙◌, append_assoc}
use Rattle.std.specs.Char.{encode_utf8, IsScalar}
use Rattle.std.specs.List.{AllByRecursion, flat_map}
use Rattle.std.specs.Str.{is_utf8, encode_utf8_all}
use Rattle.std.proofs.lemmas.Bool.{and_parts, and_from, eqb-true}
use Rattle.std.proofs.lemmas.List.{append-nil}
use Rattle.std.proofs.lemmas.Grind.{flat_map-append}
use Rattle.std.proofs.lemmas.Str.{IsUtf8-from_is_utf8, is_utf8-from_IsUtf8}
use lib.Utf8.{scalar, scalars}
use Rattle.am_text.specs.Utf8.{decode, rune_bytes, utf8}
use Rattle.am_text.specs.Lines.{escaped}
use Rattle.am_text.specs.Escapes.{unescaped_after, unescaped, IsEscape}
use Rattle.am_text.proofs.Encoded.{decode_encode_all}

-- ---- an escape as runes

abbrev mark : ℕ → List ℕ
mark c = cond (eqb c 10) (92 ∷ 110 ∷ []) (cond (eqb c 92) (92 ∷ 92 ∷ []) (c ∷ []))

abbrev marks : List ℕ → List ℕ
marks text = flat_map mark text

escaped-mark : (c : ℕ) → escaped c ≡ utf8 (mark c)
unfolding encode_utf8
escaped-mark c =
    elim (eqb c 10) as (λ t. cond t (92 ∷ 110 ∷ []) (cond (eqb c 92) (92 ∷ 92 ∷ []) (rune_bytes c))
    ≡ utf8 (cond t (92 ∷ 110 ∷ []) (cond (eqb c 92) (92 ∷ 92 ∷ []) (c ∷ [])))) [
      | true ↦ refl
      | false ↦ elim (eqb c 92) as (λ t. cond t (92 ∷ 92 ∷ []) (rune_bytes c) ≡ utf8 (cond t (92 ∷ 92 ∷ []) (c ∷ [])))
          [ true ↦ refl | false ↦ sym (append-nil (rune_bytes c)) ]
    ]

escaped-marks : (text : List ℕ) → flat_map escaped text ≡ utf8 (marks text)
escaped-marks [] = refl
escaped-marks (c ∷ cs) =
    ap (λ (l : List ℕ). l ++ flat_map escaped cs) (escaped-mark c)
    ∙ ap (λ (l : List ℕ). utf8 (mark c) ++ l) (escaped-marks cs)
    ∙ sym (flat_map-append rune_bytes (mark c) (marks cs))

-- ---- scalars

scalar_marks : (text : List ℕ) → AllByRecursion IsScalar text → AllByRecursion IsScalar (marks text)
scalar_marks [] s = tt
scalar_marks (c ∷ cs) s =
    let ih = scalar_marks cs s.1 in
    elim (eqb c 10) as (λ t. AllByRecursion IsScalar (cond t (92 ∷ 110 ∷ []) (cond (eqb c 92) (92 ∷ 92 ∷ []) (c ∷ []))
    ++ marks cs)) [
      | true ↦ (refl, (refl, ih))
      | false ↦ elim (eqb c 92) as (λ t. AllByRecursion IsScalar (cond t (92 ∷ 92 ∷ []) (c ∷ []) ++ marks cs))
          [ true ↦ (refl, (refl, ih)) | false ↦ (s.0, ih) ]
    ]

scalar_text : (text : List ℕ) → AllByRecursion IsScalar (marks text) → AllByRecursion IsScalar text
scalar_text [] s = tt
scalar_text (c ∷ cs) s =
    elim (eqb c 10) as (λ t. eqb c 10 ≡ t → AllByRecursion IsScalar
    (cond t (92 ∷ 110 ∷ []) (cond (eqb c 92) (92 ∷ 92 ∷ []) (c ∷ [])) ++ marks cs)
    → AllByRecursion IsScalar (c ∷ cs)) [
      | true ↦ λ e m. (ap scalar (eqb-true c 10 e), scalar_text cs m.1.1)
      | false ↦ λ e. elim (eqb c 92) as (λ t. eqb c 92 ≡ t → AllByRecursion IsScalar
          (cond t (92 ∷ 92 ∷ []) (c ∷ []) ++ marks cs) → AllByRecursion IsScalar (c ∷ cs)) [
            | true ↦ λ f m. (ap scalar (eqb-true c 92 f), scalar_text cs m.1.1)
            | false ↦ λ f m. (m.0, scalar_text cs m.1)
          ] refl
    ] refl s

all_scalars : (cs : List ℕ) → AllByRecursion IsScalar cs → scalars cs ≡ true
all_scalars [] s = refl
all_scalars (c ∷ cs) s = and_from (scalar c) (scalars cs) s.0 (all_scalars cs s.1)

each_scalar : (cs : List ℕ) → scalars cs ≡ true → AllByRecursion IsScalar cs
each_scalar [] e = tt
each_scalar (c ∷ cs) e = let p = and_parts (scalar c) (scalars cs) e in (p.0, each_scalar cs p.1)

utf8-scalars : (cs : List ℕ) → AllByRecursion IsScalar cs → utf8 cs ≡ encode_utf8_all cs
utf8-scalars [] s = refl
utf8-scalars (c ∷ cs) s =
    ap (λ (t : Bool). cond t (encode_utf8 c) (encode_utf8 0xFFFD) ++ utf8 cs) s.0
    ∙ ap (λ (l : List ℕ). encode_utf8 c ++ l) (utf8-scalars cs s.1)

utf8-is_utf8 : (cs : List ℕ) → AllByRecursion IsScalar cs → is_utf8 (utf8 cs) ≡ true
utf8-is_utf8 cs s = is_utf8-from_IsUtf8 (utf8 cs) (cs, (all_scalars cs s, sym (utf8-scalars cs s)))

-- ---- what was escaped is read

after-marks : (t text : List ℕ) → unescaped_after text false (marks t) ≡ Some (text ++ t)
unfolding unescaped_after
after-marks [] text = ap (λ (l : List ℕ). Some l) (sym (append-nil text))
after-marks (c ∷ t) text =
    let put : (d : ℕ) → c ≡ d → unescaped_after (text ++ d ∷ []) false (marks t) ≡ Some (text ++ c ∷ t) =
    λ d e. after-marks t (text ++ d ∷ []) ∙ ap (λ (l : List ℕ). Some l) (append_assoc text (d ∷ []) t)
    ∙ ap (λ (x : ℕ). Some (text ++ x ∷ t)) (sym e)
    in
    elim (eqb c 10) as (λ b. eqb c 10 ≡ b → unescaped_after text false
    (cond b (92 ∷ 110 ∷ []) (cond (eqb c 92) (92 ∷ 92 ∷ []) (c ∷ [])) ++ marks t) ≡ Some (text ++ c ∷ t)) [
      | true ↦ λ e. put 10 (eqb-true c 10 e)
      | false ↦ λ e. elim (eqb c 92) as (λ b. eqb c 92 ≡ b → unescaped_after text false
          (cond b (92 ∷ 92 ∷ []) (c ∷ []) ++ marks t) ≡ Some (text ++ c ∷ t)) [
            | true ↦ λ f. put 92 (eqb-true c 92 f)
            | false ↦ λ f. rw (e, f) (put c refl)
          ] refl
    ] refl

guard_true : (b : Bool) (o : Option (List ℕ)) → b ≡ true → cond b o None ≡ o
guard_true b o e = rw e refl

pub reads_again : (text : List ℕ) → AllByRecursion IsScalar text → unescaped (flat_map escaped text) ≡ Some text
unfolding unescaped
reads_again text s =
    let m = scalar_marks text s in
    ap unescaped (escaped-marks text)
    ∙ guard_true (is_utf8 (utf8 (marks text))) (unescaped_after [] false (decode (utf8 (marks text))))
    (utf8-is_utf8 (marks text) m)
    ∙ ap (λ (l : List ℕ). unescaped_after [] false l) (decode_encode_all (marks text) m)
    ∙ after-marks text []

-- ---- nothing else is read

-- the runes, with the backslash before them
abbrev pending : Bool → List ℕ → List ℕ
pending false cs = cs
pending true cs = 92 ∷ cs

-- the text that was read on from this one is a text of these runes
record Read (text answer runes : List ℕ) : Type 0 where
  more : List ℕ
  whole : answer ≡ text ++ more
  spelled : runes ≡ marks more

-- one rune more
one_more : (text answer runes : List ℕ) (c : ℕ) → Read (text ++ c ∷ []) answer runes
    → Read text answer (mark c ++ runes)
one_more text answer runes c r = record {
  more = c ∷ r.more;
  whole = r.whole ∙ append_assoc text (c ∷ []) r.more;
  spelled = ap (λ (l : List ℕ). mark c ++ l) r.spelled;
}

read-only : (cs text answer : List ℕ) (b : Bool) → unescaped_after text b cs ≡ Some answer
    → Read text answer (pending b cs)
unfolding unescaped_after
read-only [] text answer false e = record {
  more = [];
  whole = let same : text ≡ answer = cc in
      sym same ∙ sym (append-nil text);
  spelled = refl;
}
read-only [] text answer true e = absurd cc
read-only (c ∷ cs) text answer false e =
    elim (eqb c 10) as (λ t. eqb c 10 ≡ t → cond t None (cond (eqb c 92) (unescaped_after text true cs)
    (unescaped_after (text ++ c ∷ []) false cs)) ≡ Some answer → Read text answer (c ∷ cs)) [
      | true ↦ λ i k. absurd cc
      | false ↦ λ i. elim (eqb c 92) as (λ t. eqb c 92 ≡ t → cond t (unescaped_after text true cs)
          (unescaped_after (text ++ c ∷ []) false cs) ≡ Some answer → Read text answer (c ∷ cs)) [
            | true ↦ λ j k. subst (λ (x : ℕ). Read text answer (x ∷ cs)) (sym (eqb-true c 92 j))
                (read-only cs text answer true k)
            | false ↦ λ j k.
                let plain : mark c ≡ c ∷ [] = rw (i, j) refl in
                subst (λ (l : List ℕ). Read text answer (l ++ cs)) plain
                (one_more text answer cs c (read-only cs (text ++ c ∷ []) answer false k))
          ] refl
    ] refl e
read-only (c ∷ cs) text answer true e =
    elim (eqb c 110) as (λ t. eqb c 110 ≡ t → cond t (unescaped_after (text ++ 10 ∷ []) false cs)
    (cond (eqb c 92) (unescaped_after (text ++ 92 ∷ []) false cs) None) ≡ Some answer
    → Read text answer (92 ∷ c ∷ cs)) [
      | true ↦ λ i k. subst (λ (x : ℕ). Read text answer (92 ∷ x ∷ cs)) (sym (eqb-true c 110 i))
          (one_more text answer cs 10 (read-only cs (text ++ 10 ∷ []) answer false k))
      | false ↦ λ i. elim (eqb c 92) as (λ t. eqb c 92 ≡ t → cond t (unescaped_after (text ++ 92 ∷ []) false cs)
          None ≡ Some answer → Read text answer (92 ∷ c ∷ cs)) [
            | true ↦ λ j k. subst (λ (x : ℕ). Read text answer (92 ∷ x ∷ cs)) (sym (eqb-true c 92 j))
                (one_more text answer cs 92 (read-only cs (text ++ 92 ∷ []) answer false k))
            | false ↦ λ j k. absurd cc
          ] refl
    ] refl e

guard_some : (b : Bool) (o : Option (List ℕ)) (text : List ℕ) → cond b o None ≡ Some text → (b ≡ true) × (o ≡ Some text)
guard_some true o text e = (refl, e)
guard_some false o text e = absurd cc

pub reads_only : (bytes text : List ℕ) → unescaped bytes ≡ Some text → IsEscape text bytes
unfolding unescaped
reads_only bytes text e =
    let g = guard_some (is_utf8 bytes) (unescaped_after [] false (decode bytes)) text e in
    let u = IsUtf8-from_is_utf8 bytes g.0 in
    let each = each_scalar u.0 u.1.0 in
    let spelled : bytes ≡ utf8 u.0 = sym u.1.1 ∙ sym (utf8-scalars u.0 each) in
    let runes : decode bytes ≡ u.0 = ap decode spelled ∙ decode_encode_all u.0 each in
    let r = read-only (decode bytes) [] text false g.1 in
    let same : u.0 ≡ marks text = sym runes ∙ r.spelled ∙ ap marks (sym r.whole) in
    (scalar_text text (subst (AllByRecursion IsScalar) same each), spelled ∙ ap utf8 same ∙ sym (escaped-marks text))

pub reads_none : (bytes text : List ℕ) → unescaped bytes ≡ None → ¬ IsEscape text bytes
reads_none bytes text e s = let k = ap unescaped s.1 ∙ reads_again text s.0 in cc

pub ruleset reading = (reads_only, reads_none)
