-- Numbers and texts at their places.
use Rattle.std.proofs.Common.{◌≡◌, ℕ, ◌+◌, ◌<◌, ◌≤◌, ◌==◌, true, false, List, [], ◌∷◌, ◌++◌, length, get_or, drop}
use Rattle.std.proofs.Common.{Option, refl, sym, ap, subst, ◌∙◌, inl, inr, arith, append_assoc}
use Rattle.std.specs.Prelude.{slice_range}
use Rattle.std.proofs.lemmas.Bool.{eqb-true}
use Rattle.addr_syntax.specs.Marks.{next_of, is_digit}
use Rattle.addr_syntax.specs.Pieces.{IsNumber}
use Rattle.addr_syntax.specs.Scan.{IsNumberAt}
use Rattle.addr_syntax.specs.declared.address.SynFault.{SynFault}
use Rattle.addr_syntax.specs.declared.address.SynFault.TheVariants.{Bad, Nodes, Deep, NoMemory}
use Rattle.addr_syntax.proofs.Slices.{slice_none, slice_more, slice_front, next_at}
use Rattle.addr_syntax.proofs.Fronts.{not_both, cut_more}
use Rattle.edit_parts.specs.Kinds.{ends_line, is_next}
use Rattle.edit_parts.specs.Texts.{after_blanks, unescaped, Closed, Lines, Text, Nth, All}
use Rattle.edit_parts.specs.Read.{IsReadBy, IsBadBy, IsClosedAt, IsDotAt, UnescapedTo, ClosedFails, TextFails, anything}
use Rattle.edit_parts.proofs.Parts.{next_behind, as_read, blanks_cut, solid_behind}

-- ---- the number of a match

pub nth_one : (text : List ℕ) (from : ℕ) → from ≤ length text → is_digit (next_of (drop from text)) ≡ false →
    IsReadBy (Nth 1) text from from
nth_one text from l e = record {
  order = omega arith;
  within = l;
  written = λ rest n. subst (λ (t : List ℕ). Nth 1 (t ++ rest) rest) (sym (slice_none text from))
      (inl (ap is_digit n ∙ e, refl, refl));
}

pub nth_read : (text : List ℕ) (from end mid n : ℕ) → IsNumberAt text from n end → end ≤ mid → mid ≤ length text
    → drop mid text ≡ after_blanks (drop end text) → IsReadBy (Nth n) text from mid
nth_read text from end mid n x l m e = record {
  order = omega (arith, x.order, l);
  within = m;
  written = λ rest h.
      let solid : is_next 32 (next_of rest) ≡ false = ap (is_next 32) h ∙ ap (λ (t : List ℕ). is_next 32 (next_of t)) e
      ∙ solid_behind (drop end text) in
      let number : IsNumber n (slice_range text from end) (next_of (slice_range text end mid ++ rest)) =
      subst (λ (k : Option ℕ). IsNumber n (slice_range text from end) k) (sym (next_behind text end mid rest l h))
      x.written in
      inr (
        slice_range text from end,
        slice_range text end mid ++ rest,
        cut_more text from end mid rest (omega (arith, x.order)) l m,
        number,
        sym (blanks_cut text end mid l e rest solid),
      );
}

-- ---- `g`

pub all_read : (text : List ℕ) (from : ℕ) → from < length text → is_next 103 (next_of (drop from text)) ≡ true →
    IsReadBy (All true) text from (from + 1)
all_read text from l e = record {
  order = omega arith;
  within = omega (arith, l);
  written = λ rest n.
      let first : get_or text from 0 ≡ 103 = eqb-true (get_or text from 0) 103
      (sym (ap (is_next 103) (next_at text from l)) ∙ e) in
      let one : slice_range text from (from + 1) ≡ 103 ∷ [] = slice_more text from from (omega arith) l
      ∙ ap (λ (t : List ℕ). t ++ get_or text from 0 ∷ []) (slice_none text from) ∙ ap (λ z. z ∷ []) first in
      ap (λ (t : List ℕ). t ++ rest) one;
}

pub none_read : (text : List ℕ) (from : ℕ) → from ≤ length text → is_next 103 (next_of (drop from text)) ≡ false →
    IsReadBy (All false) text from from
none_read text from l e = record {
  order = omega arith;
  within = l;
  written = λ rest n. (ap (λ (t : List ℕ). t ++ rest) (slice_none text from), ap (is_next 103) n ∙ e);
}

-- ---- texts

pub closing_read : (text : List ℕ) (from end : ℕ) → IsClosedAt text from end
    → IsReadBy (Closed (slice_range text from end)) text from (end + 1)
closing_read text from end x = record {
  order = omega (arith, x.order);
  within = omega (arith, x.inside);
  written = λ rest n. (
    ap (λ (t : List ℕ). t ++ rest) (slice_more text from end x.order x.inside
        ∙ ap (λ z. slice_range text from end ++ z ∷ []) x.slash)
        ∙ append_assoc (slice_range text from end) (47 ∷ []) rest,
    x.body,
  );
}

pub closed_read : (text : List ℕ) (from end : ℕ) (made : List ℕ) → IsClosedAt text from end
    → made ≡ unescaped false (slice_range text from end) → IsReadBy (UnescapedTo made) text from (end + 1)
closed_read text from end made x e =
    as_read (Closed (slice_range text from end)) (UnescapedTo made) text from (end + 1)
    (λ t r c. (slice_range text from end, e, c)) (closing_read text from end x)

pub dot_read : (text : List ℕ) (from end : ℕ) (made : List ℕ) → IsDotAt text from end → made ≡ slice_range text from end
    → IsReadBy (Lines made) text from (end + 1)
dot_read text from end made x e = record {
  order = omega (arith, x.order);
  within = omega (arith, x.inside);
  written = λ rest n.
      subst (λ (m : List ℕ). Lines m (slice_range text from (end + 1) ++ rest) rest) (sym e) (
        ap (λ (t : List ℕ). t ++ rest) (slice_more text from end x.order x.inside
            ∙ ap (λ z. slice_range text from end ++ z ∷ []) x.dot) ∙ append_assoc (slice_range text from end) (46 ∷ [])
            rest,
        x.lines,
        ap ends_line n ∙ x.ends,
      );
}

-- a text that begins with this rune
pub starts : (text : List ℕ) (from place c : ℕ) → from < place → place ≤ length text
    → is_next c (next_of (drop from text)) ≡ true → slice_range text from place ≡ c ∷ slice_range text (from + 1) place
starts text from place c l m e =
    let first : get_or text from 0 ≡ c = eqb-true (get_or text from 0) c
    (sym (ap (is_next c) (next_at text from (omega (arith, l, m)))) ∙ e) in
    slice_front text from place l m ∙ ap (λ z. z ∷ slice_range text (from + 1) place) first

pub text_closed : (text : List ℕ) (from end : ℕ) (made : List ℕ) → is_next 47 (next_of (drop from text)) ≡ true →
    IsReadBy (UnescapedTo made) text (from + 1) end → IsReadBy (Text made) text from end
text_closed text from end made e x = record {
  order = omega (arith, x.order);
  within = x.within;
  written = λ rest n.
      let u = x.written rest n in
      subst (λ (t : List ℕ). Text made (t ++ rest) rest) (sym (starts text from end 47 (omega (arith, x.order)) x.within
      e)) (inl (refl, u.0, u.1, u.2));
}

pub text_lines : (text : List ℕ) (from end : ℕ) (made : List ℕ) → is_next 10 (next_of (drop from text)) ≡ true →
    IsReadBy (Lines made) text (from + 1) end → IsReadBy (Text made) text from end
text_lines text from end made e x = record {
  order = omega (arith, x.order);
  within = x.within;
  written = λ rest n.
      subst (λ (t : List ℕ). Text made (t ++ rest) rest) (sym (starts text from end 10 (omega (arith, x.order)) x.within
      e)) (inr (refl, x.written rest n));
}

closed_bad : (text : List ℕ) (from place : ℕ) → is_next 47 (next_of (drop from text)) ≡ true → IsBadBy (List ℕ) Closed
    anything text (from + 1) place → IsBadBy (List ℕ) Text ends_line text from place
closed_bad text from place e bad = record {
  order = omega (arith, bad.order);
  within = bad.within;
  before =
      let b = bad.before in (
        b.0,
        unescaped false b.1,
        λ f. absurd (omega (arith, f, bad.order)),
        λ rest n.
            subst (λ (t : List ℕ). Text (unescaped false b.1) ((t ++ b.0) ++ rest) rest) (sym front)
            (inl (refl, b.1, refl, b.3 rest refl)),
      );
  dead = λ more n t rest y. go more n t rest (subst (λ (x : List ℕ). Text t (x ++ more) rest) front y);
}
  where
    front : slice_range text from place ≡ 47 ∷ slice_range text (from + 1) place
    front = starts text from place 47 (omega (arith, bad.order)) bad.within e

    go : (more : List ℕ) → next_of more ≡ next_of (drop place text) → (t rest : List ℕ)
        → Text t (47 ∷ (slice_range text (from + 1) place ++ more)) rest → ⊥
    go more n t rest (inl p) = bad.dead more n p.1 rest p.3
    go more n t rest (inr p) = let h = p.0 in absurd cc

lines_bad : (text : List ℕ) (from place : ℕ) → is_next 10 (next_of (drop from text)) ≡ true → IsBadBy (List ℕ) Lines
    ends_line text (from + 1) place → IsBadBy (List ℕ) Text ends_line text from place
lines_bad text from place e bad = record {
  order = omega (arith, bad.order);
  within = bad.within;
  before =
      let b = bad.before in (
        b.0,
        b.1,
        λ f. absurd (omega (arith, f, bad.order)),
        λ rest n.
            subst (λ (t : List ℕ). Text b.1 ((t ++ b.0) ++ rest) rest) (sym front) (inr (refl, b.3 rest n)),
      );
  dead = λ more n t rest y. go more n t rest (subst (λ (x : List ℕ). Text t (x ++ more) rest) front y);
}
  where
    front : slice_range text from place ≡ 10 ∷ slice_range text (from + 1) place
    front = starts text from place 10 (omega (arith, bad.order)) bad.within e

    go : (more : List ℕ) → next_of more ≡ next_of (drop place text) → (t rest : List ℕ)
        → Text t (10 ∷ (slice_range text (from + 1) place ++ more)) rest → ⊥
    go more n t rest (inl p) = let h = p.0 in absurd cc
    go more n t rest (inr p) = bad.dead more n t rest p.1

pub closed_fails : (text : List ℕ) (from : ℕ) (e : SynFault) → is_next 47 (next_of (drop from text)) ≡ true →
    ClosedFails text (from + 1) e → TextFails Text text from e
closed_fails text from (Bad place) e x = closed_bad text from place e x
closed_fails text from Nodes e x = absurd x
closed_fails text from Deep e x = absurd x
closed_fails text from NoMemory e x = tt

pub lines_fail : (text : List ℕ) (from : ℕ) (e : SynFault) → is_next 10 (next_of (drop from text)) ≡ true →
    TextFails Lines text (from + 1) e → TextFails Text text from e
lines_fail text from (Bad place) e x = lines_bad text from place e x
lines_fail text from Nodes e x = absurd x
lines_fail text from Deep e x = absurd x
lines_fail text from NoMemory e x = tt

pub no_text : (text : List ℕ) (from : ℕ) → from ≤ length text → is_next 47 (next_of (drop from text)) ≡ false →
    is_next 10 (next_of (drop from text)) ≡ false → IsBadBy (List ℕ) Text ends_line text from from
no_text text from l e f = record {
  order = omega arith;
  within = l;
  before = (
    47 ∷ 47 ∷ [],
    [],
    λ h. refl,
    λ rest n. subst (λ (t : List ℕ). Text [] ((t ++ 47 ∷ 47 ∷ []) ++ rest) rest)
        (sym (slice_none text from)) (inl (refl, [], refl, (refl, refl))),
  );
  dead = λ more n t rest y. go more n t rest (subst (λ (x : List ℕ). Text t (x ++ more) rest) (slice_none text from) y);
}
  where
    go : (more : List ℕ) → next_of more ≡ next_of (drop from text) → (t rest : List ℕ) → Text t more rest → ⊥
    go [] n t rest y = y
    go (c ∷ cs) n t rest (inl p) = not_both (c == 47) (ap (λ z. z == 47) p.0) (ap (is_next 47) n ∙ e)
    go (c ∷ cs) n t rest (inr p) = not_both (c == 10) (ap (λ z. z == 10) p.0) (ap (is_next 10) n ∙ f)
