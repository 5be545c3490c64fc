-- Expressions between `/`.
use Rattle.std.proofs.Common.{◌≡◌, ℕ, ◌+◌, ◌<◌, ◌≤◌, ◌==◌, true, false, List, [], ◌∷◌, ◌++◌, length, get_or, drop}
use Rattle.std.proofs.Common.{Option, Some, None, refl, sym, ap, subst, ◌∙◌, inl, inr, arith, append-nil, append_assoc}
use Rattle.std.specs.Prelude.{slice_range}
use Rattle.std.proofs.lemmas.Bool.{eqb-true}
use Rattle.re_syntax.specs.Tree as expression
use Rattle.re_syntax.specs.Tree.{Tree, Letter}
use Rattle.re_syntax.specs.Signs.{sign_of}
use Rattle.re_syntax.specs.Grammar.{IsExpression}
use Rattle.re_syntax.specs.Answer.{IsRead, IsBad}
use Rattle.re_syntax.specs.declared.re.Re.{Re}
use Rattle.re_syntax.specs.declared.sign.Sign.TheVariants as sign
use Rattle.addr_syntax.specs.Marks.{next_of}
use Rattle.addr_syntax.specs.Scan.{is_whole, IsExpressionAt, ExpressionFails}
use Rattle.addr_syntax.specs.declared.address.SynFault.{SynFault}
use Rattle.addr_syntax.specs.declared.address.SynFault.TheVariants.{Bad, Nodes, Deep, NoMemory}
use Rattle.addr_syntax.proofs.Slices.{slice_none, slice_more, slice_front, next_at}
use Rattle.addr_syntax.proofs.Bodies.{whole_expression, whole_cut, search_dead}
use Rattle.addr_syntax.proofs.Fronts.{not_both, continues}
use Rattle.edit_parts.specs.Kinds.{is_next}
use Rattle.edit_parts.specs.Texts.{Quoted}
use Rattle.edit_parts.specs.Answer.{IsBuiltExpression}
use Rattle.edit_parts.specs.Read.{IsReadBy, IsBadBy, QuotedFails, anything}
use Rattle.edit_parts.proofs.Parts.{regroup, nothing_behind}

plain_a : sign_of (Some 47) 97 ≡ sign.Plain
unfolding sign_of
plain_a = refl

-- `a` is an expression
pub letter_a : IsExpression (Some 47) (97 ∷ []) (Letter 97)
letter_a = (0, (refl, inl (refl, plain_a)))

pub no_quote : (text : List ℕ) (from : ℕ) → from ≤ length text → is_next 47 (next_of (drop from text)) ≡ false →
    IsBadBy Tree Quoted anything text from from
no_quote text from l e = record {
  order = omega arith;
  within = l;
  before = (
    47 ∷ 97 ∷ 47 ∷ [],
    Letter 97,
    λ f. refl,
    λ rest h. subst
        (λ (t : List ℕ). Quoted (Letter 97) ((t ++ 47 ∷ 97 ∷ 47 ∷ []) ++ rest) rest) (sym (slice_none text from))
        (97 ∷ [], refl, letter_a),
  );
  dead = λ more n re rest y.
      let first : more ≡ 47 ∷ y.0 ++ 47 ∷ rest = sym (ap (λ (t : List ℕ). t ++ more) (slice_none text from)) ∙ y.1 in
      not_both (is_next 47 (next_of more)) (ap (λ (t : List ℕ). is_next 47 (next_of t)) first) (ap (is_next 47) n ∙ e);
}

slash_here : (text : List ℕ) (from : ℕ) → from < length text → is_next 47 (next_of (drop from text)) ≡ true →
    get_or text from 0 ≡ 47
slash_here text from l e = eqb-true (get_or text from 0) 47 (sym (ap (is_next 47) (next_at text from l)) ∙ e)

front : (text : List ℕ) (from place : ℕ) → from < place → place ≤ length text
    → is_next 47 (next_of (drop from text)) ≡ true → slice_range text from place ≡ 47 ∷ slice_range text (from + 1)
    place
front text from place l m e = slice_front text from place l m ∙ ap (λ z. z ∷ slice_range text (from + 1) place)
    (slash_here text from (omega (arith, l, m)) e)

pub quote_bad : (text : List ℕ) (from place : ℕ) → is_next 47 (next_of (drop from text)) ≡ true → IsBad (Some 47) text
    (from + 1) place → IsBadBy Tree Quoted anything text from place
quote_bad text from place e bad = record {
  order = omega (arith, bad.order);
  within = bad.within;
  before =
      let b = bad.before in (
        b.0 ++ 47 ∷ [],
        b.1,
        λ f. absurd (omega (arith, f, bad.order)),
        λ rest h. (
          slice_range text (from + 1) place ++ b.0,
          ap (λ (t : List ℕ). (t ++ (b.0 ++ 47 ∷ [])) ++ rest) starts
              ∙ ap (λ (t : List ℕ). 47 ∷ t) (regroup (slice_range text (from + 1) place) b.0 rest 47),
          b.2,
        ),
      );
  dead = λ more n re rest y.
      let whole : 47 ∷ (slice_range text (from + 1) place ++ more) ≡ 47 ∷ (y.0 ++ 47 ∷ rest) =
      sym (ap (λ (t : List ℕ). t ++ more) starts) ∙ y.1 in
      let tail : slice_range text (from + 1) place ++ more ≡ y.0 ++ 47 ∷ rest = cc in
      search_dead 47 text (from + 1) place bad more (continues text place more bad.within n) y.0 (47 ∷ rest) re tail y.2
      refl;
}
  where
    starts : slice_range text from place ≡ 47 ∷ slice_range text (from + 1) place
    starts = front text from place (omega (arith, bad.order)) bad.within e

pub quote_open : (text : List ℕ) (from end : ℕ) (r : Tree) → is_next 47 (next_of (drop from text)) ≡ true →
    IsRead (Some 47) text (from + 1) end r → length text ≤ end → IsBadBy Tree Quoted anything text from end
quote_open text from end r e read never = record {
  order = omega (arith, read.order);
  within = omega (arith, ends);
  before = (
    47 ∷ [],
    r,
    λ f. refl,
    λ rest h. (
      slice_range text (from + 1) end,
      ap (λ (t : List ℕ). (t ++ 47 ∷ []) ++ rest) starts
          ∙ ap (λ (t : List ℕ). 47 ∷ t) (append_assoc (slice_range text (from + 1) end) (47 ∷ []) rest),
      read.written,
    ),
  );
  dead = λ more n re rest y.
      let none : more ≡ [] = nothing_behind text end more ends n in
      let whole : 47 ∷ (slice_range text (from + 1) end ++ more) ≡ 47 ∷ (y.0 ++ 47 ∷ rest) =
      sym (ap (λ (t : List ℕ). t ++ more) starts) ∙ y.1 in
      let tail : slice_range text (from + 1) end ++ more ≡ y.0 ++ 47 ∷ rest = cc in
      let all : slice_range text (from + 1) end ≡ y.0 ++ 47 ∷ rest = sym (append-nil (slice_range text (from + 1) end))
      ∙ ap (λ (t : List ℕ). slice_range text (from + 1) end ++ t) (sym none) ∙ tail in
      let full : is_whole 47 false (slice_range text (from + 1) end) ≡ true = whole_expression 47
      (slice_range text (from + 1) end) r read.written in
      let cut : is_whole 47 false (y.0 ++ 47 ∷ rest) ≡ false = whole_cut 47 false y.0 47 rest refl
      (whole_expression 47 y.0 re y.2) in
      not_both (is_whole 47 false (slice_range text (from + 1) end)) full (ap (is_whole 47 false) all ∙ cut);
}
  where
    ends : end ≡ length text
    ends = elim read.ends [ inl f ↦ f | inr p ↦ absurd (omega (arith, never, p.0)) ]

    starts : slice_range text from end ≡ 47 ∷ slice_range text (from + 1) end
    starts = front text from end (omega (arith, read.order)) (omega (arith, ends)) e

pub quote_read : (text : List ℕ) (from end : ℕ) (r : Tree) → is_next 47 (next_of (drop from text)) ≡ true →
    IsRead (Some 47) text (from + 1) end r → end < length text → IsReadBy (Quoted r) text from (end + 1)
quote_read text from end r e read l = record {
  order = omega (arith, read.order);
  within = omega (arith, l);
  written = λ rest n. (
    slice_range text (from + 1) end,
    ap (λ (t : List ℕ). t ++ rest) (starts ∙ ap (λ (t : List ℕ). 47 ∷ t) closes)
        ∙ ap (λ (t : List ℕ). 47 ∷ t) (append_assoc (slice_range text (from + 1) end) (47 ∷ []) rest),
    read.written,
  );
}
  where
    starts : slice_range text from (end + 1) ≡ 47 ∷ slice_range text (from + 1) (end + 1)
    starts = front text from (end + 1) (omega (arith, read.order)) (omega (arith, l)) e

    stop : (47 == get_or text end 0) ≡ true
    stop = elim read.ends [ inl f ↦ absurd (omega (arith, f, l)) | inr p ↦ p.1 ]

    closes : slice_range text (from + 1) (end + 1) ≡ slice_range text (from + 1) end ++ 47 ∷ []
    closes = slice_more text (from + 1) end read.order l ∙ ap (λ z. slice_range text (from + 1) end ++ z ∷ [])
        (sym (eqb-true 47 (get_or text end 0) stop))

pub built_expression : (text : List ℕ) (from end : ℕ) (o : Option Re) → IsExpressionAt 47 text from o end → (r : Tree)
    × IsBuiltExpression o r × IsRead (Some 47) text from end r
built_expression text from end (Some e) x = (expression.tree e, (refl, x.1), x.0)
built_expression text from end None x = (x.0, x.2, x.1)

pub quote_fails : (text : List ℕ) (from : ℕ) (e : SynFault) → is_next 47 (next_of (drop from text)) ≡ true →
    ExpressionFails 47 text (from + 1) e → QuotedFails text from e
quote_fails text from (Bad place) e x = quote_bad text from place e x
quote_fails text from Nodes e x = absurd x
quote_fails text from Deep e x = absurd x
quote_fails text from NoMemory e x = tt
