-- Which texts are patterns, and which texts match.
use Rattle.std.proofs.Common.{◌≡◌, ℕ, ◌<◌, ◌≤◌, Bool, true, false, cond, List, length, Option, Some, None, refl, ap}
use Rattle.std.proofs.Common.{sym, subst, ◌∙◌, inl, inr, arith}
use Rattle.std.specs.Prelude.{◌↔◌, IfSome, IsTrue}
use Rattle.std.proofs.lemmas.Bool.{le-leb, lt-leb, cases_Bool, both_ways}
use Rattle.am_text.specs.declared.range.Range.{Range}
use Rattle.re_spans.specs.Groups.{span}
use Rattle.re_spans.specs.Over.{IsFirstOver}
use Rattle.re_spans.specs.Search.{matches}
use Rattle.re_spans.proofs.Tested.{matches_tell, matches_from}
use Rattle.re_syntax.specs.Answer.{IsRead, IsBad, Refuses}
use Rattle.re_syntax.specs.Build.{level_tree}
use Rattle.re_syntax.specs.Grammar.{IsExpression}
use Rattle.re_syntax.specs.Match.{Matches}
use Rattle.re_syntax.specs.Read.{Reading, begin, reads, is_complete}
use Rattle.re_syntax.specs.Tree.{Tree, nodes}
use Rattle.re_syntax.specs.declared.re.ReFault.TheVariants as fault
use Rattle.re_syntax.proofs.Sound.{whole}
use Rattle.re_syntax.proofs.Complete.{complete_read}
use Rattle.rule_syntax.proofs.ExpressionLemmas.{read_whole, never_written}
use Rattle.plumb_rules.specs.Patterns.{tree_read, expression_of, small_one, pattern_of, is_whole, IsMatchIn}

tree_is : (r s : Tree) → Some r ≡ Some s → r ≡ s
tree_is r s e = cc

-- ---- expressions

pub expression_some : (text : List ℕ) (r : Tree) → IsExpression None text r → expression_of text ≡ Some r
unfolding expression_of
expression_some text r is =
    let c = complete_read None text r is in
    ap tree_read c.reads_to ∙ ap (λ (t : Bool). cond t (level_tree c.reading.stack.top) None) c.complete ∙ c.finished_is

pub expression_only : (text : List ℕ) (r : Tree) → expression_of text ≡ Some r → IsExpression None text r
unfolding expression_of
expression_only text r e = of (reads (Some (begin None)) text) refl e
  where
    of : (o : Option Reading) → reads (Some (begin None)) text ≡ o → tree_read o ≡ Some r → IsExpression None text r
    of None is = λ h. absurd cc
    of (Some m) is =
        elim (is_complete m.scanner) as (λ t. is_complete m.scanner ≡ t → cond t (level_tree m.stack.top) None ≡ Some r
        → IsExpression None text r) [
          | true ↦ λ t h. let w = whole None text m is t in subst (λ (s : Tree). IsExpression None text s)
              (tree_is w.result r (sym w.finished_is ∙ h)) w.written
          | false ↦ λ t h. absurd cc
        ] refl

-- ---- what reading answers

pub pattern_ok : (text : List ℕ) (end : ℕ) (r : Tree) → IsRead None text 0 end r → nodes r ≤ 2048
    → Some r ≡ pattern_of text
pattern_ok text end r is small =
    sym (ap small_one (expression_some text r (read_whole text end r is))
    ∙ ap (λ (t : Bool). cond t (Some r) None) (le-leb (nodes r) 2048 small))

pub pattern_large : (text : List ℕ) → Refuses None text 0 fault.Nodes → None ≡ pattern_of text
pattern_large text h =
    let r = h.1 in
    sym (ap small_one (expression_some text r (read_whole text h.0 r h.2))
    ∙ ap (λ (t : Bool). cond t (Some r) None) (lt-leb (nodes r) 2048 h.3))

pub pattern_bad : (text : List ℕ) (place : ℕ) → IsBad None text 0 place → None ≡ pattern_of text
pattern_bad text place bad = of (expression_of text) refl
  where
    of : (o : Option Tree) → expression_of text ≡ o → None ≡ small_one o
    of None e = refl
    of (Some r) e = absurd (never_written text place bad r (expression_only text r e))

-- ---- matches

pub tells : (r : Tree) (t : List ℕ) (i j : ℕ) (told : Bool) → IsTrue told ↔ Matches r t i j → told ≡ matches r t i j
tells r t i j true h = sym (matches_from r t i j (h.0 refl))
tells r t i j false h = elim (cases_Bool (matches r t i j)) [
  | inl e ↦ absurd (both_ways false refl (h.1 (matches_tell r t i j e)))
  | inr e ↦ sym e
]

pub whole_tells : (r : Tree) (t : List ℕ) (n : ℕ) (told : Bool) → n ≡ length t → IsTrue told ↔ Matches r t 0 n
    → told ≡ is_whole r t
whole_tells r t n told e h = tells r t 0 n told h ∙ ap (matches r t 0) e

pub whole_inside : (r : Tree) (t : List ℕ) (n : ℕ) (told : Bool) → n ≡ length t → IsTrue told ↔ Matches r t 0 n
    → IsTrue told → IsMatchIn r t (span 0 (length t))
whole_inside r t n told e h is = record {
  order = omega arith;
  within = omega arith;
  matches =
      subst (λ (m : ℕ). Matches r t 0 m) e (h.0 is);
}

-- ---- a match that has a place

pub over_spans : (r : Tree) (t : List ℕ) (n : ℕ) (found : Option Range) → IfSome found (IsFirstOver r t n)
    → IfSome found (IsMatchIn r t)
over_spans r t n None h = tt
over_spans r t n (Some s) h = record {
  order = omega (arith, h.over.not_null);
  within = h.over.within;
  matches =
      h.over.matches;
}
