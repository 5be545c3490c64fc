-- The size of an expression.
use Rattle.std.proofs.Common.{◌≡◌, ℕ, ◌+◌, ◌-◌, ◌<◌, ◌≤◌, Bool, true, false, cond, not, List, length, Option, Some}
use Rattle.std.proofs.Common.{None, Result, Ok, Err, refl, ap, sym, subst, ◌∙◌, inl, inr, le-ltb, lt-ltb, drop, arith}
use Rattle.std.specs.Prelude.{IsTrue, IfOk, IfErr, IfSome, slice_range, slice_index}
use Rattle.std.proofs.lemmas.Bool.{cases_lt, false≢true}
use Rattle.std.proofs.lemmas.List.{take_all, take-append-drop}
use Rattle.re_syntax.specs.Tree.{Tree, nodes, tree}
use Rattle.re_syntax.specs.Grammar.{IsExpression, GoesOn, MayEnd}
use Rattle.re_syntax.specs.Signs.{is_stop}
use Rattle.re_syntax.specs.Answer.{IsRead, IsBad, Refuses}
use Rattle.re_syntax.specs.declared.re.Re.{Re}
use Rattle.re_syntax.specs.declared.re.ReFault.{ReFault}
use Rattle.re_syntax.specs.declared.re.ReFault.TheVariants as fault
use Rattle.am_text.specs.declared.memory.NoMemory.{NoMemory}
use Rattle.re_syntax.specs.Read.{Reading, begin, reads, is_complete}
use Rattle.re_syntax.proofs.Sound.{whole}
use Rattle.re_syntax.proofs.Complete.{complete_read, one_tree}
use Rattle.re_edges.specs.Edges.{edges_of, may_be_whole}
use Rattle.re_edges.specs.declared.edges.Edges.{Edges}
use Rattle.re_edges.proofs.Keeping.{keep_to_edges}
use Rattle.rule_syntax.specs.Arguments.{is_literal, runes_of}
use Rattle.rule_syntax.specs.Edged.{AreEdges, AreEdgesOf, NeverMatches}
use Rattle.rule_syntax.specs.Expressions.{size_read, size_of, size_fit, parsed_fit, parsed_edges, HasSize}
use Rattle.rule_syntax.specs.declared.fit.Fit.{Fit}
use Rattle.rule_syntax.specs.declared.fit.Fit.TheVariants.{Unfit, Fits, TooLarge}
use Rattle.rule_syntax.specs.declared.rule.Piece.{Piece}

tree_is : (r s : Tree) → Some r ≡ Some s → r ≡ s
tree_is r s e = cc

abbrev fitted : Fit → Result Fit NoMemory
fitted a = Ok a

fit_same : (a b : Fit) → fitted a ≡ fitted b → a ≡ b
fit_same a b e = cc

number_is : (m n : ℕ) → Some m ≡ Some n → m ≡ n
number_is m n e = cc

sized : (text : List ℕ) (r : Tree) → IsExpression None text r → size_of text ≡ Some (nodes r + 1)
unfolding size_of
sized text r is =
    let c = complete_read None text r is in
    let w = whole None text c.reading c.reads_to c.complete in
    let same : w.result ≡ r = tree_is w.result r (sym w.finished_is ∙ c.finished_is) in
    ap size_read c.reads_to ∙ ap (λ (t : Bool). cond t (Some c.reading.size) None) c.complete
    ∙ ap (λ (n : ℕ). Some n) (sym w.nodes_are) ∙ ap (λ (t : Tree). Some (nodes t + 1)) same

unsized : (text : List ℕ) (n : ℕ) → size_of text ≡ Some n → (r : Tree) × IsExpression None text r × (n ≡ nodes r + 1)
unfolding size_of
unsized text n e = of (reads (Some (begin None)) text) refl e
  where
    of : (o : Option Reading) → reads (Some (begin None)) text ≡ o → size_read o ≡ Some n → (r : Tree)
        × IsExpression None text r × (n ≡ nodes r + 1)
    of None is = λ h. absurd cc
    of (Some m) is =
        elim (is_complete m.scanner) as (λ t. is_complete m.scanner ≡ t → cond t (Some m.size) None ≡ Some n
        → (r : Tree) × IsExpression None text r × (n ≡ nodes r + 1)) [
          | true ↦ λ t h. let w = whole None text m is t in (
            w.result,
            w.written,
            sym (number_is m.size n h)
                ∙ sym w.nodes_are,
          )
          | false ↦ λ t h. absurd cc
        ] refl

pub has_size : HasSize
has_size = record { some = sized; only = unsized }

-- ---- what reading an expression answers

no_stop : (c : ℕ) → IsTrue (is_stop None c) → ⊥
no_stop c h = false≢true h

at_end : (text : List ℕ) (end : ℕ) → MayEnd None text end → end ≡ length text
at_end text end h = elim h [ inl e ↦ e | inr k ↦ absurd (no_stop (slice_index text end) k.1) ]

whole_slice : (text : List ℕ) → slice_range text 0 (length text) ≡ text
whole_slice text = take_all (length text - 0) text (omega arith)

pub read_whole : (text : List ℕ) (end : ℕ) (r : Tree) → IsRead None text 0 end r → IsExpression None text r
read_whole text end r is = subst (λ (t : List ℕ). IsExpression None t r)
    (ap (λ (n : ℕ). slice_range text 0 n) (at_end text end is.ends) ∙ whole_slice text) is.written

pub fit_ok : (text : List ℕ) (end : ℕ) (r : Tree) → IsRead None text 0 end r → nodes r ≤ 2048
    → Fits ≡ size_fit (size_of text)
fit_ok text end r is small = sym (ap size_fit (sized text r (read_whole text end r is))
    ∙ ap (λ (t : Bool). cond t TooLarge Fits) (le-ltb 2049 (nodes r + 1) (omega arith)))

pub fit_nodes : (text : List ℕ) (end : ℕ) (r : Tree) → IsRead None text 0 end r → 2048 < nodes r
    → TooLarge ≡ size_fit (size_of text)
fit_nodes text end r is large = sym (ap size_fit (sized text r (read_whole text end r is))
    ∙ ap (λ (t : Bool). cond t TooLarge Fits) (lt-ltb 2049 (nodes r + 1) (omega arith)))

-- the text is no expression, where none goes on from it or it only stops short
pub never_written : (text : List ℕ) (place : ℕ) → IsBad None text 0 place → (r : Tree) → IsExpression None text r → ⊥
never_written text place bad r is = elim (cases_lt place (length text)) [
  | inl h ↦ bad.after h (goes_on (place + 1))
  | inr h ↦
      let end : place ≡ length text = omega (arith, h, bad.within) in
      bad.short (inl end) r (subst (λ (t : List ℕ). IsExpression None t r)
      (sym (ap (λ (n : ℕ). slice_range text 0 n) end ∙ whole_slice text)) is)
]
  where
    goes_on : (n : ℕ) → GoesOn None (slice_range text 0 n)
    goes_on n = (
      drop (n - 0) text,
      r,
      subst (λ (t : List ℕ). IsExpression None t r)
          (sym (take-append-drop (n - 0) text)) is,
    )

fit_bad : (text : List ℕ) (place : ℕ) → IsBad None text 0 place → Unfit ≡ size_fit (size_of text)
fit_bad text place bad = of (size_of text) refl
  where
    of : (o : Option ℕ) → size_of text ≡ o → Unfit ≡ size_fit o
    of None e = refl
    of (Some n) e = absurd (let u = unsized text n e in never_written text place bad u.0 u.1)

pub fit_is : (text : List ℕ) (r : Result (Re × ℕ) ReFault) (fit : Fit) → Ok fit ≡ parsed_fit r
    → IfOk r (λ a. IsRead None text 0 a.1 (tree a.0)) → IfOk r (λ a. nodes (tree a.0) ≤ 2048)
    → IfErr r (Refuses None text 0) → fit ≡ size_fit (size_of text)
fit_is text (Ok a) fit e read small refused = fit_same fit Fits e ∙ fit_ok text a.1 (tree a.0) read small
fit_is text (Err fault.Nodes) fit e read small refused = fit_same fit TooLarge e
    ∙ fit_nodes text refused.0 refused.1 refused.2 refused.3
fit_is text (Err (fault.Bad place)) fit e read small refused = fit_same fit Unfit e ∙ fit_bad text place refused
fit_is text (Err fault.NoMemory) fit e read small refused = absurd cc

-- ---- the edges of an expression

pub edges_are : (text : List ℕ) (r : Result (Re × ℕ) ReFault) (o : Option Edges) → o ≡ parsed_edges r
    → IfOk r (λ a. IsRead None text 0 a.1 (tree a.0)) → IfSome o (AreEdges text)
edges_are text (Ok a) o e read =
    subst (λ (x : Option Edges). IfSome x (AreEdges text)) (sym e)
    (λ r is. ap edges_of (one_tree None text (tree a.0) r (read_whole text a.1 (tree a.0) read) is))
edges_are text (Err f) o e read = subst (λ (x : Option Edges). IfSome x (AreEdges text)) (sym e) tt

pub literal_edges : (pieces : List Piece) (text : List ℕ) (o : Option Edges)
    → is_literal pieces ≡ true → text ≡ runes_of pieces → IfSome o (AreEdges text) → IfSome o (AreEdgesOf pieces)
literal_edges pieces text None literal e h = tt
literal_edges pieces text (Some edges) literal e h = record {
  literal = literal;
  edges = λ r is. h r
      (subst (λ (t : List ℕ). IsExpression None t r) (sym e) is);
}

neither : (b : Bool) → b ≡ true → not b ≡ true → ⊥
neither true e h = false≢true h
neither false e h = false≢true e

never : (pieces : List Piece) (e : Edges) (text : List ℕ) → AreEdgesOf pieces e
    → not (may_be_whole e text) ≡ true → NeverMatches pieces text
never pieces e text are h = record {
  literal = are.literal;
  never = λ r is m. neither (may_be_whole e text) (subst (λ (x : Edges). may_be_whole x text ≡ true)
      (sym (are.edges r is)) (keep_to_edges r text m)) h;
}

pub never_by : (pieces : List Piece) (o : Option Edges) (e : Edges) (text : List ℕ) → o ≡ Some e
    → IfSome o (AreEdgesOf pieces) → not (may_be_whole e text) ≡ true → NeverMatches pieces text
never_by pieces o e text is are h = never pieces e text (subst (λ (x : Option Edges). IfSome x (AreEdgesOf pieces)) is
    are) h
