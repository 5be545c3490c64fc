-- One piece of a command at the front of a text: the function cuts it as the relation says.
use Rattle.std.proofs.Common.{◌≡◌, ℕ, ◌==◌, Bool, true, false, List, [], ◌∷◌, Some, refl, sym, ap, ◌∙◌, inl, inr}
use Rattle.std.proofs.lemmas.Bool.{eqb-true}
use Rattle.re_syntax.specs.Tree as expression
use Rattle.addr_syntax.specs.Marks.{next_of}
use Rattle.edit_parts.specs.Tree as tree
use Rattle.edit_parts.specs.Tree.{Action}
use Rattle.edit_parts.specs.Kinds.{kind_of, loop_of, puts, sends, request_of, is_next}
use Rattle.edit_parts.specs.Texts.{after_blanks, RestOfLine}
use Rattle.edit_parts.specs.Pieces.{Piece, Blank, EndsLine, At, Loops, Opens, Closes, Does, LoopsOver, SubstitutesAs}
use Rattle.edit_parts.specs.Pieces.{ActsAs, GoesOnAs, BeginsAs, whole_lines}
use Rattle.edit_parts.specs.declared.kind.Letter.{Letter}
use Rattle.edit_parts.specs.declared.kind.Letter.TheVariants as letter
use Rattle.edit_parts.specs.declared.kind.Loop.{Loop}
use Rattle.edit_parts.specs.declared.kind.Loop.TheVariants.{ForEach, ForBetween, Where, WhereNot}
use Rattle.edit_parts.specs.declared.kind.Kind.{Kind}
use Rattle.edit_parts.specs.declared.kind.Kind.TheVariants as kind
use Rattle.sam_syntax.specs.Cuts.{Cut, cut_as, cut_on}
use Rattle.sam_syntax.specs.Texts.{up_to_slash, rest_of_line, text, quoted_expression, nth, all, first_address}
use Rattle.sam_syntax.specs.Pieces.{loop_expression, substitution, place, action, piece_by, first_piece}
use Rattle.sam_syntax.proofs.Cuts.{cut_same, none_cut, as_only, on_only}
use Rattle.sam_syntax.proofs.Texts.{closed_some, closed_only, rest_some, rest_only}
use Rattle.sam_syntax.proofs.Parts.{text_some, text_only, quoted_some, quoted_only, nth_some, nth_only, all_some}
use Rattle.sam_syntax.proofs.Parts.{all_only, address_some, address_only}

-- ---- loops

loop_some : (k : Loop) (re : expression.Tree) (u rest : List ℕ) → LoopsOver k re u rest
    → loop_expression k u ≡ Some (re, rest)
loop_some ForEach re u rest (inl x) = rw (ap (λ (l : List ℕ). is_next 47 (next_of l)) x.1) (quoted_some re u rest x)
loop_some ForEach re u rest (inr x) =
    let e : is_next 47 (next_of u) ≡ false = ap (λ (l : List ℕ). is_next 47 (next_of l)) x.1 ∙ x.2 in
    rw e (ap (λ (r : expression.Tree). Some (r, u)) (sym x.0) ∙ ap (λ (l : List ℕ). Some (re, l)) x.1)
loop_some ForBetween re u rest x = quoted_some re u rest x
loop_some Where re u rest x = quoted_some re u rest x
loop_some WhereNot re u rest x = quoted_some re u rest x

loop_only : (k : Loop) (re : expression.Tree) (u rest : List ℕ) → loop_expression k u ≡ Some (re, rest)
    → LoopsOver k re u rest
loop_only ForEach re u rest h = go (is_next 47 (next_of u)) refl
  where
    go : (b : Bool) → is_next 47 (next_of u) ≡ b → LoopsOver ForEach re u rest
    go true e = let g : quoted_expression u ≡ Some (re, rest) = rw e at h in inl (quoted_only re u rest g)
    go false e =
        let g : ◌≡◌ {A = Cut expression.Tree} (Some (whole_lines, u)) (Some (re, rest)) = rw e at h in
        let s = cut_same whole_lines re u rest g in
        inr (sym s.0, s.1, ap (λ (l : List ℕ). is_next 47 (next_of l)) (sym s.1) ∙ e)
loop_only ForBetween re u rest h = quoted_only re u rest h
loop_only Where re u rest h = quoted_only re u rest h
loop_only WhereNot re u rest h = quoted_only re u rest h

-- ---- substitutions

abbrev from_end : ℕ → expression.Tree → List ℕ → List ℕ → Cut Action
from_end n re with end = cut_as (tree.Substitute n re with) (all (after_blanks end))

abbrev from_text : ℕ → expression.Tree → List ℕ → Cut Action
from_text n re with_from = cut_on (up_to_slash false with_from) (from_end n re)

abbrev from_slash : ℕ → List ℕ → Cut Action
from_slash n slash = cut_on (quoted_expression slash) (from_text n)

substitution_some : (act : Action) (u rest : List ℕ) → SubstitutesAs act u rest → substitution u ≡ Some (act, rest)
substitution_some act u rest (n, re, with, global, e, (l, m, k, a, q, c, g)) =
    ap (λ (o : Cut ℕ). cut_on o from_slash) (nth_some n u l a)
    ∙ ap (λ (o : Cut expression.Tree). cut_on o (from_text n)) (quoted_some re l m q)
    ∙ ap (λ (o : Cut (List ℕ)). cut_on o (from_end n re)) (ap (up_to_slash false) c.0 ∙ closed_some false with k c.1)
    ∙ ap (cut_as (tree.Substitute n re with)) (all_some global (after_blanks k) rest g)
    ∙ ap (λ (x : Action). Some (x, rest)) (sym e)

substituted : (act : Action) (u l m k rest : List ℕ) (n : ℕ) (re : expression.Tree) (with : List ℕ) (global : Bool)
    → nth u ≡ Some (n, l) → quoted_expression l ≡ Some (re, m) → up_to_slash false m ≡ Some (with, k)
    → all (after_blanks k) ≡ Some (global, rest) → tree.Substitute n re with global ≡ act → SubstitutesAs act u rest
substituted act u l m k rest n re with global a q c g e = (
  n,
  re,
  with,
  global,
  sym e,
  (
    l,
    m,
    k,
    nth_only n u l a,
    quoted_only re l m q,
    closed_only false m with k c,
    all_only global (after_blanks k) rest g,
  ),
)

substitution_only : (act : Action) (u rest : List ℕ) → substitution u ≡ Some (act, rest) → SubstitutesAs act u rest
substitution_only act u rest h =
    let x = on_only (nth u) from_slash act rest h in
    let y = on_only (quoted_expression x.1) (from_text x.0) act rest x.3 in
    let z = on_only (up_to_slash false y.1) (from_end x.0 y.0) act rest y.3 in
    let w = as_only (tree.Substitute x.0 y.0 z.0) (all (after_blanks z.1)) act rest z.3 in
    substituted act u x.1 y.1 z.1 rest x.0 y.0 z.0 w.0 x.2 y.2 z.2 w.1 w.2

-- ---- letters

place_some : (act : Action) (u rest : List ℕ) → ActsAs letter.Equals act u rest → place u ≡ Some (act, rest)
place_some act u rest (inl x) = ap place x.1 ∙ ap (λ (a : Action). Some (a, rest)) (sym x.0)
place_some act [] rest (inr x) = ap (λ (a : Action). Some (a, [])) (sym x.0) ∙ ap (λ (l : List ℕ). Some (act, l)) x.1
place_some act (c ∷ cs) rest (inr x) =
    let e : (c == 35) ≡ false = ap (λ (l : List ℕ). is_next 35 (next_of l)) x.1 ∙ x.2 in
    rw e (ap (λ (a : Action). Some (a, c ∷ cs)) (sym x.0) ∙ ap (λ (l : List ℕ). Some (act, l)) x.1)

line_place : (act : Action) (u rest : List ℕ) → ◌≡◌ {A = Cut Action} (Some (tree.LineNumber, u)) (Some (act, rest))
    → is_next 35 (next_of u) ≡ false → ActsAs letter.Equals act u rest
line_place act u rest h e =
    let s = cut_same tree.LineNumber act u rest h in
    inr (sym s.0, s.1, ap (λ (l : List ℕ). is_next 35 (next_of l)) (sym s.1) ∙ e)

place_only : (act : Action) (u rest : List ℕ) → place u ≡ Some (act, rest) → ActsAs letter.Equals act u rest
place_only act [] rest h = line_place act [] rest h refl
place_only act (c ∷ cs) rest h = go (c == 35) refl
  where
    go : (b : Bool) → (c == 35) ≡ b → ActsAs letter.Equals act (c ∷ cs) rest
    go true e =
        let g : ◌≡◌ {A = Cut Action} (Some (tree.RuneNumber, cs)) (Some (act, rest)) = rw e at h in
        let s = cut_same tree.RuneNumber act cs rest g in
        inl (sym s.0, ap (λ z. z ∷ cs) (eqb-true c 35 e) ∙ ap (λ (l : List ℕ). 35 ∷ l) s.1)
    go false e =
        let g : ◌≡◌ {A = Cut Action} (Some (tree.LineNumber, c ∷ cs)) (Some (act, rest)) = rw e at h in
        line_place act (c ∷ cs) rest g e

line_some : (t u rest : List ℕ) → RestOfLine t u rest → rest_of_line u ≡ Some (t, rest)
line_some t u rest x = ap rest_of_line x.0 ∙ rest_some t rest x.1 x.2

abbrev seen : List ℕ → Action → Cut Action
seen rest act = Some (act, rest)

alone_some : (a act : Action) (u rest : List ℕ) → act ≡ a → u ≡ rest → ◌≡◌ {A = Cut Action} (Some (a, u))
    (Some (act, rest))
alone_some a act u rest e f = ap (seen u) (sym e) ∙ ap (λ (l : List ℕ). Some (act, l)) f

alone_only : (a act : Action) (u rest : List ℕ) → ◌≡◌ {A = Cut Action} (Some (a, u)) (Some (act, rest)) → (act ≡ a)
    × (u ≡ rest)
alone_only a act u rest h = let s = cut_same a act u rest h in (sym s.0, s.1)

action_some : (l : Letter) (act : Action) (u rest : List ℕ) → ActsAs l act u rest → action l u ≡ Some (act, rest)
action_some (letter.Puts p) act u rest x =
    ap (cut_as (puts p)) (text_some x.0 (after_blanks u) rest x.2) ∙ ap (seen rest) (sym x.1)
action_some letter.Delete act u rest x = alone_some tree.Delete act u rest x.0 x.1
action_some letter.Substitute act u rest x = substitution_some act (after_blanks u) rest x
action_some (letter.Sends way) act u rest x =
    ap (cut_as (sends way)) (address_some x.0 (after_blanks u) rest x.2) ∙ ap (seen rest) (sym x.1)
action_some letter.Print act u rest x = alone_some tree.Print act u rest x.0 x.1
action_some letter.Equals act u rest x = place_some act u rest x
action_some (letter.Asks q) act u rest x =
    ap (cut_as (tree.Asks (request_of q))) (line_some x.0 (after_blanks u) rest x.2) ∙ ap (seen rest) (sym x.1)

action_only : (l : Letter) (act : Action) (u rest : List ℕ) → action l u ≡ Some (act, rest) → ActsAs l act u rest
action_only (letter.Puts p) act u rest h =
    let x = as_only (puts p) (text (after_blanks u)) act rest h in
    (x.0, sym x.2, text_only x.0 (after_blanks u) rest x.1)
action_only letter.Delete act u rest h = alone_only tree.Delete act u rest h
action_only letter.Substitute act u rest h = substitution_only act (after_blanks u) rest h
action_only (letter.Sends way) act u rest h =
    let x = as_only (sends way) (first_address (after_blanks u)) act rest h in
    (x.0, sym x.2, address_only x.0 (after_blanks u) rest x.1)
action_only letter.Print act u rest h = alone_only tree.Print act u rest h
action_only letter.Equals act u rest h = place_only act u rest h
action_only (letter.Asks q) act u rest h =
    let x = as_only (tree.Asks (request_of q)) (rest_of_line (after_blanks u)) act rest h in
    (x.0, sym x.2, rest_only (after_blanks u) x.0 rest x.1)

-- ---- pieces

abbrev found : List ℕ → Piece → Cut Piece
found rest p = Some (p, rest)

sign_some : (a p : Piece) (u rest : List ℕ) → p ≡ a → u ≡ rest → ◌≡◌ {A = Cut Piece} (Some (a, u)) (Some (p, rest))
sign_some a p u rest e f = ap (found u) (sym e) ∙ ap (λ (l : List ℕ). Some (p, l)) f

sign_only : (a p : Piece) (u rest : List ℕ) → ◌≡◌ {A = Cut Piece} (Some (a, u)) (Some (p, rest)) → (p ≡ a) × (u ≡ rest)
sign_only a p u rest h = let s = cut_same a p u rest h in (sym s.0, s.1)

kind_some : (k : Kind) (p : Piece) (c : ℕ) (u rest : List ℕ) → GoesOnAs k p c u rest → piece_by k c u ≡ Some (p, rest)
kind_some kind.Blank p c u rest x = sign_some Blank p u rest x.0 x.1
kind_some kind.EndsLine p c u rest x = sign_some EndsLine p u rest x.0 x.1
kind_some kind.Address p c u rest x = ap (cut_as At) (address_some x.0 (c ∷ u) rest x.2) ∙ ap (found rest) (sym x.1)
kind_some (kind.Loops k) p c u rest x =
    ap (cut_as (Loops (loop_of k))) (loop_some k x.0 (after_blanks u) rest x.2) ∙ ap (found rest) (sym x.1)
kind_some kind.Opens p c u rest x = sign_some Opens p u rest x.0 x.1
kind_some kind.Closes p c u rest x = sign_some Closes p u rest x.0 x.1
kind_some (kind.Acts l) p c u rest x = ap (cut_as Does) (action_some l x.0 u rest x.2) ∙ ap (found rest) (sym x.1)
kind_some kind.Other p c u rest x = absurd x

kind_only : (k : Kind) (p : Piece) (c : ℕ) (u rest : List ℕ) → piece_by k c u ≡ Some (p, rest) → GoesOnAs k p c u rest
kind_only kind.Blank p c u rest h = sign_only Blank p u rest h
kind_only kind.EndsLine p c u rest h = sign_only EndsLine p u rest h
kind_only kind.Address p c u rest h =
    let x = as_only At (first_address (c ∷ u)) p rest h in
    (x.0, sym x.2, address_only x.0 (c ∷ u) rest x.1)
kind_only (kind.Loops k) p c u rest h =
    let x = as_only (Loops (loop_of k)) (loop_expression k (after_blanks u)) p rest h in
    (x.0, sym x.2, loop_only k x.0 (after_blanks u) rest x.1)
kind_only kind.Opens p c u rest h = sign_only Opens p u rest h
kind_only kind.Closes p c u rest h = sign_only Closes p u rest h
kind_only (kind.Acts l) p c u rest h =
    let x = as_only Does (action l u) p rest h in
    (x.0, sym x.2, action_only l x.0 u rest x.1)
kind_only kind.Other p c u rest h = none_cut p rest h

pub piece_some : (p : Piece) (u rest : List ℕ) → BeginsAs p u rest → first_piece u ≡ Some (p, rest)
piece_some p [] rest x = absurd x
piece_some p (c ∷ cs) rest x = kind_some (kind_of c) p c cs rest x

pub piece_only : (p : Piece) (u rest : List ℕ) → first_piece u ≡ Some (p, rest) → BeginsAs p u rest
piece_only p [] rest h = none_cut p rest h
piece_only p (c ∷ cs) rest h = kind_only (kind_of c) p c cs rest h
