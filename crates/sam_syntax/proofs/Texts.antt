-- Texts, lines and numbers at the front of a text: the functions cut them as the relations say.
use Rattle.std.proofs.Common.{◌≡◌, ℕ, ◌+◌, ◌-◌, ◌*◌, ◌^◌, ◌==◌, ◌&&◌, Bool, true, false, cond, List, [], ◌∷◌, ◌++◌}
use Rattle.std.proofs.Common.{Option, Some, None, refl, sym, ap, subst, ◌∙◌}
use Rattle.std.specs.Prelude.{nat_lt}
use Rattle.std.specs.Char.{is_ascii_digit}
use Rattle.std.proofs.lemmas.Bool.{eqb-true}
use Rattle.am_text.specs.Number.{number_after}
use Rattle.re_syntax.specs.Tree as expression
use Rattle.re_syntax.specs.Build.{level_tree}
use Rattle.re_syntax.specs.Grammar.{IsExpression}
use Rattle.re_syntax.specs.Read as re
use Rattle.re_syntax.proofs.Sound.{whole}
use Rattle.re_syntax.proofs.Complete.{complete_read}
use Rattle.addr_syntax.specs.Marks.{next_of, is_digit}
use Rattle.addr_syntax.specs.Scan.{is_whole}
use Rattle.addr_syntax.specs.Addresses.{tree_read, expression_of}
use Rattle.addr_syntax.proofs.Digits.{goes, step_true, step_false, number_none}
use Rattle.edit_parts.specs.Kinds.{ends_line}
use Rattle.edit_parts.specs.Texts.{are_lines, has_newline}
use Rattle.sam_syntax.specs.Cuts.{Cut, with_rune}
use Rattle.sam_syntax.specs.Texts.{up_to_slash, lines, rest_of_line, number_from}
use Rattle.sam_syntax.proofs.Cuts.{some_same, cut_same, none_cut, as_only, and_three, and_last, and_middle, and_both}
use Rattle.sam_syntax.proofs.Cuts.{not_and, or_neither}

abbrev with : (c : ℕ) → List ℕ → List ℕ
with c t = c ∷ t

-- ---- up to a `/`

pub closed_some : (e : Bool) (t rest : List ℕ) → is_whole 47 e t ≡ true → up_to_slash e
    (t ++ 47 ∷ rest) ≡ Some (t, rest)
closed_some true [] rest w = absurd cc
closed_some false [] rest w = refl
closed_some true (c ∷ cs) rest w = ap (with_rune c) (closed_some false cs rest w)
closed_some false (c ∷ cs) rest w = go (47 == c) refl (λ x. closed_some (c == 92) cs rest x)
  where
    go : (b : Bool) → (47 == c) ≡ b → (is_whole 47 (c == 92) cs ≡ true → up_to_slash (c == 92)
        (cs ++ 47 ∷ rest) ≡ Some (cs, rest)) → up_to_slash false (c ∷ cs ++ 47 ∷ rest) ≡ Some (c ∷ cs, rest)
    go true e on = let f : false ≡ true = rw e at w in absurd cc
    go false e on =
        let f : is_whole 47 (c == 92) cs ≡ true = rw e at w in
        rw e (ap (with_rune c) (on f))

abbrev Closes : Bool → List ℕ → List ℕ → List ℕ → Type 0
Closes e text t rest = (text ≡ t ++ 47 ∷ rest) × (is_whole 47 e t ≡ true)

pub closed_only : (e : Bool) (text t rest : List ℕ) → up_to_slash e text ≡ Some (t, rest) → Closes e text t rest
closed_only true [] t rest h = absurd (none_cut t rest h)
closed_only false [] t rest h = absurd (none_cut t rest h)
closed_only true (c ∷ cs) t rest h =
    let x = as_only (with c) (up_to_slash false cs) t rest h in
    let on = closed_only false cs x.0 rest x.1 in
    subst (λ (u : List ℕ). Closes true (c ∷ cs) u rest) x.2 (ap (with c) on.0, on.1)
closed_only false (c ∷ cs) t rest h = go (47 == c) refl (λ u f. closed_only (c == 92) cs u rest f)
  where
    go : (b : Bool) → (47 == c) ≡ b → ((u : List ℕ) → up_to_slash (c == 92) cs ≡ Some (u, rest)
        → Closes (c == 92) cs u rest) → Closes false (c ∷ cs) t rest
    go true e on =
        let f : ◌≡◌ {A = Cut (List ℕ)} (Some ([], cs)) (Some (t, rest)) = rw e at h in
        let s = cut_same [] t cs rest f in
        let first : 47 ≡ c = eqb-true 47 c e in
        subst (λ (u : List ℕ). Closes false (c ∷ cs) u rest) s.0 (ap (λ z. z ∷ cs) (sym first) ∙ ap (with 47) s.1, refl)
    go false e on =
        let f : with_rune c (up_to_slash (c == 92) cs) ≡ Some (t, rest) = rw e at h in
        let x = as_only (with c) (up_to_slash (c == 92) cs) t rest f in
        let o = on x.0 x.1 in
        subst (λ (u : List ℕ). Closes false (c ∷ cs) u rest) x.2 (ap (with c) o.0, rw e o.1)

-- ---- lines up to a `.`

abbrev is_dot : Bool → ℕ → List ℕ → Bool
is_dot s c cs = s && (c == 46) && ends_line (next_of cs)

dot_before : (s : Bool) (c : ℕ) (cs rest : List ℕ) → is_dot s c cs ≡ false → is_dot s c (cs ++ 46 ∷ rest) ≡ false
dot_before s c [] rest e = and_last s (c == 46)
dot_before s c (d ∷ ds) rest e = e

pub lines_some : (s : Bool) (t rest : List ℕ) → are_lines s t ≡ true → ends_line (next_of rest) ≡ true → lines s
    (t ++ 46 ∷ rest) ≡ Some (t, rest)
lines_some s [] rest w n = rw (w, n) refl
lines_some s (c ∷ cs) rest w n =
    let f = not_and (is_dot s c cs) (are_lines (c == 10) cs) w in
    rw (dot_before s c cs rest f.0) (ap (with_rune c) (lines_some (c == 10) cs rest f.1 n))

abbrev EndsLines : Bool → List ℕ → List ℕ → List ℕ → Type 0
EndsLines s text t rest = (text ≡ t ++ 46 ∷ rest) × (are_lines s t ≡ true) × (ends_line (next_of rest) ≡ true)

ten_no_dot : (c : ℕ) → (c == 10) ≡ true → (c == 46) ≡ false
ten_no_dot c e = ap (λ z. z == 46) (eqb-true c 10 e)

dot_within : (s : Bool) (c : ℕ) (cs t rest : List ℕ) → cs ≡ t ++ 46 ∷ rest
    → are_lines (c == 10) t ≡ true → is_dot s c cs ≡ false → is_dot s c t ≡ false
dot_within s c cs [] rest e w f = ap (λ (b : Bool). s && b && true) (ten_no_dot c w) ∙ and_middle s true
dot_within s c cs (d ∷ ds) rest e w f = ap (λ (l : List ℕ). is_dot s c l) (sym e) ∙ f

pub lines_only : (s : Bool) (text t rest : List ℕ) → lines s text ≡ Some (t, rest) → EndsLines s text t rest
lines_only s [] t rest h = absurd (none_cut t rest h)
lines_only s (c ∷ cs) t rest h = go (is_dot s c cs) refl (λ u f. lines_only (c == 10) cs u rest f)
  where
    go : (b : Bool) → is_dot s c cs ≡ b → ((u : List ℕ) → lines (c == 10) cs ≡ Some (u, rest)
        → EndsLines (c == 10) cs u rest) → EndsLines s (c ∷ cs) t rest
    go true e on =
        let f : ◌≡◌ {A = Cut (List ℕ)} (Some ([], cs)) (Some (t, rest)) = rw e at h in
        let p = cut_same [] t cs rest f in
        let d = and_three s (c == 46) (ends_line (next_of cs)) e in
        subst (λ (u : List ℕ). EndsLines s (c ∷ cs) u rest) p.0 (
          ap (λ z. z ∷ cs) (eqb-true c 46 d.1)
              ∙ ap (with 46) p.1,
          d.0,
          ap (λ (l : List ℕ). ends_line (next_of l)) (sym p.1) ∙ d.2,
        )
    go false e on =
        let f : with_rune c (lines (c == 10) cs) ≡ Some (t, rest) = rw e at h in
        let x = as_only (with c) (lines (c == 10) cs) t rest f in
        let o = on x.0 x.1 in
        subst (λ (u : List ℕ). EndsLines s (c ∷ cs) u rest) x.2 (
          ap (with c) o.0,
          rw (dot_within s c cs x.0 rest o.0 o.1 e) o.1,
          o.2,
        )

-- ---- up to the line's end

pub rest_some : (t rest : List ℕ) → has_newline t ≡ false → ends_line (next_of rest) ≡ true →
    rest_of_line (t ++ rest) ≡ Some (t, rest)
rest_some [] [] w n = refl
rest_some [] (c ∷ cs) w n = rw n refl
rest_some (c ∷ cs) rest w n =
    let f = or_neither (c == 10) (has_newline cs) w in
    rw f.0 (ap (with_rune c) (rest_some cs rest f.1 n))

abbrev IsRest : List ℕ → List ℕ → List ℕ → Type 0
IsRest text t rest = (text ≡ t ++ rest) × (has_newline t ≡ false) × (ends_line (next_of rest) ≡ true)

pub rest_only : (text t rest : List ℕ) → rest_of_line text ≡ Some (t, rest) → IsRest text t rest
rest_only [] t rest h =
    let p = cut_same [] t [] rest h in
    subst (λ (u : List ℕ). IsRest [] u rest) p.0 (p.1, refl, ap (λ (l : List ℕ). ends_line (next_of l)) (sym p.1))
rest_only (c ∷ cs) t rest h = go (c == 10) refl (λ u f. rest_only cs u rest f)
  where
    go : (b : Bool) → (c == 10) ≡ b → ((u : List ℕ) → rest_of_line cs ≡ Some (u, rest) → IsRest cs u rest)
        → IsRest (c ∷ cs) t rest
    go true e on =
        let f : ◌≡◌ {A = Cut (List ℕ)} (Some ([], c ∷ cs)) (Some (t, rest)) = rw e at h in
        let p = cut_same [] t (c ∷ cs) rest f in
        subst (λ (u : List ℕ). IsRest (c ∷ cs) u rest) p.0 (
          p.1,
          refl,
          ap (λ (l : List ℕ). ends_line (next_of l)) (sym p.1) ∙ e,
        )
    go false e on =
        let f : with_rune c (rest_of_line cs) ≡ Some (t, rest) = rw e at h in
        let x = as_only (with c) (rest_of_line cs) t rest f in
        let o = on x.0 x.1 in
        subst (λ (u : List ℕ). IsRest (c ∷ cs) u rest) x.2 (ap (with c) o.0, rw e o.1, o.2)

-- ---- numbers

from_none : (n : ℕ) → number_from n [] ≡ Some (n, [])
unfolding number_from
from_none n = refl

from_other : (n c : ℕ) (cs : List ℕ) → is_ascii_digit c ≡ false → number_from n (c ∷ cs) ≡ Some (n, c ∷ cs)
unfolding number_from
from_other n c cs e = rw e refl

from_large : (n c : ℕ) (cs : List ℕ) → is_ascii_digit c ≡ true → nat_lt (n * 10 + (c - 48)) (2 ^ 64) ≡ false →
    number_from n (c ∷ cs) ≡ None
unfolding number_from
from_large n c cs e f = rw (e, f) refl

from_digit : (n c : ℕ) (cs : List ℕ) → goes n c ≡ true → number_from n (c ∷ cs) ≡ number_from (n * 10 + (c - 48)) cs
unfolding number_from
from_digit n c cs e =
    let d = and_both (is_ascii_digit c) (nat_lt (n * 10 + (c - 48)) (2 ^ 64)) e in
    rw (d.0, d.1) refl

number_is : (k n : ℕ) → Some k ≡ Some n → k ≡ n
number_is k n e = some_same k n e

pub number_some : (v m : List ℕ) (k n : ℕ) → number_after k v ≡ Some n
    → is_digit (next_of m) ≡ false → number_from k (v ++ m) ≡ Some (n, m)
number_some [] [] k n e f =
    from_none k ∙ ap (λ (z : ℕ). Some (z, [])) (number_is k n (sym (number_none k) ∙ e))
number_some [] (c ∷ cs) k n e f =
    from_other k c cs f ∙ ap (λ (z : ℕ). Some (z, c ∷ cs)) (number_is k n (sym (number_none k) ∙ e))
number_some (d ∷ ds) m k n e f = go (goes k d) refl (λ j g. number_some ds m j n g f)
  where
    go : (b : Bool) → goes k d ≡ b → ((j : ℕ) → number_after j ds ≡ Some n → number_from j (ds ++ m) ≡ Some (n, m))
        → number_from k (d ∷ ds ++ m) ≡ Some (n, m)
    go true t on = from_digit k d (ds ++ m) t ∙ on (k * 10 + (d - 48)) (sym (step_true k d ds t) ∙ e)
    go false t on = let g = step_false k d ds t in absurd cc

abbrev pub IsNumberFrom : ℕ → List ℕ → ℕ → List ℕ → Type 0
IsNumberFrom k text n m = (v : List ℕ) × (text ≡ v ++ m) × (number_after k v ≡ Some n) × (is_digit (next_of m) ≡ false)

no_digits : (k n : ℕ) (text m : List ℕ) → ◌≡◌ {A = Cut ℕ} (Some (k, text)) (Some (n, m))
    → is_digit (next_of text) ≡ false → IsNumberFrom k text n m
no_digits k n text m e f =
    let s = cut_same k n text m e in
    ([], s.1, number_none k ∙ ap Some s.0, ap (λ (l : List ℕ). is_digit (next_of l)) (sym s.1) ∙ f)

pub number_only : (text : List ℕ) (k n : ℕ) (m : List ℕ) → number_from k text ≡ Some (n, m) → IsNumberFrom k text n m
number_only [] k n m h = no_digits k n [] m (sym (from_none k) ∙ h) refl
number_only (c ∷ cs) k n m h = go (is_ascii_digit c) refl (nat_lt (k * 10 + (c - 48)) (2 ^ 64)) refl
    (λ j f. number_only cs j n m f)
  where
    go : (b : Bool) → is_ascii_digit c ≡ b → (s : Bool) → nat_lt (k * 10 + (c - 48)) (2 ^ 64) ≡ s →
        ((j : ℕ) → number_from j cs ≡ Some (n, m) → IsNumberFrom j cs n m) → IsNumberFrom k (c ∷ cs) n m
    go false e s f on = no_digits k n (c ∷ cs) m (sym (from_other k c cs e) ∙ h) e
    go true e false f on = absurd (none_cut n m (sym (from_large k c cs e f) ∙ h))
    go true e true f on =
        let t : goes k c ≡ true = rw (e, f) refl in
        let o = on (k * 10 + (c - 48)) (sym (from_digit k c cs t) ∙ h) in
        (c ∷ o.0, ap (with c) o.1, step_true k c o.0 t ∙ o.2, o.3)

-- ---- expressions

pub expression_some : (d : ℕ) (text : List ℕ) (r : expression.Tree) → IsExpression (Some d) text r
    → expression_of d text ≡ Some r
unfolding expression_of
expression_some d text r is =
    let c = complete_read (Some d) text r is in
    ap tree_read c.reads_to ∙ ap (λ (t : Bool). cond t (level_tree c.reading.stack.top) None) c.complete ∙ c.finished_is

pub expression_only : (d : ℕ) (text : List ℕ) (r : expression.Tree) → expression_of d text ≡ Some r
    → IsExpression (Some d) text r
unfolding expression_of
expression_only d text r e = of (re.reads (Some (re.begin (Some d))) text) refl e
  where
    of : (o : Option re.Reading) → re.reads (Some (re.begin (Some d))) text ≡ o → tree_read o ≡ Some r
        → IsExpression (Some d) text r
    of None is = λ h. absurd cc
    of (Some m) is =
        elim (re.is_complete m.scanner) as (λ t. re.is_complete m.scanner ≡ t → cond t (level_tree m.stack.top)
        None ≡ Some r → IsExpression (Some d) text r) [
          | true ↦ λ t h. let w = whole (Some d) text m is t in subst
              (λ (s : expression.Tree). IsExpression (Some d) text s) (some_same w.result r (sym w.finished_is ∙ h))
              w.written
          | false ↦ λ t h. absurd cc
        ] refl
