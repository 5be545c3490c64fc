-- The expressions of loops.
use Rattle.std.proofs.Common.{◌≡◌, ℕ, ◌≤◌, true, false, List, ◌++◌, length, drop, refl, ap, ◌∙◌, inl, inr, arith}
use Rattle.std.specs.Prelude.{slice_range}
use Rattle.re_syntax.specs.Tree.{Tree}
use Rattle.addr_syntax.specs.Marks.{next_of}
use Rattle.addr_syntax.specs.declared.address.SynFault.{SynFault}
use Rattle.addr_syntax.specs.declared.address.SynFault.TheVariants.{Bad, Nodes, Deep, NoMemory}
use Rattle.addr_syntax.proofs.Slices.{slice_none}
use Rattle.addr_syntax.proofs.Fronts.{not_both}
use Rattle.edit_parts.specs.Kinds.{ends_line, is_next}
use Rattle.edit_parts.specs.Texts.{Quoted}
use Rattle.edit_parts.specs.Pieces.{whole_lines, LoopsOver}
use Rattle.edit_parts.specs.Read.{IsReadBy, IsBadBy, QuotedFails, LoopFails, anything, is_for_each}
use Rattle.edit_parts.specs.declared.kind.Loop.{Loop}
use Rattle.edit_parts.specs.declared.kind.Loop.TheVariants.{ForEach, ForBetween, Where, WhereNot}
use Rattle.edit_parts.proofs.Parts.{as_read, next_behind}

quoted_loops : (k : Loop) (re : Tree) (t r : List ℕ) → Quoted re t r → LoopsOver k re t r
quoted_loops ForEach re t r q = inl q
quoted_loops ForBetween re t r q = q
quoted_loops Where re t r q = q
quoted_loops WhereNot re t r q = q

pub loop_read : (k : Loop) (re : Tree) (text : List ℕ) (from end : ℕ) → IsReadBy (Quoted re) text from end
    → IsReadBy (LoopsOver k re) text from end
loop_read k re text from end x = as_read (Quoted re) (LoopsOver k re) text from end (quoted_loops k re) x

pub whole_lines_read : (k : Loop) (text : List ℕ) (from : ℕ) → is_for_each k ≡ true → from ≤ length text
    → is_next 47 (next_of (drop from text)) ≡ false → IsReadBy (LoopsOver k whole_lines) text from from
whole_lines_read ForEach text from each l e = record {
  order = omega arith;
  within = l;
  written = λ rest n. inr (refl, ap (λ (t : List ℕ). t ++ rest) (slice_none text from), ap (is_next 47) n ∙ e);
}
whole_lines_read ForBetween text from each l e = absurd cc
whole_lines_read Where text from each l e = absurd cc
whole_lines_read WhereNot text from each l e = absurd cc

-- where an `x` has an expression, or the loop is no `x`
abbrev pub Needs : Loop → List ℕ → ℕ → Type 0
Needs k text from = is_for_each k ≡ true → is_next 47 (next_of (drop from text)) ≡ true

begins_so : (text : List ℕ) (from place : ℕ) (more : List ℕ) → from ≤ place → next_of more ≡ next_of (drop place text)
    → is_next 47 (next_of (drop from text)) ≡ true → is_next 47 (next_of (slice_range text from place ++ more)) ≡ true
begins_so text from place more l n e = ap (is_next 47) (next_behind text from place more l n) ∙ e

only_quoted : (k : Loop) (re : Tree) (t r : List ℕ) → (is_for_each k ≡ true → is_next 47 (next_of t) ≡ true)
    → LoopsOver k re t r → Quoted re t r
only_quoted ForEach re t r h (inl q) = q
only_quoted ForEach re t r h (inr p) = absurd (not_both (is_next 47 (next_of t)) (h refl)
    (ap (λ (x : List ℕ). is_next 47 (next_of x)) p.1 ∙ p.2))
only_quoted ForBetween re t r h q = q
only_quoted Where re t r h q = q
only_quoted WhereNot re t r h q = q

pub loop_bad : (k : Loop) (text : List ℕ) (from place : ℕ) → Needs k text from
    → IsBadBy Tree Quoted anything text from place → IsBadBy Tree (LoopsOver k) ends_line text from place
loop_bad k text from place needs bad = record {
  order = bad.order;
  within = bad.within;
  before =
      let b = bad.before in
      (b.0, b.1, b.2, λ rest n. quoted_loops k b.1 ((slice_range text from place ++ b.0) ++ rest) rest (b.3 rest refl));
  dead = λ more n re rest y.
      bad.dead more n re rest (only_quoted k re (slice_range text from place ++ more) rest
      (λ e. begins_so text from place more bad.order n (needs e)) y);
}

pub loop_fails : (k : Loop) (text : List ℕ) (from : ℕ) (e : SynFault) → Needs k text from → QuotedFails text from e
    → LoopFails k text from e
loop_fails k text from (Bad place) needs x = loop_bad k text from place needs x
loop_fails k text from Nodes needs x = absurd x
loop_fails k text from Deep needs x = absurd x
loop_fails k text from NoMemory needs x = tt
