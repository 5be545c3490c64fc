-- What is wanted of a text stays inside it.
use Rattle.std.proofs.Common.{◌≡◌, ℕ, zero, suc, ◌-◌, ◌≤◌, ◌==◌, Bool, true, false, List, [], ◌∷◌, ◌++◌, length, take}
use Rattle.std.proofs.Common.{drop, sym, subst, arith}
use Rattle.std.specs.Prelude.{if◌then◌else◌}
use Rattle.am_text.specs.declared.range.Range.{Range}
use Rattle.re_syntax.specs.Tree.{Tree}
use Rattle.edit_log.specs.declared.types.Edit.{Edit}
use Rattle.re_spans.specs.Successive.{AreInOrder}
use Rattle.sam_address.specs.Value.{IsInside}
use Rattle.edit_run.specs.declared.effects.Effects.{Effects}
use Rattle.edit_run.specs.Ranges.{between, choose, AreMatches, AreInside}
use Rattle.edit_run.specs.Within.{AreChangesOf, IsWithin}

pub changes_append : (len : ℕ) (cs ds : List Edit) → AreChangesOf len cs → AreChangesOf len ds
    → AreChangesOf len (cs ++ ds)
changes_append len [] ds a b = b
changes_append len (c ∷ cs) ds a b = (a.0, a.1, changes_append len cs ds a.2 b)

pub within_more : (t : List ℕ) (e n : Effects) (c : Edit) → c.q0 ≤ c.q1 → c.q1 ≤ length t
    → n.changes ≡ e.changes ++ c ∷ [] → n.last ≡ e.last → IsWithin t e → IsWithin t n
within_more t e n c a b same last h =
    let P : List Edit → Type 0 = λ x. AreChangesOf (length t) x in
    let Q : Range → Type 0 = λ x. IsInside t x in
    record {
      changes = subst P (sym same) (changes_append (length t) e.changes (c ∷ []) h.changes (a, b, tt));
      last = subst Q (sym last) h.last;
    }

pub ordered_inside : (t : List ℕ) (low high : ℕ) (ms : List Range) → high ≤ length t → AreInOrder low high ms
    → AreInside t ms
ordered_inside t low high [] l h = tt
ordered_inside t low high (m ∷ ms) l h =
    (record { order = h.0.order; within = omega (arith, h.0.below) }, ordered_inside t m.q1 high ms l h.1)

pub between_inside : (t : List ℕ) (low high : ℕ) (ms : List Range) → low ≤ high → high ≤ length t
    → AreInOrder low high ms → AreInside t (between low high ms)
between_inside t low high [] o l h = (record { order = o; within = l }, tt)
between_inside t low high (m ∷ ms) o l h = (
  record { order = h.0.above; within = omega (arith, h.0.order, h.0.below) },
  between_inside t m.q1 high ms h.0.below l h.1,
)

matches_drop : (r : Tree) (t : List ℕ) (n : ℕ) (ms : List Range) → AreMatches r t ms → AreMatches r t (drop n ms)
matches_drop r t zero ms h = h
matches_drop r t (suc n) [] h = tt
matches_drop r t (suc n) (m ∷ ms) h = matches_drop r t n ms h.3

matches_one : (r : Tree) (t : List ℕ) (ms : List Range) → AreMatches r t ms → AreMatches r t (take 1 ms)
matches_one r t [] h = tt
matches_one r t (m ∷ ms) h = (h.0, h.1, h.2, tt)

chosen_by : (none all : Bool) (r : Tree) (t : List ℕ) (n : ℕ) (ms : List Range) → AreMatches r t ms
    → AreMatches r t (if none then [] else (if all then drop n ms else take 1 (drop n ms)))
chosen_by true all r t n ms h = tt
chosen_by false true r t n ms h = matches_drop r t n ms h
chosen_by false false r t n ms h = matches_one r t (drop n ms) (matches_drop r t n ms h)

pub chosen_matches : (r : Tree) (t : List ℕ) (n : ℕ) (all : Bool) (ms : List Range) → AreMatches r t ms
    → AreMatches r t (choose n all ms)
chosen_matches r t n all ms h = chosen_by (n == 0) all r t (n - 1) ms h
