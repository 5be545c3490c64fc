-- Where no group is named, no group is asked for.
use Rattle.std.proofs.Common.{◌≡◌, ℕ, eqb, cond, Bool, true, false, List, [], ◌∷◌, ◌++◌, refl, sym, ap, ◌∙◌, inl, inr}
use Rattle.std.proofs.Common.{append_assoc}
use Rattle.std.specs.Prelude.{◌||◌, slice_range, Option}
use Rattle.std.proofs.lemmas.Bool.{cases_Bool}
use Rattle.std.proofs.lemmas.List.{append-nil}
use Rattle.am_text.specs.declared.range.Range.{Range}
use Rattle.re_syntax.specs.Tree.{Tree}
use Rattle.re_spans.specs.Groups.{groups_of}
use Rattle.edit_run.specs.Replacing.{is_group, plain, expand, names_group, group_text, substitute}

neither : (a b : Bool) → (a || b) ≡ false → (a ≡ false) × (b ≡ false)
neither true b h = absurd (cc)
neither false b h = (refl, h)

same_written : (whole : List ℕ) (g h : ℕ → List ℕ) (behind : Bool) (with : List ℕ)
    → names_group behind with ≡ false → expand whole g behind with ≡ expand whole h behind with
same_written whole g h false [] e = refl
same_written whole g h true [] e = refl
same_written whole g h false (c ∷ cs) e =
    (elim (eqb c 92) as (λ b. names_group b cs ≡ false → cond b (expand whole g true cs)
    (plain whole c ++ expand whole g false cs) ≡ cond b (expand whole h true cs)
    (plain whole c ++ expand whole h false cs)) [
      | true ↦ λ k. same_written whole g h true cs k
      | false ↦ λ k. ap (λ x. plain whole c ++ x) (same_written whole g h false cs k)
    ]) e
same_written whole g h true (c ∷ cs) e =
    let two = neither (is_group c) (names_group false cs) e in
    rw two.0 (ap (λ x. cond (eqb c 110) 10 c ∷ [] ++ x) (same_written whole g h false cs two.1))

pub substituted_by : (r : Tree) (t : List ℕ) (with : List ℕ) (span : Range) (all : List (Option Range))
    → (names_group false with ≡ true → all ≡ groups_of r t span) → expand (slice_range t span.q0 span.q1)
    (group_text t all) false with ≡ substitute r t with span
unfolding substitute
substituted_by r t with span all h = elim (cases_Bool (names_group false with)) [
  | inl is ↦ ap (λ (x : List (Option Range)). expand (slice_range t span.q0 span.q1) (group_text t x) false with) (h is)
  | inr not ↦ same_written (slice_range t span.q0 span.q1) (group_text t all) (group_text t (groups_of r t span)) false
      with not
]

pub ruleset writing = (append_assoc, append-nil)
