-- The laws of commands.
use Rattle.std.proofs.Common.{◌≡◌, ℕ, zero, suc, ◌+◌, ◌-◌, ◌≤◌, Bool, true, false, List, [], ◌∷◌, ◌++◌, take, drop, Ok}
use Rattle.std.proofs.Common.{refl, sym, ap, ◌∙◌, arith}
use Rattle.std.specs.Prelude.{◌==◌, slice_range, if◌then◌else◌}
use Rattle.std.proofs.lemmas.List.{append-nil, drop-drop}
use Rattle.std.proofs.Math.Seq.{take-add}
use Rattle.am_text.specs.declared.range.Range.{Range}
use Rattle.re_spans.specs.Successive.{AreInOrder}
use Rattle.re_spans.proofs.Following.{successive_in_order}
use Rattle.edit_run.specs.Ranges.{matches_in, between, choose}
use Rattle.edit_run.specs.Replacing.{substitute}
use Rattle.edit_run.specs.Meaning.{replace_each, at_address, do_action, for_each, has_match}
use Rattle.edit_run.specs.Laws.{NoMatchWantsNothing, NumberZeroWantsNothing, OneOfTheTwo, TextsAreWoven, weave}

none_dropped : (n : ℕ) → drop n (let none : List Range = [] in none) ≡ []
none_dropped zero = refl
none_dropped (suc n) = refl

none_chosen : (n : ℕ) (all : Bool) → choose n all [] ≡ []
none_chosen n all = by (n == 0) all
  where
    by : (zero all : Bool) → (if zero then [] else (if all then drop (n - 1) (let none : List Range = [] in none) else
        take 1 (drop (n - 1) []))) ≡ []
    by true all = refl
    by false true = none_dropped (n - 1)
    by false false = ap (λ (x : List Range). take 1 x) (none_dropped (n - 1))

pub no_match : NoMatchWantsNothing
no_match re t site dot r e none = (
  λ n with all. ap (λ (x : List Range). Ok (replace_each (substitute re t with) x e))
      (ap (λ (x : List Range). choose n all x) none ∙ none_chosen n all),
  λ addr act. ap (λ (x : List Range). for_each (at_address addr (do_action act t site) t) x e) none,
)

pub zero_nothing : NumberZeroWantsNothing
zero_nothing re t site dot r e with all = refl

pub one_of_two : OneOfTheTwo
one_of_two re t r = by (has_match re t r)
  where
    by : (b : Bool) → (if b then r ∷ [] else []) ++ (if b then [] else r ∷ []) ≡ r ∷ []
    by true = refl
    by false = refl

joined : (t : List ℕ) (a b c : ℕ) → a ≤ b → b ≤ c → slice_range t a b ++ slice_range t b c ≡ slice_range t a c
joined t a b c l m =
    let n : b - a + (c - b) ≡ c - a = omega arith in
    let at : a + (b - a) ≡ b = omega arith in
    let back : drop (b - a) (drop a t) ≡ drop b t = drop-drop (b - a) a t ∙ ap (λ k. drop k t) at in
    ap (λ (x : List ℕ). take (b - a) (drop a t) ++ take (c - b) x) (sym back)
    ∙ (sym (take-add (b - a) (c - b) (drop a t)) ∙ ap (λ k. take k (drop a t)) n)

woven_of : (t : List ℕ) (at end : ℕ) (ms : List Range) → at ≤ end → AreInOrder at end ms
    → weave t (between at end ms) ms ≡ slice_range t at end
woven_of t at end [] l h = append-nil (slice_range t at end)
woven_of t at end (m ∷ ms) l h =
    let rest : weave t (between m.q1 end ms) ms ≡ slice_range t m.q1 end = woven_of t m.q1 end ms h.0.below h.1 in
    ap (λ (x : List ℕ). slice_range t at m.q0 ++ slice_range t m.q0 m.q1 ++ x) rest
    ∙ (ap (λ (x : List ℕ). x ++ slice_range t m.q1 end) (joined t at m.q0 m.q1 h.0.above h.0.order)
    ∙ joined t at m.q1 end (omega (arith, h.0.above, h.0.order)) h.0.below)

pub texts_woven : TextsAreWoven
texts_woven re t r l = woven_of t r.q0 r.q1 (matches_in re t r) l (successive_in_order re t r.q0 r.q1)
