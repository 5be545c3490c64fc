-- Windows after a change, for the crates above.
use Rattle.std.proofs.Common.{◌≡◌, ℕ, zero, suc, ◌+◌, ◌-◌, ◌<◌, Bool, true, false, cond, eqb, ◌||◌, List, [], ◌∷◌, ◌++◌}
use Rattle.std.proofs.Common.{length, Option, Some, None, refl, sym, ap, subst, ◌∙◌, arith}
use Rattle.std.specs.Prelude.{IsSome}
use Rattle.std.specs.Option.{option_map}
use Rattle.std.specs.List.{list_any}
use Rattle.std.proofs.lemmas.Bool.Decides.{nat_tests}
use Rattle.edit_log.specs.declared.types.Edit.{Edit}
use Rattle.edit_log.specs.Edited.{text_after}
use Rattle.core_windows.specs.declared.change.Change.TheVariants as change
use Rattle.core_windows.specs.declared.change.Setting.{Setting}
use Rattle.core_windows.specs.Places.{at_place, live_at}
use Rattle.core_windows.specs.Possible.{text_in, CanSet, CanEdit, CanChangeAll}
use Rattle.core_windows.specs.Windows.{Window, window_at, edited, numbers}
use Rattle.core_windows.specs.Stories.{WindowStory, shown_if_live, shown_windows, story_at, IsLawfulIfLive, AreLawful}

-- ---- the window of a number

live_same : (f : Window → Window) (k : ℕ) (ws : List (Option Window))
    → live_at (at_place (option_map f) k ws) k ≡ option_map f (live_at ws k)
live_same f k [] = refl
live_same f zero (None ∷ ws) = refl
live_same f zero (Some w ∷ ws) = refl
live_same f (suc k) (w ∷ ws) = live_same f k ws

none_or : (f : Window → Window) (b : Bool) (o : Option Window) → cond b None (option_map f o) ≡ option_map f
    (cond b None o)
none_or f true o = refl
none_or f false o = refl

-- the window of which the change is
pub window_then : (f : Window → Window) (w : ℕ) (ws : List (Option Window))
    → window_at (at_place (option_map f) (w - 1) ws) w ≡ option_map f (window_at ws w)
window_then f w ws = ap (λ (o : Option Window). cond (eqb w 0) None o) (live_same f (w - 1) ws)
    ∙ none_or f (eqb w 0) (live_at ws (w - 1))

lives_mapped : (f : Window → Window) (o : Option Window) → IsSome o → IsSome (option_map f o)
lives_mapped f None h = absurd cc
lives_mapped f (Some w) h = refl

-- it goes on living
pub lives_then : (f : Window → Window) (w : ℕ) (ws : List (Option Window)) → IsSome (window_at ws w)
    → IsSome (window_at (at_place (option_map f) (w - 1) ws) w)
lives_then f w ws h = subst IsSome (sym (window_then f w ws)) (lives_mapped f (window_at ws w) h)

-- ---- edits, and then a range in the text that they leave

text_edited : (es : List Edit) (at : ℕ) (o : Option Window) → IsSome o
    → text_in (option_map (edited es at) o) ≡ text_after (text_in o) es
text_edited es at None h = absurd cc
text_edited es at (Some w) h = refl

pub edits_then_set : (at w : ℕ) (es : List Edit) (s : Setting) (ws : List (Option Window)) → CanEdit (window_at ws w) es
    → CanSet (text_after (text_in (window_at ws w)) es) s
    → CanChangeAll at ws (change.Edits w es ∷ change.Sets w s ∷ [])
edits_then_set at w es s ws can inside =
    let text = text_edited es at (window_at ws w) can.lives in
    let there = subst (λ (t : List ℕ). CanSet t s) (sym (ap text_in (window_then (edited es at) w ws) ∙ text)) inside in
    (can, (record { lives = lives_then (edited es at) w ws can.lives; inside = there }, tt))

-- ---- a window that is made

live_last : (ws : List (Option Window)) (x : Window) → live_at (ws ++ Some x ∷ []) (length ws) ≡ Some x
live_last [] x = refl
live_last (w ∷ ws) x = live_last ws x

behind_all : (n : ℕ) (o : Option Window) (x : Window) → o ≡ Some x → cond (eqb (n + 1) 0) None o ≡ Some x
behind_all n o x h = let e : eqb (n + 1) 0 ≡ false = grind (arith, nat_tests) in ap (λ (b : Bool). cond b None o) e ∙ h

pub made_there : (ws : List (Option Window)) (x : Window) → window_at (ws ++ Some x ∷ []) (length ws + 1) ≡ Some x
made_there ws x =
    let n : length ws + 1 - 1 ≡ length ws = omega arith in
    behind_all (length ws) _ x (ap (live_at (ws ++ Some x ∷ [])) n ∙ live_last ws x)

-- ---- what is listed lives

abbrev is_in : List ℕ → ℕ → Bool
is_in ids w = list_any (λ v. eqb v w) ids

none_before : (n w : ℕ) (ws : List (Option Window)) → w < n → is_in (numbers n ws) w ≡ false
none_before n w [] h = refl
none_before n w (None ∷ ws) h = none_before (n + 1) w ws (omega arith)
none_before n w (Some x ∷ ws) h =
    let e : eqb n w ≡ false = grind (arith, nat_tests) in
    ap (λ (b : Bool). b || is_in (numbers (n + 1) ws) w) e ∙ none_before (n + 1) w ws (omega arith)

both_ways : (b : Bool) → b ≡ false → b ≡ true → ⊥
both_ways b e h = absurd cc

listed : (n k : ℕ) (ws : List (Option Window)) → is_in (numbers n ws) (n + k) ≡ true → IsSome (live_at ws k)
listed n k [] h = absurd cc
listed n zero (None ∷ ws) h = absurd (both_ways (is_in (numbers (n + 1) ws) (n + 0))
    (none_before (n + 1) (n + 0) ws (omega arith)) h)
listed n zero (Some w ∷ ws) h = refl
listed n (suc k) (None ∷ ws) h = listed (n + 1) k ws (ap (is_in (numbers (n + 1) ws)) (omega arith) ∙ h)
listed n (suc k) (Some w ∷ ws) h =
    let e : eqb n (n + suc k) ≡ false = grind (arith, nat_tests) in
    listed (n + 1) k ws (ap (is_in (numbers (n + 1) ws)) (omega arith)
    ∙ sym (ap (λ (b : Bool). b || is_in (numbers (n + 1) ws) (n + suc k)) e) ∙ h)

pub listed_lives : (ws : List (Option Window)) (w : ℕ) → list_any (λ v. eqb v w) (numbers 1 ws) ≡ true →
    IsSome (window_at ws w)
listed_lives ws zero h = absurd (both_ways (is_in (numbers 1 ws) 0) (none_before 1 0 ws (omega arith)) h)
listed_lives ws (suc k) h =
    let l : IsSome (live_at ws k) = listed 1 k ws (ap (is_in (numbers 1 ws)) (omega arith) ∙ h) in
    let e : eqb (suc k) 0 ≡ false = grind (arith, nat_tests) in
    subst (λ (b : Bool). IsSome (cond b None (live_at ws (suc k - 1)))) (sym e)
    (subst (λ (i : ℕ). IsSome (live_at ws i)) (omega arith) l)

-- ---- windows by all that was done to them

live_shown : (k : ℕ) (ss : List (Option WindowStory)) → live_at (shown_windows ss) k ≡ shown_if_live (live_at ss k)
live_shown k [] = refl
live_shown zero (None ∷ ss) = refl
live_shown zero (Some s ∷ ss) = refl
live_shown (suc k) (s ∷ ss) = live_shown k ss

shown_or : (b : Bool) (o : Option WindowStory) → cond b None (shown_if_live o) ≡ shown_if_live (cond b None o)
shown_or true o = refl
shown_or false o = refl

pub window_of_story : (ss : List (Option WindowStory)) (w : ℕ) → window_at (shown_windows ss)
    w ≡ shown_if_live (story_at ss w)
window_of_story ss w = ap (λ (o : Option Window). cond (eqb w 0) None o) (live_shown (w - 1) ss)
    ∙ shown_or (eqb w 0) (live_at ss (w - 1))

live_lawful : (k : ℕ) (ss : List (Option WindowStory)) → AreLawful ss → IsLawfulIfLive (live_at ss k)
live_lawful k [] h = tt
live_lawful zero (s ∷ ss) h = h.0
live_lawful (suc k) (s ∷ ss) h = live_lawful k ss h.1

lawful_or : (b : Bool) (o : Option WindowStory) → IsLawfulIfLive o → IsLawfulIfLive (cond b None o)
lawful_or true o h = tt
lawful_or false o h = h

pub lawful_at : (ss : List (Option WindowStory)) (w : ℕ) → AreLawful ss → IsLawfulIfLive (story_at ss w)
lawful_at ss w h = lawful_or (eqb w 0) (live_at ss (w - 1)) (live_lawful (w - 1) ss h)
