-- A change of one window leaves the others, and so a text that is put into an errors window does.
use Rattle.std.proofs.Common.{◌≡◌, ℕ, zero, suc, ◌+◌, ◌-◌, ◌<◌, ◌≤◌, Bool, true, false, cond, eqb, List, [], ◌∷◌, ◌++◌}
use Rattle.std.proofs.Common.{length, Option, Some, None, Err, refl, sym, ap, subst, ◌∙◌, arith}
use Rattle.std.specs.Prelude.{IsSome}
use Rattle.std.specs.Option.{option_map}
use Rattle.std.specs.Str.{bytes_eq}
use Rattle.core_windows.specs.Places.{at_place, live_at}
use Rattle.core_windows.specs.Windows.{Window, window_at, named, named_from}
use Rattle.core_windows.proofs.Conditions.{has_place}
use Rattle.core_scene.specs.declared.deed.Entry.{Entry}
use Rattle.core_scene.specs.Scenes.{SceneState, done_all}
use Rattle.core_actions.specs.Seen.{dir_of}
use Rattle.win_ctl.specs.Directory.{errors_name}
use Rattle.core_actions.specs.Errors.{errors_deeds, errors_in, put_in, is_dropped}
use Rattle.core_edit.specs.declared.fault.CommandFault.{CommandFault}
use Rattle.core_edit.specs.Faults.{fault_line}
use Rattle.core_across.specs.Editing.{Outcome, fault_deeds, told_deeds, edit_outcome, edit_deeds}
use Rattle.core_across.specs.EditLaws.{OnlyOneChanged, FaultsAreOnlySaid}

-- ---- places

live_other : (f : Option Window → Option Window) (j k : ℕ) (ws : List (Option Window)) → (j ≡ k → ⊥)
    → live_at (at_place f j ws) k ≡ live_at ws k
live_other f j k [] h = refl
live_other f zero zero (w ∷ ws) h = absurd (h refl)
live_other f zero (suc k) (w ∷ ws) h = refl
live_other f (suc j) zero (w ∷ ws) h = refl
live_other f (suc j) (suc k) (w ∷ ws) h = live_other f j k ws (λ e. h (ap (λ (n : ℕ). suc n) e))

live_more : (x : Option Window) (k : ℕ) (ws : List (Option Window)) → IsSome (live_at ws k)
    → live_at (ws ++ x ∷ []) k ≡ live_at ws k
live_more x k [] h = absurd cc
live_more x zero (w ∷ ws) h = refl
live_more x (suc k) (w ∷ ws) h = live_more x k ws h

live_within : (k : ℕ) (ws : List (Option Window)) → IsSome (live_at ws k) → k < length ws
live_within k [] h = absurd cc
live_within zero (w ∷ ws) h = omega arith
live_within (suc k) (w ∷ ws) h = let i : k < length ws = live_within k ws h in omega (arith, i)

-- ---- windows

at_other : (b : Bool) (o p : Option Window) → (IsSome o → p ≡ o) → IsSome (cond b None o)
    → cond b None p ≡ cond b None o
at_other true o p f h = refl
at_other false o p f h = f h

in_it : (b : Bool) (o : Option Window) → IsSome (cond b None o) → IsSome o
in_it true o h = absurd cc
in_it false o h = h

-- the window of another place
pub window_other : (f : Window → Window) (j v : ℕ) (ws : List (Option Window)) → (j ≡ v - 1 → ⊥)
    → IsSome (window_at ws v) → window_at (at_place (option_map f) j ws) v ≡ window_at ws v
window_other f j v ws h lives = at_other (eqb v 0) (live_at ws (v - 1)) (live_at (at_place (option_map f) j ws) (v - 1))
    (λ _. live_other (option_map f) j (v - 1) ws h) lives

window_more : (x : Option Window) (v : ℕ) (ws : List (Option Window)) → IsSome (window_at ws v)
    → window_at (ws ++ x ∷ []) v ≡ window_at ws v
window_more x v ws lives = at_other (eqb v 0) (live_at ws (v - 1)) (live_at (ws ++ x ∷ []) (v - 1))
    (live_more x (v - 1) ws) lives

-- where a window is made and changed, each other one stays
window_before : (f : Window → Window) (x : Option Window) (v : ℕ) (ws : List (Option Window)) → IsSome (window_at ws v)
    → window_at (at_place (option_map f) (length ws + 1 - 1) (ws ++ x ∷ [])) v ≡ window_at ws v
window_before f x v ws lives =
    let same : window_at (ws ++ x ∷ []) v ≡ window_at ws v = window_more x v ws lives in
    let place : v - 1 < length ws = live_within (v - 1) ws (in_it (eqb v 0) (live_at ws (v - 1)) lives) in
    window_other f (length ws + 1 - 1) v (ws ++ x ∷ []) (λ e. absurd (omega (arith, place, e)))
    (subst IsSome (sym same) lives) ∙ same

-- ---- the first window of a name has a number

first_by : (b : Bool) (n k : ℕ) (o : Option ℕ) → (o ≡ Some k → n + 1 ≤ k) → cond b (Some n) o ≡ Some k → n ≤ k
first_by true n k o f h = let e : n ≡ k = cc in omega (arith, e)
first_by false n k o f h = let i : n + 1 ≤ k = f h in omega (arith, i)

named_after : (n k : ℕ) (ws : List (Option Window)) (name : List ℕ) → named_from n ws name ≡ Some k → n ≤ k
named_after n k [] name h = absurd cc
named_after n k (None ∷ ws) name h = let i : n + 1 ≤ k = named_after (n + 1) k ws name h in omega (arith, i)
named_after n k (Some w ∷ ws) name h = first_by (bytes_eq w.name name) n k (named_from (n + 1) ws name)
    (named_after (n + 1) k ws name) h

-- another number is another place
pub apart : (k v : ℕ) → 1 ≤ k → 0 < v → (k ≡ v → ⊥) → k - 1 ≡ v - 1 → ⊥
apart k v h i other e = other (omega (arith, h, i, e))

-- ---- a text for an errors window

put_only : (e : Entry) (name text : List ℕ) (o : Option ℕ) (s : SceneState)
    → named s.windows name ≡ o → OnlyOneChanged name s (done_all e s (put_in name text o s))
put_only e name text None s h = record {
  windows = λ v lives other. window_before _ _ v s.windows lives;
  book = refl;
  files = refl;
  snarf = refl;
  jobs = refl;
  rules = refl;
  ports = refl;
  made = true;
  watch = refl;
}
put_only e name text (Some k) s h = record {
  windows = λ v lives other. window_other _ (k - 1) v s.windows (apart k v (named_after 1 k s.windows name h)
      (has_place s.windows v lives) (λ same. other (h ∙ ap (λ (j : ℕ). Some j) same))) lives;
  book = refl;
  files = refl;
  snarf = refl;
  jobs = refl;
  rules = refl;
  ports = refl;
  made = false;
  watch = refl;
}

same_only : (name : List ℕ) (s : SceneState) → OnlyOneChanged name s s
same_only name s = record {
  windows = λ v lives other. refl;
  book = refl;
  files = refl;
  snarf = refl;
  jobs = refl;
  rules = refl;
  ports = refl;
  made = false;
  watch = refl;
}

dropped_only : (e : Entry) (name text : List ℕ) (o : Option ℕ) (s : SceneState) (b : Bool) → named s.windows name ≡ o
    → OnlyOneChanged name s (done_all e s (cond b [] (put_in name text o s)))
dropped_only e name text o s true h = same_only name s
dropped_only e name text o s false h = put_only e name text o s h

errors_only : (e : Entry) (dir text : List ℕ) (s : SceneState) → OnlyOneChanged (errors_name dir) s
    (done_all e s (errors_deeds e dir text s))
errors_only e dir text s =
    dropped_only e (errors_name dir) text (named s.windows (errors_name dir)) s
    (is_dropped text (named s.windows (errors_name dir)) s) refl

-- ---- faults

fault_only : (e : Entry) (dir : List ℕ) (f : Option CommandFault) (s : SceneState)
    → OnlyOneChanged (errors_name dir) s (done_all e s (fault_deeds e dir f s))
fault_only e dir None s = same_only (errors_name dir) s
fault_only e dir (Some f) s = errors_only e dir (fault_line f) s

pub are_only_said : FaultsAreOnlySaid
unfolding edit_deeds
are_only_said e w text s f h =
    let dir = dir_of (window_at s.windows w) in
    subst (λ (o : Outcome). OnlyOneChanged (errors_name dir) s (done_all e s (told_deeds e dir o s))) (sym h)
    (fault_only e dir f s)
