-- Windows that are named, and their deletion one after another.
use Rattle.std.proofs.Common.{◌≡◌, ℕ, zero, suc, ◌-◌, ◌<◌, ◌≤◌, Bool, true, false, cond, eqb, ◌||◌, List, [], ◌∷◌}
use Rattle.std.proofs.Common.{◌++◌, map, length, take, drop, get_or, ◌∙◌}
use Rattle.std.proofs.Common.{Option, Some, None, Result, Ok, Err, refl, sym, ap, subst, arith, append_assoc}
use Rattle.std.specs.Prelude.{IsSome, IfOk, fold}
use Rattle.std.specs.List.{list_any}
use Rattle.std.proofs.lemmas.Bool.Decides.{nat_tests}
use Rattle.std.proofs.lemmas.List.{append-nil, take_all}
use Rattle.core_windows.specs.Places.{at_place, live_at, gone}
use Rattle.core_windows.specs.Windows.{Window, window_at}
use Rattle.core_windows.proofs.Conditions.{has_place}
use Rattle.core_scene.specs.declared.deed.Deed.{Deed}
use Rattle.core_scene.specs.declared.deed.Entry.{Entry}
use Rattle.core_scene.specs.Scenes.{SceneState, done, CanDoAll, Did}
use Rattle.core_edit.specs.declared.fault.CommandFault.{CommandFault}
use Rattle.core_across.specs.Dropping.{deletions, window_named, before, first_of_all, windows_named, AreLive, with_one}
use Rattle.core_across.specs.Dropping.{once, deletion}

-- ---- windows by their names

pub before_none : (r : Result (List ℕ) CommandFault) → before [] r ≡ r
before_none (Ok vs) = refl
before_none (Err f) = refl

-- they are found
abbrev found : List ℕ → Result (List ℕ) CommandFault
found vs = Ok vs

-- a window more in front
pub before_one : (vs : List ℕ) (v : ℕ) (r : Result (List ℕ) CommandFault)
    → before (vs ++ v ∷ []) r ≡ before vs (before (v ∷ []) r)
before_one vs v (Ok later) = ap found (append_assoc vs (v ∷ []) later)
before_one vs v (Err f) = refl

pub live_more : (ws : List (Option Window)) (vs : List ℕ) (v : ℕ) → AreLive ws vs → IsSome (window_at ws v)
    → AreLive ws (vs ++ v ∷ [])
live_more ws [] v h k = (k, tt)
live_more ws (x ∷ vs) v h k = (h.0, live_more ws vs v h.1 k)

-- the window of one name more
pub named_next : (ws : List (Option Window)) (dir name : List ℕ) (rest : List (List ℕ)) (all more : List ℕ)
    (w : Result ℕ CommandFault) (v : ℕ) (whole : Result (List ℕ) CommandFault)
    → 1 ≤ length rest → name ≡ get_or rest 0 name → w ≡ window_named ws dir name → w ≡ Ok v → more ≡ all ++ v ∷ []
    → before all (windows_named ws dir rest) ≡ whole
    → before more (windows_named ws dir (take (length rest - 1) (drop 1 rest))) ≡ whole
named_next ws dir name [] all more w v whole some at told is put h = absurd (omega arith)
named_next ws dir name (part ∷ parts) all more w v whole some at told is put h =
    let later = windows_named ws dir parts in
    let cut : take (length (part ∷ parts) - 1) parts ≡ parts = take_all (length (part ∷ parts) - 1) parts (omega arith)
    in
    let here : window_named ws dir part ≡ Ok v = ap (window_named ws dir) (sym at) ∙ sym told ∙ is in
    ap (λ (l : List (List ℕ)). before more (windows_named ws dir l)) cut
    ∙ ap (λ (vs : List ℕ). before vs later) put
    ∙ before_one all v later
    ∙ ap (λ (r : Result ℕ CommandFault). before all (first_of_all r later)) (sym here)
    ∙ h

pub live_next : (ws : List (Option Window)) (all more : List ℕ) (w : Result ℕ CommandFault) (v : ℕ)
    → IfOk w (λ (x : ℕ). IsSome (window_at ws x)) → w ≡ Ok v → more ≡ all ++ v ∷ [] → AreLive ws all → AreLive ws more
live_next ws all more w v lives is put h =
    let here : IsSome (window_at ws v) = subst
    (λ (r : Result ℕ CommandFault). IfOk r (λ (x : ℕ). IsSome (window_at ws x))) is lives in
    subst (AreLive ws) (sym put) (live_more ws all v h here)

pub ruleset joined = (append_assoc, append-nil, before_none, before_one, live_more)

-- ---- a window that is deleted leaves the others

live_other : (j k : ℕ) (ws : List (Option Window)) → (j ≡ k → ⊥) → live_at (at_place gone j ws) k ≡ live_at ws k
live_other j k [] h = refl
live_other zero zero (w ∷ ws) h = absurd (h refl)
live_other zero (suc k) (w ∷ ws) h = refl
live_other (suc j) zero (w ∷ ws) h = refl
live_other (suc j) (suc k) (w ∷ ws) h = live_other j k ws (λ e. h (ap (λ (n : ℕ). suc n) e))

apart : (x v : ℕ) → 0 < x → 0 < v → eqb x v ≡ false → x - 1 ≡ v - 1 → ⊥
apart x v h k e i = grind (arith, nat_tests)

window_other : (x v : ℕ) (ws : List (Option Window)) → IsSome (window_at ws x) → IsSome (window_at ws v)
    → eqb x v ≡ false → window_at (at_place gone (x - 1) ws) v ≡ window_at ws v
window_other x v ws h k e =
    ap (λ (o : Option Window). cond (eqb v 0) None o)
    (live_other (x - 1) (v - 1) ws (apart x v (has_place ws x h) (has_place ws v k) e))

-- ---- each once

-- each lives when its turn comes
abbrev CanDelete : List (Option Window) → List ℕ → Type 0
CanDelete ws [] = Unit {0}
CanDelete ws (v ∷ vs) = IsSome (window_at ws v) × CanDelete (at_place gone (v - 1) ws) vs

neither : (a b : Bool) → (a || b) ≡ false → (a ≡ false) × (b ≡ false)
neither true b e = absurd cc
neither false b e = (refl, e)

can_more : (ws : List (Option Window)) (vs : List ℕ) (v : ℕ) → CanDelete ws vs → IsSome (window_at ws v)
    → list_any (λ x. eqb x v) vs ≡ false → CanDelete ws (vs ++ v ∷ [])
can_more ws [] v h k e = (k, tt)
can_more ws (x ∷ vs) v h k e =
    let new = neither (eqb x v) (list_any (λ x. eqb x v) vs) e in
    let same = window_other x v ws h.0 k new.0 in
    (h.0, can_more (at_place gone (x - 1) ws) vs v h.1 (subst IsSome (sym same) k) new.1)

one_by : (ws : List (Option Window)) (vs : List ℕ) (v : ℕ) (b : Bool) → list_any (λ x. eqb x v) vs ≡ b
    → CanDelete ws vs → IsSome (window_at ws v) → CanDelete ws (cond b vs (vs ++ v ∷ []))
one_by ws vs v true e h k = h
one_by ws vs v false e h k = can_more ws vs v h k e

all_once : (ws : List (Option Window)) (all vs : List ℕ) → CanDelete ws all → AreLive ws vs
    → CanDelete ws (fold with_one all vs)
all_once ws all [] h k = h
all_once ws all (v ∷ vs) h k =
    all_once ws (with_one all v) vs (one_by ws all v (list_any (λ x. eqb x v) all) refl h k.0) k.1

can_do : (e : Entry) (s : SceneState) (vs : List ℕ) → CanDelete s.windows vs → CanDoAll e s (map deletion vs)
can_do e s [] h = tt
can_do e s (v ∷ vs) h = (h.0, can_do e (done e s (deletion v)) vs h.1)

pub can_delete : (e : Entry) (s : SceneState) (vs all : List ℕ) (ds : List Deed) → AreLive s.windows vs
    → all ≡ once vs → ds ≡ map deletion all → CanDoAll e s ds
can_delete e s vs all ds h k l =
    subst (CanDoAll e s) (sym l) (can_do e s all (subst (CanDelete s.windows) (sym k)
    (all_once s.windows [] vs tt h)))

-- the same, where the lists are read as slices
pub can_delete_all : (e : Entry) (s : SceneState) (vs vs' all all' : List ℕ) (ds : List Deed) → AreLive s.windows vs
    → vs' ≡ vs → all ≡ once vs' → all' ≡ all → ds ≡ map deletion all' → CanDoAll e s ds
can_delete_all e s vs vs' all all' ds h i k j l =
    can_delete e s vs all ds h (k ∙ ap once i) (l ∙ ap (map deletion) j)

-- windows that are deleted each once
pub deleted_once : (e : Entry) (a b : SceneState) (vs vs' all all' : List ℕ) (ds : List Deed) → vs' ≡ vs
    → all ≡ once vs' → all' ≡ all → ds ≡ map deletion all' → Did e a b ds → Did e a b (deletions vs)
deleted_once e a b vs vs' all all' ds i k j l did =
    subst (Did e a b) (l ∙ ap (map deletion) (j ∙ k ∙ ap once i)) did
