-- The deeds of plans can be done: what is done to the body of one window leaves the others.
use Rattle.std.proofs.Common.{◌≡◌, ℕ, ◌+◌, ◌-◌, ◌<◌, ◌≤◌, List, [], ◌∷◌, ◌++◌, map, Option, Some, None, refl, sym, ap}
use Rattle.std.proofs.Common.{subst, ◌∙◌, arith}
use Rattle.std.specs.Prelude.{IsSome, Result, Ok, Err}
use Rattle.std.specs.Option.{option_map}
use Rattle.am_text.specs.declared.job.Job.{Job}
use Rattle.core_windows.specs.Places.{at_place}
use Rattle.core_windows.specs.Possible.{text_in}
use Rattle.core_windows.specs.Windows.{Window, window_at, edited, set, changed}
use Rattle.core_windows.specs.declared.change.Change.TheVariants as change
use Rattle.core_windows.specs.declared.change.Setting.TheVariants as setting
use Rattle.core_windows.proofs.Conditions.{has_place}
use Rattle.core_windows.proofs.Steps.{edits_then_set}
use Rattle.core_scene.specs.declared.deed.Deed.{Deed}
use Rattle.core_scene.specs.declared.deed.Deed.TheVariants as deed
use Rattle.core_scene.specs.declared.deed.Entry.{Entry}
use Rattle.core_scene.specs.Scenes.{SceneState, done, done_all, CanDoAll, Did}
use Rattle.core_scene.proofs.Dids.{did_then, did_next, can_all-append}
use Rattle.core_actions.specs.Errors.{errors_deeds}
use Rattle.core_edit.specs.Plans.{IsPlanOf}
use Rattle.core_edit.specs.declared.fault.CommandFault.{CommandFault}
use Rattle.core_across.specs.declared.planning.WindowPlan.{WindowPlan}
use Rattle.core_across.specs.Plans.{IsPlanIn, ArePlansIn, AreRising, AreSound}
use Rattle.core_across.specs.Editing.{body_deeds, all_bodies, all_jobs, all_prints, request_deeds, change_deeds}
use Rattle.core_across.specs.Editing.{plan_deeds, fault_deeds, told_deeds, file_outcome}
use Rattle.core_across.specs.FileCommands.{deeds_in, fault_in}
use Rattle.core_across.proofs.OtherWindows.{window_other, apart}

-- ---- edits and dot of one window leave the others

-- the windows after a plan of one
abbrev after_plan : ℕ → List (Option Window) → WindowPlan → List (Option Window)
after_plan at ws p =
    changed at (changed at ws (change.Edits p.window p.plan.edits)) (change.Sets p.window (setting.Dot p.plan.dot))

other_stays : (at : ℕ) (p : WindowPlan) (v : ℕ) (ws : List (Option Window)) → 1 ≤ p.window → p.window < v
    → IsSome (window_at ws v) → window_at (after_plan at ws p) v ≡ window_at ws v
other_stays at p v ws first less lives =
    let away = apart p.window v first (has_place ws v lives) (λ e. absurd (omega (arith, less, e))) in
    let edits : window_at (changed at ws (change.Edits p.window p.plan.edits)) v ≡ window_at ws v =
    window_other (edited p.plan.edits at) (p.window - 1) v ws away lives in
    window_other (set (setting.Dot p.plan.dot)) (p.window - 1) v (changed at ws (change.Edits p.window p.plan.edits))
    away (subst IsSome (sym edits) lives) ∙ edits

plan_stays : (at : ℕ) (p q : WindowPlan) (ws : List (Option Window)) → 1 ≤ p.window → p.window < q.window
    → IsPlanIn ws q → IsPlanIn (after_plan at ws p) q
plan_stays at p q ws first less is =
    let same : window_at ws q.window ≡ window_at (after_plan at ws p) q.window =
    sym (other_stays at p q.window ws first less is.lives) in
    record {
      lives = subst IsSome same is.lives;
      sound = subst (λ (o : Option Window). IsPlanOf (text_in o) q.plan) same is.sound;
    }

plans_stay : (at n : ℕ) (p : WindowPlan) (qs : List WindowPlan) (ws : List (Option Window)) → 1 ≤ p.window
    → p.window ≤ n → AreRising n qs → ArePlansIn ws qs → ArePlansIn (after_plan at ws p) qs
plans_stay at n p [] ws first low rising each = tt
plans_stay at n p (q ∷ qs) ws first low rising each = (
  plan_stays at p q ws first (omega (arith, low, rising.0)) each.0,
  plans_stay at q.window p qs ws first (omega (arith, low, rising.0)) rising.1 each.1,
)

-- ---- all deeds can be done

bodies_can : (e : Entry) (n : ℕ) (plans : List WindowPlan) (s : SceneState) → AreRising n plans
    → ArePlansIn s.windows plans → CanDoAll e s (all_bodies plans)
bodies_can e n [] s rising each = tt
bodies_can e n (p ∷ ps) s rising each =
    let here : IsPlanIn s.windows p = each.0 in
    let both = edits_then_set e.at p.window p.plan.edits (setting.Dot p.plan.dot) s.windows
    (record { lives = here.lives; range = here.sound.edits }) here.sound.dot in
    let first : 1 ≤ p.window = omega (arith, rising.0) in
    let s' = done_all e s (body_deeds p) in
    let stay = plans_stay e.at p.window p ps s.windows first (omega arith) rising.1 each.1 in
    (both.0, (both.1.0, bodies_can e p.window ps s' rising.1 stay))

can_request : (e : Entry) (s : SceneState) (jobs : List Job) → CanDoAll e s (request_deeds jobs)
can_request e s [] = tt
can_request e s (job ∷ jobs) = (tt, can_request e (done e s (deed.Requests job)) jobs)

can_change : (e : Entry) (plans : List WindowPlan) (s : SceneState) → AreSound s.windows plans
    → CanDoAll e s (change_deeds plans s)
can_change e plans s sound =
    can_all-append e s (all_bodies plans) (request_deeds (all_jobs plans))
    (bodies_can e 0 plans s sound.rising sound.each)
    (can_request e (done_all e s (all_bodies plans)) (all_jobs plans))

pub can_do : (e : Entry) (plans : List WindowPlan) (s : SceneState) (ds : List Deed) → AreSound s.windows plans
    → ds ≡ change_deeds plans s → CanDoAll e s ds
can_do e plans s ds sound same = subst (CanDoAll e s) (sym same) (can_change e plans s sound)

-- the deeds of all bodies and then the requests
pub all_changes : (plans : List WindowPlan) (s : SceneState) (ds more : List Deed) (jobs : List Job)
    → ds ≡ all_bodies plans → jobs ≡ all_jobs plans → more ≡ ds ++ request_deeds jobs → more ≡ change_deeds plans s
all_changes plans s ds more jobs h k m =
    m ∙ ap (λ (xs : List Deed). xs ++ request_deeds jobs) h
    ∙ ap (λ (js : List Job). all_bodies plans ++ request_deeds js) k

-- ---- what is done

-- the same text is said in the same directory
pub said_did : (e : Entry) (a b : SceneState) (d d' d'' t t' : List ℕ)
    → d ≡ d' → d' ≡ d'' → t ≡ t' → Did e a b (errors_deeds e d t a) → Did e a b (errors_deeds e d'' t' a)
said_did e a b d d' d'' t t' h k l did =
    subst (λ (x : List ℕ). Did e a b (errors_deeds e d'' x a)) l (subst
    (λ (x : List ℕ). Did e a b (errors_deeds e x t a)) (h ∙ k) did)

-- plans are done, and then their prints are put
pub plans_did : (e : Entry) (a b c : SceneState) (plans : List WindowPlan) (ds : List Deed) (d d' d'' prints : List ℕ)
    → Did e a b ds → ds ≡ change_deeds plans a → d ≡ d' → d' ≡ d'' → prints ≡ all_prints plans
    → Did e b c (errors_deeds e d prints b) → Did e a c (plan_deeds e d'' plans a)
plans_did e a b c plans ds d d' d'' prints first same h k l second =
    let there : Did e b c (errors_deeds e d'' (all_prints plans) b) =
    said_did e b c d d' d'' prints (all_prints plans) h k l second in
    did_next (λ (s : SceneState). errors_deeds e d'' (all_prints plans) s) (subst (Did e a b) same first) there

-- a command over files is done, or its fault is said
pub file_did : (e : Entry) (a b c : SceneState) (dir : List ℕ) (r : Result (List Deed) CommandFault)
    → Did e a b (deeds_in r) → Did e b c (fault_deeds e dir (fault_in r) b)
    → Did e a c (told_deeds e dir (file_outcome r) a)
file_did e a b c dir (Ok ds) first second = subst (λ (s : SceneState). Did e a s ds) (sym second.made) first
file_did e a b c dir (Err f) first second =
    subst (λ (s : SceneState). Did e s c (fault_deeds e dir (Some f) s)) first.made second
