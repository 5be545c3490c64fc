-- Plans of the bodies of windows.
use Rattle.std.proofs.Common.{◌≡◌, ℕ, zero, suc, ◌+◌, ◌<◌, Bool, List, [], ◌∷◌, ◌++◌, length, map, Option, Some, None}
use Rattle.std.proofs.Common.{refl, sym, ap, subst, ◌∙◌, arith}
use Rattle.std.specs.Prelude.{Result, Ok, Err, IsSome, IfOk, slice_index_or}
use Rattle.std.proofs.lemmas.List.{length-map}
use Rattle.edit_parts.specs.Tree.{Command, command}
use Rattle.edit_run.specs.declared.types.EditPlan.{EditPlan}
use Rattle.edit_files.specs.Across.{plans_from, takes, across_told, is_across, AllSuit}
use Rattle.edit_files.specs.Laws.{taken_from}
use Rattle.edit_files.specs.declared.command.FilesCmd.{FilesCmd}
use Rattle.edit_files.specs.declared.command.FilesCmd.TheVariants as cmd
use Rattle.edit_files.proofs.LawLemmas.{plans_of}
use Rattle.core_windows.specs.Possible.{text_in}
use Rattle.core_windows.specs.Windows.{Window, window_at, numbers}
use Rattle.core_windows.proofs.Conditions.{has_place}
use Rattle.core_actions.specs.Seen.{name_of}
use Rattle.core_edit.specs.declared.fault.CommandFault.{CommandFault}
use Rattle.core_edit.specs.Plans.{Planned, IsPlanOf}
use Rattle.core_across.specs.Plans.{number_at, live_names, plan_at, numbered, with_numbers, CommandPlans}
use Rattle.core_across.specs.Plans.{IsPlanIn, ArePlansIn, AreRising, AreSound}
use Rattle.core_across.specs.declared.planning.WindowPlan.{WindowPlan}
use Rattle.core_across.proofs.Rising.{IsRow, lives_at, taken_rise, numbers_rise}

-- the name at a place
pub named_at : (ws : List (Option Window)) (k : ℕ) (ns : List ℕ) → k < length ns
    → name_of (window_at ws (slice_index_or ns k 0))
    ≡ slice_index_or (map (λ w. name_of (window_at ws w)) ns) k []
named_at ws k [] l = absurd (omega (arith, l))
named_at ws zero (n ∷ ns) l = refl
named_at ws (suc k) (n ∷ ns) l = named_at ws k ns (omega (arith, l))

-- ---- the plan of a window by its place

lives_there : (ws : List (Option Window)) (k n : ℕ) → n ≡ number_at ws k → k < length (numbers 1 ws)
    → IsSome (window_at ws n)
lives_there ws k n same within = subst (λ (v : ℕ). IsSome (window_at ws v)) (sym same) (lives_at ws k within)

as_long : (m n k : ℕ) → m ≡ n → k < m → k < n
as_long m n k h l = omega (arith, h, l)

pub lives_here : (ws : List (Option Window)) (k n : ℕ) → n ≡ number_at ws k → k < length (live_names ws)
    → IsSome (window_at ws n)
lives_here ws k n same within =
    lives_there ws k n same (as_long (length (live_names ws)) (length (numbers 1 ws)) k
    (length-map (numbers 1 ws) (λ (w : ℕ). name_of (window_at ws w))) within)

pub suits_here : (ws : List (Option Window)) (k n : ℕ) (planned : Result EditPlan CommandFault) (plan : EditPlan)
    → n ≡ number_at ws k → k < length (live_names ws) → planned ≡ Ok plan
    → IfOk planned (IsPlanOf (text_in (window_at ws n))) → IsPlanIn ws (numbered ws (k, plan))
suits_here ws k n planned plan same within is sound =
    let here : IsPlanOf (text_in (window_at ws n)) plan =
    subst (λ (r : Result EditPlan CommandFault). IfOk r (IsPlanOf (text_in (window_at ws n)))) is sound in
    record {
      lives = subst (λ (v : ℕ). IsSome (window_at ws v)) same (lives_here ws k n same within);
      sound = subst (λ (v : ℕ). IsPlanOf (text_in (window_at ws v)) plan) same here;
    }

-- ---- the plan of one window

pub one_sound : (ws : List (Option Window)) (w : ℕ) (plan : EditPlan) → IsSome (window_at ws w)
    → IsPlanOf (text_in (window_at ws w)) plan → AreSound ws (record { window = w; plan = plan } ∷ [])
one_sound ws w plan lives sound = record {
  rising = (has_place ws w lives, tt);
  each = (record { lives = lives; sound = sound }, tt);
}

-- ---- the plans of windows that are taken

abbrev Told : Type 0
Told = Result (List (ℕ × EditPlan)) (ℕ × Option CommandFault)

no_more : (m n : ℕ) → m ≡ n → 0 + m ≡ n
no_more m n h = omega (arith, h)

rising_by : (ws : List (Option Window)) (c : Command) (is_taken : List ℕ → Bool) (plans : List (ℕ × EditPlan))
    → plans_from (λ k. plan_at ws k c) is_taken 0 (live_names ws) ≡ Ok plans → AreRising 0 (map (numbered ws) plans)
rising_by ws c is_taken plans told =
    let places = plans_of (λ k. plan_at ws k c) is_taken 0 (live_names ws) plans told in
    let row : IsRow 0 (length (numbers 1 ws)) (taken_from is_taken 0 (live_names ws)) =
    taken_rise is_taken 0 (length (numbers 1 ws)) (live_names ws)
    (no_more (length (live_names ws)) (length (numbers 1 ws)) (length-map (numbers 1 ws)
    (λ (w : ℕ). name_of (window_at ws w)))) in
    numbers_rise ws plans (subst (IsRow 0 (length (numbers 1 ws))) (sym places.0) row)

none_rise : (ws : List (Option Window)) (plans : List (ℕ × EditPlan)) → ◌≡◌ {A = Told} (Ok []) (Ok plans)
    → AreRising 0 (map (numbered ws) plans)
none_rise ws [] told = tt
none_rise ws (p ∷ ps) told = absurd cc

rising_of : (ws : List (Option Window)) (c : FilesCmd) (plans : List (ℕ × EditPlan))
    → across_told (plan_at ws) (live_names ws) c ≡ Ok plans → AreRising 0 (map (numbered ws) plans)
rising_of ws (cmd.Each re c) plans told = rising_by ws (command c) _ plans told
rising_of ws (cmd.Other re c) plans told = rising_by ws (command c) _ plans told
rising_of ws (cmd.One c) plans told = none_rise ws plans told
rising_of ws (cmd.Open name) plans told = none_rise ws plans told
rising_of ws (cmd.Drop names) plans told = none_rise ws plans told
rising_of ws (cmd.Enter name) plans told = none_rise ws plans told
rising_of ws (cmd.ReadIn addr name) plans told = none_rise ws plans told
rising_of ws (cmd.WriteOut addr name) plans told = none_rise ws plans told

each_of : (ws : List (Option Window)) (plans : List (ℕ × EditPlan))
    → AllSuit (λ k plan. IsPlanIn ws (numbered ws (k, plan))) plans → ArePlansIn ws (map (numbered ws) plans)
each_of ws [] suit = tt
each_of ws (p ∷ ps) suit = (suit.0, each_of ws ps suit.1)

pub sound_plans : (ws : List (Option Window)) (c : FilesCmd) (plans : List (ℕ × EditPlan))
    → across_told (plan_at ws) (live_names ws) c ≡ Ok plans
    → AllSuit (λ k plan. IsPlanIn ws (numbered ws (k, plan))) plans → AreSound ws (map (numbered ws) plans)
sound_plans ws c plans told suit = record { rising = rising_of ws c plans told; each = each_of ws plans suit }

pub sound_numbered : (ws : List (Option Window)) (c : FilesCmd) (plans : List (ℕ × EditPlan)) (all : List WindowPlan)
    → across_told (plan_at ws) (live_names ws) c ≡ Ok plans
    → AllSuit (λ k plan. IsPlanIn ws (numbered ws (k, plan))) plans → all ≡ map (numbered ws) plans → AreSound ws all
sound_numbered ws c plans all told suit same =
    subst (λ (ps : List WindowPlan). AreSound ws ps) (sym same) (sound_plans ws c plans told suit)

-- what is told of plans, and of a fault, with numbers
pub plans_numbered : (ws : List (Option Window)) (told : Told) (plans : List (ℕ × EditPlan)) (all : List WindowPlan)
    → told ≡ Ok plans → all ≡ map (numbered ws) plans → ◌≡◌ {A = CommandPlans} (Ok all) (with_numbers ws told)
plans_numbered ws told plans all h same = ap Ok same ∙ sym (ap (with_numbers ws) h)

pub fault_numbered : (ws : List (Option Window)) (told : Told) (k : ℕ) (f : Option CommandFault)
    → told ≡ Err (k, f) → ◌≡◌ {A = CommandPlans} (Err f) (with_numbers ws told)
fault_numbered ws told k f h = sym (ap (with_numbers ws) h)
