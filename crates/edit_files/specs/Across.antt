-- What a command makes of the windows that it takes.
use Rattle.std.specs.Prelude.{ℕ, suc, Bool, true, false, List, [], ◌∷◌, ◌++◌, length, is_some, Option, Some}
use Rattle.std.specs.Prelude.{None, Result, Ok, Err, if◌then◌else◌}
use Rattle.re_syntax.specs.Tree as expression
use Rattle.re_spans.specs.Search.{first_span}
use Rattle.edit_parts.specs.Tree.{Command, command}
use Rattle.edit_files.specs.declared.command.FilesCmd.{FilesCmd}
use Rattle.edit_files.specs.declared.command.FilesCmd.TheVariants as cmd

-- whether an expression has a match in a name
abbrev pub has_match : expression.Tree → List ℕ → Bool
has_match re name = is_some (first_span re name 0 (length name) None)

-- whether a window is taken: its name has a match, or has none
abbrev pub takes : Bool → expression.Tree → List ℕ → Bool
takes with_match re name = if with_match then has_match re name else (if has_match re name then false else true)

module _ {P : Type 0} where
  -- the plan of a window, if there is one
  abbrev pub plan_list : ℕ → Option P → List (ℕ × P)
  plan_list k None = []
  plan_list k (Some plan) = (k, plan) ∷ []

  -- what is known of each plan at the place of its window
  abbrev pub AllSuit : (ℕ → P → Type 0) → List (ℕ × P) → Type 0
  AllSuit suits [] = Unit {0}
  AllSuit suits (plan ∷ plans) = suits plan.0 plan.1 × AllSuit suits plans

module _ {P F : Type 0} where
  -- plans before those of the windows behind them
  abbrev pub behind : List (ℕ × P) → Result (List (ℕ × P)) (ℕ × F) → Result (List (ℕ × P)) (ℕ × F)
  behind plans (Ok later) = Ok (plans ++ later)
  behind plans (Err fault) = Err fault

  -- what a window makes of it: nothing where it isn't taken, else its plan, or its fault
  abbrev pub told_here : ℕ → Result P F → Bool → Result (Option P) (ℕ × F)
  told_here k told false = Ok None
  told_here k (Ok plan) true = Ok (Some plan)
  told_here k (Err fault) true = Err (k, fault)

  -- the plan of a window before those of the windows behind it; its fault goes before theirs
  abbrev pub and_then : ℕ → Result (Option P) (ℕ × F) → Result (List (ℕ × P)) (ℕ × F) → Result (List (ℕ × P)) (ℕ × F)
  and_then k (Ok plan) later = behind (plan_list k plan) later
  and_then k (Err fault) later = Err fault

  -- the plans of the taken windows from the k-th on, or the first fault
  abbrev pub plans_from : (ℕ → Result P F) → (List ℕ → Bool) → ℕ → List (List ℕ) → Result (List (ℕ × P)) (ℕ × F)
  plans_from run is_taken k [] = Ok []
  plans_from run is_taken k (name ∷ names) =
      and_then k (told_here k (run k) (is_taken name)) (plans_from run is_taken (suc k) names)

  -- what a command over windows makes of them; one of the others is done in none
  abbrev pub across_told : (ℕ → Command → Result P F) → List (List ℕ) → FilesCmd → Result (List (ℕ × P)) (ℕ × F)
  across_told runs names (cmd.Each re c) =
      plans_from (λ k. runs k (command c)) (takes true (expression.tree re)) 0 names
  across_told runs names (cmd.Other re c) =
      plans_from (λ k. runs k (command c)) (takes false (expression.tree re)) 0 names
  across_told runs names (cmd.One c) = Ok []
  across_told runs names (cmd.Open name) = Ok []
  across_told runs names (cmd.Drop names') = Ok []
  across_told runs names (cmd.Enter name) = Ok []
  across_told runs names (cmd.ReadIn addr name) = Ok []
  across_told runs names (cmd.WriteOut addr name) = Ok []

-- whether it is one over windows
abbrev pub is_across : FilesCmd → Bool
is_across (cmd.Each re c) = true
is_across (cmd.Other re c) = true
is_across (cmd.One c) = false
is_across (cmd.Open name) = false
is_across (cmd.Drop names) = false
is_across (cmd.Enter name) = false
is_across (cmd.ReadIn addr name) = false
is_across (cmd.WriteOut addr name) = false
