-- What the editor keeps beside its windows and its files: the requests that it made, and the rules of the plumber.
use Rattle.std.specs.Prelude.{ℕ, ◌+◌, ◌-◌, ◌==◌, Bool, nat_le, List, [], ◌++◌, length, slice_get, Option, Some, None}
use Rattle.std.specs.Prelude.{if◌then◌else◌}
use Rattle.am_text.specs.declared.job.Job.{Job}
use Rattle.rule_syntax.specs.declared.rule.Rule.{Rule}
use Rattle.rule_syntax.specs.declared.rule.Var.{Var}
use Rattle.core_stores.specs.Limits.{max_rule_bytes}

-- what was there before another took its place, or else is there still
abbrev pub first_of : {A : Type 0} → Option A → A → A
first_of None a = a
first_of (Some before) a = before

-- ---- requests

-- the request of a number; they are numbered from 1
abbrev pub request : List Job → ℕ → Option Job
request jobs n = if n == 0 then None else slice_get jobs (n - 1)

-- ---- rules

-- the accepted sets, the variables that they define, and the text in which they were written
pub record RuleState : Type 0 where
  pub sets : List (List Rule)
  pub vars : List Var
  pub text : List ℕ

-- no rules
abbrev pub no_rules : RuleState
no_rules = record { sets = []; vars = []; text = [] }

-- these sets come behind the others, with the variables after them, and their text behind the others' text
abbrev pub added : RuleState → List (List Rule) → List Var → List ℕ → RuleState
added s sets vars text = record { sets = s.sets ++ sets; vars = vars; text = s.text ++ text }

-- the accepted text and so many bytes more are no more than 262,144
abbrev pub has_room : RuleState → ℕ → Bool
has_room s bytes = nat_le (length s.text + bytes) max_rule_bytes
