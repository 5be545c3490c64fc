-- Sets of rules that are added, and the ports that they name.
use Rattle.std.specs.Prelude.{ℕ, ◌+◌, Bool, ◌&&◌, nat_le, List, [], ◌∷◌, ◌++◌, length, map, Option, Some, None, Result}
use Rattle.std.specs.Prelude.{Ok, Err, if◌then◌else◌}
use Rattle.am_text.specs.Utf8.{decode}
use Rattle.rule_syntax.specs.Parsing.{rules_of}
use Rattle.rule_syntax.specs.declared.fault.RuleFault.{RuleFault}
use Rattle.rule_syntax.specs.declared.fault.RuleFault.TheVariants as fault
use Rattle.rule_syntax.specs.declared.rule.Rule.{Rule}
use Rattle.rule_syntax.specs.declared.rule.Var.{Var}
use Rattle.rule_syntax.specs.Naming.{ports_of}
use Rattle.core_stores.specs.Stores.{has_room}
use Rattle.core_scene.specs.declared.deed.Deed.{Deed}
use Rattle.core_scene.specs.declared.deed.Deed.TheVariants as deed
use Rattle.core_scene.specs.Scenes.{SceneState}
use Rattle.plumb_ports.specs.Limits.{max_ports}
use Rattle.core_rules.specs.declared.refusal.RulesRefusal.{RulesRefusal}
use Rattle.core_rules.specs.declared.refusal.RulesRefusal.TheVariants as refusal
use Rattle.core_rules.specs.NewNames.{new_names}

-- the deeds, and why there are none, where it is refused
pub record Outcome : Type 0 where
  pub deeds : List Deed
  pub refusal : Option RulesRefusal

-- these deeds are done
abbrev pub does : List Deed → Outcome
does deeds = record { deeds = deeds; refusal = None }

-- nothing is done, for this reason
abbrev pub refusal_outcome : RulesRefusal → Outcome
refusal_outcome r = record { deeds = []; refusal = Some r }

-- ---- sets that were read

-- a port for each of these names, and then the sets, with the variables after them and the text in which they were
-- written
abbrev pub set_deeds : List (List ℕ) → List ℕ → List (List Rule) × List Var → List Deed
set_deeds names text read = map deed.AddsPort names ++ deed.AddsRules read.0 read.1 text ∷ []

-- there are no more than 65,536 ports with these, and no more than 262,144 bytes of accepted text with so many
abbrev pub fits : List (List ℕ) → ℕ → SceneState → Bool
fits names bytes s = nat_le (length s.ports.ports + length names) max_ports && has_room s.rules bytes

-- ports of these names and the sets are added, where they fit
abbrev pub names_added : List (List ℕ) → List ℕ → ℕ → List (List Rule) × List Var → SceneState → Outcome
names_added names text bytes read s = if fits names bytes s then does (set_deeds names text read) else refusal_outcome
    refusal.TooManyRules

-- with the ports that the sets name and that aren't there
abbrev pub sets_added : List ℕ → ℕ → List (List Rule) × List Var → SceneState → Outcome
sets_added text bytes read s = names_added (new_names s.ports.ports (ports_of read.0)) text bytes read s

-- ---- a text of sets

-- no text has the last one
abbrev pub refusal_of : RuleFault → RulesRefusal
refusal_of (fault.Bad line) = refusal.BadRule
refusal_of fault.Nodes = refusal.BadExpressionSize
refusal_of fault.NoMemory = refusal.BadRule

-- the sets that were read are added, or are at fault
abbrev pub read_added : List ℕ → ℕ → Result (List (List Rule) × List Var) RuleFault → SceneState → Outcome
read_added text bytes (Ok read) s = sets_added text bytes read s
read_added text bytes (Err f) s = refusal_outcome (refusal_of f)

-- The sets of the text are added, read with the variables of those that are there, where so many bytes count as held.
abbrev pub adds : List ℕ → ℕ → SceneState → Outcome
adds text bytes s = read_added text bytes (rules_of (decode text) s.rules.vars) s
