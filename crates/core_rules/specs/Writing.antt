-- What is written to the plumber's file `rules`, after plumber(4).
use Rattle.std.specs.Prelude.{ℕ, ◌==◌, List, [], ◌∷◌, length, Option, Some, None, if◌then◌else◌}
use Rattle.rule_syntax.specs.Cutting.{whole_sets, begun_set}
use Rattle.core_scene.specs.declared.deed.Deed.{Deed}
use Rattle.core_scene.specs.declared.deed.Deed.TheVariants as deed
use Rattle.core_scene.specs.Scenes.{SceneState}
use Rattle.core_rules.specs.declared.refusal.RulesRefusal.{RulesRefusal}
use Rattle.core_rules.specs.Adding.{Outcome, does, adds}

-- A write, where the text is what was held with what is written: the sets that are whole are added. All of the text
-- counts as held.
abbrev pub rules_outcome : List ℕ → SceneState → Outcome
rules_outcome text s = adds (whole_sets text) (length text) s

-- what is held then: the set that is begun, and nothing where the write is refused
abbrev pub held_after : List ℕ → Option RulesRefusal → List ℕ
held_after text None = begun_set text
held_after text (Some r) = []

-- a clunk, where the text is what is held: its end ends a set
abbrev pub rest_outcome : List ℕ → SceneState → Outcome
rest_outcome text s = if length text == 0 then does [] else adds text (length text) s

-- truncation
abbrev pub clear_deeds : List Deed
clear_deeds = deed.ClearsRules ∷ []
