-- Laws of what is written to `rules`.
use Rattle.std.specs.Prelude.{◌≡◌, ℕ, List, [], ◌++◌, Some, None}
use Rattle.core_scene.specs.declared.deed.Entry.{Entry}
use Rattle.core_scene.specs.Scenes.{SceneState, done_all}
use Rattle.core_rules.specs.declared.refusal.RulesRefusal.{RulesRefusal}
use Rattle.core_rules.specs.Writing.{rules_outcome, rest_outcome, held_after}

-- A refusal adds nothing.
pub record RefusedAddsNothing : Type 0 where
  pub write : (text : List ℕ) (s : SceneState) (r : RulesRefusal) → (rules_outcome text s).refusal ≡ Some r
      → (rules_outcome text s).deeds ≡ []
  pub rest : (text : List ℕ) (s : SceneState) (r : RulesRefusal) → (rest_outcome text s).refusal ≡ Some r
      → (rest_outcome text s).deeds ≡ []

-- What isn't refused is kept: accepted or held after a write, and accepted after a clunk.
pub record WrittenIsKept : Type 0 where
  pub write : (e : Entry) (text : List ℕ) (s : SceneState) → (rules_outcome text s).refusal ≡ None
      → (done_all e s (rules_outcome text s).deeds).rules.text ++ held_after text None ≡ s.rules.text ++ text
  pub rest : (e : Entry) (text : List ℕ) (s : SceneState) → (rest_outcome text s).refusal ≡ None
      → (done_all e s (rest_outcome text s).deeds).rules.text ≡ s.rules.text ++ text
