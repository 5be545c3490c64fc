-- The state that the editor's tables stand for.
use Rattle.am_text.specs.Twice.{IsSteady}
use Rattle.core_scene.specs.Scenes.{kept_of, IsSettled}
use Rattle.core_parts.specs.declared.parts.Parts.{Parts}
use Rattle.core_parts.specs.States.{Present}

-- the tables as they are kept
abbrev pub present_of : Parts → Present
present_of p = record {
  entries = p.entries;
  connections = p.connections.items;
  users = p.users.items;
  tables = p.sessions.kept;
  scene = kept_of p.scene;
  unsent = p.outputs.kept;
  replies = p.replies.items;
}

-- nothing is ready
pub record AreSteady (p : Parts) : Type 0 where
  pub sessions : IsSteady p.sessions
  pub scene : IsSettled p.scene
  pub outputs : IsSteady p.outputs
