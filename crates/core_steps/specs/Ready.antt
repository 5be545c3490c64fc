-- What is ready in the editor's tables.
use Rattle.std.specs.Prelude.{◌≡◌, []}
use Rattle.core_scene.specs.Scenes.{SceneState, scene_of, deleted_by}
use Rattle.core_events.specs.Sound.{IsSound}
use Rattle.core_events.specs.PortSound.{ArePortsSound}
use Rattle.core_watch.specs.Sound.{IsWatchSound}
use Rattle.core_parts.specs.Doing.{Doing}
use Rattle.core_parts.specs.declared.kind.Kind.{Kind}
use Rattle.core_parts.specs.declared.parts.Parts.{Parts}
use Rattle.core_closing.specs.declared.prepared.Prepared.{Prepared}
use Rattle.core_parts.specs.Connections.{IsOfJoined}
use Rattle.core_parts.specs.Kinds.{kind_of}
use Rattle.core_intents.specs.Users.{user_of}
use Rattle.core_steps.specs.Stages.{acted, grown_tables, grown_book, grown_ports, grown_watch, said}
use Rattle.core_parts.specs.States.{Present, next_entry}
use Rattle.core_steps.specs.Replies.{replies_of}
use Rattle.core_outputs.specs.Unsent.{put_replies}
use Rattle.core_parts.specs.Parts.{present_of}

-- the scene with all that a step makes
abbrev pub grown_scene : Present → Kind → Doing → SceneState
grown_scene s k d = record (acted s d) {
  book = grown_book s k d;
  ports = grown_ports s k d;
  watch = grown_watch s k d;
  items = [];
  deleted = [];
}

-- All that a step makes is ready, and what it ends is known, where its event does this.
pub record HasReady (p : Parts) (prepared : Prepared) (d : Doing) : Type 0 where
  pub at : prepared.at ≡ next_entry (present_of p)
  pub effect : prepared.effect ≡ d.effect
  pub events : prepared.events ≡ d.events
  pub deleted : prepared.deleted ≡ deleted_by d.deeds
  pub back : prepared.back ≡ d.back
  pub written : prepared.answers ≡ d.answers
  pub user : prepared.user ≡ user_of prepared.event d.answer
  pub answers : prepared.said ≡ said (present_of p) (kind_of prepared.event) d
  pub replies : prepared.replies.items ≡ replies_of (said (present_of p) (kind_of prepared.event) d)
  pub joined : IsOfJoined p.sessions.present (kind_of prepared.event)
  pub sessions : p.sessions.present ≡ grown_tables (present_of p) (kind_of prepared.event) d
  pub scene : scene_of p.scene ≡ grown_scene (present_of p) (kind_of prepared.event) d
  pub sound : IsSound prepared.at p.scene.book.present
  pub ports : ArePortsSound p.scene.ports.present
  pub watch : IsWatchSound p.scene.watch.present
  pub outputs : p.outputs.present ≡ put_replies p.outputs.kept
      (replies_of (said (present_of p) (kind_of prepared.event) d))
