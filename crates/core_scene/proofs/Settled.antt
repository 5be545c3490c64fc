-- Scenes where nothing was done since the last `keep` or `back`.
use Rattle.std.proofs.Common.{◌≡◌, List, [], Option, refl, sym, ap, subst, ◌∙◌}
use Rattle.am_text.specs.Twice.{Twice, both, IsSteady}
use Rattle.event_book.specs.BookState.{BookState}
use Rattle.core_windows.specs.Windows.{Window}
use Rattle.core_scene.specs.declared.deed.WindowItem.{WindowItem}
use Rattle.core_scene.specs.declared.scene.Scene.{Scene}
use Rattle.core_scene.specs.Scenes.{SceneState, scene_of, kept_of, scene_in, IsSettled}

pub settled_in : (s : SceneState) → IsSettled (scene_in s)
settled_in s = record {
  windows = refl;
  book = refl;
  files = refl;
  snarf = refl;
  jobs = refl;
  rules = refl;
  ports = refl;
  watch = refl;
  items = refl;
  deleted = refl;
}

pub settled_by : (x : Scene) (s : SceneState) → x ≡ scene_in s → IsSettled x
settled_by x s e = subst IsSettled (sym e) (settled_in s)

-- a settled scene is its kept state
pub settled_is : (x : Scene) → IsSettled x → scene_of x ≡ kept_of x
settled_is x h = rw (h.windows, h.book, h.files, h.snarf, h.jobs, h.rules, h.ports, h.watch, h.items, h.deleted) refl

pub ruleset settled = (settled_by, settled_is)
