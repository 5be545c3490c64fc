-- What a task does to a scene where nothing is ready, and what is then taken of it.
use Rattle.std.proofs.Common.{◌≡◌, ℕ, List, [], ◌∷◌, Option, Some, None, sym, ap, subst, ◌∙◌}
use Rattle.acme_watch.specs.Watching.{WatchState}
use Rattle.core_scene.specs.declared.deed.Entry.{Entry}
use Rattle.core_scene.specs.declared.deed.Deed.{Deed}
use Rattle.core_scene.specs.declared.deed.Deed.TheVariants as deed
use Rattle.core_scene.specs.declared.deed.WindowItem.{WindowItem}
use Rattle.core_scene.specs.declared.scene.Scene.{Scene}
use Rattle.core_scene.specs.Scenes.{SceneState, scene_of, kept_of, IsSettled, done, done_all, deleted_by, CanDoAll, Did}
use Rattle.core_scene.proofs.Dids.{deleted_done, book_stays}
use Rattle.core_scene.proofs.Settled.{settled_is}
use Rattle.core_scene.specs.Noted.{line_of, line_of_change, with_line_if_any}
use Rattle.core_windows.specs.Windows.{window_at}
use Rattle.core_events.specs.PortSound.{ArePortsSound}
use Rattle.core_events.proofs.PortSounds.{sound_add, sound_deliver}
use Rattle.core_watch.specs.Sound.{IsWatchSound}
use Rattle.core_watch.proofs.Sounds.{sound_line, sound_request}
use Rattle.core_tasks.specs.declared.task.Task.{Task}
use Rattle.core_tasks.specs.Tasks.{task_deeds, CanDoTask}

-- ---- the ports stay sound

port_sound : (e : Entry) (s : SceneState) (d : Deed) → ArePortsSound s.ports → ArePortsSound (done e s d).ports
port_sound e s (deed.Windows c) h = h
port_sound e s (deed.Item w item) h = h
port_sound e s (deed.Snarfs text) h = h
port_sound e s (deed.Stores path bytes) h = h
port_sound e s (deed.MakesDir path) h = h
port_sound e s (deed.Requests job) h = h
port_sound e s (deed.Notes w op) h = h
port_sound e s (deed.AddsRules sets vars text) h = h
port_sound e s deed.ClearsRules h = h
port_sound e s (deed.AddsPort name) h = sound_add s.ports name h
port_sound e s (deed.Delivers port message keep) h = sound_deliver s.ports port message h

ports_sound : (e : Entry) (s : SceneState) (ds : List Deed) → ArePortsSound s.ports
    → ArePortsSound (done_all e s ds).ports
ports_sound e s [] h = h
ports_sound e s (d ∷ ds) h = ports_sound e (done e s d) ds (port_sound e s d h)

-- ---- so do the files `log` and `jobs`

line_sound : (s : WatchState) (line : Option (List ℕ)) → IsWatchSound s → IsWatchSound (with_line_if_any s line)
line_sound s None h = h
line_sound s (Some line) h = sound_line s line h

watch_sound : (e : Entry) (s : SceneState) (d : Deed) → IsWatchSound s.watch → IsWatchSound (done e s d).watch
watch_sound e s (deed.Windows c) h = line_sound s.watch (line_of_change s.windows c) h
watch_sound e s (deed.Item w item) h = h
watch_sound e s (deed.Snarfs text) h = h
watch_sound e s (deed.Stores path bytes) h = h
watch_sound e s (deed.MakesDir path) h = h
watch_sound e s (deed.Requests job) h = sound_request s.watch job h
watch_sound e s (deed.Notes w op) h = line_sound s.watch (line_of w op (window_at s.windows w)) h
watch_sound e s (deed.AddsRules sets vars text) h = h
watch_sound e s deed.ClearsRules h = h
watch_sound e s (deed.AddsPort name) h = h
watch_sound e s (deed.Delivers port message keep) h = h

pub watches_sound : (e : Entry) (s : SceneState) (ds : List Deed) → IsWatchSound s.watch
    → IsWatchSound (done_all e s ds).watch
watches_sound e s [] h = h
watches_sound e s (d ∷ ds) h = watches_sound e (done e s d) ds (watch_sound e s d h)

-- ---- a task

-- what can be done in the kept state can be done in the present one
pub can_now : (e : Entry) (x : Scene) (t : Task) → IsSettled x → CanDoTask e (kept_of x) t → CanDoTask e (scene_of x) t
can_now e x t settled can = subst (λ (s : SceneState). CanDoTask e s t) (sym (settled_is x settled)) can

-- old: the scene before the task; x: the scene once it is done
module _ (e : Entry) (old x : Scene) (t : Task) (settled : IsSettled old)
    (did : Did e (scene_of old) (scene_of x) (task_deeds e t (scene_of old))) where
  abbrev deeds : List Deed
  deeds = task_deeds e t (kept_of old)

  did_kept : Did e (kept_of old) (scene_of x) deeds
  did_kept = subst (λ (s : SceneState). Did e s (scene_of x) (task_deeds e t s)) (settled_is old settled) did

  pub task_can : CanDoAll e (kept_of old) deeds
  task_can = did_kept.can

  -- the scene without the items and the windows that are taken of it
  pub task_scene : (y z : Scene) → y ≡ record x { items = [] } → z ≡ record y { deleted = [] }
      → scene_of z ≡ record (done_all e (kept_of old) deeds) { items = []; deleted = [] }
  task_scene y z first second =
      ap scene_of (second ∙ ap (λ (s : Scene). record s { deleted = [] }) first)
      ∙ ap (λ (s : SceneState). record s { items = []; deleted = [] }) did_kept.made

  pub task_items : (items : List WindowItem) → items ≡ x.items → items ≡ (done_all e (kept_of old) deeds).items
  task_items items is = is ∙ ap (λ (s : SceneState). s.items) did_kept.made

  pub task_deleted : (y : Scene) (deleted : List ℕ) → y ≡ record x { items = [] }
      → deleted ≡ y.deleted → deleted ≡ deleted_by deeds
  task_deleted y deleted first is =
      is ∙ ap (λ (s : Scene). s.deleted) first ∙ ap (λ (s : SceneState). s.deleted) did_kept.made
      ∙ deleted_done e (kept_of old) deeds

  pub task_ports : (y z : Scene) → y ≡ record x { items = [] } → z ≡ record y { deleted = [] }
      → ArePortsSound old.ports.kept → ArePortsSound z.ports.present
  task_ports y z first second sound =
      subst (λ (s : SceneState). ArePortsSound s.ports) (sym (task_scene y z first second))
      (ports_sound e (kept_of old) deeds sound)

  pub task_watch : (y z : Scene) → y ≡ record x { items = [] } → z ≡ record y { deleted = [] }
      → IsWatchSound old.watch.kept → IsWatchSound z.watch.present
  task_watch y z first second sound =
      subst (λ (s : SceneState). IsWatchSound s.watch) (sym (task_scene y z first second))
      (watches_sound e (kept_of old) deeds sound)

  pub task_kept : (y z : Scene) → kept_of x ≡ kept_of old → y ≡ record x { items = [] } → z ≡ record y { deleted = [] }
      → kept_of z ≡ kept_of old
  task_kept y z kept first second = ap kept_of (second ∙ ap (λ (s : Scene). record s { deleted = [] }) first) ∙ kept

  pub task_book : (y z : Scene) → kept_of x ≡ kept_of old → y ≡ record x { items = [] } → z ≡ record y { deleted = [] }
      → z.book ≡ old.book
  task_book y z kept first second = ap (λ (s : Scene). s.book) (second ∙ ap (λ (s : Scene). record s { deleted = [] })
      first) ∙ book_stays did kept

pub ruleset moving = (can_now)

pub ruleset tasking = (can_now, task_can, task_scene, task_items, task_deleted, task_ports, task_watch, task_kept, task_book)
