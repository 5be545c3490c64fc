-- The scene that a step plays on, and what deeds make of it.
use Rattle.std.specs.Prelude.{◌≡◌, ℕ, ◌&&◌, ◌||◌, Bool, true, false, nat_lt, List, [], ◌∷◌, ◌++◌, length, Option, None}
use Rattle.am_text.specs.Twice.{both, IsSteady}
use Rattle.am_text.specs.declared.job.Job.{Job}
use Rattle.event_book.specs.BookState.{BookState, empty_book}
use Rattle.acme_watch.specs.Watching.{WatchState, watching, with_request}
use Rattle.name_tree.specs.declared.types.Node.{Node}
use Rattle.name_tree.specs.Kinds.{file_clashes, directory_clashes, after_file, after_directory}
use Rattle.rule_syntax.specs.Verbs.{is_port_name}
use Rattle.core_stores.specs.Stores.{RuleState, no_rules, added, has_room}
use Rattle.plumb_ports.specs.PortList.{is_there}
use Rattle.plumb_ports.specs.PortsState.{PortsState, beginning, after_add, refusal, after_deliver}
use Rattle.core_windows.specs.Windows.{Window, window_at, changed, both_windows}
use Rattle.core_windows.specs.declared.change.Change.{Change}
use Rattle.core_windows.specs.Possible.{CanChange}
use Rattle.core_scene.specs.NewItems.{items_of}
use Rattle.plumb_ports.specs.Limits.{max_ports}
use Rattle.core_scene.specs.declared.deed.WindowItem.{WindowItem}
use Rattle.core_scene.specs.declared.deed.Entry.{Entry}
use Rattle.core_scene.specs.declared.deed.Deed.{Deed}
use Rattle.core_scene.specs.declared.deed.Deed.TheVariants as deed
use Rattle.core_scene.specs.declared.scene.Scene.{Scene}
use Rattle.core_scene.specs.Told.{told_in, told_if_any, teller_of, deletes}
use Rattle.core_scene.specs.Noted.{line_of, line_of_change, with_line_if_any}

-- all windows, whether the files `log` and `jobs` are served, the event files, the tree of files, the snarfed text, the
-- requests, the rules and ports of the plumber, the files `log` and `jobs` themselves, and the items that the step has
-- made so far, and the windows that it has deleted
pub record SceneState : Type 0 where
  pub windows : List (Option Window)
  pub watched : Bool
  pub book : BookState
  pub files : List (List ℕ × Node)
  pub snarf : List ℕ
  pub jobs : List Job
  pub rules : RuleState
  pub ports : PortsState
  pub watch : WatchState
  pub items : List WindowItem
  pub deleted : List ℕ

-- ---- one deed

-- the items that a change makes, told by the windows as they stand before it
abbrev pub items_told : Entry → SceneState → Change → List WindowItem
items_told e s c = told_if_any s.book (teller_of c) (items_of s.windows e.origin c)

-- the scene after a deed
abbrev pub done : Entry → SceneState → Deed → SceneState
done e s (deed.Windows c) =
    record s {
      windows = changed e.at s.windows c;
      watch = with_line_if_any s.watch (line_of_change s.windows c);
      items = s.items ++ items_told e s c;
      deleted = s.deleted ++ deletes c;
    }
done e s (deed.Item w item) = record s { items = s.items ++ told_in s.book w (item ∷ []) }
done e s (deed.Snarfs text) = record s { snarf = text }
done e s (deed.Stores path bytes) = record s { files = after_file s.files path bytes }
done e s (deed.MakesDir path) = record s { files = after_directory s.files path }
done e s (deed.Requests job) = record s { jobs = s.jobs ++ job ∷ []; watch = with_request s.watch job }
done e s (deed.Notes w op) = record s { watch = with_line_if_any s.watch (line_of w op (window_at s.windows w)) }
done e s (deed.AddsRules sets vars text) = record s { rules = added s.rules sets vars text }
done e s deed.ClearsRules = record s { rules = no_rules }
done e s (deed.AddsPort name) = record s { ports = after_add s.ports name }
done e s (deed.Delivers port message keep) = record s { ports = after_deliver s.ports port message }

-- whether it is the name of a port, and a port of this name is there, or there is room for one more
abbrev pub can_add : PortsState → List ℕ → Bool
can_add s name = is_port_name name && (is_there s.ports name || nat_lt (length s.ports) max_ports)

-- what a change names is there; what is stored or made clashes with nothing; there is room for rules and ports, which
-- have names of ports; a port takes what is delivered
abbrev pub CanDo : SceneState → Deed → Type 0
CanDo s (deed.Windows c) = CanChange s.windows c
CanDo s (deed.Item w item) = Unit {0}
CanDo s (deed.Snarfs text) = Unit {0}
CanDo s (deed.Stores path bytes) = file_clashes s.files path ≡ false
CanDo s (deed.MakesDir path) = directory_clashes s.files path ≡ false
CanDo s (deed.Requests job) = Unit {0}
CanDo s (deed.Notes w op) = Unit {0}
CanDo s (deed.AddsRules sets vars text) = has_room s.rules (length text) ≡ true
CanDo s deed.ClearsRules = Unit {0}
CanDo s (deed.AddsPort name) = can_add s.ports name ≡ true
CanDo s (deed.Delivers port message keep) = refusal s.ports port keep ≡ None

-- ---- several, one after another

-- the scene after these deeds
abbrev pub done_all : Entry → SceneState → List Deed → SceneState
done_all e s [] = s
done_all e s (d ∷ ds) = done_all e (done e s d) ds

-- each can be done when its turn comes
abbrev pub CanDoAll : Entry → SceneState → List Deed → Type 0
CanDoAll e s [] = Unit {0}
CanDoAll e s (d ∷ ds) = CanDo s d × CanDoAll e (done e s d) ds

-- The deeds can be done, and the new state is what they make of the old one.
pub record Did (e : Entry) (before after : SceneState) (deeds : List Deed) : Type 0 where
  pub made : after ≡ done_all e before deeds
  pub can : CanDoAll e before deeds

-- the deeds of f, and then those of g, which sees what f's deeds make
abbrev pub then_ : Entry → (SceneState → List Deed) → (SceneState → List Deed) → SceneState → List Deed
then_ e f g s = f s ++ g (done_all e s (f s))

-- the windows that deeds delete, in order
abbrev pub deleted_by : List Deed → List ℕ
deleted_by [] = []
deleted_by (deed.Windows c ∷ ds) = deletes c ++ deleted_by ds
deleted_by (deed.Item w item ∷ ds) = deleted_by ds
deleted_by (deed.Snarfs text ∷ ds) = deleted_by ds
deleted_by (deed.Stores path bytes ∷ ds) = deleted_by ds
deleted_by (deed.MakesDir path ∷ ds) = deleted_by ds
deleted_by (deed.Requests job ∷ ds) = deleted_by ds
deleted_by (deed.Notes w op ∷ ds) = deleted_by ds
deleted_by (deed.AddsRules sets vars text ∷ ds) = deleted_by ds
deleted_by (deed.ClearsRules ∷ ds) = deleted_by ds
deleted_by (deed.AddsPort name ∷ ds) = deleted_by ds
deleted_by (deed.Delivers port message keep ∷ ds) = deleted_by ds

-- ---- two states

-- nothing was ever made; the files `log` and `jobs` are served or not
abbrev pub no_scene : Bool → SceneState
no_scene watched = record {
  windows = [];
  watched = watched;
  book = empty_book;
  files = [];
  snarf = [];
  jobs = [];
  rules = no_rules;
  ports = beginning;
  watch = watching;
  items = [];
  deleted = [];
}

-- the present state of a scene
abbrev pub scene_of : Scene → SceneState
scene_of s = record {
  windows = s.windows.present;
  watched = s.windows.watched;
  book = s.book.present;
  files = s.files.present;
  snarf = s.snarf.present;
  jobs = s.jobs.present;
  rules = s.rules.present;
  ports = s.ports.present;
  watch = s.watch.present;
  items = s.items;
  deleted = s.deleted;
}

-- its kept state, which has no items and no deleted windows
abbrev pub kept_of : Scene → SceneState
kept_of s = record {
  windows = s.windows.kept;
  watched = s.windows.watched;
  book = s.book.kept;
  files = s.files.kept;
  snarf = s.snarf.kept;
  jobs = s.jobs.kept;
  rules = s.rules.kept;
  ports = s.ports.kept;
  watch = s.watch.kept;
  items = [];
  deleted = [];
}

-- the scene that has this state as the present one and as the kept one, with no items and no deleted windows
abbrev pub scene_in : SceneState → Scene
scene_in s = record {
  windows = both_windows s.watched s.windows;
  book = both s.book;
  files = both s.files;
  snarf = both s.snarf;
  jobs = both s.jobs;
  rules = both s.rules;
  ports = both s.ports;
  watch = both s.watch;
  items = [];
  deleted = [];
}

-- the present state is the kept one, and there are no items and no deleted windows
pub record IsSettled (s : Scene) : Type 0 where
  pub windows : s.windows.present ≡ s.windows.kept
  pub book : IsSteady s.book
  pub files : IsSteady s.files
  pub snarf : IsSteady s.snarf
  pub jobs : IsSteady s.jobs
  pub rules : IsSteady s.rules
  pub ports : IsSteady s.ports
  pub watch : IsSteady s.watch
  pub items : s.items ≡ []
  pub deleted : s.deleted ≡ []
