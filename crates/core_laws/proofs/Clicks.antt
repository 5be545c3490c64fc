-- An Exec or a Look in a window whose event file is open does nothing but to make an item.
use Rattle.std.proofs.Common.{◌≡◌, ℕ, ◌+◌, Bool, true, cond, List, [], ◌∷◌, Option, Some, None, refl, sym, ap}
use Rattle.std.proofs.Common.{subst, ◌∙◌}
use Rattle.std.specs.List.{fold}
use Rattle.std.specs.Option.{option_map}
use Rattle.win_events.specs.declared.item.Item.{Item}
use Rattle.win_events.specs.declared.item.Origin.TheVariants.{M}
use Rattle.acme_cmd.specs.declared.expansion.Click.TheVariants as click
use Rattle.event_book.specs.BookState.{BookState, is_open_window, after_put}
use Rattle.am_journal.specs.declared.event.Event.{Event}
use Rattle.am_journal.specs.declared.event.Event.TheVariants as event
use Rattle.am_journal.specs.declared.event.Spot.{Spot}
use Rattle.core_fids.specs.declared.effect.Effect.TheVariants as effect
use Rattle.core_fids.specs.declared.effect.EventChange.TheVariants as events
use Rattle.core_scene.specs.declared.deed.Entry.{Entry}
use Rattle.core_scene.specs.declared.deed.Deed.{Deed}
use Rattle.core_scene.specs.declared.deed.Deed.TheVariants as deed
use Rattle.core_scene.specs.Scenes.{SceneState}
use Rattle.core_scene.specs.SceneLaws.{changes_in}
use Rattle.core_windows.specs.Stories.{all_changed_stories}
use Rattle.core_outputs.specs.Unsent.{put_replies}
use Rattle.core_exec.specs.declared.click.Clicked.{Clicked}
use Rattle.core_exec.specs.Looking.{look_step}
use Rattle.core_exec.specs.Clicks.{clicked_at, own_text, argument_if_any, exec_item, look_item}
use Rattle.core_exec.specs.Acting.{exec_click, exec_clicked, exec_at_deeds, look_click, look_clicked, look_at_deeds}
use Rattle.fid_table.specs.Tables.{Tables}
use Rattle.core_events.specs.Putting.{put_one}
use Rattle.core_events.specs.Serving.{served_all, book_served_all}
use Rattle.core_tasks.specs.Tasks.{task_deeds}
use Rattle.core_parts.specs.declared.kind.Kind.{Kind}
use Rattle.core_parts.specs.declared.kind.Kind.TheVariants as kind
use Rattle.core_parts.specs.Connections.{connections_after}
use Rattle.core_intents.specs.Doings.{entry_by, doing_of}
use Rattle.core_parts.specs.Doing.{Doing}
use Rattle.core_parts.specs.Kinds.{kind_of}
use Rattle.acme_core.specs.Run.{step, run, present_after}
use Rattle.core_steps.specs.Replies.{replies_of}
use Rattle.core_steps.specs.Order.{as_asked}
use Rattle.core_steps.specs.Stages.{said, tables_after, scene_after}
use Rattle.core_steps.proofs.Orders.{first_alone}
use Rattle.core_closing.specs.Closing.{left_unsent}
use Rattle.core_parts.specs.States.{State, present, next_entry, start_of}
use Rattle.plumb_ports.specs.PortsState.{PortsState}
use Rattle.core_events.specs.declared.response.Response.{Response}
use Rattle.core_events.specs.PortServing.{ports_served, ports_after_serving}
use Rattle.core_events.specs.PortSound.{ArePortsIdle}
use Rattle.core_events.proofs.PortIdles.{none_said, none_taken}
use Rattle.acme_core.proofs.Goes.{run-push}
use Rattle.acme_core.proofs.Idling.{ports_idle_after, watch_idle_after}
use Rattle.acme_core.proofs.Watching.{none_said as none_followed, none_taken as none_given}
use Rattle.acme_watch.specs.Watching.{WatchState}
use Rattle.core_watch.specs.Serving.{watch_served, watch_after_serving}
use Rattle.core_watch.specs.Sound.{IsWatchIdle}
use Rattle.core_laws.specs.Laws.{OnlyTells, ClicksAreTold, item_of_click}
use Rattle.core_laws.specs.Saying.{said_after}
use Rattle.core_laws.proofs.Wells.{done_sessions}
use Rattle.am_journal.specs.declared.event.Journal.{Journal}
use Rattle.am_journal.specs.Journal.{longer}

-- ---- nothing of a step is left in the scene behind it

abbrev tidy : SceneState → SceneState
tidy x = record x { windows = []; items = []; deleted = [] }

fold_tidy : (s : State) (events : List Event) → s.scene ≡ tidy s.scene
    → (fold step s events).scene ≡ tidy (fold step s events).scene
unfolding step
fold_tidy s [] h = h
fold_tidy s (e ∷ events) h = fold_tidy (step s e) events refl

run_tidy : (journal : Journal) → (run journal).scene ≡ tidy (run journal).scene
unfolding run
run_tidy journal = fold_tidy (start_of journal.format) journal.events refl

-- ---- deeds that make an item at most

abbrev item_deeds : ℕ → Option Item → List Deed
item_deeds w None = []
item_deeds w (Some item) = deed.Item w item ∷ []

-- what does these deeds alone
abbrev telling : List Deed → Doing
telling deeds = record {
  effect = effect.Nothing;
  events = events.Nothing;
  deeds = deeds;
  origin = M;
  answer = None;
  back = None;
  answers = None;
}

-- the story behind an event of this kind
abbrev after_kind : State → Kind → Doing → State
after_kind s k d = record {
  entries = next_entry (present s);
  connections = connections_after s.connections k;
  users = s.users;
  tables = tables_after (present s) k d;
  windows = all_changed_stories (next_entry (present s)) s.windows (changes_in d.deeds);
  scene = record (scene_after (present s) k d) { windows = [] };
  unsent = left_unsent (put_replies s.unsent (replies_of (said (present s) k d))) k;
  replies = replies_of (said (present s) k d);
}

abbrev Told : State → Kind → ℕ → Doing → Option Item → Type 0
Told s k w d o = OnlyTells s (after_kind s k d) (said (present s) k d) w o

-- no read of a port, of `log` or of `jobs` that waits can be answered
abbrev AreIdle : SceneState → Type 0
AreIdle x = ArePortsIdle x.ports × IsWatchIdle x.watch

-- so nothing is said to these
quiet : (t : Tables) (x : SceneState) (heard : List Response) (at : ℕ) → AreIdle x
    → as_asked t (heard ∷ ports_served x.ports ∷ watch_served at x.watch ∷ []) ≡ heard
quiet t x heard at idle = first_alone t heard (ports_served x.ports) (watch_served at x.watch)
    (none_said x.ports idle.0) (none_followed at x.watch idle.1)

-- and they stay
stays : (x : SceneState) (at : ℕ) → AreIdle x
    → record x { ports = ports_after_serving x.ports; watch = watch_after_serving at x.watch } ≡ x
stays x at idle =
    ap (λ (p : PortsState). record x { ports = p; watch = watch_after_serving at x.watch }) (none_taken x.ports idle.0)
    ∙ ap (λ (w : WatchState). record x { watch = w }) (none_given at x.watch idle.1)

-- an item comes where the event file is open
put_is : (b : BookState) (w : ℕ) (item : Item) → is_open_window b w ≡ true → put_one b
    (record { window = w; item = item }) ≡ after_put b w item
put_is b w item opened = subst (λ (t : Bool). cond t (after_put b w item) b ≡ after_put b w item) (sym opened) refl

tells : (s : State) (x : SceneState) (w : ℕ) (o : Option Item) → AreIdle x
    → is_open_window x.book w ≡ true → Told (record s { scene = tidy x }) kind.Acts w (telling (item_deeds w o)) o
tells s x w None idle opened = record {
  book = refl;
  says = quiet s.tables x (served_all (s.entries + 1) x.book) (s.entries + 1) idle;
  connections = refl;
  sessions = done_sessions s.tables (said (present (record s { scene = tidy x })) kind.Acts (telling []));
  windows = refl;
  scene = stays (tidy x) (s.entries + 1) idle;
}
tells s x w (Some item) idle opened = record {
  book = rw opened (ap (λ (b : BookState). book_served_all (s.entries + 1) b) (put_is x.book w item opened));
  says = rw opened
      (quiet s.tables x (served_all (s.entries + 1) (put_one x.book (record { window = w; item = item })))
      (s.entries + 1) idle
      ∙ ap (λ (b : BookState). served_all (s.entries + 1) b) (put_is x.book w item opened));
  connections = refl;
  sessions = done_sessions s.tables (said (present (record s { scene = tidy x })) kind.Acts
      (telling (deed.Item w item ∷ [])));
  windows = refl;
  scene = stays (tidy x) (s.entries + 1) idle;
}

-- the same of a story that is tidy, with deeds that are such
told : (s : State) (w : ℕ) (o : Option Item) (deeds : List Deed) → s.scene ≡ tidy s.scene → AreIdle s.scene
    → is_open_window s.scene.book w ≡ true → deeds ≡ item_deeds w o → Told s kind.Acts w (telling deeds) o
told s w o deeds h idle opened is =
    subst (λ (ds : List Deed). Told s kind.Acts w (telling ds) o) (sym is)
    (subst (λ (x : SceneState). Told (record s { scene = x }) kind.Acts w (telling (item_deeds w o)) o) (sym h)
    (tells s s.scene w o idle opened))

-- ---- what a click does

-- the item of an Exec, or of a Look, if it stands for a text
abbrev of_exec : Spot → Option (List ℕ × List ℕ) → Option Clicked → Option Item
of_exec at argument c = option_map (λ x. exec_item at x argument) c

abbrev of_look : Spot → SceneState → Option Clicked → Option Item
of_look at s c = option_map (λ x. look_item at x (look_step at.window (own_text x.text x.expanded) s)) c

exec_one : (e : Entry) (at : Spot) (argument : Option (List ℕ × List ℕ)) (c : Option Clicked) (s : SceneState)
    → is_open_window s.book at.window ≡ true
    → exec_clicked e at argument c s ≡ item_deeds at.window (of_exec at argument c)
unfolding exec_click
exec_one e at argument None s opened = refl
exec_one e at argument (Some c) s opened = rw opened refl

look_one : (e : Entry) (at : Spot) (c : Option Clicked) (s : SceneState)
    → is_open_window s.book at.window ≡ true → look_clicked e at c s ≡ item_deeds at.window (of_look at s c)
unfolding look_click
look_one e at None s opened = refl
look_one e at (Some c) s opened = rw opened refl

told_exec : (s : State) (at : Spot) (chord : Option Spot) → s.scene ≡ tidy s.scene → AreIdle s.scene
    → is_open_window s.scene.book at.window ≡ true
    → Told s kind.Acts at.window (telling (exec_at_deeds (entry_by (present s) M) at chord (present s).scene))
    (of_exec at (argument_if_any (present s).scene.windows chord) (clicked_at (present s).scene.windows at click.Exec))
told_exec s at chord h idle opened =
    let x : SceneState = (present s).scene in
    let argument : Option (List ℕ × List ℕ) = argument_if_any x.windows chord in
    let c : Option Clicked = clicked_at x.windows at click.Exec in
    told s at.window (of_exec at argument c) (exec_at_deeds (entry_by (present s) M) at chord x) h idle opened
    (exec_one (entry_by (present s) M) at argument c x opened)

told_look : (s : State) (at : Spot) → s.scene ≡ tidy s.scene → AreIdle s.scene
    → is_open_window s.scene.book at.window ≡ true
    → Told s kind.Acts at.window (telling (look_at_deeds (entry_by (present s) M) at (present s).scene))
    (of_look at (present s).scene (clicked_at (present s).scene.windows at click.Look))
told_look s at h idle opened =
    let x : SceneState = (present s).scene in
    let c : Option Clicked = clicked_at x.windows at click.Look in
    told s at.window (of_look at x c) (look_at_deeds (entry_by (present s) M) at x) h idle opened
    (look_one (entry_by (present s) M) at c x opened)

-- ---- every journal

behind : (before : Journal) (e : Event) (w : ℕ) (o : Option Item)
    → Told (run before) (kind_of e) w (doing_of (present (run before)) e) o
    → OnlyTells (run before) (run (longer before e)) (said_after before e) w o
unfolding step
behind before e w o h =
    let same : OnlyTells (run before) (step (run before) e) (said_after before e) w o = record {
      book = h.book;
      says = h.says;
      connections = h.connections;
      sessions = h.sessions;
      windows = h.windows;
      scene = h.scene;
    } in
    subst (λ (s : State). OnlyTells (run before) s (said_after before e) w o) (sym (run-push before e)) same

pub clicks : ClicksAreTold
unfolding task_deeds
clicks before (event.Exec at) w is opened =
    let same : at.window ≡ w = cc in
    let mine : is_open_window (run before).scene.book at.window ≡ true =
    subst (λ (v : ℕ). is_open_window (run before).scene.book v ≡ true) (sym same) opened in
    subst (λ (v : ℕ). OnlyTells (run before) (run (longer before (event.Exec at))) (said_after before (event.Exec at)) v
    (item_of_click (present_after before).scene (event.Exec at))) same
    (behind before (event.Exec at) at.window (item_of_click (present_after before).scene (event.Exec at))
    (told_exec (run before) at None (run_tidy before) (ports_idle_after before, watch_idle_after before) mine))
clicks before (event.Arg at chord) w is opened =
    let same : at.window ≡ w = cc in
    let mine : is_open_window (run before).scene.book at.window ≡ true =
    subst (λ (v : ℕ). is_open_window (run before).scene.book v ≡ true) (sym same) opened in
    subst (λ (v : ℕ). OnlyTells (run before) (run (longer before (event.Arg at chord)))
    (said_after before (event.Arg at chord)) v (item_of_click (present_after before).scene (event.Arg at chord)))
    same
    (behind before (event.Arg at chord) at.window (item_of_click (present_after before).scene (event.Arg at chord))
    (told_exec (run before) at (Some chord) (run_tidy before) (ports_idle_after before, watch_idle_after before) mine))
clicks before (event.Look at) w is opened =
    let same : at.window ≡ w = cc in
    let mine : is_open_window (run before).scene.book at.window ≡ true =
    subst (λ (v : ℕ). is_open_window (run before).scene.book v ≡ true) (sym same) opened in
    subst (λ (v : ℕ). OnlyTells (run before) (run (longer before (event.Look at))) (said_after before (event.Look at)) v
    (item_of_click (present_after before).scene (event.Look at))) same
    (behind before (event.Look at) at.window (item_of_click (present_after before).scene (event.Look at))
    (told_look (run before) at (run_tidy before) (ports_idle_after before, watch_idle_after before) mine))
clicks before (event.Dial conn) w is opened = absurd cc
clicks before (event.Msg conn msg) w is opened = absurd cc
clicks before (event.Hang conn why) w is opened = absurd cc
clicks before (event.Took conn) w is opened = absurd cc
clicks before event.New w is opened = absurd cc
clicks before (event.Key v side text) w is opened = absurd cc
clicks before (event.Sel v range) w is opened = absurd cc
clicks before (event.File path text) w is opened = absurd cc
clicks before (event.Dir path) w is opened = absurd cc
