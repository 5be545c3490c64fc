-- What an enabled event is to do can be done.
use Rattle.std.proofs.Common.{◌≡◌, ℕ, ◌≤◌, Bool, true, false, cond, List, [], ◌∷◌, length, Option, Some, None, Result}
use Rattle.std.proofs.Common.{Ok, Err, refl, sym, subst, arith}
use Rattle.std.specs.Prelude.{nat_le, IsSome}
use Rattle.std.proofs.lemmas.Bool.Decides.{nat_tests}
use Rattle.am_text.specs.declared.range.Range.{Range}
use Rattle.am_text.specs.Utf8.{utf8}
use Rattle.win_events.specs.Back.{back_of}
use Rattle.win_events.specs.declared.item.BackMsg.{BackMsg}
use Rattle.win_events.specs.declared.item.Origin.{Origin}
use Rattle.event_book.specs.BookState.{BookState, found_of}
use Rattle.event_book.specs.declared.finding.BackFault.{BackFault}
use Rattle.name_tree.specs.Kinds.{file_clashes, directory_clashes}
use Rattle.am_journal.specs.declared.event.Spot.{Spot}
use Rattle.am_journal.specs.declared.event.Why.{Why}
use Rattle.am_journal.specs.declared.event.Why.TheVariants as why
use Rattle.win_text.specs.Bodies.{IsInside}
use Rattle.acme_tree.specs.Trees.{world_is_full}
use Rattle.core_windows.specs.declared.change.Change.{Change}
use Rattle.core_windows.specs.declared.change.Change.TheVariants as change
use Rattle.core_windows.specs.Windows.{Window, window_at, world_of}
use Rattle.core_fids.specs.declared.effect.Demand.{Demand}
use Rattle.core_fids.specs.declared.effect.Demand.TheVariants as demand
use Rattle.core_fids.specs.declared.effect.Reaction.{Reaction}
use Rattle.core_fids.specs.Done.{CanBeMade, IsOfLiving, IsDone}
use Rattle.core_scene.specs.declared.deed.Entry.{Entry}
use Rattle.core_scene.specs.Scenes.{SceneState}
use Rattle.core_tasks.specs.Tasks.{acted_text, CanBeActedOn}
use Rattle.core_tasks.specs.declared.task.Task.{Task}
use Rattle.core_tasks.specs.declared.task.Task.TheVariants as task
use Rattle.core_tasks.specs.Tasks.{CanDoTask}
use Rattle.core_intents.specs.declared.intent.Intent.{Intent}
use Rattle.core_intents.specs.Doings.{entry_by, CanBeMeant}
use Rattle.core_intents.specs.Enabled.{first_why, new_refusal, tree_refusal}
use Rattle.core_intents.specs.Intents.{acting, nothing, back_task, item_or_refusal, item_named, demanded_task}
use Rattle.core_intents.specs.Spots.{window_refusal, text_refusal, spot_refusal, arg_refusal}
use Rattle.core_parts.specs.States.{Present, next_entry}
use Rattle.core_intents.proofs.Kinded.{first_is, first_then}

-- ---- messages

back_found : (e : Entry) (s : SceneState) (w : ℕ) (x : Result ℕ BackFault) → IsSome (window_at s.windows w)
    → CanDoTask e s (back_task (item_or_refusal w x))
back_found e s w (Ok number) lives = lives
back_found e s w (Err fault) lives = tt

back_can : (e : Entry) (s : SceneState) (book : BookState) (w : ℕ) (m : Option BackMsg) → IsSome (window_at s.windows w)
    → CanDoTask e s (back_task (item_named book w m))
back_can e s book w None lives = tt
back_can e s book w (Some m) lives = back_found e s w (found_of book w m) lives

demand_can : (e : Entry) (s : SceneState) (book : BookState) (cs : List Change) (d : Demand) → CanBeMade s.windows cs
    → IsOfLiving s.windows d → CanDoTask e s (demanded_task book cs d)
demand_can e s book cs demand.Nothing can own = can e.at
demand_can e s book cs (demand.Controls w text) can own = own
demand_can e s book cs (demand.WriteBack w text) can own = back_can e s book w (back_of text) own
demand_can e s book cs demand.ClearsRules can own = tt
demand_can e s book cs (demand.AddsRules text) can own = tt
demand_can e s book cs (demand.AddsRest text) can own = tt
demand_can e s book cs (demand.Sends text) can own = tt
demand_can e s book cs (demand.Answers opening text) can own = can e.at

-- what a message does can be done, by the windows as they stand
pub message_can : (s : Present) (ws : List (Option Window)) (book : BookState) (d : Reaction) (o : Origin) (t : Task)
    → t ≡ demanded_task book d.changes d.demand → ws ≡ s.scene.windows
    → IsDone ws d → CanDoTask (entry_by s o) s.scene t
message_can s ws book d o t is same done =
    let here : IsDone s.scene.windows d = subst (λ (x : List (Option Window)). IsDone x d) same done in
    subst (CanDoTask (entry_by s o) s.scene) (sym is) (demand_can (entry_by s o) s.scene book d.changes d.demand
    here.possible here.demand)

-- ---- other events

acts : (s : Present) (t : Task) (o : Origin) (i : Intent) → i ≡ acting t o → CanDoTask (entry_by s o) s.scene t
    → CanBeMeant s i
acts s t o i is can = subst (CanBeMeant s) (sym is) can

pub nothing_can : (s : Present) (i : Intent) → i ≡ nothing → CanBeMeant s i
nothing_can s i is = subst (CanBeMeant s) (sym is) tt

pub changes_can : (s : Present) (ws : List (Option Window)) (cs : List Change) (o : Origin) (i : Intent)
    → i ≡ acting (task.Changes cs) o → ws ≡ s.scene.windows → CanBeMade ws cs
    → CanBeMeant s i
changes_can s ws cs o i is same can = acts s (task.Changes cs) o i is
    (subst (λ (x : List (Option Window)). CanBeMade x cs) same can (next_entry s))

not_full : (b : Bool) → new_refusal b ≡ None → b ≡ false
not_full true e = absurd cc
not_full false e = refl

pub new_can : (s : Present) (cs : List Change) (o : Origin) (i : Intent) → i ≡ acting (task.Changes cs) o
    → cs ≡ change.Makes [] ∷ [] → new_refusal (world_is_full (world_of s.scene.windows)) ≡ None
    → CanBeMeant s i
new_can s cs o i is one allowed =
    acts s (task.Changes cs) o i is (subst (λ (x : List Change). CanDoTask (entry_by s o) s.scene (task.Changes x))
    (sym one) (not_full (world_is_full (world_of s.scene.windows)) allowed, tt))

-- ---- ranges of texts

lives : (o : Option Window) → window_refusal o ≡ None → IsSome o
lives None e = absurd cc
lives (Some window) e = refl

within : (b : Bool) → cond {A = Option Why} b None (Some why.Range) ≡ None → b ≡ true
within true e = refl
within false e = absurd cc

inside : (text : List ℕ) (r : Range) → r.q0 ≤ r.q1 → cond {A = Option Why} (nat_le r.q1 (length text)) None
    (Some why.Range) ≡ None → IsInside text r
inside text r order e =
    let fits : nat_le r.q1 (length text) ≡ true = within (nat_le r.q1 (length text)) e in
    record { order = order; bounds = grind (arith, nat_tests) }

there : (windows : List (Option Window)) (at : Spot) → at.range.q0 ≤ at.range.q1
    → window_refusal (window_at windows at.window) ≡ None → text_refusal (window_at windows at.window) at ≡ None
    → CanBeActedOn windows at
there windows at order live fits = record {
  lives = lives (window_at windows at.window) live;
  inside = inside (acted_text (window_at windows at.window) at.side) at.range order fits;
}

spot : (windows : List (Option Window)) (at : Spot) → at.range.q0 ≤ at.range.q1
    → spot_refusal windows at ≡ None → CanBeActedOn windows at
spot windows at order allowed =
    there windows at order (first_is (window_refusal (window_at windows at.window)) _ allowed)
    (first_then (window_refusal (window_at windows at.window)) _ allowed)

pub exec_can : (s : Present) (at : Spot) (o : Origin) (t : Task) (i : Intent) → i ≡ acting t o → t ≡ task.Exec at None
    → at.range.q0 ≤ at.range.q1 → spot_refusal s.scene.windows at ≡ None
    → CanBeMeant s i
exec_can s at o t i is one order allowed = acts s t o i is (subst (CanDoTask (entry_by s o) s.scene) (sym one)
    (spot s.scene.windows at order allowed, tt))

pub arg_can : (s : Present) (at chord : Spot) (o : Origin) (t : Task) (i : Intent) → i ≡ acting t o
    → t ≡ task.Exec at (Some chord)
    → (at.range.q0 ≤ at.range.q1) × (chord.range.q0 ≤ chord.range.q1)
    → arg_refusal s.scene.windows at chord ≡ None → CanBeMeant s i
arg_can s at chord o t i is one order allowed =
    let ws : List (Option Window) = s.scene.windows in
    let later : first_why (window_refusal (window_at ws chord.window))
    (first_why (text_refusal (window_at ws at.window) at) (text_refusal (window_at ws chord.window) chord)) ≡ None =
    first_then (window_refusal (window_at ws at.window)) _ allowed
    in
    let last : first_why (text_refusal (window_at ws at.window) at)
    (text_refusal (window_at ws chord.window) chord) ≡ None = first_then
    (window_refusal (window_at ws chord.window)) _ later in
    acts s t o i is (subst (CanDoTask (entry_by s o) s.scene) (sym one) (
      there ws at order.0 (first_is (window_refusal (window_at ws at.window)) _ allowed)
          (first_is (text_refusal (window_at ws at.window) at) _ last),
      there ws chord order.1 (first_is (window_refusal (window_at ws chord.window)) _ later)
          (first_then (text_refusal (window_at ws at.window) at) _ last),
    ))

pub look_can : (s : Present) (at : Spot) (o : Origin) (i : Intent) → i ≡ acting (task.Look at) o
    → at.range.q0 ≤ at.range.q1 → spot_refusal s.scene.windows at ≡ None → CanBeMeant s i
look_can s at o i is order allowed = acts s (task.Look at) o i is (spot s.scene.windows at order allowed)

-- ---- files

no_clash : (b : Bool) → tree_refusal b ≡ None → b ≡ false
no_clash true e = absurd cc
no_clash false e = refl

pub file_can : (s : Present) (path text : List ℕ) (o : Origin) (t : Task) (i : Intent) → i ≡ acting t o
    → t ≡ task.Stores path (utf8 text) → tree_refusal (file_clashes s.scene.files path) ≡ None
    → CanBeMeant s i
file_can s path text o t i is one allowed =
    acts s t o i is (subst (CanDoTask (entry_by s o) s.scene) (sym one)
    (no_clash (file_clashes s.scene.files path) allowed))

pub dir_can : (s : Present) (path : List ℕ) (o : Origin) (t : Task) (i : Intent) → i ≡ acting t o
    → t ≡ task.MakesDir path → tree_refusal (directory_clashes s.scene.files path) ≡ None
    → CanBeMeant s i
dir_can s path o t i is one allowed =
    acts s t o i is (subst (CanDoTask (entry_by s o) s.scene) (sym one)
    (no_clash (directory_clashes s.scene.files path) allowed))

pub ruleset demanding = (message_can)

pub ruleset meaning = (nothing_can, changes_can, new_can, exec_can, arg_can, look_can, file_can, dir_can)
