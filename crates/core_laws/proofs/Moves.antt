-- Undo and Redo, window by window, over journals.
use Rattle.std.proofs.Common.{◌≡◌, ℕ, ◌+◌, ◌-◌, true, false, cond, List, [], ◌∷◌, ◌++◌, length, Option, Some, None}
use Rattle.std.proofs.Common.{refl, sym, ap, ◌∙◌, arith, append_assoc}
use Rattle.std.specs.Prelude.{map}
use Rattle.std.specs.Option.{option_map}
use Rattle.std.proofs.lemmas.List.{length-append}
use Rattle.acme_cmd.specs.Commands.{classified}
use Rattle.acme_cmd.specs.declared.command.Command.{Command}
use Rattle.acme_cmd.specs.declared.command.Command.TheVariants as command
use Rattle.am_text.specs.declared.range.Range.{Range}
use Rattle.am_journal.specs.declared.event.Event.{Event}
use Rattle.am_journal.specs.declared.event.Spot.{Spot}
use Rattle.edit_log.specs.declared.types.Edit.{Edit}
use Rattle.edit_log.specs.Groups.{DoneGroup, number_in, last_of, first_of, undoing_group, redoing_group}
use Rattle.event_book.specs.BookState.{is_open_window}
use Rattle.win_text.specs.Bodies.{History, text_of_groups, undone_history, redone_history}
use Rattle.win_text.specs.BodyStories.{BodyStory, story_text, story_moved}
use Rattle.win_text.specs.Laws.{IsLawful}
use Rattle.win_text.proofs.Stories.{calls_keep_lawful}
use Rattle.core_windows.specs.Places.{at_place}
use Rattle.core_windows.specs.Windows.{window_at}
use Rattle.core_windows.specs.Stories.{WindowStory, IsLawfulWindow, AreLawful, shown_if_live, shown_windows}
use Rattle.core_windows.specs.Stories.{changed_stories, all_changed_stories}
use Rattle.core_scene.specs.declared.deed.Entry.{Entry}
use Rattle.core_scene.specs.declared.deed.Deed.{Deed}
use Rattle.core_scene.specs.declared.deed.Deed.TheVariants as deed
use Rattle.core_scene.specs.Scenes.{SceneState}
use Rattle.core_scene.specs.SceneLaws.{changes_in, DeedsShow}
use Rattle.core_actions.specs.declared.undoing.Move.{Move}
use Rattle.core_actions.specs.declared.undoing.Move.TheVariants as move
use Rattle.core_actions.specs.Undoing.{next_group, moves, is_number, moves_from, linked_deeds, move_deeds}
use Rattle.core_exec.specs.declared.click.Clicked.{Clicked}
use Rattle.core_exec.specs.Clicks.{own_text, text_if_any}
use Rattle.core_exec.specs.Executing.{Executed, builtin_deeds, command_deeds, exec_deeds}
use Rattle.core_exec.specs.Acting.{exec_click, exec_clicked}
use Rattle.core_intents.specs.Doings.{doing_of}
use Rattle.acme_core.specs.Run.{step, run, IsPossible}
use Rattle.core_parts.specs.States.{State, present, next_entry}
use Rattle.acme_core.proofs.Goes.{run-push}
use Rattle.core_laws.specs.Moving.{moved_story, moved_story_if, TextIsMoved, MovesAreWhole, builtin_of}
use Rattle.core_laws.proofs.Windows.{possible_prefix, all_lawful, one_lawful}
use Rattle.am_journal.specs.declared.event.Journal.{Journal}

-- ---- which windows move

-- the window at a place, behind those in front of it
at_here : (f : WindowStory → WindowStory) (front : List (Option WindowStory)) (o : Option WindowStory)
    (rest : List (Option WindowStory))
    → at_place (option_map f) (length front) (front ++ o ∷ rest) ≡ front ++ option_map f o ∷ rest
at_here f [] o rest = refl
at_here f (x ∷ front) o rest = ap (λ (l : List (Option WindowStory)). x ∷ l) (at_here f front o rest)

moved_list : (m : Move) (at w : ℕ) (ss : List (Option WindowStory))
    → changed_stories at ss (moves m w) ≡ at_place (option_map (moved_story m)) (w - 1) ss
moved_list move.Undo at w ss = refl
moved_list move.Redo at w ss = refl

one_more : (front : List (Option WindowStory)) (o : Option WindowStory) (w : ℕ)
    → length front + 1 ≡ w → length (front ++ o ∷ []) + 1 ≡ w + 1
one_more front o w h = omega (arith, length-append front (o ∷ []), h)

moved_here : (m : Move) (at w : ℕ) (front : List (Option WindowStory)) (o : Option WindowStory)
    (rest : List (Option WindowStory)) → length front + 1 ≡ w
    → changed_stories at (front ++ o ∷ rest) (moves m w) ≡ (front ++ option_map (moved_story m) o ∷ []) ++ rest
moved_here m at w front o rest l =
    let k : w - 1 ≡ length front = omega (arith, l) in
    moved_list m at w (front ++ o ∷ rest)
    ∙ ap (λ (j : ℕ). at_place (option_map (moved_story m)) j (front ++ o ∷ rest)) k
    ∙ at_here (moved_story m) front o rest
    ∙ sym (append_assoc front (option_map (moved_story m) o ∷ []) rest)

stories_from : (at : ℕ) (m : Move) (n w : ℕ) (rest front : List (Option WindowStory)) → length front + 1 ≡ w
    → all_changed_stories at (front ++ rest) (changes_in (moves_from m n w (shown_windows rest)))
    ≡ front ++ map (moved_story_if m (Some n)) rest
stories_from at m n w [] front l = refl
stories_from at m n w (o ∷ rest) front l =
    let f = moved_story_if m (Some n) in
    let o' = option_map (moved_story m) o in
    let more = changes_in (moves_from m n (w + 1) (shown_windows rest)) in
    elim (is_number n (next_group m (shown_if_live o))) as (λ b. all_changed_stories at (front ++ o ∷ rest)
    (changes_in (cond b (deed.Windows (moves m w) ∷ []) [] ++ moves_from m n (w + 1) (shown_windows rest)))
    ≡ front ++ cond b o' o ∷ map f rest) [
      | true ↦
          ap (λ (ss : List (Option WindowStory)). all_changed_stories at ss more) (moved_here m at w front o rest l)
          ∙ stories_from at m n (w + 1) rest (front ++ o' ∷ []) (one_more front o' w l)
          ∙ append_assoc front (o' ∷ []) (map f rest)
      | false ↦
          ap (λ (ss : List (Option WindowStory)). all_changed_stories at ss more)
          (sym (append_assoc front (o ∷ []) rest))
          ∙ stories_from at m n (w + 1) rest (front ++ o ∷ []) (one_more front o w l)
          ∙ append_assoc front (o ∷ []) (map f rest)
    ]

all_same : (m : Move) (ss : List (Option WindowStory)) → ss ≡ map (moved_story_if m None) ss
all_same m [] = refl
all_same m (o ∷ ss) = ap (λ (l : List (Option WindowStory)). o ∷ l) (all_same m ss)

linked_by : (at : ℕ) (m : Move) (s : State) (g : Option ℕ) → all_changed_stories at s.windows
    (changes_in (linked_deeds m g (present s).scene)) ≡ map (moved_story_if m g) s.windows
linked_by at m s None = all_same m s.windows
linked_by at m s (Some n) = stories_from at m n 1 s.windows [] refl

step_linked : (s : State) (e : Event) (m : Move) (w : ℕ) → (doing_of (present s) e).deeds ≡ move_deeds m w
    (present s).scene
    → (step s e).windows ≡ map (moved_story_if m (next_group m (window_at (shown_windows s.windows) w))) s.windows
unfolding step
step_linked s e m w is =
    ap (λ (ds : List Deed). all_changed_stories (next_entry (present s)) s.windows (changes_in ds)) is
    ∙ linked_by (next_entry (present s)) m s (next_group m (window_at (shown_windows s.windows) w))

-- ---- the text of one that moves

moved_text : (b : BodyStory) (h : History) (f : DoneGroup → List Edit) (o : Option DoneGroup) (n : ℕ)
    → option_map number_in o ≡ Some n → IsLawful (story_moved b (option_map f o) h)
    → story_text (story_moved b (option_map f o) h) ≡ text_of_groups [] h.past
moved_text b h f None n is lawful = absurd cc
moved_text b h f (Some g) n is lawful = sym lawful.history

pub text_moved : (m : Move) (s : WindowStory) → IsLawfulWindow s → TextIsMoved m s
text_moved move.Undo s h n is =
    moved_text s.body (undone_history s.body.history) undoing_group (last_of s.body.history.past) n is
    (calls_keep_lawful s.body h.body).undone
text_moved move.Redo s h n is =
    moved_text s.body (redone_history s.body.history) redoing_group (first_of s.body.history.future) n is
    (calls_keep_lawful s.body h.body).redone

-- ---- every journal

pub moves_whole : DeedsShow → (journal : Journal) → IsPossible journal → MovesAreWhole journal
moves_whole show journal all before behind e m w is moved =
    let lawful : AreLawful (run before).windows = all_lawful show before
    (possible_prefix before journal (e ∷ behind, is) all) in
    record {
      linked = ap (λ (s : State). s.windows) (run-push before e) ∙ step_linked (run before) e m w moved;
      texts = λ v s there. text_moved m s (one_lawful (run before).windows v s lawful there);
    }

-- ---- an executed move is one

pub command_moves : (e : Entry) (w : ℕ) (x : Executed) (c : Command) (m : Move) (r : Range) (s : SceneState)
    → c ≡ command.Builtin (builtin_of m) r → command_deeds e w x c s ≡ move_deeds m w s
unfolding command_deeds builtin_deeds
command_moves e w x c move.Undo r s is = ap (λ (y : Command). command_deeds e w x y s) is
command_moves e w x c move.Redo r s is = ap (λ (y : Command). command_deeds e w x y s) is

click_moves : (e : Entry) (at : Spot) (argument : Option (List ℕ × List ℕ)) (c : Clicked) (m : Move) (r : Range)
    (s : SceneState) → is_open_window s.book at.window ≡ false
    → classified (own_text c.text c.expanded) ≡ command.Builtin (builtin_of m) r
    → exec_click e at argument c s ≡ move_deeds m at.window s
unfolding exec_click exec_deeds
click_moves e at argument c m r s closed is =
    rw closed (command_moves e at.window (record { text = own_text c.text c.expanded; chord = text_if_any argument })
    (classified (own_text c.text c.expanded)) m r s is)

-- of an Exec with this argument
pub clicked_moves : (e : Entry) (at : Spot) (argument : Option (List ℕ × List ℕ)) (o : Option Clicked) (c : Clicked)
    (m : Move) (r : Range) (s : SceneState) → is_open_window s.book at.window ≡ false
    → o ≡ Some c → classified (own_text c.text c.expanded) ≡ command.Builtin (builtin_of m) r
    → exec_clicked e at argument o s ≡ move_deeds m at.window s
clicked_moves e at argument o c m r s closed clicked is = ap (λ (x : Option Clicked). exec_clicked e at argument x s)
    clicked ∙ click_moves e at argument c m r s closed is
