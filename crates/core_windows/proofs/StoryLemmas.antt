-- Windows by all that was done to them, and as they stand.
use Rattle.std.proofs.Common.{◌≡◌, ℕ, zero, suc, ◌+◌, ◌-◌, ◌≤◌, Bool, true, false, cond, eqb, List, [], ◌∷◌, ◌++◌}
use Rattle.std.proofs.Common.{length, Option, Some, None, refl, sym, ap, subst, ◌∙◌, arith, length-append}
use Rattle.std.specs.Prelude.{not, ◌||◌, IsSome}
use Rattle.std.specs.Option.{option_map}
use Rattle.std.proofs.lemmas.List.{map-append}
use Rattle.std.proofs.lemmas.Bool.Decides.{nat_tests}
use Rattle.edit_log.specs.declared.types.Edit.{Edit}
use Rattle.win_text.specs.Bodies.{BodyState, History, applied_if_any, plan_with, edits_to_undo, edits_to_redo}
use Rattle.win_text.specs.Bodies.{undone_history, redone_history}
use Rattle.win_text.specs.BodyStories.{shown, story_moved}
use Rattle.win_text.specs.declared.types.PlanKind.{PlanKind}
use Rattle.win_text.specs.declared.types.PlanKind.TheVariants.{Undo, Redo}
use Rattle.win_text.proofs.Stories.{each_shown, calls_keep_lawful, all_inside}
use Rattle.core_windows.specs.Places.{at_place, live_at, gone}
use Rattle.core_windows.specs.Possible.{CanSet, CanChange, CanChangeAll}
use Rattle.core_windows.specs.Windows.{Window, planned_if_any, added, edited, undone_window, redone_window, set}
use Rattle.core_windows.specs.Windows.{changed, all_changed}
use Rattle.core_windows.specs.Shapes.{Lives, Always, IsEditable, IsSettable}
use Rattle.core_windows.specs.Stories.{WindowStory, is_modified, shown_window, shown_if_live, shown_windows}
use Rattle.core_windows.specs.Stories.{named_story, edited_story, added_story, undone_window_story, redone_window_story}
use Rattle.core_windows.specs.Stories.{set_story, changed_stories, all_changed_stories, IsMarked, IsLawfulWindow}
use Rattle.core_windows.specs.Stories.{AreLawful}
use Rattle.core_windows.specs.declared.change.Change.{Change}
use Rattle.core_windows.specs.declared.change.Change.TheVariants as change
use Rattle.core_windows.specs.declared.change.Setting.{Setting}
use Rattle.core_windows.specs.declared.change.Setting.TheVariants as setting
use Rattle.core_windows.proofs.Conditions.{always_there, editable_there, settable_there}

-- ---- one window

same_number : (n : ℕ) → not (eqb n n) ≡ false
same_number n = grind (arith, nat_tests)

grown : (m n k : ℕ) → m ≤ n → not (eqb m (n + k)) ≡ (not (eqb m n) || not (eqb k 0))
grown m n k h = grind (arith, nat_tests)

modified_after : (m : Option ℕ) (es more : List Edit) → IsMarked m (length es)
    → is_modified m (length (es ++ more)) ≡ (is_modified m (length es) || not (eqb (length more) 0))
modified_after None es more h = refl
modified_after (Some m) es more h = ap (λ (n : ℕ). not (eqb m n)) (length-append es more)
    ∙ grown m (length es) (length more) h

marked_after : (m : Option ℕ) (es more : List Edit) → IsMarked m (length es) → IsMarked m (length (es ++ more))
marked_after None es more h = tt
marked_after (Some m) es more h = omega (arith, h, length-append es more)

same_parts : (name right : List ℕ) (b c : BodyState) (m n : Bool) → b ≡ c → m ≡ n → ◌≡◌ {A = Window}
    (record { name = name; right = right; body = b; modified = m })
    (record { name = name; right = right; body = c; modified = n })
same_parts name right b c m n e f = rw (e, f) refl

edited_shown : (es : List Edit) (at : ℕ) (s : WindowStory) → IsLawfulWindow s
    → shown_window (edited_story es at s) ≡ edited es at (shown_window s)
edited_shown es at s h = same_parts s.name s.right _ _ _ _ ((each_shown s.body h.body).changed
    (record { edits = es; dot = None }) at) (modified_after s.clean s.body.edits es h.mark)

moved_shown : (s : WindowStory) (kind : PlanKind) (o : Option (List Edit)) (history : History) → IsLawfulWindow s
    → shown (story_moved s.body o history) ≡ applied_if_any (shown s.body) (option_map (plan_with kind) o)
    → shown_window (record s { body = story_moved s.body o history }) ≡ planned_if_any (option_map (plan_with kind) o)
    (shown_window s)
moved_shown s kind None history h e = refl
moved_shown s kind (Some es) history h e = same_parts s.name s.right _ _ _ _ e
    (modified_after s.clean s.body.edits es h.mark)

moved_marked : (s : WindowStory) (o : Option (List Edit)) (history : History) → IsLawfulWindow s
    → IsMarked s.clean (length (story_moved s.body o history).edits)
moved_marked s None history h = h.mark
moved_marked s (Some es) history h = marked_after s.clean s.body.edits es h.mark

undone_shown : (s : WindowStory) → IsLawfulWindow s → shown_window (undone_window_story s)
    ≡ undone_window (shown_window s)
undone_shown s h = moved_shown s Undo (edits_to_undo s.body.history) (undone_history s.body.history) h
    (each_shown s.body h.body).undone

redone_shown : (s : WindowStory) → IsLawfulWindow s → shown_window (redone_window_story s)
    ≡ redone_window (shown_window s)
redone_shown s h = moved_shown s Redo (edits_to_redo s.body.history) (redone_history s.body.history) h
    (each_shown s.body h.body).redone

abbrev with_body : WindowStory → BodyState → Window
with_body s b = record (shown_window s) { body = b }

set_shown : (x : Setting) (s : WindowStory) → IsLawfulWindow s → shown_window (set_story x s) ≡ set x (shown_window s)
set_shown setting.AddrToDot s h = ap (with_body s) ((each_shown s.body h.body).addr (shown s.body).dot)
set_shown setting.DotToAddr s h = ap (with_body s) ((each_shown s.body h.body).dot (shown s.body).addr)
set_shown setting.LimitToAddr s h = ap (with_body s) ((each_shown s.body h.body).limit (Some (shown s.body).addr))
set_shown setting.NoLimit s h = ap (with_body s) ((each_shown s.body h.body).limit None)
set_shown (setting.Dot range) s h = ap (with_body s) ((each_shown s.body h.body).dot range)
set_shown (setting.Addr range) s h = ap (with_body s) ((each_shown s.body h.body).addr range)
set_shown setting.Clean s h = ap (λ (m : Bool). record (shown_window s) { modified = m })
    (same_number (length s.body.edits))
set_shown setting.Dirty s h = refl
set_shown setting.ClearTag s h = refl
set_shown (setting.Mark automatic) s h = ap (with_body s) ((each_shown s.body h.body).marked automatic)
set_shown (setting.Name name) s h = refl

added_shown : (text : List ℕ) (s : WindowStory) → IsLawfulWindow s
    → shown_window (added_story text s) ≡ added text (shown_window s)
added_shown text s h = refl

edited_lawful : (es : List Edit) (at : ℕ) (s : WindowStory) → IsLawfulWindow s → IsEditable es (shown_window s)
    → IsLawfulWindow (edited_story es at s)
edited_lawful es at s h c = record {
  body = (calls_keep_lawful s.body h.body).changed
      (record { edits = es; dot = None }) at c;
  mark = marked_after s.clean s.body.edits es h.mark;
}

undone_lawful : (s : WindowStory) → IsLawfulWindow s → Always {A = Window} (shown_window s)
    → IsLawfulWindow (undone_window_story s)
undone_lawful s h c = record {
  body = (calls_keep_lawful s.body h.body).undone;
  mark = moved_marked s
      (edits_to_undo s.body.history) (undone_history s.body.history) h;
}

redone_lawful : (s : WindowStory) → IsLawfulWindow s → Always {A = Window} (shown_window s)
    → IsLawfulWindow (redone_window_story s)
redone_lawful s h c = record {
  body = (calls_keep_lawful s.body h.body).redone;
  mark = moved_marked s
      (edits_to_redo s.body.history) (redone_history s.body.history) h;
}

added_lawful : (text : List ℕ) (s : WindowStory) → IsLawfulWindow s → Always {A = Window} (shown_window s)
    → IsLawfulWindow (added_story text s)
added_lawful text s h c = record { body = h.body; mark = h.mark }

set_lawful : (x : Setting) (s : WindowStory) → IsLawfulWindow s → IsSettable x (shown_window s)
    → IsLawfulWindow (set_story x s)
set_lawful setting.AddrToDot s h c = record {
  body = (calls_keep_lawful s.body h.body).addr (shown s.body).dot
      (all_inside s.body h.body).dot;
  mark = h.mark;
}
set_lawful setting.DotToAddr s h c = record {
  body = (calls_keep_lawful s.body h.body).dot (shown s.body).addr
      (all_inside s.body h.body).addr;
  mark = h.mark;
}
set_lawful setting.LimitToAddr s h c = record {
  body = (calls_keep_lawful s.body h.body).limit
      (Some (shown s.body).addr) (all_inside s.body h.body).addr;
  mark = h.mark;
}
set_lawful setting.NoLimit s h c = record { body = (calls_keep_lawful s.body h.body).limit None tt; mark = h.mark }
set_lawful (setting.Dot range) s h c = record { body = (calls_keep_lawful s.body h.body).dot range c; mark = h.mark }
set_lawful (setting.Addr range) s h c = record { body = (calls_keep_lawful s.body h.body).addr range c; mark = h.mark }
set_lawful setting.Clean s h c = record { body = h.body; mark = omega arith }
set_lawful setting.Dirty s h c = record { body = h.body; mark = tt }
set_lawful setting.ClearTag s h c = record { body = h.body; mark = h.mark }
set_lawful (setting.Mark automatic) s h c = record {
  body = (calls_keep_lawful s.body h.body).marked automatic;
  mark =
      h.mark;
}
set_lawful (setting.Name name) s h c = record { body = h.body; mark = h.mark }

-- ---- a window at its place

place_shown : (f : WindowStory → WindowStory) (g : Window → Window) (k : ℕ) (ss : List (Option WindowStory))
    → AreLawful ss → ((s : WindowStory) → IsLawfulWindow s → shown_window (f s) ≡ g (shown_window s))
    → shown_windows (at_place (option_map f) k ss) ≡ at_place (option_map g) k (shown_windows ss)
place_shown f g k [] h e = refl
place_shown f g zero (None ∷ ss) h e = refl
place_shown f g zero (Some s ∷ ss) h e = ap (λ (w : Window). Some w ∷ shown_windows ss) (e s h.0)
place_shown f g (suc k) (s ∷ ss) h e = ap (λ (ws : List (Option Window)). shown_if_live s ∷ ws)
    (place_shown f g k ss h.1 e)

place_lawful : (P : Window → Type 0) (f : WindowStory → WindowStory) (k : ℕ) (ss : List (Option WindowStory))
    → AreLawful ss → Lives P (live_at (shown_windows ss) k) → ((s : WindowStory) → IsLawfulWindow s → P (shown_window s)
    → IsLawfulWindow (f s)) → AreLawful (at_place (option_map f) k ss)
place_lawful P f k [] h c e = tt
place_lawful P f zero (None ∷ ss) h c e = absurd c
place_lawful P f zero (Some s ∷ ss) h c e = (e s h.0 c, h.1)
place_lawful P f (suc k) (s ∷ ss) h c e = (h.0, place_lawful P f k ss h.1 c e)

gone_shown : (k : ℕ) (ss : List (Option WindowStory)) → shown_windows (at_place gone k ss) ≡ at_place gone k
    (shown_windows ss)
gone_shown k [] = refl
gone_shown zero (s ∷ ss) = refl
gone_shown (suc k) (s ∷ ss) = ap (λ (ws : List (Option Window)). shown_if_live s ∷ ws) (gone_shown k ss)

gone_lawful : (k : ℕ) (ss : List (Option WindowStory)) → AreLawful ss → AreLawful (at_place gone k ss)
gone_lawful k [] h = tt
gone_lawful zero (s ∷ ss) h = (tt, h.1)
gone_lawful (suc k) (s ∷ ss) h = (h.0, gone_lawful k ss h.1)

pushed_lawful : (ss : List (Option WindowStory)) (s : WindowStory) → AreLawful ss → IsLawfulWindow s
    → AreLawful (ss ++ Some s ∷ [])
pushed_lawful [] s h k = (k, tt)
pushed_lawful (t ∷ ss) s h k = (h.0, pushed_lawful ss s h.1 k)

-- ---- one change

change_shown : (at : ℕ) (ss : List (Option WindowStory)) (c : Change) → AreLawful ss
    → shown_windows (changed_stories at ss c) ≡ changed at (shown_windows ss) c
change_shown at ss (change.Makes name) h = map-append shown_if_live ss (Some (named_story name) ∷ [])
change_shown at ss (change.Deletes w) h = gone_shown (w - 1) ss
change_shown at ss (change.Edits w es) h = place_shown (edited_story es at) (edited es at) (w - 1) ss h
    (edited_shown es at)
change_shown at ss (change.Adds w text) h = place_shown (added_story text) (added text) (w - 1) ss h (added_shown text)
change_shown at ss (change.Sets w x) h = place_shown (set_story x) (set x) (w - 1) ss h (set_shown x)
change_shown at ss (change.Undoes w) h = place_shown undone_window_story undone_window (w - 1) ss h undone_shown
change_shown at ss (change.Redoes w) h = place_shown redone_window_story redone_window (w - 1) ss h redone_shown

change_lawful : IsLawfulWindow (named_story []) → (at : ℕ) (ss : List (Option WindowStory)) (c : Change) → AreLawful ss
    → CanChange (shown_windows ss) c → AreLawful (changed_stories at ss c)
change_lawful new at ss (change.Makes name) h k = pushed_lawful ss (named_story name) h
    (record { body = new.body; mark = new.mark })
change_lawful new at ss (change.Deletes w) h k = gone_lawful (w - 1) ss h
change_lawful new at ss (change.Edits w es) h k = place_lawful (IsEditable es) (edited_story es at) (w - 1) ss h
    (editable_there es (shown_windows ss) w k) (edited_lawful es at)
change_lawful new at ss (change.Adds w text) h k = place_lawful (Always {A = Window}) (added_story text) (w - 1) ss h
    (always_there (shown_windows ss) w k) (added_lawful text)
change_lawful new at ss (change.Sets w x) h k = place_lawful (IsSettable x) (set_story x) (w - 1) ss h
    (settable_there x (shown_windows ss) w k) (set_lawful x)
change_lawful new at ss (change.Undoes w) h k = place_lawful (Always {A = Window}) undone_window_story (w - 1) ss h
    (always_there (shown_windows ss) w k) undone_lawful
change_lawful new at ss (change.Redoes w) h k = place_lawful (Always {A = Window}) redone_window_story (w - 1) ss h
    (always_there (shown_windows ss) w k) redone_lawful

-- ---- a step

pub steps_lawful : IsLawfulWindow (named_story []) → (at : ℕ) (ss : List (Option WindowStory)) (cs : List Change)
    → AreLawful ss → CanChangeAll at (shown_windows ss) cs → AreLawful (all_changed_stories at ss cs)
steps_lawful new at ss [] h k = h
steps_lawful new at ss (c ∷ cs) h k =
    steps_lawful new at (changed_stories at ss c) cs (change_lawful new at ss c h k.0)
    (subst (λ (ws : List (Option Window)). CanChangeAll at ws cs) (sym (change_shown at ss c h)) k.1)

pub steps_shown : IsLawfulWindow (named_story []) → (at : ℕ) (ss : List (Option WindowStory)) (cs : List Change)
    → AreLawful ss → CanChangeAll at (shown_windows ss) cs → shown_windows (all_changed_stories at ss cs)
    ≡ all_changed at (shown_windows ss) cs
steps_shown new at ss [] h k = refl
steps_shown new at ss (c ∷ cs) h k =
    let one = change_shown at ss c h in
    steps_shown new at (changed_stories at ss c) cs (change_lawful new at ss c h k.0)
    (subst (λ (ws : List (Option Window)). CanChangeAll at ws cs) (sym one) k.1)
    ∙ ap (λ (ws : List (Option Window)). all_changed at ws cs) one
