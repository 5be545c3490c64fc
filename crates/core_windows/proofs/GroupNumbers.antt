-- The numbers of undo groups, change by change.
use Rattle.std.proofs.Common.{◌≡◌, ℕ, zero, suc, ◌-◌, ◌≤◌, List, [], ◌∷◌, ◌++◌, Option, Some, None, arith}
use Rattle.std.specs.Option.{option_map}
use Rattle.edit_log.specs.declared.types.Edit.{Edit}
use Rattle.win_text.specs.Bodies.{History, done_group, undone_history, redone_history, edits_to_undo, edits_to_redo}
use Rattle.win_text.specs.BodyStories.{BodyStory, story_text, story_moved}
use Rattle.win_text.specs.Numbers.{IsNumbered, NumbersNeverFall}
use Rattle.core_windows.specs.Places.{at_place, gone}
use Rattle.core_windows.specs.declared.change.Change.{Change}
use Rattle.core_windows.specs.declared.change.Change.TheVariants as change
use Rattle.core_windows.specs.declared.change.Setting.{Setting}
use Rattle.core_windows.specs.declared.change.Setting.TheVariants as setting
use Rattle.core_windows.specs.Stories.{WindowStory, named_story, edited_story, undone_window_story, redone_window_story}
use Rattle.core_windows.specs.Stories.{added_story, set_story, changed_stories, all_changed_stories}
use Rattle.core_windows.specs.WindowLaws.{IsNumberedIfLive, AreNumbered, NumbersStay}

-- ---- one window

later_one : NumbersNeverFall → (last at : ℕ) (h : History) → last ≤ at → IsNumbered last h → IsNumbered at h
later_one law last at h l k = (law.stays last h k).changed at [] l

set_numbered : NumbersNeverFall → (at : ℕ) (x : Setting) (s : WindowStory) → IsNumbered at s.body.history
    → IsNumbered at (set_story x s).body.history
set_numbered law at setting.AddrToDot s k = k
set_numbered law at setting.DotToAddr s k = k
set_numbered law at setting.LimitToAddr s k = k
set_numbered law at setting.NoLimit s k = k
set_numbered law at (setting.Dot range) s k = k
set_numbered law at (setting.Addr range) s k = k
set_numbered law at setting.Clean s k = k
set_numbered law at setting.Dirty s k = k
set_numbered law at setting.ClearTag s k = k
set_numbered law at (setting.Mark automatic) s k = (law.stays at s.body.history k).marked automatic
set_numbered law at (setting.Name name) s k = k

moved_numbered : (at : ℕ) (s : BodyStory) (o : Option (List Edit)) (h : History) → IsNumbered at s.history
    → IsNumbered at h → IsNumbered at (story_moved s o h).history
moved_numbered at s None h k l = k
moved_numbered at s (Some es) h k l = l

-- ---- all windows

later : NumbersNeverFall → (last at : ℕ) (ss : List (Option WindowStory)) → last ≤ at → AreNumbered last ss
    → AreNumbered at ss
later law last at [] l k = tt
later law last at (None ∷ ss) l k = (tt, later law last at ss l k.1)
later law last at (Some s ∷ ss) l k = (later_one law last at s.body.history l k.0, later law last at ss l k.1)

-- where a change of one window keeps its numbers, they all stay so
at_one : NumbersNeverFall → (last at : ℕ) (f : WindowStory → WindowStory) → last ≤ at
    → ((s : WindowStory) → IsNumbered last s.body.history → IsNumbered at (f s).body.history)
    → (k : ℕ) (ss : List (Option WindowStory)) → AreNumbered last ss → AreNumbered at (at_place (option_map f) k ss)
at_one law last at f l each k [] h = tt
at_one law last at f l each zero (None ∷ ss) h = (tt, later law last at ss l h.1)
at_one law last at f l each zero (Some s ∷ ss) h = (each s h.0, later law last at ss l h.1)
at_one law last at f l each (suc k) (None ∷ ss) h = (tt, at_one law last at f l each k ss h.1)
at_one law last at f l each (suc k) (Some s ∷ ss) h = (
  later_one law last at s.body.history l h.0,
  at_one law last at f l each k ss h.1,
)

without_one : NumbersNeverFall → (last at : ℕ) → last ≤ at → (k : ℕ) (ss : List (Option WindowStory))
    → AreNumbered last ss → AreNumbered at (at_place gone k ss)
without_one law last at l k [] h = tt
without_one law last at l zero (s ∷ ss) h = (tt, later law last at ss l h.1)
without_one law last at l (suc k) (None ∷ ss) h = (tt, without_one law last at l k ss h.1)
without_one law last at l (suc k) (Some s ∷ ss) h = (
  later_one law last at s.body.history l h.0,
  without_one law last at l k ss h.1,
)

with_one : (at : ℕ) (ss : List (Option WindowStory)) (x : Option WindowStory) → AreNumbered at ss
    → IsNumberedIfLive at x → AreNumbered at (ss ++ x ∷ [])
with_one at [] x h k = (k, tt)
with_one at (s ∷ ss) x h k = (h.0, with_one at ss x h.1 k)

change_numbered : NumbersNeverFall → (last at : ℕ) (ss : List (Option WindowStory)) (c : Change) → last ≤ at
    → AreNumbered last ss → AreNumbered at (changed_stories at ss c)
change_numbered law last at ss (change.Makes name) l h = with_one at ss (Some (named_story name))
    (later law last at ss l h) (later_one law 0 at (named_story name).body.history (omega arith) law.begins)
change_numbered law last at ss (change.Deletes w) l h = without_one law last at l (w - 1) ss h
change_numbered law last at ss (change.Edits w edits) l h =
    at_one law last at (edited_story edits at) l (λ s k. (law.stays last s.body.history k).changed at
    (done_group (story_text s.body) edits) l) (w - 1) ss h
change_numbered law last at ss (change.Adds w text) l h = at_one law last at (added_story text) l
    (λ s k. later_one law last at s.body.history l k) (w - 1) ss h
change_numbered law last at ss (change.Sets w x) l h =
    at_one law last at (set_story x) l (λ s k. set_numbered law at x s (later_one law last at s.body.history l k))
    (w - 1) ss h
change_numbered law last at ss (change.Undoes w) l h =
    at_one law last at undone_window_story l
    (λ s k. let n = later_one law last at s.body.history l k in moved_numbered at s.body (edits_to_undo s.body.history)
    (undone_history s.body.history) n (law.stays at s.body.history n).undone) (w - 1) ss h
change_numbered law last at ss (change.Redoes w) l h =
    at_one law last at redone_window_story l
    (λ s k. let n = later_one law last at s.body.history l k in moved_numbered at s.body (edits_to_redo s.body.history)
    (redone_history s.body.history) n (law.stays at s.body.history n).redone) (w - 1) ss h

all_numbered : NumbersNeverFall → (last at : ℕ) (ss : List (Option WindowStory)) (cs : List Change) → last ≤ at
    → AreNumbered last ss → AreNumbered at (all_changed_stories at ss cs)
all_numbered law last at ss [] l h = later law last at ss l h
all_numbered law last at ss (c ∷ cs) l h = all_numbered law at at (changed_stories at ss c) cs (omega arith)
    (change_numbered law last at ss c l h)

pub numbers_stay : NumbersNeverFall → NumbersStay
numbers_stay law = record { begins = tt; stays = all_numbered law }
