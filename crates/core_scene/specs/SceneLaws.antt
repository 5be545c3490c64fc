-- Laws of deeds.
use Rattle.std.specs.Prelude.{◌≡◌, Bool, List, [], ◌∷◌, ◌++◌, Option}
use Rattle.acme_watch.specs.Laws.{AreJobs}
use Rattle.core_windows.specs.Stories.{WindowStory, shown_windows, all_changed_stories, AreLawful}
use Rattle.core_windows.specs.declared.change.Change.{Change}
use Rattle.core_scene.specs.declared.deed.Entry.{Entry}
use Rattle.core_scene.specs.declared.deed.Deed.{Deed}
use Rattle.core_scene.specs.declared.deed.Deed.TheVariants as deed
use Rattle.core_scene.specs.Scenes.{SceneState, no_scene, done_all, CanDoAll, Did}

-- Deeds that are done after others are done as one list with them.
abbrev pub DeedsJoin : Type 0
DeedsJoin =
    (e : Entry) (a b c : SceneState) (first second : List Deed) → Did e a b first → Did e b c second
    → Did e a c (first ++ second)

-- the changes of the windows among deeds
abbrev pub changes_in : List Deed → List Change
changes_in [] = []
changes_in (deed.Windows c ∷ ds) = c ∷ changes_in ds
changes_in (deed.Item w item ∷ ds) = changes_in ds
changes_in (deed.Snarfs text ∷ ds) = changes_in ds
changes_in (deed.Stores path bytes ∷ ds) = changes_in ds
changes_in (deed.MakesDir path ∷ ds) = changes_in ds
changes_in (deed.Requests job ∷ ds) = changes_in ds
changes_in (deed.Notes w op ∷ ds) = changes_in ds
changes_in (deed.AddsRules sets vars text ∷ ds) = changes_in ds
changes_in (deed.ClearsRules ∷ ds) = changes_in ds
changes_in (deed.AddsPort name ∷ ds) = changes_in ds
changes_in (deed.Delivers port message keep ∷ ds) = changes_in ds

-- The stories show the windows after the deeds, and stay lawful.
pub record AreShown (e : Entry) (stories : List (Option WindowStory)) (s : SceneState) (ds : List Deed) : Type 0 where
  pub shown : shown_windows (all_changed_stories e.at stories (changes_in ds)) ≡ (done_all e s ds).windows
  pub lawful : AreLawful (all_changed_stories e.at stories (changes_in ds))

-- What deeds make of the windows as they stand is what their changes make of the windows by all
-- edits, which stay lawful.
abbrev pub DeedsShow : Type 0
DeedsShow = (e : Entry) (stories : List (Option WindowStory)) (s : SceneState) (ds : List Deed)
    → shown_windows stories ≡ s.windows → AreLawful stories → CanDoAll e s ds → AreShown e stories s ds

-- the requests that the file `jobs` hands out are those that were made, in their order
abbrev pub AreWatched : SceneState → Type 0
AreWatched s = AreJobs s.jobs s.watch.jobs

-- so it is at the beginning, and after any deeds
pub record RequestsAreWatched : Type 0 where
  pub begins : (watched : Bool) → AreWatched (no_scene watched)
  pub stays : (e : Entry) (s : SceneState) (ds : List Deed) → AreWatched s → AreWatched (done_all e s ds)
