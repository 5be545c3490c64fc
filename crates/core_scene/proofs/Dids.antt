-- Deeds, one list after another.
use Rattle.std.proofs.Common.{◌≡◌, List, [], ◌∷◌, ◌++◌, Option, refl, sym, ap, ap₂, subst, ◌∙◌, append_assoc}
use Rattle.std.proofs.lemmas.List.{append-nil}
use Rattle.am_text.specs.Twice.{Twice}
use Rattle.event_book.specs.BookState.{BookState}
use Rattle.core_windows.specs.Windows.{Window, all_changed}
use Rattle.core_windows.specs.Possible.{CanChangeAll}
use Rattle.core_windows.specs.Stories.{shown_windows}
use Rattle.core_windows.specs.WindowLaws.{ChangesShow, ChangesAreLawful}
use Rattle.core_scene.specs.declared.deed.Deed.{Deed}
use Rattle.core_scene.specs.declared.deed.Deed.TheVariants as deed
use Rattle.core_scene.specs.declared.deed.Entry.{Entry}
use Rattle.core_scene.specs.Told.{deletes}
use Rattle.core_scene.specs.declared.scene.Scene.{Scene}
use Rattle.core_scene.specs.Scenes.{SceneState, done, done_all, CanDoAll, Did, deleted_by, scene_of, kept_of}
use Rattle.core_scene.specs.SceneLaws.{DeedsJoin, DeedsShow, changes_in}

pub done_all-append : (e : Entry) (s : SceneState) (xs ys : List Deed)
    → done_all e s (xs ++ ys) ≡ done_all e (done_all e s xs) ys
done_all-append e s [] ys = refl
done_all-append e s (d ∷ xs) ys = done_all-append e (done e s d) xs ys

pub can_all-append : (e : Entry) (s : SceneState) (xs ys : List Deed) → CanDoAll e s xs
    → CanDoAll e (done_all e s xs) ys → CanDoAll e s (xs ++ ys)
can_all-append e s [] ys h k = k
can_all-append e s (d ∷ xs) ys h k = (h.0, can_all-append e (done e s d) xs ys h.1 k)

pub did_then : {e : Entry} {a b c : SceneState} {xs ys : List Deed} → Did e a b xs → Did e b c ys → Did e a c (xs ++ ys)
did_then {e} {a} {b} {c} {xs} {ys} f g = record {
  made = g.made ∙ ap (λ (s : SceneState). done_all e s ys) f.made ∙ sym (done_all-append e a xs ys);
  can = can_all-append e a xs ys f.can (subst (λ (s : SceneState). CanDoAll e s ys) f.made g.can);
}

-- the same, where what is done next is told by the state that the first deeds make
pub did_next : {e : Entry} {a b c : SceneState} {xs : List Deed} (g : SceneState → List Deed) → Did e a b xs
    → Did e b c (g b) → Did e a c (xs ++ g (done_all e a xs))
did_next {e} {a} {b} {c} {xs} g f h = did_then f (subst (λ (s : SceneState). Did e b c (g s)) f.made h)

-- after the first of several deeds the others can be done
pub can_rest : {e : Entry} {a b : SceneState} {d : Deed} (ds : List Deed) → Did e a b (d ∷ []) → CanDoAll e a (d ∷ ds)
    → CanDoAll e b ds
can_rest {e} {a} {b} {d} ds f h = subst (λ (s : SceneState). CanDoAll e s ds) (sym f.made) h.1

pub ruleset joins = (did_then)

pub joined : DeedsJoin
joined e a b c first second f g = did_then f g

-- ---- the windows by all edits

windows_done : (e : Entry) (s : SceneState) (ds : List Deed) → all_changed e.at s.windows
    (changes_in ds) ≡ (done_all e s ds).windows
windows_done e s [] = refl
windows_done e s (deed.Windows c ∷ ds) = windows_done e (done e s (deed.Windows c)) ds
windows_done e s (deed.Item w item ∷ ds) = windows_done e (done e s (deed.Item w item)) ds
windows_done e s (deed.Snarfs text ∷ ds) = windows_done e (done e s (deed.Snarfs text)) ds
windows_done e s (deed.Stores path bytes ∷ ds) = windows_done e (done e s (deed.Stores path bytes)) ds
windows_done e s (deed.MakesDir path ∷ ds) = windows_done e (done e s (deed.MakesDir path)) ds
windows_done e s (deed.Requests job ∷ ds) = windows_done e (done e s (deed.Requests job)) ds
windows_done e s (deed.Notes w op ∷ ds) = windows_done e (done e s (deed.Notes w op)) ds
windows_done e s (deed.AddsRules sets vars text ∷ ds) = windows_done e (done e s (deed.AddsRules sets vars text)) ds
windows_done e s (deed.ClearsRules ∷ ds) = windows_done e (done e s (deed.ClearsRules)) ds
windows_done e s (deed.AddsPort name ∷ ds) = windows_done e (done e s (deed.AddsPort name)) ds
windows_done e s (deed.Delivers port message keep ∷ ds) = windows_done e (done e s (deed.Delivers port message keep)) ds

can_change_all : (e : Entry) (s : SceneState) (ds : List Deed) → CanDoAll e s ds
    → CanChangeAll e.at s.windows (changes_in ds)
can_change_all e s [] h = tt
can_change_all e s (deed.Windows c ∷ ds) h = (h.0, can_change_all e (done e s (deed.Windows c)) ds h.1)
can_change_all e s (deed.Item w item ∷ ds) h = can_change_all e (done e s (deed.Item w item)) ds h.1
can_change_all e s (deed.Snarfs text ∷ ds) h = can_change_all e (done e s (deed.Snarfs text)) ds h.1
can_change_all e s (deed.Stores path bytes ∷ ds) h = can_change_all e (done e s (deed.Stores path bytes)) ds h.1
can_change_all e s (deed.MakesDir path ∷ ds) h = can_change_all e (done e s (deed.MakesDir path)) ds h.1
can_change_all e s (deed.Requests job ∷ ds) h = can_change_all e (done e s (deed.Requests job)) ds h.1
can_change_all e s (deed.Notes w op ∷ ds) h = can_change_all e (done e s (deed.Notes w op)) ds h.1
can_change_all e s (deed.AddsRules sets vars text ∷ ds) h = can_change_all e (done e s (deed.AddsRules sets vars text))
    ds h.1
can_change_all e s (deed.ClearsRules ∷ ds) h = can_change_all e (done e s (deed.ClearsRules)) ds h.1
can_change_all e s (deed.AddsPort name ∷ ds) h = can_change_all e (done e s (deed.AddsPort name)) ds h.1
can_change_all e s (deed.Delivers port message keep ∷ ds) h = can_change_all e
    (done e s (deed.Delivers port message keep)) ds h.1

pub deeds_shown : ChangesShow → ChangesAreLawful → DeedsShow
deeds_shown shows lawful e stories s ds same are can =
    let can' : CanChangeAll e.at (shown_windows stories) (changes_in ds) =
    subst (λ (ws : List (Option Window)). CanChangeAll e.at ws (changes_in ds)) (sym same)
    (can_change_all e s ds can) in
    record {
      shown = shows e.at stories (changes_in ds) are can' ∙ ap (λ (ws : List (Option Window)). all_changed e.at ws
          (changes_in ds)) same ∙ windows_done e s ds;
      lawful = lawful.stays e.at stories (changes_in ds) are can';
    }

-- ---- the windows that they delete

pub deleted_done : (e : Entry) (s : SceneState) (ds : List Deed) →
    (done_all e s ds).deleted ≡ s.deleted ++ deleted_by ds
deleted_done e s [] = sym (append-nil s.deleted)
deleted_done e s (deed.Windows c ∷ ds) = deleted_done e (done e s (deed.Windows c)) ds
    ∙ append_assoc s.deleted (deletes c) (deleted_by ds)
deleted_done e s (deed.Item w item ∷ ds) = deleted_done e (done e s (deed.Item w item)) ds
deleted_done e s (deed.Snarfs text ∷ ds) = deleted_done e (done e s (deed.Snarfs text)) ds
deleted_done e s (deed.Stores path bytes ∷ ds) = deleted_done e (done e s (deed.Stores path bytes)) ds
deleted_done e s (deed.MakesDir path ∷ ds) = deleted_done e (done e s (deed.MakesDir path)) ds
deleted_done e s (deed.Requests job ∷ ds) = deleted_done e (done e s (deed.Requests job)) ds
deleted_done e s (deed.Notes w op ∷ ds) = deleted_done e (done e s (deed.Notes w op)) ds
deleted_done e s (deed.AddsRules sets vars text ∷ ds) = deleted_done e (done e s (deed.AddsRules sets vars text)) ds
deleted_done e s (deed.ClearsRules ∷ ds) = deleted_done e (done e s deed.ClearsRules) ds
deleted_done e s (deed.AddsPort name ∷ ds) = deleted_done e (done e s (deed.AddsPort name)) ds
deleted_done e s (deed.Delivers port message keep ∷ ds) = deleted_done e (done e s (deed.Delivers port message keep)) ds

-- ---- whether `log` and `jobs` are served, and the event files, which no deed changes

pub watched_done : (e : Entry) (s : SceneState) (ds : List Deed) → (done_all e s ds).watched ≡ s.watched
watched_done e s [] = refl
watched_done e s (deed.Windows c ∷ ds) = watched_done e (done e s (deed.Windows c)) ds
watched_done e s (deed.Item w item ∷ ds) = watched_done e (done e s (deed.Item w item)) ds
watched_done e s (deed.Snarfs text ∷ ds) = watched_done e (done e s (deed.Snarfs text)) ds
watched_done e s (deed.Stores path bytes ∷ ds) = watched_done e (done e s (deed.Stores path bytes)) ds
watched_done e s (deed.MakesDir path ∷ ds) = watched_done e (done e s (deed.MakesDir path)) ds
watched_done e s (deed.Requests job ∷ ds) = watched_done e (done e s (deed.Requests job)) ds
watched_done e s (deed.Notes w op ∷ ds) = watched_done e (done e s (deed.Notes w op)) ds
watched_done e s (deed.AddsRules sets vars text ∷ ds) = watched_done e (done e s (deed.AddsRules sets vars text)) ds
watched_done e s (deed.ClearsRules ∷ ds) = watched_done e (done e s deed.ClearsRules) ds
watched_done e s (deed.AddsPort name ∷ ds) = watched_done e (done e s (deed.AddsPort name)) ds
watched_done e s (deed.Delivers port message keep ∷ ds) = watched_done e (done e s (deed.Delivers port message keep)) ds

book_done : (e : Entry) (s : SceneState) (ds : List Deed) → (done_all e s ds).book ≡ s.book
book_done e s [] = refl
book_done e s (deed.Windows c ∷ ds) = book_done e (done e s (deed.Windows c)) ds
book_done e s (deed.Item w item ∷ ds) = book_done e (done e s (deed.Item w item)) ds
book_done e s (deed.Snarfs text ∷ ds) = book_done e (done e s (deed.Snarfs text)) ds
book_done e s (deed.Stores path bytes ∷ ds) = book_done e (done e s (deed.Stores path bytes)) ds
book_done e s (deed.MakesDir path ∷ ds) = book_done e (done e s (deed.MakesDir path)) ds
book_done e s (deed.Requests job ∷ ds) = book_done e (done e s (deed.Requests job)) ds
book_done e s (deed.Notes w op ∷ ds) = book_done e (done e s (deed.Notes w op)) ds
book_done e s (deed.AddsRules sets vars text ∷ ds) = book_done e (done e s (deed.AddsRules sets vars text)) ds
book_done e s (deed.ClearsRules ∷ ds) = book_done e (done e s deed.ClearsRules) ds
book_done e s (deed.AddsPort name ∷ ds) = book_done e (done e s (deed.AddsPort name)) ds
book_done e s (deed.Delivers port message keep ∷ ds) = book_done e (done e s (deed.Delivers port message keep)) ds

twice_same : (a b : Twice BookState) → a.present ≡ b.present → a.kept ≡ b.kept → a ≡ b
twice_same a b h k = ap₂ (λ (x y : BookState). record { present = x; kept = y }) h k

pub book_stays : {e : Entry} {a b : Scene} {ds : List Deed} → Did e (scene_of a) (scene_of b) ds → kept_of b ≡ kept_of a
    → b.book ≡ a.book
book_stays {e} {a} {b} {ds} did kept =
    twice_same b.book a.book (ap (λ (s : SceneState). s.book) did.made ∙ book_done e (scene_of a) ds)
    (ap (λ (s : SceneState). s.book) kept)
