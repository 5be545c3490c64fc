-- A fault that is said behind the deeds of an action.
use Rattle.std.proofs.Common.{◌≡◌, ℕ, false, List, ◌++◌, Option, sym, subst}
use Rattle.core_scene.specs.declared.deed.Deed.{Deed}
use Rattle.core_scene.specs.declared.deed.Entry.{Entry}
use Rattle.core_scene.specs.Scenes.{SceneState, done_all, Did}
use Rattle.core_scene.proofs.Dids.{did_next}
use Rattle.core_actions.specs.declared.fault.ActionFault.{ActionFault}
use Rattle.core_actions.specs.Outcomes.{Outcome}
use Rattle.core_actions.specs.Looking.{find_deeds, look_deeds}
use Rattle.core_actions.specs.Opening.{new_deeds}
use Rattle.core_across.specs.Editing.{edit_deeds}
use Rattle.core_plumb.specs.Looking.{is_plumbed}
use Rattle.core_exec.specs.Looking.{look_at_text_deeds}
use Rattle.core_exec.specs.Executing.{said_if_any}

pub said_after : (e : Entry) (a b c : SceneState) (xs : List Deed) (d d' word : List ℕ) (f f' : Option ActionFault)
    → Did e a b xs → d ≡ d' → f ≡ f'
    → Did e b c (said_if_any e d word f b) → Did e a c (xs ++ said_if_any e d' word f' (done_all e a xs))
said_after e a b c xs d d' word f f' first same_dir same_fault said =
    let here : Did e b c (said_if_any e d' word f' b) =
    subst (λ (g : Option ActionFault). Did e b c (said_if_any e d' word g b)) same_fault
    (subst (λ (x : List ℕ). Did e b c (said_if_any e x word f b)) same_dir said) in
    did_next (λ (s : SceneState). said_if_any e d' word f' s) first here

-- ---- the same text

pub found_too : (e : Entry) (a b : SceneState) (w : ℕ) (t t' : List ℕ) → t ≡ t' → Did e a b (find_deeds w t a)
    → Did e a b (find_deeds w t' a)
found_too e a b w t t' h did = subst (λ (x : List ℕ). Did e a b (find_deeds w x a)) h did

pub new_too : (e : Entry) (a b : SceneState) (w : ℕ) (t t' : List ℕ) → t ≡ t' → Did e a b (new_deeds e w t a)
    → Did e a b (new_deeds e w t' a)
new_too e a b w t t' h did = subst (λ (x : List ℕ). Did e a b (new_deeds e w x a)) h did

pub edited_too : (e : Entry) (a b : SceneState) (w : ℕ) (t t' : List ℕ) → t ≡ t' → Did e a b (edit_deeds e w t a)
    → Did e a b (edit_deeds e w t' a)
edited_too e a b w t t' h did = subst (λ (x : List ℕ). Did e a b (edit_deeds e w x a)) h did

-- ---- a look

-- the plumber leaves it, and the scene as it was
pub other_look : (e : Entry) (a m b : SceneState) (w : ℕ) (t t' : List ℕ) → false ≡ is_plumbed w t' a
    → m ≡ a → t ≡ t' → Did e m b (look_deeds e w t m) → Did e a b (look_at_text_deeds e w t' a)
unfolding look_at_text_deeds
other_look e a m b w t t' h same k did =
    let here : Did e a b (look_deeds e w t' a) = subst (λ (x : SceneState). Did e x b (look_deeds e w t' x)) same
    (subst (λ (x : List ℕ). Did e m b (look_deeds e w x m)) k did) in
    rw (sym h) here

-- the deeds of an outcome, and its fault said behind them
pub said_of : (e : Entry) (a b c : SceneState) (o o' : Outcome) (d d' word : List ℕ) (f : Option ActionFault)
    → o ≡ o' → Did e a b o.deeds → d ≡ d' → f ≡ o.fault
    → Did e b c (said_if_any e d word f b) → Did e a c (o'.deeds ++ said_if_any e d' word o'.fault
    (done_all e a o'.deeds))
said_of e a b c o o' d d' word f same first same_dir same_fault said =
    subst (λ (x : Outcome). Did e a c (x.deeds ++ said_if_any e d' word x.fault (done_all e a x.deeds))) same
    (said_after e a b c o.deeds d d' word f o.fault first same_dir same_fault said)
