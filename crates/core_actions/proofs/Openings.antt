-- What a name opens, by equal names.
use Rattle.std.proofs.Common.{◌≡◌, ℕ, List, Option, sym, subst}
use Rattle.core_scene.specs.declared.deed.Entry.{Entry}
use Rattle.core_scene.specs.Scenes.{SceneState, Did}
use Rattle.core_actions.specs.declared.opening.Target.{Target}
use Rattle.core_actions.specs.Opening.{target_of, open_or_make, named_deeds}

-- by what is known to be opened
pub opened : (e : Entry) (a b : SceneState) (name : List ℕ) (address : Option (List ℕ)) (o : Option Target)
    → target_of name a ≡ o
    → Did e a b (open_or_make e o name address a) → Did e a b (named_deeds e name address a)
opened e a b name address o h did = subst (λ (t : Option Target). Did e a b (open_or_make e t name address a)) (sym h)
    did

pub renamed : (e : Entry) (a b : SceneState) (n n' : List ℕ) (o o' : Option (List ℕ)) → n ≡ n' → o ≡ o'
    → Did e a b (named_deeds e n o a) → Did e a b (named_deeds e n' o' a)
renamed e a b n n' o o' h k did =
    subst (λ (x : Option (List ℕ)). Did e a b (named_deeds e n' x a)) k
    (subst (λ (m : List ℕ). Did e a b (named_deeds e m o a)) h did)
