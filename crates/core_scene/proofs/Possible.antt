-- Changes that can be made, as deeds.
use Rattle.std.proofs.Common.{◌≡◌, List, [], ◌∷◌, map}
use Rattle.core_windows.specs.declared.change.Change.{Change}
use Rattle.core_windows.specs.Possible.{CanChangeAll}
use Rattle.core_scene.specs.declared.deed.Entry.{Entry}
use Rattle.core_scene.specs.declared.deed.Deed.TheVariants.{Windows}
use Rattle.core_scene.specs.Changing.{deeds_of}
use Rattle.core_scene.specs.Scenes.{SceneState, done, CanDoAll}

pub can_deeds : (e : Entry) (s : SceneState) (cs : List Change) → CanChangeAll e.at s.windows cs
    → CanDoAll e s (deeds_of cs)
can_deeds e s [] h = tt
can_deeds e s (c ∷ cs) h = (h.0, can_deeds e (done e s (Windows c)) cs h.1)
