-- Changes of the windows as deeds.
use Rattle.std.specs.Prelude.{List, map}
use Rattle.core_windows.specs.declared.change.Change.{Change}
use Rattle.core_scene.specs.declared.deed.Deed.{Deed}
use Rattle.core_scene.specs.declared.deed.Deed.TheVariants.{Windows}

-- changes of the windows, as deeds
abbrev pub deeds_of : List Change → List Deed
deeds_of changes = map Windows changes
