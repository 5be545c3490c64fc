-- Items of windows that a step deletes, one further.
use Rattle.std.proofs.Common.{◌≡◌, ℕ, Bool, true, false, cond, List, [], ◌∷◌, ◌++◌, refl, sym, ap, ◌∙◌, append-nil}
use Rattle.std.proofs.Common.{append_assoc}
use Rattle.std.specs.List.{filter}
use Rattle.std.proofs.lemmas.List.Elements.{filter-append}
use Rattle.core_scene.specs.declared.deed.WindowItem.{WindowItem}
use Rattle.core_events.specs.Putting.{is_ending, ending}

pub ending_more : (deleted : List ℕ) (xs ys : List WindowItem) → ending deleted (xs ++ ys) ≡ ending deleted xs
    ++ ending deleted ys
ending_more deleted xs ys = filter-append (is_ending deleted) xs ys

pub ruleset endings = (ending_more)

pub ruleset joined = (append-nil, append_assoc)
