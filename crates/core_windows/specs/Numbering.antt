-- The numbers of the live windows, in two states.
use Rattle.std.specs.Prelude.{◌≡◌, ℕ, ◌+◌, ◌==◌, not, false, List, [], ◌∷◌, ◌++◌, filter, Option, Some, None}
use Rattle.am_text.specs.Twice.{Twice}
use Rattle.acme_tree.specs.declared.node.World.{World}
use Rattle.acme_tree.specs.Trees.{world_is_full}
use Rattle.core_windows.specs.declared.change.Change.{Change}
use Rattle.core_windows.specs.declared.change.Change.TheVariants as change
use Rattle.core_windows.specs.declared.numbers.Numbers.{Numbers}
use Rattle.core_windows.specs.Windows.{Window, world_with}

-- these numbers without that one
abbrev pub others : ℕ → List ℕ → List ℕ
others w ids = filter (λ id. not (id == w)) ids

-- the numbers with that of the next window, and without that of a deleted one, whose number isn't given again
abbrev pub with_next : World → Numbers
with_next world = record { windows = world.windows ++ world.next ∷ []; next = world.next + 1 }

-- the numbers without that of a window
abbrev pub without : World → ℕ → Numbers
without world w = record { windows = others w world.windows; next = world.next }

-- the numbers after a change that makes or deletes a window
abbrev pub numbers_after : World → Change → Option Numbers
numbers_after world (change.Makes name) = Some (with_next world)
numbers_after world (change.Deletes w) = Some (without world w)
numbers_after world (change.Edits w edits) = None
numbers_after world (change.Adds w text) = None
numbers_after world (change.Sets w setting) = None
numbers_after world (change.Undoes w) = None
numbers_after world (change.Redoes w) = None

-- one more window may be made, where the change makes one
abbrev pub MayMake : World → Change → Type 0
MayMake world (change.Makes name) = world_is_full world ≡ false
MayMake world (change.Deletes w) = Unit {0}
MayMake world (change.Edits w edits) = Unit {0}
MayMake world (change.Adds w text) = Unit {0}
MayMake world (change.Sets w setting) = Unit {0}
MayMake world (change.Undoes w) = Unit {0}
MayMake world (change.Redoes w) = Unit {0}

-- the numbers of the windows
abbrev pub numbers_of : World → Numbers
numbers_of world = record { windows = world.windows; next = world.next }

-- the world with these numbers, if there are any
abbrev pub renumbered : World → Option Numbers → World
renumbered world None = world
renumbered world (Some n) = record world { windows = n.windows; next = n.next }

-- the world has the numbers of these windows
abbrev pub IsWorldOf : World → List (Option Window) → Type 0
IsWorldOf world windows = world ≡ world_with world.watched windows

-- the world is that of the present windows, and with the earlier numbers that of the kept ones
pub record IsNumbered (windows : Twice (List (Option Window))) (world : World) (earlier : Option Numbers) : Type 0 where
  pub present : IsWorldOf world windows.present
  pub kept : IsWorldOf (renumbered world earlier) windows.kept
