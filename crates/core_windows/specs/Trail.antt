-- What takes the changes since the last `keep` back.
use Rattle.std.specs.Prelude.{ℕ, ◌+◌, ◌-◌, ◌<◌, ◌==◌, if◌then◌else◌, List, [], ◌∷◌, length, take, Option, Some, None}
use Rattle.std.specs.Option.{option_map}
use Rattle.am_text.specs.declared.range.Range.{Range}
use Rattle.core_windows.specs.Places.{at_place, live_at}
use Rattle.core_windows.specs.Shapes.{PaneShape, shape_of_pane, taken_back, CanTakeBack, Lives}
use Rattle.core_windows.specs.declared.pane.Pane.{Pane}
use Rattle.core_windows.specs.declared.undo.Undo.{Undo}
use Rattle.core_windows.specs.declared.undo.Undo.TheVariants.{Unmake, Revive, Restore}

-- a pane that is there again
abbrev pub revived : Pane → Option PaneShape → Option PaneShape
revived pane o = Some (shape_of_pane pane)

-- a growth taken back
abbrev pub undone : Undo → List (Option PaneShape) → List (Option PaneShape)
undone Unmake ss = take (length ss - 1) ss
undone (Revive k pane) ss = at_place (revived pane) k ss
undone (Restore k back) ss = at_place (option_map (taken_back back)) k ss

-- it can be taken back
abbrev pub CanUndo : Undo → List (Option PaneShape) → Type 0
CanUndo Unmake ss = 0 < length ss
CanUndo (Revive k pane) ss = k < length ss
CanUndo (Restore k back) ss = Lives (CanTakeBack back) (live_at ss k)

-- all of them, the last first
abbrev pub all_undone : List Undo → List (Option PaneShape) → List (Option PaneShape)
all_undone [] ss = ss
all_undone (u ∷ us) ss = undone u (all_undone us ss)

-- each can be taken back when its turn comes
abbrev pub CanGoBack : List Undo → List (Option PaneShape) → Type 0
CanGoBack [] ss = Unit {0}
CanGoBack (u ∷ us) ss = CanGoBack us ss × CanUndo u (all_undone us ss)

-- ---- a look at the kept state

-- the address of a shape
abbrev pub addr_of : PaneShape → Range
addr_of s = s.body.state.addr

-- the address that a window had at the last keep
abbrev pub kept_addr : List Undo → List (Option PaneShape) → ℕ → Option Range
kept_addr us ss k = option_map addr_of (live_at (all_undone us ss) k)

-- the address that this takes back in the window at a place, if it does
abbrev pub addr_in : Undo → ℕ → Option Range
addr_in Unmake at = None
addr_in (Revive k pane) at = if k == at then Some pane.body.state.addr else None
addr_in (Restore k back) at = if k == at then Some back.trace.marks.addr else None

-- how many windows these take away
abbrev pub unmade_by : Undo → ℕ
unmade_by Unmake = 1
unmade_by (Revive k pane) = 0
unmade_by (Restore k back) = 0

-- how many panes are taken out again
abbrev pub all_unmade : List Undo → ℕ
all_unmade [] = 0
all_unmade (u ∷ us) = unmade_by u + all_unmade us
