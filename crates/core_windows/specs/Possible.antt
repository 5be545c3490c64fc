-- Changes that can be made.
use Rattle.std.specs.Prelude.{◌≡◌, ℕ, false, List, [], ◌∷◌, Option, Some, None, IsSome}
use Rattle.acme_tree.specs.Trees.{world_is_full}
use Rattle.edit_log.specs.declared.types.Edit.{Edit}
use Rattle.win_text.specs.Bodies.{IsInside, AreInRange}
use Rattle.core_windows.specs.declared.change.Change.{Change}
use Rattle.core_windows.specs.declared.change.Change.TheVariants as change
use Rattle.core_windows.specs.declared.change.Setting.{Setting}
use Rattle.core_windows.specs.declared.change.Setting.TheVariants as setting
use Rattle.core_windows.specs.Windows.{Window, window_at, changed, world_of}

-- the text of a window's body, none where it doesn't live
abbrev pub text_in : Option Window → List ℕ
text_in None = []
text_in (Some window) = window.body.text

-- a range that is set lies in the text
abbrev pub CanSet : List ℕ → Setting → Type 0
CanSet text setting.AddrToDot = Unit {0}
CanSet text setting.DotToAddr = Unit {0}
CanSet text setting.LimitToAddr = Unit {0}
CanSet text setting.NoLimit = Unit {0}
CanSet text (setting.Dot range) = IsInside text range
CanSet text (setting.Addr range) = IsInside text range
CanSet text setting.Clean = Unit {0}
CanSet text setting.Dirty = Unit {0}
CanSet text setting.ClearTag = Unit {0}
CanSet text (setting.Mark automatic) = Unit {0}
CanSet text (setting.Name name) = Unit {0}

-- the window lives, and each edit is in range of its text as it is then
pub record CanEdit (window : Option Window) (edits : List Edit) : Type 0 where
  pub lives : IsSome window
  pub range : AreInRange (text_in window) edits

-- the window lives, and the setting is one of its text
pub record CanSetIn (window : Option Window) (setting : Setting) : Type 0 where
  pub lives : IsSome window
  pub inside : CanSet (text_in window) setting

-- The window of the change lives, and what is named lies in its text; one more may be made.
abbrev pub CanChange : List (Option Window) → Change → Type 0
CanChange ws (change.Makes name) = world_is_full (world_of ws) ≡ false
CanChange ws (change.Deletes w) = IsSome (window_at ws w)
CanChange ws (change.Edits w edits) = CanEdit (window_at ws w) edits
CanChange ws (change.Adds w text) = IsSome (window_at ws w)
CanChange ws (change.Sets w setting) = CanSetIn (window_at ws w) setting
CanChange ws (change.Undoes w) = IsSome (window_at ws w)
CanChange ws (change.Redoes w) = IsSome (window_at ws w)

-- Each can be made when its turn comes, by the step of this number.
abbrev pub CanChangeAll : ℕ → List (Option Window) → List Change → Type 0
CanChangeAll at ws [] = Unit {0}
CanChangeAll at ws (c ∷ cs) = CanChange ws c × CanChangeAll at (changed at ws c) cs
