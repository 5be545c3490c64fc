-- Addresses of windows' texts behind names, and the dot that they give.
use Rattle.std.specs.Prelude.{ℕ, ◌+◌, ◌==◌, Bool, List, [], ◌∷◌, take, drop, position, Option, Some, None, Ok, Err}
use Rattle.am_text.specs.declared.range.Range.{Range}
use Rattle.addr_syntax.specs.Tree.{Tree}
use Rattle.addr_syntax.specs.Addresses.{small_address}
use Rattle.sam_address.specs.Value.{Outcome, value}
use Rattle.win_text.specs.Bodies.{BodyState}
use Rattle.core_windows.specs.Windows.{Window, window_at}
use Rattle.core_windows.specs.declared.change.Change.TheVariants as change
use Rattle.core_windows.specs.declared.change.Setting.TheVariants as setting
use Rattle.core_scene.specs.declared.deed.Deed.{Deed}
use Rattle.core_scene.specs.declared.deed.Deed.TheVariants as deed
use Rattle.core_scene.specs.Scenes.{SceneState}
use Rattle.am_text.specs.Ascii.{colon}
use Rattle.core_actions.specs.Files.{whole_of}

-- ---- a name, and an address behind a colon

-- a colon
abbrev pub is_colon : ℕ → Bool
is_colon c = c == colon

-- the text up to this place, or all of it
abbrev pub name_before : Option ℕ → List ℕ → List ℕ
name_before None text = text
name_before (Some at) text = take at text

-- the text behind the colon at this place
abbrev pub address_behind : Option ℕ → List ℕ → Option (List ℕ)
address_behind None text = None
address_behind (Some at) text = Some (drop (at + 1) text)

-- up to the first colon, and from there on
abbrev pub name_part : List ℕ → List ℕ
name_part text = name_before (position is_colon text) text

-- what stands behind the first colon, if there is one
abbrev pub address_part : List ℕ → Option (List ℕ)
address_part text = address_behind (position is_colon text) text

-- ---- the range that it names

-- the range of an address, if it has one
abbrev pub range_or_none : Outcome → Option Range
range_or_none (Ok r) = Some r
range_or_none (Err f) = None

-- in the whole text, where `.` is dot
abbrev pub range_of : BodyState → Option Tree → Option Range
range_of body None = None
range_of body (Some address) = range_or_none (value address body.text (whole_of body.text) body.dot)

-- the range of an address in a window's body
abbrev pub range_in : Option Window → List ℕ → Option Range
range_in None address = None
range_in (Some window) address = range_of window.body (small_address address)

-- the range becomes dot, where there is one
abbrev pub dot_to : ℕ → Option Range → List Deed
dot_to w None = []
dot_to w (Some r) = deed.Windows (change.Sets w (setting.Dot r)) ∷ []

-- the range of the address becomes dot, where there is one and it has a value
abbrev pub address_deeds : ℕ → Option (List ℕ) → SceneState → List Deed
address_deeds w None s = []
address_deeds w (Some address) s = dot_to w (range_in (window_at s.windows w) address)
