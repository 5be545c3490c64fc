-- The items that a change of the windows makes.
use Rattle.std.specs.Prelude.{ℕ, ◌+◌, ◌==◌, not, nat_eq, nat_lt, List, [], ◌∷◌, ◌++◌, length, codes, Option, Some, None}
use Rattle.std.specs.Prelude.{if◌then◌else◌}
use Rattle.std.specs.List.{ends_with}
use Rattle.std.specs.Option.{option_to_list}
use Rattle.am_text.specs.declared.range.Range.{Range}
use Rattle.edit_log.specs.declared.types.Edit.{Edit}
use Rattle.win_events.specs.declared.item.Item.{Item}
use Rattle.win_events.specs.declared.item.Origin.{Origin}
use Rattle.win_events.specs.declared.item.Sort.{Sort}
use Rattle.win_events.specs.declared.item.Sort.TheVariants.{BodyDel, TagDel, BodyIns, TagIns}
use Rattle.win_ctl.specs.declared.tags.Shown.{Shown}
use Rattle.win_ctl.specs.Tags.{tag_text}
use Rattle.core_windows.specs.declared.change.Change.{Change}
use Rattle.core_windows.specs.declared.change.Change.TheVariants as change
use Rattle.core_windows.specs.declared.change.Setting.{Setting}
use Rattle.core_windows.specs.declared.change.Setting.TheVariants as setting
use Rattle.core_windows.specs.Windows.{Window, window_at}
use Rattle.win_text.specs.Bodies.{edits_to_undo, edits_to_redo}

-- an item without a flag, an expansion or an argument
abbrev pub plain_item : Origin → Sort → Range → List ℕ → Item
plain_item origin sort range text =
    record { origin = origin; sort = sort; range = range; flag = 0; text = text; expanded = None; argument = None }

-- a text that is put at a place; an empty one makes no item
abbrev pub put_item : Origin → Sort → ℕ → List ℕ → Option Item
put_item origin sort at text =
    if length text == 0 then None else Some (plain_item origin sort (record { q0 = at; q1 = at + length text }) text)

-- ---- the body

-- what an edit takes away
abbrev pub cut_item : Origin → Edit → Option Item
cut_item origin e =
    if nat_lt e.q0 e.q1 then Some (plain_item origin BodyDel (record { q0 = e.q0; q1 = e.q1 }) []) else None

-- an edit: what it takes away, then what it puts
abbrev pub edit_items : Origin → Edit → List Item
edit_items origin e = option_to_list (cut_item origin e) ++ option_to_list (put_item origin BodyIns e.q0 e.text)

-- the items of edits, in order
abbrev pub items_of_edits : Origin → List Edit → List Item
items_of_edits origin [] = []
items_of_edits origin (e ∷ es) = edit_items origin e ++ items_of_edits origin es

-- ---- the tag

-- what the tag shows: Undo and Redo where there is a group, Put where the window is modified,
-- Get where it is a directory
abbrev pub shown_of : Window → Shown
shown_of window = record {
  undo = not (length window.body.history.past == 0);
  redo = not (length window.body.history.future == 0);
  modified = window.modified;
  dir = ends_with nat_eq window.name (codes "/");
}

-- the text of the tag, with this right part
abbrev pub tag_with : Window → List ℕ → List ℕ
tag_with window right = tag_text (record { name = window.name; right = right }) (shown_of window)

-- how many runes the part has that the editor computes, and the whole tag
abbrev pub left_len : Window → ℕ
left_len window = length (tag_with window [])

-- the runes of a window's tag
abbrev pub tag_len : Window → ℕ
tag_len window = length (tag_with window window.right)

-- a text that is put at the end of the tag
abbrev pub items_of_add : Origin → Option Window → List ℕ → List Item
items_of_add origin None text = []
items_of_add origin (Some window) text = option_to_list (put_item origin TagIns (tag_len window) text)

-- the right part is removed
abbrev pub cleared_item : Origin → Window → Option Item
cleared_item origin window =
    if length window.right == 0 then None
    else Some (plain_item origin TagDel (record { q0 = left_len window; q1 = tag_len window }) [])

-- the item of a setting, if it changes the tag
abbrev pub setting_item : Origin → Window → Setting → Option Item
setting_item origin window setting.AddrToDot = None
setting_item origin window setting.DotToAddr = None
setting_item origin window setting.LimitToAddr = None
setting_item origin window setting.NoLimit = None
setting_item origin window (setting.Dot range) = None
setting_item origin window (setting.Addr range) = None
setting_item origin window setting.Clean = None
setting_item origin window setting.Dirty = None
setting_item origin window setting.ClearTag = cleared_item origin window
setting_item origin window (setting.Mark automatic) = None
setting_item origin window (setting.Name name) = None

-- a part of the window is set
abbrev pub items_of_set : Origin → Option Window → Setting → List Item
items_of_set origin None setting = []
items_of_set origin (Some window) setting = option_to_list (setting_item origin window setting)

-- ---- Undo and Redo

-- the edits, if there are any
abbrev pub edits_if_any : Option (List Edit) → List Edit
edits_if_any None = []
edits_if_any (Some edits) = edits

-- the edits that Undo and Redo of the window make
abbrev pub edits_of_undo : Option Window → List Edit
edits_of_undo None = []
edits_of_undo (Some window) = edits_if_any (edits_to_undo window.body.history)

-- the edits that Redo makes in a window
abbrev pub edits_of_redo : Option Window → List Edit
edits_of_redo None = []
edits_of_redo (Some window) = edits_if_any (edits_to_redo window.body.history)

-- ---- all windows

-- The items of this origin that a change of the windows makes, in order, told by its window as it stands before. A new
-- window and a deleted one make none.
abbrev pub items_of : List (Option Window) → Origin → Change → List Item
items_of windows origin (change.Makes name) = []
items_of windows origin (change.Deletes w) = []
items_of windows origin (change.Edits w edits) = items_of_edits origin edits
items_of windows origin (change.Adds w text) = items_of_add origin (window_at windows w) text
items_of windows origin (change.Sets w setting) = items_of_set origin (window_at windows w) setting
items_of windows origin (change.Undoes w) = items_of_edits origin (edits_of_undo (window_at windows w))
items_of windows origin (change.Redoes w) = items_of_edits origin (edits_of_redo (window_at windows w))
