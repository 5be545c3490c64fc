-- Windows with what takes them back.
use Rattle.std.specs.Prelude.{◌≡◌, ℕ, ◌≤◌, Bool, List, [], ◌∷◌, map, take, Option, Some, None}
use Rattle.std.specs.Option.{option_map}
use Rattle.edit_log.specs.declared.types.Edit.{Edit}
use Rattle.edit_log.specs.declared.types.Done.{Done}
use Rattle.win_text.specs.declared.types.TextPlan.{TextPlan}
use Rattle.win_text.specs.Bodies.{IsPlanFor, IsReady, group_for}
use Rattle.win_text.specs.BodyStories.{IsChangeOf}
use Rattle.win_text.specs.Traces.{Shape, shape_of, total, unmade, CanUnmake}
use Rattle.core_windows.specs.declared.change.Setting.{Setting}
use Rattle.core_windows.specs.declared.pane.Pane.{Pane}
use Rattle.core_windows.specs.declared.undo.Back.{Back}
use Rattle.core_windows.specs.declared.undo.TagBack.{TagBack}
use Rattle.core_windows.specs.declared.undo.TagBack.TheVariants as tag
use Rattle.core_windows.specs.Possible.{CanSet}
use Rattle.core_windows.specs.Windows.{Window}

-- a window with the undone groups that its body has forgotten, and how many runes its body can
-- have without taking memory
pub record PaneShape : Type 0 where
  pub name : List ℕ
  pub right : List ℕ
  pub body : Shape
  pub modified : Bool
  pub room : ℕ

-- what of a pane can be taken back
abbrev pub shape_of_pane : Pane → PaneShape
shape_of_pane pane = record {
  name = pane.name;
  right = pane.right.items;
  body = shape_of pane.body;
  modified = pane.modified;
  room = total pane.body;
}

-- the same of a pane that is there
abbrev pub shape_if_live : Option Pane → Option PaneShape
shape_if_live slot = option_map shape_of_pane slot

-- the same of panes
abbrev pub shapes_of : List (Option Pane) → List (Option PaneShape)
shapes_of panes = map shape_if_live panes

-- ---- what is seen of it

-- the window of a shape
abbrev pub seen_of : PaneShape → Window
seen_of s = record { name = s.name; right = s.right; body = s.body.state; modified = s.modified }

-- the window of a shape, if it is there
abbrev pub seen_if_live : Option PaneShape → Option Window
seen_if_live o = option_map seen_of o

-- the windows of shapes
abbrev pub seen_in : List (Option PaneShape) → List (Option Window)
seen_in shapes = map seen_if_live shapes

-- ---- a change of a window is taken back

-- the name before
abbrev pub name_back : TagBack → List ℕ → List ℕ
name_back tag.Nothing name = name
name_back (tag.Rename old) name = old
name_back (tag.Retag old) name = name
name_back (tag.Shorten len) name = name

-- the right part before
abbrev pub right_back : TagBack → List ℕ → List ℕ
right_back tag.Nothing right = right
right_back (tag.Rename old) right = right
right_back (tag.Retag old) right = old.items
right_back (tag.Shorten len) right = take len right

-- what it was before
abbrev pub taken_back : Back → PaneShape → PaneShape
taken_back back s = record {
  name = name_back back.tag s.name;
  right = right_back back.tag s.right;
  body = unmade back.trace s.body;
  modified = back.modified;
  room = s.room;
}

-- it can be taken back to what it was
abbrev pub CanTakeBack : Back → PaneShape → Type 0
CanTakeBack back s = CanUnmake s.room back.trace s.body

-- ---- what a window needs

-- it lives, and this holds of it
abbrev pub Lives : {A : Type 0} → (A → Type 0) → Option A → Type 0
Lives P None = ⊥
Lives P (Some x) = P x

-- what holds of all
abbrev pub Always : {A : Type 0} → A → Type 0
Always x = Unit {0}

-- edits fit a window's body
abbrev pub IsEditable : List Edit → Window → Type 0
IsEditable edits window = IsChangeOf window.body.text (record { edits = edits; dot = None })

-- a plan fits a window's body
abbrev pub IsPlannable : TextPlan → Window → Type 0
IsPlannable plan window = IsPlanFor window.body plan

-- a setting fits a window's body
abbrev pub IsSettable : Setting → Window → Type 0
IsSettable setting window = CanSet window.body.text setting

-- ---- room

-- the same window, with the same room or more
pub record IsRoomier (a b : PaneShape) : Type 0 where
  pub same : b ≡ record a { room = b.room }
  pub room : a.room ≤ b.room

-- a pane has all the room that another has
abbrev pub IsSlotRoomier : Option PaneShape → Option PaneShape → Type 0
IsSlotRoomier None None = Unit {0}
IsSlotRoomier None (Some b) = ⊥
IsSlotRoomier (Some a) None = ⊥
IsSlotRoomier (Some a) (Some b) = IsRoomier a b

-- so it is with each
abbrev pub AreRoomier : List (Option PaneShape) → List (Option PaneShape) → Type 0
AreRoomier [] [] = Unit {0}
AreRoomier [] (b ∷ bs) = ⊥
AreRoomier (a ∷ as') [] = ⊥
AreRoomier (a ∷ as') (b ∷ bs) = IsSlotRoomier a b × AreRoomier as' bs

-- everything is ready for a plan of this window's body
pub record IsReadyPane (plan : TextPlan) (ready : List Done) (pane : Pane) : Type 0 where
  pub plan_is : IsPlanFor pane.body.state plan
  pub room : IsReady pane.body plan
  pub group : ready ≡ group_for pane.body.state plan
