-- Look: at a name, or else at the next place of a text (acme(1)).
use Rattle.std.specs.Prelude.{ℕ, ◌+◌, ◌==◌, nat_eq, List, [], ◌∷◌, length, drop, Option, Some, None, if◌then◌else◌}
use Rattle.std.specs.List.{starts_with}
use Rattle.acme_cmd.specs.Names.{whole_name}
use Rattle.am_text.specs.declared.range.Range.{Range}
use Rattle.core_windows.specs.Windows.{Window, window_at}
use Rattle.core_scene.specs.declared.deed.Entry.{Entry}
use Rattle.core_scene.specs.declared.deed.Deed.{Deed}
use Rattle.core_scene.specs.Scenes.{SceneState}
use Rattle.core_actions.specs.declared.opening.Target.{Target}
use Rattle.core_actions.specs.Seen.{dir_of, dot_text}
use Rattle.core_actions.specs.Addressed.{name_part, address_part, dot_to}
use Rattle.core_actions.specs.Opening.{target_of, open_deeds}

-- ---- a search

-- the first place in a text at which the other one stands, where the text begins at this place
abbrev pub place_from : ℕ → List ℕ → List ℕ → Option ℕ
place_from at wanted [] = if length wanted == 0 then Some at else None
place_from at wanted (c ∷ cs) = if starts_with nat_eq (c ∷ cs) wanted then Some at else place_from (at + 1) wanted cs

-- the first place, or the other where there is none
abbrev pub or_place : Option ℕ → Option ℕ → Option ℕ
or_place None other = other
or_place (Some at) other = Some at

-- the first from there on, or else the first of all
abbrev pub place_of : List ℕ → List ℕ → ℕ → Option ℕ
place_of wanted text from = or_place (place_from from wanted (drop from text)) (place_from 0 wanted text)

-- the range of so many runes at a place
abbrev pub range_at : ℕ → Option ℕ → Option Range
range_at len None = None
range_at len (Some at) = Some (record { q0 = at; q1 = at + len })

-- from the end of dot on, and around
abbrev pub range_found : Option Window → List ℕ → Option Range
range_found None wanted = None
range_found (Some window) wanted = range_at (length wanted) (place_of wanted window.body.text window.body.dot.q1)

-- the next place of the text becomes dot
abbrev pub search_deeds : ℕ → List ℕ → SceneState → List Deed
search_deeds w wanted s = dot_to w (range_found (window_at s.windows w) wanted)

-- the built-in Look: for the argument, or for the text that is selected
abbrev pub find_deeds : ℕ → List ℕ → SceneState → List Deed
find_deeds w argument s = search_deeds w (if length argument == 0 then dot_text (window_at s.windows w) else argument) s

-- ---- Look

-- what the text opens as a name, up to a colon, in the window's directory
abbrev pub look_target : ℕ → List ℕ → SceneState → Option Target
look_target w text s = target_of (whole_name (dir_of (window_at s.windows w)) (name_part text)) s

-- what the text names is opened, or the text is searched for
abbrev pub open_or_search : Entry → ℕ → List ℕ → Option Target → SceneState → List Deed
open_or_search e w text None s = search_deeds w text s
open_or_search e w text (Some t) s = open_deeds e t (address_part text) s

-- Look at a text: it is opened as a name, with the address behind its colon, or else searched for
abbrev pub look_deeds : Entry → ℕ → List ℕ → SceneState → List Deed
look_deeds e w text s = open_or_search e w text (look_target w text s) s
