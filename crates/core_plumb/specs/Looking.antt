-- A look at a text, as the plumber is asked first (acme(1)).
use Rattle.std.specs.Prelude.{ℕ, ◌==◌, ◌&&◌, not, nat_le, Bool, false, List, [], length, codes, Option, Some, None}
use Rattle.std.specs.Prelude.{is_none, if◌then◌else◌}
use Rattle.am_text.specs.Utf8.{utf8}
use Rattle.plumb_msg.specs.declared.message.PlumbMsg.{PlumbMsg}
use Rattle.core_windows.specs.Windows.{window_at}
use Rattle.core_scene.specs.declared.deed.Entry.{Entry}
use Rattle.core_scene.specs.declared.deed.Deed.{Deed}
use Rattle.core_scene.specs.Scenes.{SceneState}
use Rattle.core_actions.specs.Seen.{dir_of}
use Rattle.plumb_msg.specs.Limits.{max_data}
use Rattle.core_plumb.specs.Routing.{plumb_refusal}
use Rattle.core_plumb.specs.Plumbing.{plumb_deeds}

-- the message of a look at a text in a directory
unfoldable pub look_msg : List ℕ → List ℕ → PlumbMsg
look_msg dir text = record {
  src = codes "acme";
  dst = [];
  wdir = utf8 dir;
  sort = codes "text";
  attrs = [];
  body = utf8 text;
}

-- the message of a look in a window
abbrev pub look_msg_at : ℕ → List ℕ → SceneState → PlumbMsg
look_msg_at w text s = look_msg (dir_of (window_at s.windows w)) text

-- the plumber is asked where it has rules, and the text isn't longer than the data of a message
abbrev pub asks_plumber : List ℕ → SceneState → Bool
asks_plumber text s = not (length s.rules.sets == 0) && nat_le (length (utf8 text)) max_data

-- the message of which it is asked, if it is
abbrev pub asked_msg : ℕ → List ℕ → SceneState → Option PlumbMsg
asked_msg w text s = if asks_plumber text s then Some (look_msg_at w text s) else None

-- whether the plumber takes a message, if there is one
abbrev pub is_taken : Option PlumbMsg → SceneState → Bool
is_taken None s = false
is_taken (Some m) s = is_none (plumb_refusal m s)

-- Whether the plumber takes the look: it is asked, and delivers the message.
abbrev pub is_plumbed : ℕ → List ℕ → SceneState → Bool
is_plumbed w text s = is_taken (asked_msg w text s) s

-- a message is plumbed, if there is one
abbrev pub plumbed_if_any : Entry → Option PlumbMsg → SceneState → List Deed
plumbed_if_any e None s = []
plumbed_if_any e (Some m) s = plumb_deeds e m s

-- The look is plumbed, where the plumber takes it.
abbrev pub plumb_look_deeds : Entry → ℕ → List ℕ → SceneState → List Deed
plumb_look_deeds e w text s = plumbed_if_any e (asked_msg w text s) s
