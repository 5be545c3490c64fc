-- The paths that names of files stand for.
use Rattle.std.specs.Prelude.{ℕ, ◌-◌, ◌==◌, ◌||◌, nat_eq, Bool, List, [], ◌∷◌, length, take, Option, Result, Ok, Err}
use Rattle.std.specs.Prelude.{if◌then◌else◌}
use Rattle.std.specs.List.{ends_with}
use Rattle.acme_cmd.specs.Names.{whole_name}
use Rattle.acme_cmd.specs.Paths.{is_path}
use Rattle.name_tree.specs.Paths.{is_root}
use Rattle.core_windows.specs.Windows.{Window}
use Rattle.am_text.specs.Ascii.{slash}
use Rattle.core_actions.specs.Seen.{name_of, dir_of}
use Rattle.core_actions.specs.declared.fault.ActionFault.{ActionFault}
use Rattle.core_actions.specs.declared.fault.ActionFault.TheVariants as fault

-- without a last `/`
abbrev pub without_last_slash : List ℕ → List ℕ
without_last_slash name = if ends_with nat_eq name (slash ∷ []) then take (length name - 1) name else name

-- likewise, but `/` itself keeps it
abbrev pub without_slash : List ℕ → List ℕ
without_slash name = if is_root name then name else without_last_slash name

-- the path of a name that is made whole with a directory
abbrev pub path_named : List ℕ → List ℕ → List ℕ
path_named dir name = without_slash (whole_name dir name)

-- a file or a directory may be there
abbrev pub is_place : List ℕ → Bool
is_place path = is_root path || is_path path

-- the path, if it is one of a file or a directory
abbrev pub place_or_fault : List ℕ → Result (List ℕ) ActionFault
place_or_fault path = if is_place path then Ok path else Err fault.FileNotFound

-- the path that a name has in a directory
abbrev pub named_or_fault : List ℕ → List ℕ → Result (List ℕ) ActionFault
named_or_fault dir name = if length name == 0 then Err fault.NoFileName else place_or_fault (path_named dir name)

-- the argument, or the window's name where that is empty
abbrev pub name_or_own : List ℕ → List ℕ → List ℕ
name_or_own own name = if length name == 0 then own else name

-- the path of the argument of Get or Put, or else of the window's name, made whole with the window's directory
abbrev pub path_of : Option Window → List ℕ → Result (List ℕ) ActionFault
path_of window name = named_or_fault (dir_of window) (name_or_own (name_of window) name)
