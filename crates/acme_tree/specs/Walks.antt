-- Where one name of a walk leads.
use Rattle.std.specs.Prelude.{ℕ, Bool, not, List, codes, find, Option, Some, None, if◌then◌else◌}
use Rattle.std.specs.Str.{bytes_eq}
use Rattle.acme_tree.specs.declared.node.Node.{Node}
use Rattle.acme_tree.specs.declared.node.Node.TheVariants.{Root, NewDir, PlumbRoot}
use Rattle.acme_tree.specs.declared.node.WinFile.{WinFile}
use Rattle.acme_tree.specs.declared.node.World.{World}
use Rattle.acme_tree.specs.declared.walk.Step.{Step}
use Rattle.acme_tree.specs.declared.walk.Step.TheVariants.{Found, Make, NotFound, NotDir, Deleted, Windows}
use Rattle.acme_tree.specs.Trees.{is_dir, is_live, world_is_full, name_of, file_name, files, entries}

-- the first of these nodes that has this name
abbrev pub named_in : List (List ℕ) → List Node → List ℕ → Option Node
named_in ports nodes name = find (λ node. bytes_eq name (name_of ports node)) nodes

-- the entry of a directory that has this name, and the file of a window that has it
unfoldable pub entry_named : World → List (List ℕ) → Node → List ℕ → Option Node
entry_named world ports dir name = named_in ports (entries world ports dir) name

-- the file of this name
unfoldable pub file_named : List ℕ → Option WinFile
file_named name = find (λ file. bytes_eq name (file_name file)) files

-- a step to the entry, if there is one
abbrev pub to_entry : Option Node → Step
to_entry None = NotFound
to_entry (Some node) = Found node

-- In `new` a window's file is found as the last name of its walk, and a window is made for it.
abbrev pub to_new : World → Bool → Option WinFile → Step
to_new world last None = NotFound
to_new world last (Some file) = if last then (if world_is_full world then Windows else Make file) else NotFound

-- the directory above a directory; a root is its own
abbrev pub above : Node → Node
above PlumbRoot = PlumbRoot
above dir = Root

-- what is below a directory under a name
abbrev pub below : World → List (List ℕ) → Node → List ℕ → Bool → Step
below world ports NewDir name last = to_new world last (file_named name)
below world ports dir name last = to_entry (entry_named world ports dir name)

-- Where a name leads: from the directory of a deleted window no name leads, from a file none does, and `..`
-- leads to the directory above.
unfoldable pub walk_one : World → List (List ℕ) → Node → List ℕ → Bool → Step
walk_one world ports from name last =
    if not (is_dir from) then NotDir
    else (if not (is_live world ports from) then Deleted
    else (if bytes_eq name (codes "..") then Found (above from) else below world ports from name last))
