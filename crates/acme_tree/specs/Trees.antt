-- The nodes of the trees: what each is, its path, mode and name, and what a directory lists.
use Rattle.std.specs.Prelude.{ℕ, ◌<◌, ◌+◌, ◌*◌, ◌^◌, Bool, true, false, ◌||◌, ◌==◌, nat_le, nat_lt, List, [], ◌∷◌}
use Rattle.std.specs.Prelude.{◌++◌, length, map, take, codes, slice_index_or}
use Rattle.std.specs.Fmt.{decimal}
use Rattle.std.specs.List.{list_any}
use Rattle.ninep_types.specs.declared.message.Qid.{Qid}
use Rattle.ninep_frame.specs.declared.stat.Stat.{Stat}
use Rattle.acme_tree.specs.Limits.{max_windows, never_given, window_paths, first_port_path}
use Rattle.acme_tree.specs.Modes.{reads, writes, reads_and_writes, append_mode, dir_mode, append_kind, dir_kind}
use Rattle.acme_tree.specs.declared.node.Node.{Node}
use Rattle.acme_tree.specs.declared.node.Node.TheVariants.{Root, Cons, ConsCtl, Index, Jobs, Label, Log, NewDir}
use Rattle.acme_tree.specs.declared.node.Node.TheVariants.{Window, File, PlumbRoot, Send, Rules, Port}
use Rattle.acme_tree.specs.declared.node.WinFile.{WinFile}
use Rattle.acme_tree.specs.declared.node.WinFile.TheVariants.{Addr, Body, Ctl, Data, Errors, Event, Tag, Xdata}
use Rattle.acme_tree.specs.declared.node.World.{World}

-- ---- what is there

-- whether a window of this number is live
abbrev pub is_window : World → ℕ → Bool
is_window world w = list_any (λ v. v == w) world.windows

-- The window of the node is live, or the node is one of the ports, whose names these are; all else is always there.
abbrev pub is_live : World → List (List ℕ) → Node → Bool
is_live world ports (Window w) = is_window world w
is_live world ports (File w file) = is_window world w
is_live world ports (Port k) = nat_lt k (length ports)
is_live world ports node = true

-- No window can be made: 4,096 are live, or the next number is the one that is never given.
abbrev pub world_is_full : World → Bool
world_is_full world = nat_le max_windows (length world.windows) || (world.next == never_given)

-- ---- qids and modes

-- whether a node is a directory
abbrev pub is_dir : Node → Bool
is_dir Root = true
is_dir NewDir = true
is_dir (Window w) = true
is_dir PlumbRoot = true
is_dir node = false

-- the number of a file in its window's directory
abbrev pub file_number : WinFile → ℕ
file_number Addr = 1
file_number Body = 2
file_number Ctl = 3
file_number Data = 4
file_number Errors = 5
file_number Event = 6
file_number Tag = 7
file_number Xdata = 8

-- the path of a node's qid
abbrev pub path_of : Node → ℕ
path_of Root = 0
path_of Cons = 1
path_of ConsCtl = 2
path_of Index = 3
path_of Label = 4
path_of NewDir = 5
path_of Log = 6
path_of Jobs = 7
path_of (Window w) = w * window_paths
path_of (File w file) = w * window_paths + file_number file
path_of PlumbRoot = 16
path_of Send = 17
path_of Rules = 18
path_of (Port k) = first_port_path + k

-- the mode of a window's file
abbrev pub file_mode : WinFile → ℕ
file_mode Body = append_mode
file_mode Tag = append_mode
file_mode Errors = writes
file_mode file = reads_and_writes

-- the mode of a node
abbrev pub mode_of : Node → ℕ
mode_of Root = dir_mode
mode_of Cons = reads_and_writes
mode_of ConsCtl = reads
mode_of Index = reads
mode_of Jobs = reads_and_writes
mode_of Label = reads_and_writes
mode_of Log = reads
mode_of NewDir = dir_mode
mode_of (Window w) = dir_mode
mode_of (File w file) = file_mode file
mode_of PlumbRoot = dir_mode
mode_of Send = writes
mode_of Rules = reads_and_writes
mode_of (Port k) = reads

-- the type of the qid of a window's file
abbrev pub file_kind : WinFile → ℕ
file_kind Body = append_kind
file_kind Tag = append_kind
file_kind file = 0

-- the type of the qid of a node
abbrev pub kind_of : Node → ℕ
kind_of Root = dir_kind
kind_of NewDir = dir_kind
kind_of (Window w) = dir_kind
kind_of (File w file) = file_kind file
kind_of PlumbRoot = dir_kind
kind_of node = 0

-- the qid of a node
unfoldable pub qid_of : Node → Qid
qid_of node = record { kind = kind_of node; vers = 0; path = path_of node }

-- ---- names

-- the name of a window's file
abbrev pub file_name : WinFile → List ℕ
file_name Addr = codes "addr"
file_name Body = codes "body"
file_name Ctl = codes "ctl"
file_name Data = codes "data"
file_name Errors = codes "errors"
file_name Event = codes "event"
file_name Tag = codes "tag"
file_name Xdata = codes "xdata"

-- a port has a name where its number is below their count, and every other node has one
abbrev pub IsNamed : List (List ℕ) → Node → Type 0
IsNamed ports (Port k) = k < length ports
IsNamed ports node = Unit {0}

-- the name of a node
abbrev pub name_of : List (List ℕ) → Node → List ℕ
name_of ports Root = codes "acme"
name_of ports Cons = codes "cons"
name_of ports ConsCtl = codes "consctl"
name_of ports Index = codes "index"
name_of ports Jobs = codes "jobs"
name_of ports Label = codes "label"
name_of ports Log = codes "log"
name_of ports NewDir = codes "new"
name_of ports (Window w) = decimal w
name_of ports (File w file) = file_name file
name_of ports PlumbRoot = codes "plumb"
name_of ports Send = codes "send"
name_of ports Rules = codes "rules"
name_of ports (Port k) = slice_index_or ports k []

-- lengths are 0
unfoldable pub stat_of : List (List ℕ) → Node → Stat
stat_of ports node = record { qid = qid_of node; mode = mode_of node; length = 0; name = name_of ports node }

-- ---- what directories list, in order

-- the files of a window's directory
abbrev pub files : List WinFile
files = Addr ∷ Body ∷ Ctl ∷ Data ∷ Errors ∷ Event ∷ Tag ∷ Xdata ∷ []

-- the ports of the names, from this number on
abbrev pub ports_from : ℕ → List (List ℕ) → List Node
ports_from k [] = []
ports_from k (name ∷ names) = Port k ∷ ports_from (k + 1) names

-- what the root of the editor's tree lists before its windows: with the files `log` and `jobs`, or without them
abbrev pub root_front : Bool → List Node
root_front false = Cons ∷ ConsCtl ∷ Index ∷ Label ∷ NewDir ∷ []
root_front true = Cons ∷ ConsCtl ∷ Index ∷ Jobs ∷ Label ∷ Log ∷ NewDir ∷ []

-- what the root of the editor's tree lists
abbrev pub root_entries : World → List Node
root_entries world = root_front world.watched ++ map Window world.windows

-- a port's number is below 2 ^ 32
abbrev pub plumber_entries : List (List ℕ) → List Node
plumber_entries ports = Send ∷ Rules ∷ ports_from 0 (take (2 ^ 32) ports)

-- `new` lists nothing
unfoldable pub entries : World → List (List ℕ) → Node → List Node
entries world ports Root = root_entries world
entries world ports (Window w) = map (File w) files
entries world ports PlumbRoot = plumber_entries ports
entries world ports node = []
