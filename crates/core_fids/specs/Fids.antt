-- Fids: which numbers may be given, and what a message makes of a fid.
use Rattle.std.specs.Prelude.{ℕ, ◌-◌, ◌^◌, Bool, true, false, ◌&&◌, ◌==◌, not, nat_le, min, List, [], ◌++◌, length}
use Rattle.std.specs.Prelude.{Option, Some, None}
use Rattle.am_text.specs.Part.{part_of}
use Rattle.am_text.specs.declared.part.Part.{Part}
use Rattle.acme_tree.specs.declared.node.Node.{Node}
use Rattle.acme_tree.specs.declared.node.Node.TheVariants.{File, Rules, Port, Log, Jobs}
use Rattle.acme_tree.specs.declared.node.WinFile.TheVariants.{Event}
use Rattle.acme_tree.specs.Access.{how}
use Rattle.acme_watch.specs.declared.types.WatchFile.{WatchFile}
use Rattle.acme_watch.specs.declared.types.WatchFile.TheVariants as watch
use Rattle.fid_table.specs.declared.types.Fid.{Fid}
use Rattle.fid_table.specs.Tables.{Tables, fids_of, fid_of}
use Rattle.core_fids.specs.Limits.{max_fids}
use Rattle.core_fids.specs.declared.effect.WatchOpening.{WatchOpening}

-- whether there is one
abbrev pub is_there : {A : Type 0} → Option A → Bool
is_there None = false
is_there (Some a) = true

-- whether a number is a fid of the connection
abbrev pub is_used : Tables → ℕ → ℕ → Bool
is_used tables conn number = is_there (fid_of tables conn number)

-- a connection can't have more fids
abbrev pub fids_full : Tables → ℕ → Bool
fids_full tables conn = nat_le (max_fids tables.format) (length (fids_of tables conn))

-- a fid of a node, not opened
abbrev pub fresh : Node → Fid
fresh node = record { node = node; mode = None; opening = None; given = 0; skip = 0; part = part_of []; held = [] }

-- whether a fid is open
abbrev pub is_open : Fid → Bool
is_open fid = is_there fid.mode

-- the modes with which a file is read, and written
abbrev pub is_for_reading : ℕ → Bool
is_for_reading mode = not (how mode == 1)

-- the modes with which a file is written
abbrev pub is_for_writing : ℕ → Bool
is_for_writing mode = not (how mode == 0)

-- An opening is of an event file, of a port, of `log` or of `jobs`: the node says which.
abbrev pub at_event : Node → Option ℕ → Option ℕ
at_event (File w Event) opening = opening
at_event node opening = None

-- the opening of a port
abbrev pub at_port : Node → Option ℕ → Option ℕ
at_port (Port k) opening = opening
at_port node opening = None

-- an opening of this file, if there is one
abbrev pub opening_on : WatchFile → Option ℕ → Option WatchOpening
opening_on file None = None
opening_on file (Some opening) = Some (record { file = file; opening = opening })

-- the opening of `log` or of `jobs`
abbrev pub at_watch : Node → Option ℕ → Option WatchOpening
at_watch Log opening = opening_on watch.Log opening
at_watch Jobs opening = opening_on watch.Jobs opening
at_watch node opening = None

-- the opening of an event file that the fid is
abbrev pub event_opening : Fid → Option ℕ
event_opening fid = at_event fid.node fid.opening

-- the opening of a port that the fid is
abbrev pub port_opening : Fid → Option ℕ
port_opening fid = at_port fid.node fid.opening

-- the opening of `log` or of `jobs` that the fid is
abbrev pub watch_opening : Fid → Option WatchOpening
watch_opening fid = at_watch fid.node fid.opening

-- opened with a mode, and where it is an opening of a file whose reads wait, with its number
abbrev pub opened_fid : Fid → ℕ → Option ℕ → Fid
opened_fid fid mode opening = record fid { mode = Some mode; opening = opening }

-- the bytes of a rune that a write left unfinished
abbrev pub fid_with_part : Fid → Part → Fid
fid_with_part fid part = record fid { part = part }

-- what was written and isn't whole yet, with these bytes behind it, and the fid without it
abbrev pub held_with : Fid → List ℕ → List ℕ
held_with fid bytes = fid.held ++ bytes

-- with nothing held
abbrev pub emptied_fid : Fid → Fid
emptied_fid fid = record fid { held = [] }

-- it is one of `rules`, and what was written to it last isn't added yet
abbrev pub is_rules : Node → Bool
is_rules Rules = true
is_rules node = false

-- whether a fid of `rules` holds the begin of a set
abbrev pub holds_rules : Fid → Bool
holds_rules fid = is_rules fid.node && not (length fid.held == 0)

-- the place in a directory at which the next read goes on; numbers end at 2^64 - 1
abbrev pub capped : ℕ → ℕ
capped n = min n (2 ^ 64 - 1)

-- at a place in a directory
abbrev pub placed_fid : Fid → ℕ → ℕ → Fid
placed_fid fid given skip = record fid { given = capped given; skip = capped skip }
