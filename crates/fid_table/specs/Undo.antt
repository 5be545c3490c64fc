-- What takes growths back.
use Rattle.std.specs.Prelude.{ℕ, ◌-◌, List, [], ◌∷◌, take, length, nat_eq, Option, Some, None}
use Rattle.std.specs.Map.{set_value}
use Rattle.fid_table.specs.Tables.{Tables, on_session, after_take}
use Rattle.fid_table.specs.declared.types.Fid.{Fid}
use Rattle.fid_table.specs.declared.session.Session.{Session}
use Rattle.fid_table.specs.declared.undo.Undo.{Undo}
use Rattle.fid_table.specs.declared.undo.Undo.TheVariants.{Leave, Free, Restore, Unwait}

-- the newest connection leaves
abbrev pub after_leave : Tables → Tables
after_leave t = record t { sessions = take (length t.sessions - 1) t.sessions }

-- a session with this fid again at a number in use
abbrev pub restored_in : ℕ → Fid → Session → Session
restored_in fid value s = record s { fids = set_value (nat_eq fid) s.fids value }

-- a fid in use is this one
abbrev pub after_restore : Tables → ℕ → ℕ → Fid → Tables
after_restore t conn fid value = record t { sessions = on_session (restored_in fid value) conn t.sessions }

-- the newest waiting read waits no more
abbrev pub after_unwait : Tables → Tables
after_unwait t = record t { waiting = take (length t.waiting - 1) t.waiting }

-- a growth taken back
abbrev pub undone : Undo → Tables → Tables
undone Leave t = after_leave t
undone (Free conn fid) t = after_take t conn fid
undone (Restore conn fid value) t = after_restore t conn fid value
undone Unwait t = after_unwait t

-- all of them, the last first
abbrev pub all_undone : List Undo → Tables → Tables
all_undone [] t = t
all_undone (u ∷ us) t = undone u (all_undone us t)

-- what takes back that a fid was put where this one stood
abbrev pub unset : ℕ → ℕ → Option Fid → Undo
unset conn fid None = Free conn fid
unset conn fid (Some value) = Restore conn fid value
