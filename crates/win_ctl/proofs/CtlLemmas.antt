-- Lemmas on control messages and directories.
use Rattle.std.proofs.Common.{◌≡◌, ◌≢◌, ℕ, ◌+◌, List, Bool, true, false, cond, eqb}
use Rattle.std.specs.Prelude.{Result, Ok, Err}
use Rattle.win_ctl.specs.declared.message.CtlMsg.TheVariants as msg
use Rattle.win_ctl.specs.declared.message.CtlFault.TheVariants as fault
use Rattle.win_ctl.specs.Messages.{name_msg, is_bad_name}

-- ---- names

chosen-known : (name : List ℕ) (b : Bool) → cond b (Err fault.BadName) (Ok (msg.Name name)) ≢ Err fault.Unknown
chosen-known name true h = cc
chosen-known name false h = cc

-- A line with a name is never unknown.
pub name-known : (name : List ℕ) → name_msg name ≢ Err fault.Unknown
name-known name = chosen-known name (is_bad_name name)

pub ruleset names = (name-known)

-- ---- directories

-- the width of a name, where that of its runes before a place is this one, and that of those after it is known
abbrev pub width_after : ℕ → ℕ → ℕ → ℕ
width_after width at rest = cond (eqb rest 0) width (at + rest)
