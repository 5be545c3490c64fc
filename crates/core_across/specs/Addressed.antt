-- The range of an address of `r` and `w` in a window's body.
use Rattle.std.specs.Prelude.{Option, Result, Ok, Err}
use Rattle.am_text.specs.declared.range.Range.{Range}
use Rattle.addr_syntax.specs.Tree.{Tree}
use Rattle.sam_address.specs.Value.{Outcome, value, written_or}
use Rattle.core_windows.specs.Possible.{text_in}
use Rattle.core_windows.specs.Windows.{Window}
use Rattle.core_actions.specs.Files.{whole_of}
use Rattle.core_actions.specs.Seen.{dot_of}
use Rattle.core_edit.specs.declared.fault.CommandFault.{CommandFault}
use Rattle.core_across.specs.FileFaults.{address_fault}

-- the range, or the fault that is said
abbrev pub range_or_fault : Outcome → Result Range CommandFault
range_or_fault (Ok r) = Ok r
range_or_fault (Err f) = Err (address_fault f)

-- the value of an address in all of a body
abbrev pub address_in : Option Window → Tree → Outcome
address_in window addr = value addr (text_in window) (whole_of (text_in window)) (dot_of window)

-- the range of an address in a body; of one that isn't written, this one
abbrev pub range_in : Option Window → Tree → Range → Result Range CommandFault
range_in window addr missing = range_or_fault (written_or addr (Ok missing) (address_in window addr))
