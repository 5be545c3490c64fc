-- Why a command of Edit isn't done, and how that is said.
use Rattle.std.specs.Prelude.{ℕ, List, ◌++◌, codes, Option, Some, None}
use Rattle.edit_run.specs.declared.fault.EditFault.{EditFault}
use Rattle.edit_run.specs.declared.fault.EditFault.TheVariants as edit_fault
use Rattle.core_edit.specs.declared.fault.CommandFault.{CommandFault}
use Rattle.core_edit.specs.declared.fault.CommandFault.TheVariants as fault

-- the fault of a command over a text, as one that is said; want of memory isn't
abbrev pub command_fault : EditFault → Option CommandFault
command_fault edit_fault.Range = Some fault.AddressOutOfRange
command_fault edit_fault.NoMatch = Some fault.NoMatch
command_fault edit_fault.Order = Some fault.AddressOutOfOrder
command_fault edit_fault.Sequence = Some fault.ChangesOutOfSequence
command_fault edit_fault.Overlap = Some fault.MoveOverlaps
command_fault edit_fault.NoMemory = None

-- the text of a fault
abbrev pub fault_text : CommandFault → List ℕ
fault_text fault.BadCommand = codes "bad command"
fault_text fault.AddressOutOfRange = codes "address out of range"
fault_text fault.NoMatch = codes "no match"
fault_text fault.AddressOutOfOrder = codes "address out of order"
fault_text fault.ChangesOutOfSequence = codes "changes out of sequence"
fault_text fault.MoveOverlaps = codes "move overlaps"
fault_text fault.TextTooLong = codes "text too long"
fault_text fault.NoSuchWindow = codes "no such window"
fault_text fault.WindowModified = codes "window modified"
fault_text fault.NoFileName = codes "no file name"
fault_text fault.FileNotFound = codes "file not found"

-- the line that says it
unfoldable pub fault_line : CommandFault → List ℕ
fault_line f = codes "Edit: " ++ fault_text f ++ codes "\n"
