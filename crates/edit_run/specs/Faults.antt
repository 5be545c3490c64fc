-- The first fault of a command.
use Rattle.std.specs.Prelude.{◌≡◌, Result, Ok, Err}
use Rattle.sam_address.specs.declared.fault.AddrFault.{AddrFault}
use Rattle.sam_address.specs.declared.fault.AddrFault.TheVariants as address
use Rattle.edit_run.specs.declared.fault.EditFault.{EditFault}
use Rattle.edit_run.specs.declared.fault.EditFault.TheVariants as edit_fault
use Rattle.edit_run.specs.declared.fault.EditFault.TheVariants.{NoMatch, Order, Sequence, Overlap, NoMemory}

-- the fault of an address is one of its command
abbrev pub of_address : AddrFault → EditFault
of_address address.Range = edit_fault.Range
of_address address.NoMatch = NoMatch
of_address address.Order = Order
of_address address.NoMemory = NoMemory

-- The fault is the one that is told; want of memory says nothing.
abbrev pub IsFault : {A : Type 0} → EditFault → Result A EditFault → Type 0
IsFault edit_fault.Range told = told ≡ Err edit_fault.Range
IsFault NoMatch told = told ≡ Err NoMatch
IsFault Order told = told ≡ Err Order
IsFault Sequence told = told ≡ Err Sequence
IsFault Overlap told = told ≡ Err Overlap
IsFault NoMemory told = Unit {0}

-- what follows, where there is no fault before it
abbrev pub and_then : {A B : Type 0} → Result A EditFault → (A → Result B EditFault) → Result B EditFault
and_then (Ok a) next = next a
and_then (Err e) next = Err e
