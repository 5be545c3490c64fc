-- Why a command over names and files isn't done.
use Rattle.std.specs.Prelude.{List, Option, Some, None, Result, Ok, Err}
use Rattle.sam_address.specs.declared.fault.AddrFault.{AddrFault}
use Rattle.sam_address.specs.declared.fault.AddrFault.TheVariants as address
use Rattle.core_scene.specs.declared.deed.Deed.{Deed}
use Rattle.core_actions.specs.declared.fault.ActionFault.{ActionFault}
use Rattle.core_actions.specs.declared.fault.ActionFault.TheVariants as action
use Rattle.core_edit.specs.declared.fault.CommandFault.{CommandFault}
use Rattle.core_edit.specs.declared.fault.CommandFault.TheVariants as fault

-- a fault of Get and Put, as Edit says it
abbrev pub action_fault : ActionFault → CommandFault
action_fault action.NoFileName = fault.NoFileName
action_fault action.FileNotFound = fault.FileNotFound
action_fault action.TextTooLong = fault.TextTooLong

-- a fault of an address, as Edit says it; no value of an address is want of memory
abbrev pub address_fault : AddrFault → CommandFault
address_fault address.Range = fault.AddressOutOfRange
address_fault address.NoMatch = fault.NoMatch
address_fault address.Order = fault.AddressOutOfOrder
address_fault address.NoMemory = fault.AddressOutOfRange

module _ {A : Type 0} where
  -- what follows, where there is no fault before it
  abbrev pub and_then : {B : Type 0} → Result A CommandFault → (A → Result B CommandFault) → Result B CommandFault
  and_then (Ok a) next = next a
  and_then (Err f) next = Err f

  -- the deeds of a plan, or its fault
  abbrev pub as_deeds : (A → List Deed) → Result A CommandFault → Result (List Deed) CommandFault
  as_deeds deeds (Ok plan) = Ok (deeds plan)
  as_deeds deeds (Err f) = Err f
