-- What a fault is to a talk.
use Rattle.std.specs.Prelude.{ℕ, List, Result, Ok, Err}
use Rattle.am_text.specs.declared.memory.NoMemory.{NoMemory}
use Rattle.am_do.specs.declared.stop.Stop.{Stop}
use Rattle.am_do.specs.declared.stop.Stop.TheVariants as stop
use Rattle.ninep_client.specs.declared.fault.CallFault.{CallFault}
use Rattle.ninep_client.specs.declared.fault.CallFault.TheVariants as fault
use Rattle.am_do.specs.declared.asking.Sorted.{Sorted}
use Rattle.am_do.specs.declared.asking.Sorted.TheVariants.{Text, TooLarge, Stops}

-- an error that was answered and a message that is too long are answers; any other fault ends the talk
abbrev pub sorted_as : CallFault → Sorted
sorted_as (fault.Remote text) = Text text
sorted_as fault.Large = TooLarge
sorted_as fault.Tags = Stops fault.Tags
sorted_as fault.Closed = Stops fault.Closed
sorted_as fault.WriteFault = Stops fault.WriteFault
sorted_as fault.ReadFault = Stops fault.ReadFault
sorted_as fault.Ended = Stops fault.Ended
sorted_as fault.Torn = Stops fault.Torn
sorted_as (fault.Wire f) = Stops (fault.Wire f)
sorted_as (fault.Unasked n) = Stops (fault.Unasked n)
sorted_as (fault.Kind kind) = Stops (fault.Kind kind)
sorted_as fault.NoMemory = Stops fault.NoMemory

-- a text, or the end of the talk for want of memory
abbrev pub said_as : Result (List ℕ) NoMemory → Result (List ℕ) Stop
said_as (Ok text) = Ok text
said_as (Err e) = Err (stop.Fault fault.NoMemory)
