-- Exit statuses.
use Rattle.std.specs.Prelude.{ℕ}
use Rattle.acmefs.specs.declared.status.Status.{Status}
use Rattle.acmefs.specs.declared.status.Status.TheVariants as exit

-- the number that the program exits with
abbrev pub number_of : Status → ℕ
number_of exit.Done = 0
number_of exit.Usage = 1
number_of exit.Refused = 2
number_of exit.ReadFault = 3
number_of exit.WriteFault = 4
number_of exit.HostFault = 5
number_of exit.NoMemory = 6
number_of exit.Talk = 7
