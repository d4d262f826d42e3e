-- The status that the program ends with.
use Rattle.std.specs.Prelude.{ℕ}
use Rattle.byte_streams.specs.declared.status.Status.{Status}
use Rattle.byte_streams.specs.declared.status.Status.TheVariants.{Fine, Found, Usage, Refused, ReadFault, WriteFault, NoMemory}

-- The exit code of a status.
abbrev pub code_of : Status → ℕ
code_of Fine = 0
code_of Found = 1
code_of Usage = 2
code_of Refused = 3
code_of ReadFault = 4
code_of WriteFault = 5
code_of NoMemory = 6
