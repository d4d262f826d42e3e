-- What is written of a log that is refused, and of a key whose calls have no book.
use Rattle.std.specs.Prelude.{ℕ, List, ◌++◌, codes, decimal}
use Rattle.history_text.specs.declared.fault.LogFault.{LogFault}
use Rattle.history_text.specs.declared.fault.LogWhat.{LogWhat}
use Rattle.history_text.specs.declared.fault.LogWhat.TheVariants.{Line, Header, Process, «Type», Operation, Time, Pending, Unasked, Value, Reply, TooMany, Long}

-- the name of what is wrong with a line of a log
unfoldable pub log_fault_name : LogWhat → List ℕ
log_fault_name Line = codes "Line"
log_fault_name Header = codes "Header"
log_fault_name Process = codes "Process"
log_fault_name «Type» = codes "Type"
log_fault_name Operation = codes "Operation"
log_fault_name Time = codes "Time"
log_fault_name Pending = codes "Pending"
log_fault_name Unasked = codes "Unasked"
log_fault_name Value = codes "Value"
log_fault_name Reply = codes "Reply"
log_fault_name TooMany = codes "TooMany"
log_fault_name Long = codes "Long"

-- the line that tells a fault of a log: its line and its name
unfoldable pub log_refusal_text : LogFault → List ℕ
log_refusal_text fault =
    codes "refused " ++ decimal fault.line ++ codes " " ++ log_fault_name fault.what ++ codes "\n"
