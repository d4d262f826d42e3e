-- The numbers by which faults of texts and of logs are told to programs in other languages.
use Rattle.std.specs.Prelude.{ℕ}
use Rattle.book_base.specs.declared.fault.What.{What}
use Rattle.book_base.specs.declared.fault.What.TheVariants.{Long, Cut, Head, Object, Callers, Calls, Place, Op, Gap, Reply, View, ViewOutside, ViewLacksOwn, ViewHasLater, ViewsCross, Mark, Seen, Last, Stop, Turns, End, Rest}
use Rattle.history_text.specs.declared.fault.LogWhat.{LogWhat}
use Rattle.history_text.specs.declared.fault.LogWhat.TheVariants as log

-- The number by which programs in other languages are told what is wrong with a text.
abbrev pub fault_number : What → ℕ
fault_number Long = 0
fault_number Cut = 1
fault_number Head = 2
fault_number Object = 3
fault_number Callers = 4
fault_number Calls = 5
fault_number Place = 6
fault_number Op = 7
fault_number Gap = 8
fault_number Reply = 9
fault_number View = 10
fault_number ViewOutside = 11
fault_number ViewLacksOwn = 12
fault_number ViewHasLater = 13
fault_number ViewsCross = 14
fault_number Mark = 15
fault_number Seen = 16
fault_number Last = 17
fault_number Stop = 18
fault_number Turns = 19
fault_number End = 20
fault_number Rest = 21

-- The number by which programs in other languages are told what is wrong with a log.
abbrev pub log_fault_number : LogWhat → ℕ
log_fault_number log.Line = 0
log_fault_number log.Header = 1
log_fault_number log.Process = 2
log_fault_number log.«Type» = 3
log_fault_number log.Operation = 4
log_fault_number log.Time = 5
log_fault_number log.Pending = 6
log_fault_number log.Unasked = 7
log_fault_number log.Value = 8
log_fault_number log.Reply = 9
log_fault_number log.TooMany = 10
log_fault_number log.Long = 11
