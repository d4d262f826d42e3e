-- What is written of a stream that is refused.
use Rattle.std.specs.Prelude.{ℕ, List, ◌++◌, codes, decimal}
use Rattle.stream_text.specs.declared.fault.StreamFault.{StreamFault}
use Rattle.stream_text.specs.declared.fault.Wrong.{Wrong}
use Rattle.stream_text.specs.declared.fault.Wrong.TheVariants.{Long, Cut, Head, Object, Event, Process, Op, Reply, Busy, Idle, Open, Rest}

-- the name of what is wrong with a line
unfoldable pub wrong_name : Wrong → List ℕ
wrong_name Long = codes "Long"
wrong_name Cut = codes "Cut"
wrong_name Head = codes "Head"
wrong_name Object = codes "Object"
wrong_name Event = codes "Event"
wrong_name Process = codes "Process"
wrong_name Op = codes "Op"
wrong_name Reply = codes "Reply"
wrong_name Busy = codes "Busy"
wrong_name Idle = codes "Idle"
wrong_name Open = codes "Open"
wrong_name Rest = codes "Rest"

-- what is written: the line and the name of its fault
unfoldable pub stream_refusal_text : StreamFault → List ℕ
stream_refusal_text fault =
    codes "refused " ++ decimal fault.line ++ codes " " ++ wrong_name fault.wrong ++ codes "\n"
