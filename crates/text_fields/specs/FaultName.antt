-- The names of the faults of texts, as they are printed.
use Rattle.std.specs.Prelude.{ℕ, List, codes}
use Rattle.book_base.specs.declared.fault.What.{What}
use Rattle.book_base.specs.declared.fault.What.TheVariants.{Long, Cut, Head, Object, Callers, Calls, Place, Op, Gap, Reply, View, ViewOutside, ViewLacksOwn, ViewHasLater, ViewsCross, Mark, Seen, Last, Stop, Turns, End, Rest}

-- the name of a fault
unfoldable pub fault_name : What → List ℕ
fault_name Long = codes "Long"
fault_name Cut = codes "Cut"
fault_name Head = codes "Head"
fault_name Object = codes "Object"
fault_name Callers = codes "Callers"
fault_name Calls = codes "Calls"
fault_name Place = codes "Place"
fault_name Op = codes "Op"
fault_name Gap = codes "Gap"
fault_name Reply = codes "Reply"
fault_name View = codes "View"
fault_name ViewOutside = codes "ViewOutside"
fault_name ViewLacksOwn = codes "ViewLacksOwn"
fault_name ViewHasLater = codes "ViewHasLater"
fault_name ViewsCross = codes "ViewsCross"
fault_name Mark = codes "Mark"
fault_name Seen = codes "Seen"
fault_name Last = codes "Last"
fault_name Stop = codes "Stop"
fault_name Turns = codes "Turns"
fault_name End = codes "End"
fault_name Rest = codes "Rest"
