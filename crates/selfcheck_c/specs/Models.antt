-- What programs in other languages are told of an order.
use Rattle.book_base.specs.declared.call.Call.{Call}
use Rattle.selfcheck_c.specs.declared.placed.PlacedCall.{PlacedCall}

-- The call that an entry of an order names.
abbrev pub named_call : PlacedCall → Call
named_call placed = record { caller = placed.caller; number = placed.number }
