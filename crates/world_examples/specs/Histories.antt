-- Worked histories of two callers, or of one, that make one call of an object each.
use Rattle.std.specs.Prelude.{List, [], ◌∷◌, length}
use Rattle.book_base.specs.declared.call.Call.{Call}
use Rattle.book_base.specs.SeqSpec.{SeqSpec}
use Rattle.world_core.specs.History.{Happening, Invoked, Returned, Done, call_of}

-- An object that adds each operation to its list, and replies how long the list was before. It
-- begins with the empty list, so its reply is the number of operations before.
abbrev pub numbering : SeqSpec
numbering = record { init = []; next = λ list operation. (operation ∷ list, length list) }

-- The first call of caller 0.
abbrev pub first : Call
first = call_of 0 0

-- The first call of caller 1.
abbrev pub second : Call
second = call_of 1 0

-- The call of caller 0 returns 1; after that the call of caller 1 is invoked, and it returns 0.
abbrev pub one_after_another : List Happening
one_after_another = Invoked first 5 ∷ Returned first 1 ∷ Invoked second 6 ∷ Returned second 0 ∷ []

-- The calls of the callers 0 and 1 are both invoked before the first returns 1 and the second 0.
abbrev pub side_by_side : List Happening
side_by_side = Invoked first 5 ∷ Invoked second 6 ∷ Returned first 1 ∷ Returned second 0 ∷ []

-- The call with operation 5 returns 60, the reply of the object `tenfold` to operation 6.
abbrev pub reply_of_another : List Happening
reply_of_another = Invoked first 5 ∷ Returned first 60 ∷ []

-- The call of caller 0 is invoked and never returns; that of caller 1, invoked later, returns 1.
abbrev pub after_unanswered : List Happening
after_unanswered = Invoked first 5 ∷ Invoked second 6 ∷ Returned second 1 ∷ []

-- The call of caller 0 is invoked and never returns; that of caller 1, invoked later, returns 0.
abbrev pub without_unanswered : List Happening
without_unanswered = Invoked first 5 ∷ Invoked second 6 ∷ Returned second 0 ∷ []

-- The order of the call of caller 1 alone, with the reply 0.
abbrev pub second_alone : List Done
second_alone = record { call = second; operation = 6; reply = 0 } ∷ []
