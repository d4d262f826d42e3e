-- Worked histories of one caller.
use Rattle.std.specs.Prelude.{List, [], ◌∷◌}
use Rattle.book_base.specs.declared.call.Call.{Call}
use Rattle.world_core.specs.History.{Happening, Invoked, Returned, call_of}
use Rattle.world_examples.specs.Histories.{first}

-- The second call of caller 0.
abbrev pub again : Call
again = call_of 0 1

-- Caller 0 makes two calls with operation 5, one after another; the first returns 0, and the second
-- 1.
abbrev pub in_turn : List Happening
in_turn = Invoked first 5 ∷ Returned first 0 ∷ Invoked again 5 ∷ Returned again 1 ∷ []

-- Caller 0 makes two calls with operation 5, one after another; the first returns 1, and the second
-- 0.
abbrev pub out_of_turn : List Happening
out_of_turn = Invoked first 5 ∷ Returned first 1 ∷ Invoked again 5 ∷ Returned again 0 ∷ []

-- Caller 0 makes one call, which returns 1.
abbrev pub returns_one : List Happening
returns_one = Invoked first 5 ∷ Returned first 1 ∷ []

-- Caller 0 makes one call, which returns 0.
abbrev pub returns_none : List Happening
returns_none = Invoked first 5 ∷ Returned first 0 ∷ []

-- A call of caller 0 returns before it is invoked.
abbrev pub returns_before : List Happening
returns_before = Returned first 0 ∷ Invoked first 5 ∷ []
