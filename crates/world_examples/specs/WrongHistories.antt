-- Worked histories that aren't linearizable for an object whose reply is the number of operations
-- before.
use Rattle.std.specs.Prelude.{List, [], ◌∷◌}
use Rattle.book_base.specs.declared.call.Call.{Call}
use Rattle.world_core.specs.History.{Happening, Invoked, Returned, call_of}
use Rattle.world_examples.specs.Histories.{first, second}
use Rattle.world_examples.specs.OneCaller.{again}

-- The first call of caller 2.
abbrev pub third : Call
third = call_of 2 0

-- The first call of caller 3.
abbrev pub fourth : Call
fourth = call_of 3 0

-- Caller 0 makes two calls, one after another, and both return 0.
abbrev pub both_return_0 : List Happening
both_return_0 = Invoked first 5 ∷ Returned first 0 ∷ Invoked again 5 ∷ Returned again 0 ∷ []

-- Caller 1 makes one call, which returns 1; no other call is invoked.
abbrev pub second_returns_1 : List Happening
second_returns_1 = Invoked second 6 ∷ Returned second 1 ∷ []

-- The call of caller 0 returns 1; after that the call of caller 1 is invoked, and it never returns.
abbrev pub before_unanswered : List Happening
before_unanswered = Invoked first 5 ∷ Returned first 1 ∷ Invoked second 6 ∷ []

-- The call of caller 2 returns 3, and then that of caller 3 returns 0, before the call of caller 0
-- is invoked, which returns 1. The call of caller 1 overlaps all of them, and returns 2.
abbrev pub beside_all : List Happening
beside_all =
    Invoked second 6
    ∷ Invoked fourth 8
    ∷ Invoked third 7
    ∷ Returned third 3
    ∷ Returned fourth 0
    ∷ Invoked first 5
    ∷ Returned first 1
    ∷ Returned second 2
    ∷ []

-- The call of caller 0 never returns. That of caller 1 returns 1, and that of caller 2, invoked
-- after this return, returns 3.
abbrev pub returns_1_and_3 : List Happening
returns_1_and_3 =
    Invoked first 5 ∷ Invoked second 6 ∷ Returned second 1 ∷ Invoked third 7 ∷ Returned third 3 ∷ []
