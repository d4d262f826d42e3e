-- A counter, and streams of calls of it.
use Rattle.std.specs.Prelude.{ℕ, suc, List, [], ◌∷◌}
use Rattle.book_base.specs.SeqSpec.{SeqSpec}
use Rattle.streams.specs.Stream.{StreamEvent, Called, Returned, Lost}
use Rattle.streams.specs.StreamOrder.{StreamPlace}
use Rattle.residue_laws.specs.Residue.{Configuration}

-- An increment replies the count before it. Any operation word is one.
abbrev pub incremented : List ℕ → ℕ → List ℕ × ℕ
incremented [] op = ([], 0)
incremented (count ∷ rest) op = (suc count ∷ rest, count)

-- the counter that begins with 0
abbrev pub counter : SeqSpec
counter = record { init = 0 ∷ []; next = incremented }

-- Process 7 loses its first increment. Its second one replies 1.
abbrev pub crashed : List StreamEvent
crashed = Called 7 1 ∷ Lost 7 ∷ Called 7 1 ∷ Returned 7 1 ∷ []

-- a place of an order
abbrev pub placed : ℕ → ℕ → StreamPlace
placed call reply = record { call = call; reply = reply }

-- both increments, the lost one first
abbrev pub both : List StreamPlace
both = placed 0 0 ∷ placed 2 1 ∷ []

-- the lost increment is placed with the reply 0, and the count is 2
abbrev pub lost_one : Configuration
lost_one = record { placed = placed 0 0 ∷ []; list = 2 ∷ [] }

-- the first call is placed with the reply 0, and the count is 1
abbrev pub first_one : Configuration
first_one = record { placed = placed 0 0 ∷ []; list = 1 ∷ [] }

-- The only increment replies 1.
abbrev pub one_too_many : List StreamEvent
one_too_many = Called 7 1 ∷ Returned 7 1 ∷ []

-- a return without a call
abbrev pub no_call : List StreamEvent
no_call = Returned 7 1 ∷ []

-- a process calls while it waits
abbrev pub two_calls : List StreamEvent
two_calls = Called 7 1 ∷ Called 7 1 ∷ []
