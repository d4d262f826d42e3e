-- Worked books: small ones, written out, on which the laws are seen at work.
use Rattle.std.specs.Prelude.{ℕ, zero, suc, ◌*◌, List, [], ◌∷◌, ◌++◌}
use Rattle.book_base.specs.declared.call.Record.{Record}
use Rattle.book_base.specs.declared.call.Place.{Place}
use Rattle.book_base.specs.SeqSpec.{SeqSpec}
use Rattle.book_base.specs.Book.{Page}

-- A queue of numbers above 0: the operation 0 takes the first one, or replies 0 where there is
-- none; any other operation puts itself in, and replies 0.
abbrev pub line_next : List ℕ → ℕ → List ℕ × ℕ
line_next [] zero = ([], 0)
line_next (first ∷ rest) zero = (rest, first)
line_next list (suc n) = (list ++ suc n ∷ [], 0)

-- The sequential object of the queue of numbers above 0, which begins empty.
abbrev pub line_spec : SeqSpec
line_spec = record { init = []; next = line_next }

-- a record with this reply and this view
abbrev pub answer : ℕ → List ℕ → Record
answer reply view = record { reply = reply; view = view }

-- a page with these operation words and these records
abbrev pub caller_page : List ℕ → List Record → Page
caller_page operations records = record { operations = operations; records = records }

-- the place of call `k` of caller `i`, with this reply
abbrev pub stand : ℕ → ℕ → ℕ → Place
stand i k reply = record { caller = i; number = k; reply = reply }

-- A book of two callers of a queue. Caller 0 puts in 5, then takes and gets 6, which caller 1 put
-- in meanwhile, and has made one more call, which no view holds.
abbrev pub overtaken : List Page
overtaken = caller_page (5 ∷ 0 ∷ 7 ∷ []) (answer 0 (1 ∷ 1 ∷ []) ∷ answer 6 (2 ∷ 1 ∷ []) ∷ [])
    ∷ caller_page (6 ∷ []) (answer 0 (1 ∷ 1 ∷ []) ∷ []) ∷ []

-- The book `overtaken` at the cut of its three records: it lacks the call that no view holds.
abbrev pub overtaken_seen : List Page
overtaken_seen = caller_page (5 ∷ 0 ∷ []) (answer 0 (1 ∷ 1 ∷ []) ∷ answer 6 (2 ∷ 1 ∷ []) ∷ [])
    ∷ caller_page (6 ∷ []) (answer 0 (1 ∷ 1 ∷ []) ∷ []) ∷ []

-- The book `overtaken` at the cut of caller 0's first record alone: the view of this record holds
-- the call of caller 1, which is unanswered in this book.
abbrev pub overtaken_early : List Page
overtaken_early = caller_page (5 ∷ []) (answer 0 (1 ∷ 1 ∷ []) ∷ []) ∷ caller_page (6 ∷ []) [] ∷ []

-- An order of the three answered calls of `overtaken`. Its first two places are an order of the
-- book at the cut of caller 0's first record, which lacks the third call.
abbrev pub overtaking : List Place
overtaking = stand 1 0 0 ∷ stand 0 0 0 ∷ stand 0 1 6 ∷ []

-- an object that replies ten times the operation, and leaves its list as it is
abbrev pub tenfold_next : List ℕ → ℕ → List ℕ × ℕ
tenfold_next list op = (list, 10 * op)

-- The sequential object that replies ten times the operation, and begins with the empty list.
abbrev pub tenfold_spec : SeqSpec
tenfold_spec = record { init = []; next = tenfold_next }

-- A book of the object that replies ten times the operation, in which caller 0 got a wrong reply,
-- and caller 1 a right one afterwards.
abbrev pub mistaken : List Page
mistaken = caller_page (5 ∷ []) (answer 51 (1 ∷ 0 ∷ []) ∷ [])
    ∷ caller_page (6 ∷ []) (answer 60 (1 ∷ 1 ∷ []) ∷ []) ∷ []
