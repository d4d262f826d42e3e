-- Worked cases of tables of levels, for small books of a pile: a stack that holds ones and twos.
use Rattle.std.specs.Prelude.{ℕ, zero, suc, false, true, Bool, List, [], ◌∷◌, ◌++◌, Option, Some, None}
use Rattle.book_base.specs.SeqSpec.{SeqSpec}
use Rattle.book_base.specs.Book.{Page}
use Rattle.legal_orders.specs.Container.{Effect, Puts, Takes, Neither, Reading}
use Rattle.judging_examples.specs.Books.{answer, caller_page}
use Rattle.stack_levels.specs.Levels.{Layer}

-- What an operation of a pile does: 0 takes, 1 and 2 put themselves in, and other operations do
-- neither. A pile holds ones and twos, and gives its last value first; a take replies one more than
-- the value, or 0 where there is none, and all other operations reply 0.
abbrev pub pile_deed : ℕ → Effect
pile_deed zero = Takes
pile_deed (suc zero) = Puts 1
pile_deed (suc (suc zero)) = Puts 2
pile_deed (suc (suc (suc n))) = Neither

-- What the reply to a take of a pile shows: the reply 0 shows that there was no value, and any
-- other reply the value that is less by one.
abbrev pub pile_shown : ℕ → Option ℕ
pile_shown zero = None
pile_shown (suc v) = Some v

-- How a pile is read: its list is the values that it holds.
abbrev pub pile : Reading
pile = record { deed = pile_deed; shown = pile_shown; values = λ list. list }

-- A list without its last item, and one more than this item; of the empty list the empty list, and
-- 0.
abbrev pub without_last : List ℕ → List ℕ × ℕ
without_last [] = ([], 0)
without_last (v ∷ []) = ([], suc v)
without_last (v ∷ w ∷ rest) = (v ∷ (without_last (w ∷ rest)).0, (without_last (w ∷ rest)).1)

-- The list of a pile after a put, a take or neither, and the reply.
abbrev pub pile_after : List ℕ → Effect → List ℕ × ℕ
pile_after list (Puts v) = (list ++ v ∷ [], 0)
pile_after list Takes = without_last list
pile_after list Neither = (list, 0)

-- The list of a pile after an operation, and the reply.
abbrev pub pile_next : List ℕ → ℕ → List ℕ × ℕ
pile_next list op = pile_after list (pile_deed op)

-- The pile, which begins empty.
abbrev pub pile_spec : SeqSpec
pile_spec = record { init = []; next = pile_next }

-- The level with the last word `last`, the flag `kept`, and the parents `parents`.
abbrev pub layer : Option ℕ → Bool → List ℕ → Layer
layer last kept parents = record { top = record { last = last; kept = kept }; parents = parents }

-- The book of one caller that puts in 1 and then 2, and then takes; the reply to the take shows the
-- value `shown`.
abbrev pub puts_and_takes : ℕ → List Page
puts_and_takes shown = caller_page (1 ∷ 2 ∷ 0 ∷ [])
    (answer 0 (1 ∷ []) ∷ answer 0 (2 ∷ []) ∷ answer (suc shown) (3 ∷ []) ∷ []) ∷ []

-- Three levels: the bottom, a 1 that lies on it, and a 2 that lies on the 1. After the puts of 1
-- and then 2, a take that shows the 1 has no place, since the 1 lies below the 2.
abbrev pub one_below_two : List Layer
one_below_two =
    layer None true [] ∷ layer (Some 1) false (0 ∷ []) ∷ layer (Some 2) false (1 ∷ []) ∷ []

-- Three pairs of a level's number and a cut of one caller: level 0 after no call, level 1 after one
-- call, and level 2 after two calls.
abbrev pub up_to_two : List (ℕ × List ℕ)
up_to_two = (0, 0 ∷ []) ∷ (1, 1 ∷ []) ∷ (2, 2 ∷ []) ∷ []

-- Two pairs of a level's number and a cut of one caller: level 1 after one call, and level 2 after
-- two calls. The pair of the bottom and no call is missing.
abbrev pub without_start : List (ℕ × List ℕ)
without_start = (1, 1 ∷ []) ∷ (2, 2 ∷ []) ∷ []

-- The book of two callers, both of which put in a 1 concurrently. Then caller 0 takes three times,
-- and its replies show a 1 each time.
abbrev pub taken_too_often : List Page
taken_too_often = caller_page (1 ∷ 0 ∷ 0 ∷ 0 ∷ [])
    (answer 0 (1 ∷ 1 ∷ []) ∷ answer 2 (2 ∷ 1 ∷ []) ∷ answer 2 (3 ∷ 1 ∷ [])
    ∷ answer 2 (4 ∷ 1 ∷ []) ∷ [])
    ∷ caller_page (1 ∷ []) (answer 0 (1 ∷ 1 ∷ []) ∷ []) ∷ []

-- Three levels: the bottom, a 1 that lies on it, and a 1 that lies on this 1.
abbrev pub one_on_one : List Layer
one_on_one = layer None true [] ∷ layer (Some 1) false (0 ∷ []) ∷ layer (Some 1) false (1 ∷ []) ∷ []

-- The pairs of a level's number and a cut to which the two puts of 1 and then two takes of
-- `taken_too_often` lead. The put of caller 0 comes first, since it serves for the put of caller 1.
-- The two takes lead back to the bottom, where the third take, which shows a 1, has no place.
abbrev pub up_and_down : List (ℕ × List ℕ)
up_and_down = (0, 0 ∷ 0 ∷ []) ∷ (1, 1 ∷ 0 ∷ []) ∷ (2, 1 ∷ 1 ∷ []) ∷ (1, 2 ∷ 1 ∷ [])
    ∷ (0, 3 ∷ 1 ∷ []) ∷ []

-- The book of two callers with one unanswered call each: caller 0 takes, and caller 1 puts in 1.
abbrev pub unanswered : List Page
unanswered = caller_page (0 ∷ []) [] ∷ caller_page (1 ∷ []) [] ∷ []

-- Two pairs: level 1 and level 2, each with the cut of two calls of one caller.
abbrev pub both_below : List (ℕ × List ℕ)
both_below = (1, 2 ∷ []) ∷ (2, 2 ∷ []) ∷ []

-- One pair alone: level 1 with the cut of two calls of one caller.
abbrev pub one_below : List (ℕ × List ℕ)
one_below = (1, 2 ∷ []) ∷ []
