-- Small books, written out, with calls that the rules for smaller books leave out and calls that
-- they keep.
use Rattle.std.specs.Prelude.{List, [], ◌∷◌}
use Rattle.book_base.specs.Book.{Page}
use Rattle.judging_examples.specs.Books.{answer, caller_page}
use Rattle.seq_objects.specs.Words.{enq, deq, add, has}
use Rattle.seq_objects.specs.Replies.{reply_done, reply_none, reply_value, reply_yes, reply_no}
use Rattle.judging_examples.specs.Runs.{operation}

-- Caller 0 puts 5, 6 and 5 into a queue. Caller 1 takes 5, finds nothing with its second take, and
-- takes once more, without an answer.
abbrev pub put_twice : List Page
put_twice =
    caller_page (operation enq 5 ∷ operation enq 6 ∷ operation enq 5 ∷ [])
    (answer reply_done (1 ∷ 0 ∷ []) ∷ answer reply_done (2 ∷ 0 ∷ [])
    ∷ answer reply_done (3 ∷ 0 ∷ []) ∷ [])
    ∷ caller_page (operation deq 0 ∷ operation deq 0 ∷ operation deq 0 ∷ [])
    (answer (reply_value 5) (3 ∷ 1 ∷ []) ∷ answer reply_none (3 ∷ 2 ∷ []) ∷ [])
    ∷ []

-- Caller 0 adds 3 to a set and looks for 4, which isn't there. Caller 1 looks for 3 and finds it,
-- and adds 4, without an answer.
abbrev pub of_two_keys : List Page
of_two_keys =
    caller_page (operation add 3 ∷ operation has 4 ∷ [])
    (answer reply_yes (1 ∷ 0 ∷ []) ∷ answer reply_no (2 ∷ 1 ∷ []) ∷ [])
    ∷ caller_page (operation has 3 ∷ operation add 4 ∷ []) (answer reply_yes (2 ∷ 1 ∷ []) ∷ [])
    ∷ []

-- Caller 0 takes from a queue and then puts 7 in, both without an answer. Caller 1 takes 7, and its
-- view holds both calls of caller 0.
abbrev pub two_open : List Page
two_open =
    caller_page (operation deq 0 ∷ operation enq 7 ∷ []) []
    ∷ caller_page (operation deq 0 ∷ []) (answer (reply_value 7) (2 ∷ 1 ∷ []) ∷ [])
    ∷ []

-- Caller 0 takes from a queue and then puts 7 in, both without an answer. Caller 1 takes 7, and its
-- view holds only the first call of caller 0.
abbrev pub one_open : List Page
one_open =
    caller_page (operation deq 0 ∷ operation enq 7 ∷ []) []
    ∷ caller_page (operation deq 0 ∷ []) (answer (reply_value 7) (1 ∷ 1 ∷ []) ∷ [])
    ∷ []

-- Caller 0 puts 5 and then 6 into a queue. Caller 1 takes 5, and its view holds both puts.
abbrev pub two_puts : List Page
two_puts =
    caller_page (operation enq 5 ∷ operation enq 6 ∷ [])
    (answer reply_done (1 ∷ 0 ∷ []) ∷ answer reply_done (2 ∷ 0 ∷ []) ∷ [])
    ∷ caller_page (operation deq 0 ∷ []) (answer (reply_value 5) (2 ∷ 1 ∷ []) ∷ [])
    ∷ []
