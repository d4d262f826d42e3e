-- Small books without a legal order, written out, with parts of them that are evidence and parts
-- that aren't.
use Rattle.std.specs.Prelude.{List, [], ◌∷◌}
use Rattle.book_base.specs.Book.{Page}
use Rattle.judging_examples.specs.Books.{answer, caller_page}
use Rattle.seq_objects.specs.Words.{enq, deq, inc, read, write}
use Rattle.seq_objects.specs.Replies.{reply_done, reply_value}
use Rattle.judging_examples.specs.Runs.{operation}

-- Three callers increment a counter, and each view holds all three calls; two of them reply 0 and
-- one replies 1.
abbrev pub three_increments : List Page
three_increments =
    caller_page (operation inc 0 ∷ []) (answer (reply_value 0) (1 ∷ 1 ∷ 1 ∷ []) ∷ [])
    ∷ caller_page (operation inc 0 ∷ []) (answer (reply_value 0) (1 ∷ 1 ∷ 1 ∷ []) ∷ [])
    ∷ caller_page (operation inc 0 ∷ []) (answer (reply_value 1) (1 ∷ 1 ∷ 1 ∷ []) ∷ [])
    ∷ []

-- The increment of `three_increments` that replies 1, without the other two calls.
abbrev pub last_increment : List Page
last_increment =
    caller_page [] [] ∷ caller_page [] []
    ∷ caller_page (operation inc 0 ∷ []) (answer (reply_value 1) (0 ∷ 0 ∷ 1 ∷ []) ∷ []) ∷ []

-- The increments of `three_increments` without the answer of the one that replies 1.
abbrev pub two_zeros : List Page
two_zeros =
    caller_page (operation inc 0 ∷ []) (answer (reply_value 0) (1 ∷ 1 ∷ 1 ∷ []) ∷ [])
    ∷ caller_page (operation inc 0 ∷ []) (answer (reply_value 0) (1 ∷ 1 ∷ 1 ∷ []) ∷ [])
    ∷ caller_page (operation inc 0 ∷ []) []
    ∷ []

-- Caller 0 writes 5 to a register, and caller 1 reads 6 afterwards.
abbrev pub misread : List Page
misread =
    caller_page (operation write 5 ∷ []) (answer reply_done (1 ∷ 0 ∷ []) ∷ [])
    ∷ caller_page (operation read 0 ∷ []) (answer (reply_value 6) (1 ∷ 1 ∷ []) ∷ [])
    ∷ []

-- Caller 0 writes 5 to a register, and caller 1 reads 5 afterwards.
abbrev pub read_of_write : List Page
read_of_write =
    caller_page (operation write 5 ∷ []) (answer reply_done (1 ∷ 0 ∷ []) ∷ [])
    ∷ caller_page (operation read 0 ∷ []) (answer (reply_value 5) (1 ∷ 1 ∷ []) ∷ []) ∷ []

-- The read of `read_of_write` without the write.
abbrev pub read_alone : List Page
read_alone =
    caller_page [] []
    ∷ caller_page (operation read 0 ∷ []) (answer (reply_value 5) (0 ∷ 1 ∷ []) ∷ []) ∷ []

-- The calls of `misread` without the answer of the write.
abbrev pub read_beside_write : List Page
read_beside_write =
    caller_page (operation write 5 ∷ []) []
    ∷ caller_page (operation read 0 ∷ []) (answer (reply_value 6) (1 ∷ 1 ∷ []) ∷ []) ∷ []

-- A caller increments a counter and gets the reply 1.
abbrev pub one_miscount : List Page
one_miscount = caller_page (operation inc 0 ∷ []) (answer (reply_value 1) (1 ∷ []) ∷ []) ∷ []

-- The call of `one_miscount` without its answer.
abbrev pub unanswered_increment : List Page
unanswered_increment = caller_page (operation inc 0 ∷ []) [] ∷ []

-- The call of `one_miscount`, with a further increment that no view holds.
abbrev pub miscount_and_more : List Page
miscount_and_more =
    caller_page (operation inc 0 ∷ operation inc 0 ∷ []) (answer (reply_value 1) (1 ∷ []) ∷ []) ∷ []

-- A caller increments a counter twice, and gets the replies 1 and 2.
abbrev pub two_miscounts : List Page
two_miscounts =
    caller_page (operation inc 0 ∷ operation inc 0 ∷ [])
    (answer (reply_value 1) (1 ∷ []) ∷ answer (reply_value 2) (2 ∷ []) ∷ [])
    ∷ []

-- A caller reads 0 and then 6 from a register.
abbrev pub needless_read : List Page
needless_read =
    caller_page (operation read 0 ∷ operation read 0 ∷ [])
    (answer (reply_value 0) (1 ∷ []) ∷ answer (reply_value 6) (2 ∷ []) ∷ [])
    ∷ []

-- A caller puts 5 into a queue and then takes 6.
abbrev pub needless_put : List Page
needless_put =
    caller_page (operation enq 5 ∷ operation deq 0 ∷ [])
    (answer reply_done (1 ∷ []) ∷ answer (reply_value 6) (2 ∷ []) ∷ [])
    ∷ []

-- The second read of `needless_read` alone.
abbrev pub later_read : List Page
later_read = caller_page (operation read 0 ∷ []) (answer (reply_value 6) (1 ∷ []) ∷ []) ∷ []

-- The take of `needless_put` alone.
abbrev pub later_take : List Page
later_take = caller_page (operation deq 0 ∷ []) (answer (reply_value 6) (1 ∷ []) ∷ []) ∷ []
