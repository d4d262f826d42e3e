-- Books of a set, of a map and of a counter, for the worked cases.
use Rattle.std.specs.Prelude.{List, [], ◌∷◌}
use Rattle.book_base.specs.Book.{Page}
use Rattle.judging_examples.specs.Books.{answer, caller_page}
use Rattle.seq_objects.specs.Words.{add, remove, has, get, del, inc, word_of}
use Rattle.seq_objects.specs.Replies.{reply_none, reply_value, reply_yes, reply_no}
use Rattle.judging_examples.specs.Runs.{operation}

-- The book of one caller that adds 3 to a set twice, looks for 3 and for 4, removes 3 twice, and
-- adds 5 without an answer.
abbrev pub of_a_set : List Page
of_a_set =
    caller_page
    (operation add 3 ∷ operation add 3 ∷ operation has 3 ∷ operation has 4
    ∷ operation remove 3 ∷ operation remove 3 ∷ operation add 5 ∷ [])
    (answer reply_yes (1 ∷ []) ∷ answer reply_no (2 ∷ []) ∷ answer reply_yes (3 ∷ [])
    ∷ answer reply_no (4 ∷ []) ∷ answer reply_yes (5 ∷ []) ∷ answer reply_no (6 ∷ []) ∷ [])
    ∷ []

-- The book of one caller that puts 7 and then 8 into a map for the key 3, gets the keys 3 and 4,
-- deletes the key 3, and gets it without an answer.
abbrev pub of_a_map : List Page
of_a_map =
    caller_page
    (word_of 1 3 7 ∷ word_of 1 3 8 ∷ operation get 3 ∷ operation get 4 ∷ operation del 3
    ∷ operation get 3 ∷ [])
    (answer reply_none (1 ∷ []) ∷ answer (reply_value 7) (2 ∷ []) ∷ answer (reply_value 8) (3 ∷ [])
    ∷ answer reply_none (4 ∷ []) ∷ answer (reply_value 8) (5 ∷ []) ∷ [])
    ∷ []

-- The book of a counter with two callers. Caller 0's one increment replies 3, and its view holds
-- itself and two increments of caller 1, which are unanswered.
abbrev pub of_a_counter : List Page
of_a_counter =
    caller_page (operation inc 0 ∷ []) (answer (reply_value 3) (1 ∷ 2 ∷ []) ∷ [])
    ∷ caller_page (operation inc 0 ∷ operation inc 0 ∷ []) []
    ∷ []
