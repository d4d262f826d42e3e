-- Small books, written out, that break a rule of objects with one reply, view or operation, and
-- don't break it with another.
use Rattle.std.specs.Prelude.{ℕ, List, [], ◌∷◌}
use Rattle.book_base.specs.declared.call.Call.{Call}
use Rattle.book_base.specs.Book.{Page}
use Rattle.broken_rules.specs.declared.rule.Rule.{Rule}
use Rattle.broken_rules.specs.declared.rule.BrokenRule.{BrokenRule}
use Rattle.judging_examples.specs.Books.{answer, caller_page}
use Rattle.judging_examples.specs.Runs.{operation}
use Rattle.seq_objects.specs.Words.{OperationEntry, enq, deq, inc, add, has}
use Rattle.seq_objects.specs.Replies.{reply_done, reply_none, reply_value, reply_yes}

-- A rule, as one that two calls break.
abbrev pub broken_by : Rule → Call → Call → BrokenRule
broken_by rule first second = record { rule = rule; first = first; second = second }

-- Caller 0 takes 5 and has the view `view`, and caller 1 puts 5 in.
abbrev pub take_and_put : OperationEntry → OperationEntry → List ℕ → List Page
take_and_put puts takes view =
    caller_page (operation takes 0 ∷ []) (answer (reply_value 5) view ∷ [])
    ∷ caller_page (operation puts 5 ∷ []) (answer reply_done (1 ∷ 1 ∷ []) ∷ [])
    ∷ []

-- Caller 0 puts 5 into a queue, with the view `view`, and then makes a call with the operation word
-- `word`, which has no answer. Caller 1 finds nothing, and its view holds both calls of caller 0.
abbrev pub put_and_nothing : List ℕ → ℕ → List Page
put_and_nothing view word =
    caller_page (operation enq 5 ∷ word ∷ []) (answer reply_done view ∷ [])
    ∷ caller_page (operation deq 0 ∷ []) (answer reply_none (2 ∷ 1 ∷ []) ∷ [])
    ∷ []

-- Caller 0 puts 5 and then `put` into a queue. Caller 1 takes 5 and then `taken` afterwards.
abbrev pub puts_and_takes : ℕ → ℕ → List Page
puts_and_takes put taken =
    caller_page (operation enq 5 ∷ operation enq put ∷ [])
    (answer reply_done (1 ∷ 0 ∷ []) ∷ answer reply_done (2 ∷ 0 ∷ []) ∷ [])
    ∷ caller_page (operation deq 0 ∷ operation deq 0 ∷ [])
    (answer (reply_value 5) (2 ∷ 1 ∷ []) ∷ answer (reply_value taken) (2 ∷ 2 ∷ []) ∷ [])
    ∷ []

-- Caller 0 puts 5 and then 6 in, and then makes a call with the operation word `word`, which has no
-- answer. Caller 1 takes `taken` afterwards, and its view holds all three calls of caller 0.
abbrev pub puts_and_take : OperationEntry → OperationEntry → ℕ → ℕ → List Page
puts_and_take puts takes taken word =
    caller_page (operation puts 5 ∷ operation puts 6 ∷ word ∷ [])
    (answer reply_done (1 ∷ 0 ∷ []) ∷ answer reply_done (2 ∷ 0 ∷ []) ∷ [])
    ∷ caller_page (operation takes 0 ∷ []) (answer (reply_value taken) (3 ∷ 1 ∷ []) ∷ [])
    ∷ []

-- The only increment of a counter replies `count`.
abbrev pub one_increment : ℕ → List Page
one_increment count =
    caller_page (operation inc 0 ∷ []) (answer (reply_value count) (1 ∷ []) ∷ []) ∷ []

-- Two callers increment a counter concurrently; caller 0's call replies 0, and caller 1's `count`.
abbrev pub two_increments : ℕ → List Page
two_increments count =
    caller_page (operation inc 0 ∷ []) (answer (reply_value 0) (1 ∷ 1 ∷ []) ∷ [])
    ∷ caller_page (operation inc 0 ∷ []) (answer (reply_value count) (1 ∷ 1 ∷ []) ∷ [])
    ∷ []

-- Caller 0 increments a counter twice, and its calls reply 1 and then `count`. Caller 1 increments
-- it too, without an answer, and both views of caller 0 hold that call.
abbrev pub increments_in_turn : ℕ → List Page
increments_in_turn count =
    caller_page (operation inc 0 ∷ operation inc 0 ∷ [])
    (answer (reply_value 1) (1 ∷ 1 ∷ []) ∷ answer (reply_value count) (2 ∷ 1 ∷ []) ∷ [])
    ∷ caller_page (operation inc 0 ∷ []) []
    ∷ []

-- Caller 0 looks for 3 in a set and finds it, with the view `view`, and caller 1 adds 3.
abbrev pub look_and_add : List ℕ → List Page
look_and_add view =
    caller_page (operation has 3 ∷ []) (answer reply_yes view ∷ [])
    ∷ caller_page (operation add 3 ∷ []) (answer reply_yes (1 ∷ 1 ∷ []) ∷ [])
    ∷ []

-- The only put into a queue has the reply `reply`.
abbrev pub one_put : ℕ → List Page
one_put reply = caller_page (operation enq 5 ∷ []) (answer reply (1 ∷ []) ∷ []) ∷ []
