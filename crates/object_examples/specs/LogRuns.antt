-- Worked runs over logs of one caller and of two, and the steps that the program refuses.
use Rattle.std.specs.Prelude.{ℕ, List, [], ◌∷◌, ◌++◌}
use Rattle.book_base.specs.OperationWord.{joined}
use Rattle.world_core.specs.declared.region.Region.TheVariants.{N, M}
use Rattle.world_core.specs.Shape.{Shape}
use Rattle.world_core.specs.Event.{Announce, Object, Begins_scan, Begins_view}
use Rattle.world_core.specs.World.{Step}
use Rattle.world_examples.specs.Histories.{numbering}
use Rattle.world_examples.specs.Schedules.{by, scan, stages, publication, object_step}
use Rattle.object_examples.specs.TallyRuns.{gets}
use Rattle.world_objects.specs.LogProgram.{log_shape}

-- Two callers with one call each over the log of an object whose reply is the number of operations
-- before. The words of caller 0 lie at places 0 and 1, those of caller 1 at 2 and 3, and the log at
-- 4 and 5; their tickets are 1 and 2.
abbrev pub log_pair : Shape
log_pair = log_shape numbering 2 1

-- One caller with two calls over the log of an object whose reply is the number of operations
-- before. The words of its calls lie at places 0 to 3, and the log at 4 and 5.
abbrev pub log_alone : Shape
log_alone = log_shape numbering 1 2

-- The object step of a caller at a place, which finds the word `old` there and leaves `new`.
abbrev pub steps_at : ℕ → ℕ → ℕ → ℕ → Step
steps_at who place old new = by who (Object (object_step place old new))

-- A caller scans N, and announces the operation of a low and a high word, embedding the cut.
abbrev pub announces : ℕ → ℕ → ℕ → List ℕ → List Step
announces who low high cut =
    scan who N Begins_scan cut ++ stages who N 0 (low ∷ high ∷ cut) ++ by who Announce ∷ []

-- The operation that caller 0 announces: its low word is 5, and its high word 8.
abbrev pub first_operation : ℕ
first_operation = joined 5 8

-- The operation that caller 1 announces: its low word is 6, and its high word 9.
abbrev pub second_operation : ℕ
second_operation = joined 6 9

-- Both callers have announced.
abbrev pub announced : List Step
announced = announces 0 5 8 (0 ∷ 0 ∷ []) ++ announces 1 6 9 (1 ∷ 0 ∷ [])

-- Caller 0 has stored the low word of its operation.
abbrev pub stored_low : List Step
stored_low = announced ++ steps_at 0 0 0 5 ∷ []

-- Caller 0 has stored both words of its operation.
abbrev pub stored : List Step
stored = stored_low ++ steps_at 0 1 0 8 ∷ []

-- Both callers have stored both words of their operations.
abbrev pub stored_both : List Step
stored_both = stored ++ steps_at 1 2 0 6 ∷ steps_at 1 3 0 9 ∷ []

-- Caller 1 has placed its ticket at place 0 of the log.
abbrev pub placed_one : List Step
placed_one = stored_both ++ steps_at 1 4 0 2 ∷ []

-- Caller 0 has found the ticket of caller 1.
abbrev pub found_one : List Step
found_one = placed_one ++ steps_at 0 4 2 2 ∷ []

-- Caller 0 has placed its own ticket after that of caller 1.
abbrev pub placed_both : List Step
placed_both = found_one ++ steps_at 0 5 0 1 ∷ []

-- Caller 0 has loaded the low word of the operation of caller 1.
abbrev pub loaded_low : List Step
loaded_low = placed_both ++ steps_at 0 2 6 6 ∷ []

-- Caller 0 has loaded both words of the operation of caller 1.
abbrev pub loaded : List Step
loaded = loaded_low ++ steps_at 0 3 9 9 ∷ []

-- Both callers have their replies: one operation is before that of caller 0, and none before that
-- of caller 1.
abbrev pub replied : List Step
replied = loaded ++ gets 0 1 1 ∷ gets 1 1 0 ∷ []

-- What the program refuses to caller 0 once both have announced.
abbrev pub refused_as_announced : List Step
refused_as_announced =
    -- a store of another low word than the operation's
    steps_at 0 0 0 6
    -- a store of the high word before the low one
    ∷ steps_at 0 1 0 8
    -- a store of its low word at the place of another call's low word
    ∷ steps_at 0 2 0 5
    -- its ticket placed before its words are stored
    ∷ steps_at 0 4 0 1
    -- a reply before any step of the call
    ∷ gets 0 1 0
    ∷ []

-- What the program refuses to caller 0 once it has stored its low word alone.
abbrev pub refused_as_stored_low : List Step
refused_as_stored_low =
    -- a second store of the low word
    steps_at 0 0 5 5
    -- a store of another high word than the operation's
    ∷ steps_at 0 1 0 0
    -- its ticket placed before its high word is stored
    ∷ steps_at 0 4 0 1
    ∷ []

-- What the program refuses to caller 0 once it has stored both words.
abbrev pub refused_as_stored : List Step
refused_as_stored =
    -- a second store of the high word
    steps_at 0 1 8 8
    -- its ticket placed at the second place of the log, where the first isn't known to be filled
    ∷ steps_at 0 5 0 1
    -- the ticket of another call placed
    ∷ steps_at 0 4 0 2
    -- a try for a free place that leaves it free
    ∷ steps_at 0 4 0 0
    -- a load of a word of a call whose ticket it doesn't know
    ∷ steps_at 0 2 0 0
    -- a reply before its ticket is placed
    ∷ gets 0 1 0
    ∷ []

-- What the program refuses to caller 0 once caller 1 has placed its ticket: to put its own ticket
-- over that one, or at the next place before it has found that one.
abbrev pub refused_as_placed_one : List Step
refused_as_placed_one = steps_at 0 4 2 1 ∷ steps_at 0 5 0 1 ∷ []

-- What the program refuses to caller 0 once it has found the ticket of caller 1.
abbrev pub refused_as_found_one : List Step
refused_as_found_one =
    -- a try for the place that it knows to be filled
    steps_at 0 4 2 2
    -- a load before its own ticket is placed
    ∷ steps_at 0 2 6 6
    -- a reply before its own ticket is placed
    ∷ gets 0 1 1
    ∷ []

-- What the program refuses to caller 0 once it has placed its own ticket.
abbrev pub refused_as_placed_both : List Step
refused_as_placed_both =
    -- a load that changes the word
    steps_at 0 2 6 7
    -- a load of a word of its own operation
    ∷ steps_at 0 0 5 5
    -- a second try for its own place
    ∷ steps_at 0 5 1 1
    -- a reply before it has loaded the operation before its own
    ∷ gets 0 1 1
    ∷ gets 0 1 0
    ∷ []

-- What the program refuses to caller 0 once it has loaded the low word alone: the reply 1, since
-- the high word isn't loaded.
abbrev pub refused_as_loaded_low : List Step
refused_as_loaded_low = gets 0 1 1 ∷ []

-- What the program refuses to caller 0 once it has loaded both words: the replies 0 and 2.
abbrev pub refused_as_loaded : List Step
refused_as_loaded = gets 0 1 0 ∷ gets 0 1 2 ∷ []

-- What the program refuses to caller 1 once it has placed its ticket: to place it again, to try for
-- its place again, and the reply 1.
abbrev pub refused_to_one : List Step
refused_to_one = steps_at 1 5 0 2 ∷ steps_at 1 4 2 2 ∷ gets 1 1 1 ∷ []

-- The caller that is alone makes its whole first call.
abbrev pub first_call : List Step
first_call =
    announces 0 5 8 (0 ∷ [])
    ++ steps_at 0 0 0 5
    ∷ steps_at 0 1 0 8
    ∷ steps_at 0 4 0 1
    ∷ scan 0 N (Begins_view 0) (1 ∷ [])
    ++ publication 0 0 (1 ∷ []) (0 ∷ [])
    ++ scan 0 M Begins_scan (1 ∷ [])

-- The caller that is alone has made its first call, and stored both words of its second one.
abbrev pub second_stored : List Step
second_stored = first_call ++ announces 0 6 9 (1 ∷ []) ++ steps_at 0 2 0 6 ∷ steps_at 0 3 0 9 ∷ []

-- The caller that is alone places its second ticket after its first one, which it knows, and
-- replies without a load.
abbrev pub two_calls_alone : List Step
two_calls_alone = second_stored ++ steps_at 0 5 0 2 ∷ gets 0 2 1 ∷ []
