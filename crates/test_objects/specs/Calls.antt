-- Puts and takes, and the parts of a log from which its last call is answered.
use Rattle.std.specs.Prelude.{ℕ, ◌-◌, Bool, ◌==◌, if◌then◌else◌, List, [], ◌∷◌, length, take, get_or}
use Rattle.book_base.specs.SeqSpec.{SeqSpec}
use Rattle.shared_words.specs.declared.entry.Entry.{Entry}
use Rattle.shared_words.specs.Entries.{entry}
use Rattle.seq_objects.specs.Words.{code_of}
use Rattle.test_objects.specs.Replays.{list_after}

-- Whether an operation is a put: its code is 1, whether or not an object knows the operation.
abbrev pub is_put : ℕ → Bool
is_put op = code_of op == 1

-- Whether an operation is a take: its code is 2, whether or not an object knows the operation.
abbrev pub is_take : ℕ → Bool
is_take op = code_of op == 2

-- The calls of a log before its last one.
abbrev pub earlier : List Entry → List Entry
earlier log = take (length log - 1) log

-- The last call of a log that has one.
abbrev pub last_call : List Entry → Entry
last_call log = get_or log (length log - 1) (entry 0 0)

-- The list of this one call, or the empty list where the call is left out.
abbrev pub unless : Bool → Entry → List Entry
unless left e = if left then [] else e ∷ []

-- The lawful reply to an operation after some calls: the one that the sequential object gives at
-- the list that these calls leave.
abbrev pub reply_after : SeqSpec → List Entry → ℕ → ℕ
reply_after spec calls op = (spec.next (list_after spec.next spec.init calls) op).1
