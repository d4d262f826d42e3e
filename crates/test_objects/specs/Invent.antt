-- The inventing object: it answers the third call of each caller with the value 99, whatever was
-- put in.
use Rattle.std.specs.Prelude.{◌≡◌, ℕ, ◌+◌, ◌*◌, ◌^◌, ◌==◌, if◌then◌else◌, List, [], ◌∷◌, ◌++◌, length}
use Rattle.book_base.specs.SeqSpec.{SeqSpec}
use Rattle.shared_words.specs.declared.entry.Entry.{Entry}
use Rattle.shared_words.specs.Entries.{calls_by}
use Rattle.test_objects.specs.Calls.{earlier, last_call, reply_after}

-- The invented reply: the reply word of the value 99.
abbrev pub invented : ℕ
invented = 2 * 2 ^ 32 + 99

-- The reply to the call `e` after the calls `before`: the invented one where exactly two of those
-- are its caller's, and otherwise the lawful one.
abbrev pub invent_reply_after : SeqSpec → List Entry → Entry → ℕ
invent_reply_after spec before e =
    if length (calls_by e.caller before) == 2 then invented else reply_after spec before e.op

-- The reply of the inventing object to the last call of a log.
abbrev pub invent_reply : SeqSpec → List Entry → ℕ
invent_reply spec log = invent_reply_after spec (earlier log) (last_call log)

-- The third call of each caller gets the invented reply, and each other call the lawful one.
abbrev pub ThirdCallsAreInvented : Type 0
ThirdCallsAreInvented =
    (spec : SeqSpec) (before : List Entry) (e : Entry)
    → invent_reply spec (before ++ e ∷ []) ≡ invent_reply_after spec before e
